use Rattle.std.proofs.Common.{refl}
use Rattle.std.proofs.lemmas.Nat.Bits.{shr_and_one}
use Rattle.enable_bits.specs.Bits.{bit_on}
use Rattle.enable_bits.proofs.MaskLemmas.{has-places_where}
use Rattle.enable_bits.proofs.mask.Mask.get.Goals as goal

pub returns : goal.returns
returns c = rw (← c.self.view_is, shr_and_one, has-places_where (bit_on c.self.inside.bits) c.args.place c.requires) refl
