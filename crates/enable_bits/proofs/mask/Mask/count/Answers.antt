use Rattle.std.proofs.Common.{sym}
use Rattle.enable_bits.specs.Bits.{bit_on}
use Rattle.enable_bits.proofs.MaskLemmas.{places_where-IsMask}
use Rattle.enable_bits.proofs.Numbers.{length-places_of}
use Rattle.enable_bits.proofs.mask.Mask.count.Goals as goal

pub returns-clause-value : goal.returns-clause-value
returns-clause-value c = rw (← c.self.view_is) (sym (length-places_of c.self.inside.bits c.self.invariant))

pub returns-clause-is_mask : goal.returns-clause-is_mask
returns-clause-is_mask c = rw (← c.self.view_is) (places_where-IsMask (bit_on c.self.inside.bits))
