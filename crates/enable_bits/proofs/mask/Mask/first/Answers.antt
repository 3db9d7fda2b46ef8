use Rattle.std.proofs.Common.{◌∙◌}
use Rattle.enable_bits.proofs.Numbers.{places_of-first, ones_first}
use Rattle.enable_bits.proofs.mask.Mask.first.Goals as goal

pub returns : goal.returns
returns c = rw (c.shifted.ensures ∙ ones_first c.args.n c.requires) (places_of-first c.args.n)
