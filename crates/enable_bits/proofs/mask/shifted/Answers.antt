use Rattle.std.proofs.Common.{◌∙◌}
use Rattle.enable_bits.proofs.Numbers.{shifted_or_zero}
use Rattle.enable_bits.proofs.mask.shifted.Goals as goal

pub returns : goal.returns
returns c = c.unwrap_or.ensures ∙ shifted_or_zero c.checked_shr.result c.args.bits c.args.places c.ranges.bits.fits c.checked_shr.ensures
