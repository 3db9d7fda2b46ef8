use Rattle.enable_bits.proofs.Numbers.{places_of-zero}
use Rattle.enable_bits.proofs.mask.Mask.empty.Goals as goal

pub returns : goal.returns
returns c = places_of-zero
