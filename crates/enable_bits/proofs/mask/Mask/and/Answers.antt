use Rattle.enable_bits.proofs.Numbers.{places_of-and}
use Rattle.enable_bits.proofs.mask.Mask.and.Goals as goal

pub returns : goal.returns
returns c = rw (← c.self.view_is, ← c.other.view_is) (places_of-and c.self.inside.bits c.other.inside.bits)
