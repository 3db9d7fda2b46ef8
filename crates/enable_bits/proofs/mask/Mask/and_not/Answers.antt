use Rattle.enable_bits.proofs.Numbers.{places_of-and_not}
use Rattle.enable_bits.proofs.mask.Mask.and_not.Goals as goal

pub returns : goal.returns
returns c = rw (← c.self.view_is, ← c.other.view_is) (places_of-and_not c.self.inside.bits c.other.inside.bits c.other.invariant)
