use Rattle.std.proofs.Common.{arith}
use Rattle.std.proofs.lemmas.Nat.{or_lt}
use Rattle.enable_bits.proofs.Numbers.{places_of-set, places_of-clear}
use Rattle.enable_bits.proofs.mask.Mask.set.Goals as goal

pub invariant_of-self : goal.invariant_of-self
invariant_of-self c = or_lt 128 c.self.inside.bits _ c.self.invariant (omega arith)

pub returns-then-on : goal.returns-then-on
returns-then-on c = rw (← c.self.view_is, c.if-on.true) (places_of-set c.self.inside.bits c.args.place c.requires)

pub returns-else-on : goal.returns-else-on
returns-else-on c = rw (← c.self.view_is, c.if-on.false) (places_of-clear c.self.inside.bits c.args.place c.requires)
