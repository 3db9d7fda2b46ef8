use Rattle.std.proofs.Common.{◌≡◌, take}
use Rattle.ent_types.proofs.registry.copies.Given as goal

abbrev pub invariant-loop-info : goal.invariant-loop-info
invariant-loop-info l = l.made.items ≡ take l.info-index l.types
