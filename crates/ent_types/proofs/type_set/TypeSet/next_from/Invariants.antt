use Rattle.ent_types.proofs.TypeScan.{Scanned}
use Rattle.ent_types.proofs.type_set.TypeSet.next_from.Given as goal

abbrev pub invariant-loop-place : goal.invariant-loop-place
invariant-loop-place l = Scanned l.self-inside.words l.from l.place l.lowest
