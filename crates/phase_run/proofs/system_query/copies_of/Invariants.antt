use Rattle.std.proofs.Common.{◌≡◌, take}
use Rattle.phase_run.proofs.system_query.copies_of.Given as goal

abbrev pub invariant-loop-part : goal.invariant-loop-part
invariant-loop-part l = l.copies ≡ take l.part-index l.parts
