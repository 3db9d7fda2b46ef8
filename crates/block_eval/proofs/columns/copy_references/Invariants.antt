use Rattle.std.proofs.Common.{◌≡◌, take}
use Rattle.block_eval.proofs.columns.copy_references.Given as goal

-- what is done
abbrev pub invariant-loop-i : goal.invariant-loop-i
invariant-loop-i l = take l.i l.out ≡ take l.i l.references
