use Rattle.std.proofs.Common.{map, take}
use Rattle.run_model.specs.Job.{Switches}
use Rattle.item_run.specs.Writing.{Does, rows_at}
use Rattle.item_run.proofs.texts.switch_all.Given as goal

-- the texts so far were done
abbrev pub invariant-loop-text : goal.invariant-loop-text
invariant-loop-text l = Does (rows_at l.context l.initial.loan) (map Switches (take l.text-index l.texts)) l.context.left l.loan
