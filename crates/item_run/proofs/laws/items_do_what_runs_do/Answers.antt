use Rattle.item_run.proofs.RowByRow.{as_run}
use Rattle.item_run.proofs.laws.items_do_what_runs_do.Goals as goal

pub returns : goal.returns
returns c = λ registry s others frame item home mask rows same. as_run registry s others frame item home mask rows same
