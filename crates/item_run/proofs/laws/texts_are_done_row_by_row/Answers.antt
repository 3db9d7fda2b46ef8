use Rattle.item_run.proofs.RowByRow.{row_by_row}
use Rattle.item_run.proofs.laws.texts_are_done_row_by_row.Goals as goal

pub returns : goal.returns
returns c = λ seat texts mask rows. row_by_row seat mask texts rows
