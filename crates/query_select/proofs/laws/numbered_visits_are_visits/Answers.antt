use Rattle.query_select.proofs.Alike.{rows_of_visits}
use Rattle.query_select.proofs.laws.numbered_visits_are_visits.Goals as goal

pub returns : goal.returns
returns c = rows_of_visits
