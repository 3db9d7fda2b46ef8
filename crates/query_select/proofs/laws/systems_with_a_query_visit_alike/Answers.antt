use Rattle.query_select.proofs.Alike.{entries_alike}
use Rattle.query_select.proofs.laws.systems_with_a_query_visit_alike.Goals as goal

pub returns : goal.returns
returns c = entries_alike
