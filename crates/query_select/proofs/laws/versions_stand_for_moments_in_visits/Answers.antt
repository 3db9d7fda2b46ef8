use Rattle.query_select.proofs.Alike.{moments_alike}
use Rattle.query_select.proofs.laws.versions_stand_for_moments_in_visits.Goals as goal

pub returns : goal.returns
returns c = moments_alike
