use Rattle.query_select.proofs.Alike.{cache_stays}
use Rattle.query_select.proofs.laws.a_cache_stays_with_more_archetypes.Goals as goal

pub returns : goal.returns
returns c = cache_stays
