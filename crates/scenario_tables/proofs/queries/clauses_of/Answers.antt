use Rattle.scenario_tables.proofs.FirstFaultLemmas.{then, done}
use Rattle.scenario_tables.proofs.queries.clauses_of.Goals as goal

pub returns : goal.returns
returns c =
    then _ (rw c.empty-none_taken.ensures at c.clause-all.ensures) (then _ c.clause-any.ensures (then _ c.clause-none.ensures (then _ c.clause-disabled.ensures (then _ c.clause-absent.ensures done))))
