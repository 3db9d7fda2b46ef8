use Rattle.std.proofs.Common.{sym, subst}
use Rattle.query_select.specs.Visits.{CanSelect}
use Rattle.query_select.proofs.Ready.{can_select}
use Rattle.query_select.proofs.visits.select.Goals as goal

pub select_in-requires-clause-ready : goal.select_in-requires-clause-ready
select_in-requires-clause-ready g c =
    subst (λ registry. CanSelect registry c.store-store.result.now) (sym c.registry.ensures) (can_select c.args.world.now c.store-store.result.now c.store-store.ensures c.is_lawful.ensures)
