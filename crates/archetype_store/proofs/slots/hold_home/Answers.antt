use Rattle.std.proofs.Common.{[], sym, subst}
use Rattle.std.proofs.lemmas.List.{append-nil}
use Rattle.archetype_store.specs.Holding.{Backs, ids_of}
use Rattle.archetype_store.proofs.Holding.{backs-none}
use Rattle.archetype_store.proofs.slots.hold_home.Goals as goal

pub release_all-requires : goal.release_all-requires
release_all-requires c =
    subst (λ held. Backs c.hold_all.new.table (ids_of held)) (sym c.deref-in-Err.ensures.value)
    (subst (Backs c.hold_all.new.table) (append-nil (ids_of c.in_ok-shared.shared.items)) (c.in_ok-shared.ensures.ok [] (backs-none c.args.table.now)).backs)
