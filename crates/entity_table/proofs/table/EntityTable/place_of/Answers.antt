use Rattle.std.proofs.Common.{◌<◌, ◌≤◌, length, Option, Some, None, OnSome, sym, arith}
use Rattle.std.proofs.lemmas.Bool.{ltb-true}
use Rattle.entity_table.specs.declared.table.Place.{Place}
use Rattle.entity_table.proofs.SlotLemmas.{version_at}
use Rattle.entity_table.proofs.table.EntityTable.place_of.Goals as goal

-- what always holds does so where there is a place
on_some : (place : Option Place) (P : Type 0) → P → OnSome place P
on_some None P h = tt
on_some (Some p) P h = h

pub returns-then-slot-e-clause-version : goal.returns-then-slot-e-clause-version
returns-then-slot-e-clause-version c =
    let t = c.self.inside in
    let slot = c.in_ok-slot.slot.now in
    let found = rw c.deref.ensures.value at c.in_ok-slot.ensures.lookup in
    let below : c.args.e.index < length t.slots.items = ltb-true c.args.e.index (length t.slots.items) (sym found.0) in
    let some : 1 ≤ slot.version = version_at t.slots.items slot c.args.e.index c.self.invariant.versions found.1 below in
    on_some slot.place (1 ≤ c.args.e.version) (omega (arith, some, c.if-slot-e.true))
