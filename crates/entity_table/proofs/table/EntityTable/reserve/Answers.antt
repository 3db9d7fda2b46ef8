use Rattle.std.proofs.Common.{◌≡◌, ℕ, List, refl, ap₂, ◌∙◌, arith}
use Rattle.std.proofs.lemmas.Result.{err_from_is_err_and}
use Rattle.entity_table.specs.declared.table.Slot.{Slot}
use Rattle.entity_table.specs.declared.table.EntityTable.TheInside.{Inside}
use Rattle.entity_table.specs.Table.{Spared}
use Rattle.entity_table.specs.Slots.{holders_of, versions_of, spared_of}
use Rattle.entity_table.proofs.AliveSlot.{table_from}
use Rattle.entity_table.proofs.table.EntityTable.reserve.Goals as goal

-- the table is made of the slots and the stack, whatever room they have
same_spared : (t : Inside) (slots : List Slot) (stack : List ℕ) → slots ≡ t.slots.items → stack ≡ t.free.items
    → (let s : Spared = record { table = table_from (holders_of slots) (versions_of slots) stack t.first_version; spare = t.spare } in s) ≡ spared_of t
same_spared t slots stack same_slots same_stack =
    ap₂ (λ xs ys. let s : Spared = record { table = table_from (holders_of xs) (versions_of xs) ys t.first_version; spare = t.spare } in s) same_slots same_stack

pub returns-in_err-reserve : goal.returns-in_err-reserve
returns-in_err-reserve c =
    let p = err_from_is_err_and c.from_residual.result c.from_residual.ensures.1 in
    rw (p.1, p.2)
    (omega (arith, c.if-n-room.false, c.room.ensures.value), same_spared c.self.inside _ _ c.in_err-reserve.ensures.items refl ∙ c.self.view_is)

pub returns-in_err-reserve-2 : goal.returns-in_err-reserve-2
returns-in_err-reserve-2 c =
    let p = err_from_is_err_and c.from_residual-in_err-reserve-2.result c.from_residual-in_err-reserve-2.ensures.1 in
    rw (p.1, p.2)
    (omega (arith, c.if-n-room.false, c.room.ensures.value), same_spared c.self.inside _ _ c.in_ok-reserve.ensures.items c.in_err-reserve-2.ensures.items ∙ c.self.view_is)
