use Rattle.std.proofs.Common.{◌≡◌, ℕ, List, [], ◌++◌, map, sym, ap, ◌∙◌, subst}
use Rattle.std.proofs.lemmas.List.{append-nil}
use Rattle.world_model.specs.Part.{part_of as seen_part}
use Rattle.shared_values.specs.declared.table.Slot.{Slot}
use Rattle.archetype_store.specs.declared.shared_parts.SharedPart.{SharedPart}
use Rattle.archetype_store.specs.Holding.{Backs, Holds, Releases, ids_of, parts_of}
use Rattle.archetype_store.proofs.Holding.{backs-none, holds-undone}
use Rattle.archetype_store.proofs.shared_parts.hold_all.Goals as goal

-- what is held from nothing on
from_none : (old new : List Slot) (before after : List SharedPart) → before ≡ [] → ((others : List ℕ) → Backs old (ids_of before ++ others) → Holds old new before after others)
    → (others : List ℕ) → Backs old others → Holds old new [] after others
from_none old new before after none first = subst (λ b. (others : List ℕ) → Backs old (ids_of b ++ others) → Holds old new b after others) none first

pub release_all-requires : goal.release_all-requires
release_all-requires c =
    subst (λ held. Backs c.hold_in.new.table (ids_of held)) (sym c.deref.ensures.value)
    (subst (Backs c.hold_in.new.table) (append-nil (ids_of c.hold_in.new.held.items))
    (from_none c.args.table.now c.hold_in.new.table c.in_ok-held.held.items c.hold_in.new.held.items c.in_ok-held.ensures.items c.hold_in.ensures.held [] (backs-none c.args.table.now)).backs)

pub returns-in-Err-clause-err : goal.returns-in-Err-clause-err
returns-in-Err-clause-err c =
    holds-undone c.args.table.now c.hold_in.new.table c.release_all.new.table c.hold_in.new.held.items
    (from_none c.args.table.now c.hold_in.new.table c.in_ok-held.held.items c.hold_in.new.held.items c.in_ok-held.ensures.items c.hold_in.ensures.held)
    (subst (Releases c.hold_in.new.table c.release_all.new.table) c.deref.ensures.value c.release_all.ensures)

pub returns-in-Ok-clause-ok : goal.returns-in-Ok-clause-ok
returns-in-Ok-clause-ok c =
    from_none c.args.table.now c.hold_in.new.table c.in_ok-held.held.items c.hold_in.new.held.items c.in_ok-held.ensures.items c.hold_in.ensures.held

pub returns-in-Ok-clause-parts : goal.returns-in-Ok-clause-parts
returns-in-Ok-clause-parts c =
    let is : parts_of c.hold_in.new.table c.hold_in.new.held.items ≡ parts_of c.args.table.now c.in_ok-held.held.items ++ map seen_part c.args.parts.now =
    c.in-Ok.ensures.ok [] (subst (λ b. Backs c.args.table.now (ids_of b ++ [])) (sym c.in_ok-held.ensures.items) (backs-none c.args.table.now)) in
    is ∙ ap (λ b. parts_of c.args.table.now b ++ map seen_part c.args.parts.now) c.in_ok-held.ensures.items
