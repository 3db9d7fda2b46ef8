use Rattle.std.proofs.Common.{◌≡◌, ℕ, List, ◌∷◌, ◌++◌, [], map, sym, subst, refl, OnOk, Ok, Err, Result}
use Rattle.ent_types.specs.declared.memory.Memory.{Memory}
use Rattle.world_model.specs.Part.{part_of as seen_part}
use Rattle.archetype_store.specs.declared.shared_parts.SharedPart.{SharedPart}
use Rattle.archetype_store.specs.Holding.{AreTyped, Backs, Holds, ids_of, parts_of}
use Rattle.std.proofs.lemmas.List.{append-nil}
use Rattle.archetype_store.proofs.Holding.{backs-pushed, holds-more, parts-more, typed-given}
use Rattle.archetype_store.proofs.shared_parts.+hold_in.Goals as goal

pub returns-in_ok-id-in-Some-clause-held : goal.returns-in_ok-id-in-Some-clause-held
returns-in_ok-id-in-Some-clause-held t c =
    let p : SharedPart = record { ty = c.in-Some.part.now.ty; id = c.in_ok-id-in-Some.id } in
    let pushed : c.push_reserved.new.self.items ≡ c.args.held.now.items ++ p ∷ [] = c.push_reserved.ensures.items in
    holds-more c.args.table.now c.intern.new.self c.hold_in.new.table c.args.held.now.items c.hold_in.new.held.items p c.in-Some.part.now.values
    c.in_ok-id-in-Some.ensures.answer c.in_ok-id-in-Some.ensures.held
    (subst (λ before. (others : List ℕ) → Backs c.intern.new.self (ids_of before ++ others) → Holds c.intern.new.self c.hold_in.new.table before c.hold_in.new.held.items others) pushed c.hold_in.ensures.held)

pub returns-in_ok-id-in-Some-clause-ok : goal.returns-in_ok-id-in-Some-clause-ok
returns-in_ok-id-in-Some-clause-ok t c = by c.hold_in.result c.hold_in.ensures.ok
  where
    p : SharedPart
    p = record { ty = c.in-Some.part.now.ty; id = c.in_ok-id-in-Some.id }

    pushed : c.push_reserved.new.self.items ≡ c.args.held.now.items ++ p ∷ []
    pushed = c.push_reserved.ensures.items

    by : (r : Result (Unit {0}) Memory) → OnOk r ((others : List ℕ) → Backs c.intern.new.self (ids_of c.push_reserved.new.self.items ++ others) → parts_of c.hold_in.new.table c.hold_in.new.held.items ≡ parts_of c.intern.new.self c.push_reserved.new.self.items ++ map seen_part c.in-Some.rest.now)
        → OnOk r ((others : List ℕ) → Backs c.args.table.now (ids_of c.args.held.now.items ++ others) → parts_of c.hold_in.new.table c.hold_in.new.held.items ≡ parts_of c.args.table.now c.args.held.now.items ++ map seen_part c.args.parts.now)
    by (Err e) is = tt
    by (Ok u) is =
        subst (λ parts. (others : List ℕ) → Backs c.args.table.now (ids_of c.args.held.now.items ++ others) → parts_of c.hold_in.new.table c.hold_in.new.held.items ≡ parts_of c.args.table.now c.args.held.now.items ++ map seen_part parts)
        (sym c.in-Some.ensures.cases.0)
        (parts-more c.args.table.now c.intern.new.self c.hold_in.new.table c.args.held.now.items c.hold_in.new.held.items p c.in-Some.part.now.values
        c.in_ok-id-in-Some.ensures.answer c.in_ok-id-in-Some.ensures.held (seen_part c.in-Some.part.now) (map seen_part c.in-Some.rest.now) refl
        (subst (λ before. (others : List ℕ) → Backs c.intern.new.self (ids_of before ++ others) → parts_of c.hold_in.new.table c.hold_in.new.held.items ≡ parts_of c.intern.new.self before ++ map seen_part c.in-Some.rest.now) pushed is))

pub returns-in_ok-id-in-Some-clause-typed : goal.returns-in_ok-id-in-Some-clause-typed
returns-in_ok-id-in-Some-clause-typed t c backs typed =
    let p : SharedPart = record { ty = c.in-Some.part.now.ty; id = c.in_ok-id-in-Some.id } in
    let before : List SharedPart = c.args.held.now.items in
    let pushed : c.push_reserved.new.self.items ≡ before ++ p ∷ [] = c.push_reserved.ensures.items in
    let more : Backs c.intern.new.self (ids_of (before ++ p ∷ []) ++ []) =
    backs-pushed c.args.table.now c.intern.new.self c.intern.new.self before before p c.in-Some.part.now.values c.in_ok-id-in-Some.ensures.answer c.in_ok-id-in-Some.ensures.held []
    (subst (Backs c.args.table.now) (sym (append-nil (ids_of before))) backs) in
    c.hold_in.ensures.typed
    (subst (λ ps. Backs c.intern.new.self (ids_of ps)) (sym pushed) (subst (Backs c.intern.new.self) (append-nil (ids_of (before ++ p ∷ []))) more))
    (subst (AreTyped c.intern.new.self) (sym pushed)
    (typed-given c.args.table.now c.intern.new.self before p c.in-Some.part.now.values c.in_ok-id-in-Some.ensures.answer c.in_ok-id-in-Some.ensures.held backs typed))
