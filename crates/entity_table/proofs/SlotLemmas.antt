-- What a write to a slot, and a push to or a pop from the stack, do to the table.
use Rattle.std.proofs.Common.{◌≡◌, ◌≢◌, ℕ, suc, ◌+◌, ◌<◌, ◌≤◌, cond, inl, inr, List, [], ◌∷◌, ◌++◌, length, Option, Some, None, is_some, get_or, set, map, reverse, count_by, refl, sym, ap, subst, ◌∙◌, arith}
use Rattle.std.proofs.lemmas.Bool.{cases_eq, cases_lt}
use Rattle.std.proofs.lemmas.List.{map-append, length-map, length-reverse, length-append, reverse-append, get_or-set_other, length-set, get_or_append_left, get_or-set_same, get_or-map}
use Rattle.std.proofs.Math.Seq.{get_or-append_seam}
use Rattle.std.proofs.lemmas.List.Sums.{sum_by-set, get_or-le-sum_by}
use Rattle.ent_types.specs.declared.entity.Entity.{Entity}
use Rattle.entity_table.specs.Table.{Holder}
use Rattle.entity_table.specs.declared.table.Slot.{Slot}
use Rattle.entity_table.specs.declared.table.Place.{Place}
use Rattle.entity_table.specs.Slots.{holder_of, versions_of, entity_at, free_of, AreVersions, IsEachOnce, AreFree}

-- ---- a list with one more at its end

top_is : (stack : List ℕ) (i : ℕ) → get_or (stack ++ i ∷ []) (length stack) 0 ≡ i
top_is stack i = get_or-append_seam stack i [] 0

at_below : (stack : List ℕ) (i j : ℕ) → j < length stack → get_or (stack ++ i ∷ []) j 0 ≡ get_or stack j 0
at_below stack i j h = get_or_append_left stack (i ∷ []) 0 j h

-- ---- one slot

abbrev held_version : Option Holder → ℕ
held_version None = 0
held_version (Some holder) = holder.version

version_from : (v w : ℕ) (place : Option Place) (p : Place) → holder_of (record { version = v; place = place }) ≡ Some (record { version = w; place = p }) → v ≡ w
version_from v w None p e = cc
version_from v w (Some q) p e = ap held_version e

-- a slot of an alive entity has its version
pub slot_version : (slot : Slot) (version : ℕ) (place : Place) → holder_of slot ≡ Some (record { version = version; place = place }) → slot.version ≡ version
slot_version slot version place e = version_from slot.version version slot.place place e

-- ---- the versions

-- all versions are at least 1 with another one that is written at an index, or pushed
pub versions_set : (versions : List ℕ) (i v : ℕ) → AreVersions versions → 1 ≤ v → AreVersions (set versions i v)
versions_set versions i v all some k below =
    elim (cases_eq k i) [
      | inl same ↦ rw (same, get_or-set_same versions i v 0 (omega (arith, same, below, length-set versions i v))) some
      | inr other ↦ rw (get_or-set_other versions i k v 0 other) (all k (omega (arith, below, length-set versions i v)))
    ]

pub versions_pushed : (versions : List ℕ) (v : ℕ) → AreVersions versions → 1 ≤ v → AreVersions (versions ++ v ∷ [])
versions_pushed versions v all some k below =
    elim (cases_lt k (length versions)) [
      | inl before ↦ rw (at_below versions v k before) (all k before)
      | inr after ↦
          let e : k ≡ length versions = omega (arith, below, after, length-append versions (v ∷ [])) in
          rw (e, top_is versions v) some
    ]

-- the version of a slot that was made
pub version_at : (slots : List Slot) (slot : Slot) (i : ℕ) → AreVersions (versions_of slots) → slot ≡ get_or slots i slot → i < length slots → 1 ≤ slot.version
version_at slots slot i all read below =
    subst (λ (v : ℕ). 1 ≤ v) (get_or-map (λ (s : Slot). s.version) slots i slot 0 below ∙ sym (ap (λ (s : Slot). s.version) read))
    (all i (omega (arith, below, length-map slots (λ (s : Slot). s.version))))

-- ---- how many are alive

-- an index counts for one where an entity is alive there
abbrev pub counts : Option Holder → ℕ
counts held = cond (is_some held) 1 0

pub count_set : (holders : List (Option Holder)) (i : ℕ) (held : Option Holder) → i < length holders
    → count_by is_some (set holders i held) + counts (get_or holders i None) ≡ count_by is_some holders + counts held
count_set holders i held h = sum_by-set counts holders i held None h

pub count_at_least : (holders : List (Option Holder)) (i : ℕ) → i < length holders → counts (get_or holders i None) ≤ count_by is_some holders
count_at_least holders i h = get_or-le-sum_by counts holders i None h

-- ---- the stack

pub free_of-push : (versions stack : List ℕ) (index : ℕ) → free_of versions (stack ++ index ∷ []) ≡ entity_at versions index ∷ free_of versions stack
free_of-push versions stack index = ap (map (entity_at versions)) (reverse-append stack (index ∷ []))

pub length-free_of : (versions stack : List ℕ) → length (free_of versions stack) ≡ length stack
length-free_of versions stack = length-map (reverse stack) (entity_at versions) ∙ length-reverse stack

map_turned : (f g : ℕ → Entity) (stack : List ℕ) → ((j : ℕ) → j < length stack → f (get_or stack j 0) ≡ g (get_or stack j 0)) → map f (reverse stack) ≡ map g (reverse stack)
map_turned f g [] h = refl
map_turned f g (x ∷ xs) h =
    let rest : map f (reverse xs) ≡ map g (reverse xs) = map_turned f g xs (λ j below. h (suc j) (omega arith)) in
    let here : f x ≡ g x = h 0 (omega arith) in
    let split : (k : ℕ → Entity) → map k (reverse (x ∷ xs)) ≡ map k (reverse xs) ++ k x ∷ [] =
    λ k. ap (map k) (reverse-append (x ∷ []) xs) ∙ map-append k (reverse xs) (x ∷ []) in
    split f ∙ (rw (rest, here) refl) ∙ sym (split g)

-- another version at an index outside the stack changes no free entity
pub free_of-set : (versions stack : List ℕ) (i v : ℕ) → ((j : ℕ) → j < length stack → get_or stack j 0 ≢ i) → free_of (set versions i v) stack ≡ free_of versions stack
free_of-set versions stack i v apart =
    map_turned (entity_at (set versions i v)) (entity_at versions) stack (λ j below.
    ap (λ n. let e : Entity = record { index = get_or stack j 0; version = n } in e) (get_or-set_other versions i (get_or stack j 0) v 0 (apart j below)))

-- ---- which indexes are free

pub not_stacked : (holders : List (Option Holder)) (stack : List ℕ) (i : ℕ) (holder : Holder) → AreFree holders stack → get_or holders i None ≡ Some holder
    → (j : ℕ) → j < length stack → get_or stack j 0 ≢ i
not_stacked holders stack i holder free held j below same =
    let none : get_or holders (get_or stack j 0) None ≡ None = (free j below).1 in
    let there : get_or holders (get_or stack j 0) None ≡ Some holder = ap (λ k. get_or holders k None) same ∙ held in
    cc

pub free_stays : (holders : List (Option Holder)) (stack : List ℕ) (i : ℕ) (held : Option Holder) → AreFree holders stack
    → ((j : ℕ) → j < length stack → get_or stack j 0 ≢ i) → AreFree (set holders i held) stack
free_stays holders stack i held free apart j below =
    (omega (arith, (free j below).0, length-set holders i held), get_or-set_other holders i (get_or stack j 0) held None (apart j below) ∙ (free j below).1)

pub free_pushed : (holders : List (Option Holder)) (stack : List ℕ) (i : ℕ) → AreFree holders stack → i < length holders → get_or holders i None ≡ None → AreFree holders (stack ++ i ∷ [])
free_pushed holders stack i free within none j below =
    elim (cases_lt j (length stack)) [
      | inl before ↦ rw (at_below stack i j before) (free j before)
      | inr after ↦
          let e : j ≡ length stack = omega (arith, length-append stack (i ∷ [])) in
          rw (e, top_is stack i) (within, none)
    ]

pub free_popped : (holders : List (Option Holder)) (stack : List ℕ) (i : ℕ) → AreFree holders (stack ++ i ∷ []) → AreFree holders stack
free_popped holders stack i free j below = rw (at_below stack i j below) at (free j (omega (arith, length-append stack (i ∷ []))))

pub free_top : (holders : List (Option Holder)) (stack : List ℕ) (i : ℕ) → AreFree holders (stack ++ i ∷ []) → (i < length holders) × (get_or holders i None ≡ None)
free_top holders stack i free = rw (top_is stack i) at (free (length stack) (omega (arith, length-append stack (i ∷ []))))

pub once_pushed : (stack : List ℕ) (i : ℕ) → IsEachOnce stack → ((j : ℕ) → j < length stack → get_or stack j 0 ≢ i) → IsEachOnce (stack ++ i ∷ [])
once_pushed stack i once apart j k before below same =
    elim (cases_lt k (length stack)) [
      | inl inside ↦ once j k before inside (sym (at_below stack i j (omega arith)) ∙ same ∙ at_below stack i k inside)
      | inr top ↦
          let e : k ≡ length stack = omega (arith, length-append stack (i ∷ [])) in
          apart j (omega arith) (sym (at_below stack i j (omega arith)) ∙ same ∙ ap (λ n. get_or (stack ++ i ∷ []) n 0) e ∙ top_is stack i)
    ]

pub once_popped : (stack : List ℕ) (i : ℕ) → IsEachOnce (stack ++ i ∷ []) → IsEachOnce stack
once_popped stack i once j k before below same =
    once j k before (omega (arith, length-append stack (i ∷ []))) (at_below stack i j (omega arith) ∙ same ∙ sym (at_below stack i k below))

pub once_top : (stack : List ℕ) (i : ℕ) → IsEachOnce (stack ++ i ∷ []) → (j : ℕ) → j < length stack → get_or stack j 0 ≢ i
once_top stack i once j below same =
    once j (length stack) below (omega (arith, length-append stack (i ∷ []))) (at_below stack i j below ∙ same ∙ sym (top_is stack i))
