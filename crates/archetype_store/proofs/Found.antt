-- The first block that has room.
use Rattle.std.proofs.Common.{Vec, Global, get_or, arith, ◌≡◌, ℕ, ◌<◌, Bool, true, false, not, cond, ◌&&◌, ◌||◌, nat_eq, nat_lt, List, [], ◌∷◌, ◌++◌, length, Option, Some, None, refl, sym, ap, ◌∙◌, subst}
use Rattle.std.specs.Prelude.{option_map}
use Rattle.std.specs.Bool.{MatchBool}
use Rattle.std.specs.Option.{IsSome}
use Rattle.std.proofs.lemmas.List.{get_or-map, length-map}
use Rattle.archetype_store.specs.declared.store.ArchetypeStore.TheInside.{Inside}
use Rattle.std.specs.List.{list_any}
use Rattle.ent_types.specs.declared.value.Value.{Value}
use Rattle.std.specs.Cmp.Lexicographic.{pointwise}
use Rattle.std.specs.Cmp.{signed_Decides}
use Rattle.world_model.specs.Part.{PartOf, same_part, same_value}
use Rattle.ent_types.specs.declared.value.Value.TheVariants.{Int, Ref}
use Rattle.world_model.specs.World.{capacity}
use Rattle.std.proofs.lemmas.Bool.{eq-eqb, lt-ltb}
use Rattle.archetype_store.specs.declared.slots.Held.{Held}
use Rattle.archetype_store.specs.Slots.{slot_at, number_if}
use Rattle.archetype_store.specs.Stores.{Numbered, StoreState, has_room, is_full, IsFirstWithRoom, new_numbered, registry_of, types_at}
use Rattle.archetype_store.specs.Inside.{beside, kept, members_of, AreUsed, IsConsistent}
use Rattle.archetype_store.proofs.Views.{slot-kept}

-- the numbers of an archetype have blocks
pub used-members : (slots : List (Option Held)) (a : ℕ) (order : List (Option ℕ)) → AreUsed slots (members_of (kept slots) a order)
used-members slots a [] = tt
used-members slots a (None ∷ os) = used-members slots a os
used-members slots a (Some m ∷ os) = by (slot_at slots m) (slot-kept slots m) refl (used-members slots a os)
  where
    by : (o : Option Held) → slot_at (kept slots) m ≡ option_map beside o → slot_at slots m ≡ o → AreUsed slots (members_of (kept slots) a os) → AreUsed slots (members_of (kept slots) a (Some m ∷ os))
    by None is at rest = subst (λ o. AreUsed slots (number_if (λ x. nat_eq x.archetype a) m o ++ members_of (kept slots) a os)) (sym (is ∙ ap (option_map beside) (sym at) ∙ ap (option_map beside) at)) rest
    by (Some h) is at rest =
        subst (λ o. AreUsed slots (number_if (λ x. nat_eq x.archetype a) m o ++ members_of (kept slots) a os)) (sym is) (of (nat_eq h.archetype a))
      where
        of : (b : Bool) → AreUsed slots ((cond b (m ∷ []) []) ++ members_of (kept slots) a os)
        of true = (subst IsSome (sym at) refl, rest)
        of false = rest

-- ---- of a store as contracts see it

-- if a block is the first with room, not all are full
pub first-not-full : (a : ℕ) (parts : List (PartOf Value)) (n : ℕ) (bs : List Numbered) → IsFirstWithRoom a parts n bs → is_full a parts bs ≡ false
first-not-full a parts n [] is = absurd is
first-not-full a parts n (b ∷ bs) is = by (has_room a parts b) is (first-not-full a parts n bs)
  where
    by : (t : Bool) → MatchBool t (b.number ≡ n) (IsFirstWithRoom a parts n bs) → (IsFirstWithRoom a parts n bs → is_full a parts bs ≡ false) → not (t || list_any (has_room a parts) bs) ≡ false
    by true is rest = refl
    by false is rest = rest is

-- if all are full, a new block that has room is the first with room
pub first-added : (a : ℕ) (parts : List (PartOf Value)) (new : Numbered) (bs : List Numbered) → is_full a parts bs ≡ true → has_room a parts new ≡ true → IsFirstWithRoom a parts new.number (bs ++ new ∷ [])
first-added a parts new [] full room = subst (λ t. MatchBool t (new.number ≡ new.number) ⊥) (sym room) refl
first-added a parts new (b ∷ bs) full room = by (has_room a parts b) full (λ f. first-added a parts new bs f room)
  where
    by : (t : Bool) → not (t || list_any (has_room a parts) bs) ≡ true → (is_full a parts bs ≡ true → IsFirstWithRoom a parts new.number (bs ++ new ∷ []))
        → MatchBool t (b.number ≡ new.number) (IsFirstWithRoom a parts new.number (bs ++ new ∷ []))
    by true f rest = absurd (cc f)
    by false f rest = rest f

-- the numbers that are kept for an archetype
pub members-kept : (s : Inside) (v : Vec ℕ Global) (a : ℕ) → IsConsistent s → a < length s.archetypes.items → v ≡ get_or s.members.items a v → v.items ≡ members_of (kept s.slots.items) a s.order.items
members-kept s v a consistent below at =
    let there : a < length s.members.items = omega (arith, below, consistent.0.members_there, length-map s.members.items (λ (w : Vec ℕ Global). w.items)) in
    ap (λ (w : Vec ℕ Global). w.items) at ∙ sym (get_or-map (λ (w : Vec ℕ Global). w.items) s.members.items a v [] there) ∙ consistent.0.members_are a below

value_self : (v : Value) → same_value v v ≡ true
value_self (Int x) = (signed_Decides x x).1 refl
value_self (Ref e) = ap (λ b. b && nat_eq e.version e.version) (eq-eqb e.index e.index refl) ∙ eq-eqb e.version e.version refl

values_self : (vs : List Value) → pointwise same_value vs vs ≡ true
values_self [] = refl
values_self (v ∷ vs) = ap (λ b. b && pointwise same_value vs vs) (value_self v) ∙ values_self vs

parts_self : (ps : List (PartOf Value)) → pointwise same_part ps ps ≡ true
parts_self [] = refl
parts_self (p ∷ ps) =
    ap (λ b. b && pointwise same_part ps ps) (ap (λ b. b && pointwise same_value p.values p.values) (eq-eqb p.type_id p.type_id refl) ∙ values_self p.values) ∙ parts_self ps

-- a new block has room
pub new-has-room : (s : StoreState) (a : ℕ) (parts : List (PartOf Value)) (n : ℕ) → 0 < capacity (registry_of s) (types_at s.archetypes a) → has_room a parts (new_numbered s a parts n) ≡ true
new-has-room s a parts n room =
    ap (λ b. b && (nat_lt 0 (capacity (registry_of s) (types_at s.archetypes a)) && pointwise same_part parts parts)) (eq-eqb a a refl)
    ∙ ap (λ b. b && pointwise same_part parts parts) (lt-ltb 0 (capacity (registry_of s) (types_at s.archetypes a)) room)
    ∙ parts_self parts
