-- An archetype more, and archetypes by their types.
use Rattle.std.proofs.Common.{◌≡◌, ℕ, ◌+◌, ◌<◌, inl, inr, Bool, false, cond, nat_eq, List, [], ◌∷◌, ◌++◌, length, map, Option, Some, None, refl, sym, ap, ◌∙◌, subst, arith}
use Rattle.std.specs.Prelude.{unwrap_or}
use Rattle.std.specs.Bool.{Decides}
use Rattle.std.specs.Cmp.{unsigned_Decides}
use Rattle.std.specs.Cmp.Lexicographic.{pointwise}
use Rattle.std.specs.Option.{IfSome}
use Rattle.std.proofs.lemmas.Bool.{cases_Bool, cases_lt, cond-true, cond-false, ne_eqb, false_from_ne_true}
use Rattle.std.proofs.lemmas.List.{length-append, get_or_append_left}
use Rattle.std.proofs.lemmas.Slice.Eq.{slice_eq-Decides}
use Rattle.std.proofs.Math.Seq.{get_or-append_seam}
use Rattle.ent_types.specs.declared.type_info.TypeInfo.{TypeInfo}
use Rattle.world_model.specs.World.{capacity}
use Rattle.chunk_block.specs.Blocks.{BlockType, new_types}
use Rattle.shared_values.specs.declared.table.Slot.{Slot as Interned}
use Rattle.archetype_store.specs.declared.numbers.TheConstants.{MOST_NUMBERS}
use Rattle.archetype_store.specs.Slots.{slot_at, number_if, numbers_of}
use Rattle.archetype_store.specs.Stores.{AreApart, LacksTypes, types_at, shared_types}
use Rattle.archetype_store.specs.Inside.{AreFound, Beside, members_at, members_of, IsOfArchetype, IsOrderly}
use Rattle.archetype_store.proofs.Orders.{none_some, some_is}

none-of : (test : Beside → Bool) (slots : List (Option Beside)) (order : List (Option ℕ)) → ((n : ℕ) (x : Beside) → slot_at slots n ≡ Some x → test x ≡ false) → numbers_of test slots order ≡ []
none-of test slots [] fails = refl
none-of test slots (None ∷ os) fails = none-of test slots os fails
none-of test slots (Some m ∷ os) fails = by (slot_at slots m) refl ∙ none-of test slots os fails
  where
    by : (o : Option Beside) → slot_at slots m ≡ o → number_if test m o ++ numbers_of test slots os ≡ numbers_of test slots os
    by None at = refl
    by (Some x) at = ap (λ b. (cond b (m ∷ []) []) ++ numbers_of test slots os) (fails m x at)

at-left : (archetypes : List (List ℕ)) (types : List ℕ) (a : ℕ) → a < length archetypes → types_at (archetypes ++ types ∷ []) a ≡ types_at archetypes a
at-left archetypes types a below = get_or_append_left archetypes (types ∷ []) [] a below

pub orderly-archetype : (registry : Option (List TypeInfo)) (known : List TypeInfo) (archetypes members : List (List ℕ)) (slots : List (Option Beside)) (free : List ℕ) (room : ℕ) (order : List (Option ℕ)) (table : List Interned)
    → IsOrderly registry archetypes members slots free room order table → IfSome registry (λ r. r ≡ known) → (types : List ℕ) → 0 < capacity known types
    → length archetypes < MOST_NUMBERS
    → IsOrderly (Some known) (archetypes ++ types ∷ []) (members ++ [] ∷ []) slots free room order table
orderly-archetype registry known archetypes members slots free room order table orderly is types some few = record {
  are_free = orderly.are_free;
  counted = orderly.counted;
  free_room = orderly.free_room;
  few = orderly.few;
  ordered = orderly.ordered;
  placed = orderly.placed;
  order_counted = orderly.order_counted;
  of_archetypes = λ n x at. of-known n x at;
  members_there = omega (arith, orderly.members_there, length-append members ([] ∷ []), length-append archetypes (types ∷ []));
  members_are = members-by;
  backs = orderly.backs;
  registered = λ none. absurd (none_some known (sym none));
  most = omega (arith, few, longer);
  fit = fits;
}
  where
    longer : length (archetypes ++ types ∷ []) ≡ length archetypes + 1
    longer = length-append archetypes (types ∷ [])

    -- what was known of an archetype that is there
    same : (a : ℕ) → a < length archetypes → unwrap_or registry [] ≡ known
    same a below = by registry is orderly.registered
      where
        by : (r : Option (List TypeInfo)) → IfSome r (λ t. t ≡ known) → (r ≡ None → archetypes ≡ []) → unwrap_or r [] ≡ known
        by None is none = absurd (omega (arith, below, ap length (none refl)))
        by (Some t) is none = is

    of-known : (n : ℕ) (x : Beside) → slot_at slots n ≡ Some x → IsOfArchetype known (archetypes ++ types ∷ []) x
    of-known n x at =
        let old = orderly.of_archetypes n x at in
        let left : types_at archetypes x.archetype ≡ types_at (archetypes ++ types ∷ []) x.archetype = sym (at-left archetypes types x.archetype old.there) in
        let reg : unwrap_or registry [] ≡ known = same x.archetype old.there in
        record {
          there = omega (arith, old.there, longer);
          types = old.types ∙ left;
          capacity = old.capacity ∙ ap (λ r. capacity r (types_at archetypes x.archetype)) reg ∙ ap (capacity known) left;
          shapes = old.shapes ∙ ap (λ r. map (λ (t : BlockType). t.shape) (new_types r (types_at archetypes x.archetype))) reg ∙ ap (λ ts. map (λ (t : BlockType). t.shape) (new_types known ts)) left;
          shared = old.shared ∙ ap (λ r. shared_types r (types_at archetypes x.archetype)) reg ∙ ap (shared_types known) left;
        }

    members-by : (a : ℕ) → a < length (archetypes ++ types ∷ []) → members_at (members ++ [] ∷ []) a ≡ members_of slots a order
    members-by a below =
        elim (cases_lt a (length archetypes)) [
          | inl under ↦ get_or_append_left members ([] ∷ []) [] a (omega (arith, under, orderly.members_there)) ∙ orderly.members_are a under
          | inr past ↦
              let last : a ≡ length members = omega (arith, past, below, longer, orderly.members_there) in
              ap (members_at (members ++ [] ∷ [])) last ∙ get_or-append_seam members [] [] []
              ∙ sym (none-of (λ (x : Beside). nat_eq x.archetype a) slots order (λ n x at. ne_eqb x.archetype a (λ e. absurd (omega (arith, e, past, (orderly.of_archetypes n x at).there)))))
        ]

    fits : (a : ℕ) → a < length (archetypes ++ types ∷ []) → 0 < capacity known (types_at (archetypes ++ types ∷ []) a)
    fits a below =
        elim (cases_lt a (length archetypes)) [
          | inl under ↦
              subst (λ ts. 0 < capacity known ts) (sym (at-left archetypes types a under))
              (subst (λ r. 0 < capacity r (types_at archetypes a)) (same a under) (orderly.fit a under))
          | inr past ↦
              let last : a ≡ length archetypes = omega (arith, past, below, longer) in
              subst (λ ts. 0 < capacity known ts) (sym (ap (types_at (archetypes ++ types ∷ [])) last ∙ get_or-append_seam archetypes types [] [])) some
        ]

-- what is there is known
pub registry-there : (registry : Option (List TypeInfo)) (known : List TypeInfo) (archetypes : List (List ℕ)) (a : ℕ) → IfSome registry (λ r. r ≡ known) → (registry ≡ None → archetypes ≡ []) → a < length archetypes → registry ≡ Some known
registry-there None known archetypes a is none below = absurd (omega (arith, below, ap length (none refl)))
registry-there (Some r) known archetypes a is none below = ap Some is

-- ---- archetypes by their types

types-decide : (a b : List ℕ) → Decides (pointwise nat_eq a b) (a ≡ b)
types-decide a b = slice_eq-Decides unsigned_Decides a b _ refl

module _ (archetypes : List (List ℕ)) (found : List ℕ → Option ℕ) (are : AreFound archetypes found) where
  -- types that find nothing are new
  pub lacks-by : (types : List ℕ) → found types ≡ None → LacksTypes types archetypes
  lacks-by types none a below same = none_some a (sym none ∙ ap found (sym same) ∙ are.all a below)

  pub apart-by : AreApart archetypes
  apart-by a b a_below b_below same = some_is a b (sym (are.all a a_below) ∙ ap found same ∙ are.all b b_below)

  -- one archetype more, whose types find it
  module _ (types : List ℕ) (lacks : LacksTypes types archetypes) (found' : List ℕ → Option ℕ) (finds : (ts : List ℕ) → found' ts ≡ cond (pointwise nat_eq types ts) (Some (length archetypes)) (found ts)) where
    longer : length (archetypes ++ types ∷ []) ≡ length archetypes + 1
    longer = length-append archetypes (types ∷ [])

    last : types_at (archetypes ++ types ∷ []) (length archetypes) ≡ types
    last = get_or-append_seam archetypes types [] []

    pub found-more : AreFound (archetypes ++ types ∷ []) found'
    found-more = record { known = known-more; all = all-more }
      where
        known-more : (ts : List ℕ) (a : ℕ) → found' ts ≡ Some a → (a < length (archetypes ++ types ∷ [])) × (types_at (archetypes ++ types ∷ []) a ≡ ts)
        known-more ts a at =
            elim (cases_Bool (pointwise nat_eq types ts)) [
              | inl same ↦
                  let is : length archetypes ≡ a = some_is (length archetypes) a (sym (finds ts ∙ cond-true (pointwise nat_eq types ts) _ _ same) ∙ at) in
                  (omega (arith, is, longer), ap (types_at (archetypes ++ types ∷ [])) (sym is) ∙ last ∙ (types-decide types ts).0 same)
              | inr differs ↦
                  let old = are.known ts a (sym (finds ts ∙ cond-false (pointwise nat_eq types ts) _ _ differs) ∙ at) in
                  (omega (arith, old.0, longer), at-left archetypes types a old.0 ∙ old.1)
            ]

        all-more : (a : ℕ) → a < length (archetypes ++ types ∷ []) → found' (types_at (archetypes ++ types ∷ []) a) ≡ Some a
        all-more a below =
            elim (cases_lt a (length archetypes)) [
              | inl under ↦
                  let left = at-left archetypes types a under in
                  let differs : pointwise nat_eq types (types_at archetypes a) ≡ false =
                  false_from_ne_true _ (λ same. lacks a under (sym ((types-decide types (types_at archetypes a)).0 same))) in
                  ap found' left ∙ finds (types_at archetypes a) ∙ cond-false (pointwise nat_eq types (types_at archetypes a)) _ _ differs ∙ are.all a under
              | inr past ↦
                  let is : a ≡ length archetypes = omega (arith, past, below, longer) in
                  ap (λ k. found' (types_at (archetypes ++ types ∷ []) k)) is ∙ ap found' last ∙ finds types
                  ∙ cond-true (pointwise nat_eq types types) _ _ ((types-decide types types).1 refl) ∙ ap Some (sym is)
            ]
