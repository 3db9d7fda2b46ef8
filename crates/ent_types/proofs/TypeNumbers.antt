-- A registry's names and numbers determine each other.
use Rattle.std.proofs.Common.{ℕ, ◌≡◌, ◌≢◌, ◌+◌, ◌<◌, ◌≤◌, List, [], ◌∷◌, Bool, true, false, not, ◌&&◌, zero, suc, length, get_or, refl, ap, sym, ◌∙◌, arith, true≢false, Option, Some, None, is_some}
use Rattle.std.specs.Prelude.{position, Decides}
use Rattle.std.specs.List.{list_any, position_or_len}
use Rattle.std.specs.Cmp.{IsEquivalence}
use Rattle.std.specs.Cmp.Lexicographic.{nat_list_eq_equiv, same_text}
use Rattle.std.proofs.lemmas.Bool.{and_parts, lt-ltb, not-true}
use Rattle.std.proofs.lemmas.Bool.Decides.{Decides-eqb}
use Rattle.std.proofs.lemmas.Slice.Eq.{slice_eq-Decides}
use Rattle.std.proofs.lemmas.List.{length-map}
use Rattle.std.proofs.Math.ListN.{get_or-map}
use Rattle.std.proofs.lemmas.List.Folds.{list_any_at}
use Rattle.std.proofs.lemmas.List.Quantifiers.{position-Some}
use Rattle.std.proofs.lemmas.List.Sums.{position_or_len_is}
use Rattle.ent_types.specs.declared.type_info.TypeInfo.{TypeInfo}
use Rattle.ent_types.specs.Types.{same_name, are_distinct}
use Rattle.ent_types.specs.Registries.{type_named, type_names, type_at, plain_tag, IsLawfulRegistry}
use Rattle.ent_types.proofs.Lookups.{is_some-position}

-- the test of two names decides whether they are equal
pub same_name-Decides : (a b : List ℕ) → Decides (same_name a b) (a ≡ b)
same_name-Decides a b = slice_eq-Decides Decides-eqb a b (same_name a b) refl

-- the type that a name finds is there and has the name
pub type_named-Some : (types : List TypeInfo) (name : List ℕ) (n : ℕ) → type_named types name ≡ Some n
    → (n < length types) × (name ≡ (type_at types n).name)
unfolding type_named
type_named-Some types name n found =
    let h = position-Some (λ (t : TypeInfo). same_name name t.name) types n (plain_tag []) found in
    (h.0, same_text name (type_at types n).name (sym h.1))

-- where a name finds none, no type has it
pub type_named-None : (types : List TypeInfo) (name : List ℕ) → type_named types name ≡ None
    → (n : ℕ) → n < length types → name ≢ (type_at types n).name
unfolding type_named
type_named-None types name none n within same =
    let test : TypeInfo → Bool = λ t. same_name name t.name in
    let passes : test (type_at types n) ≡ true = ap (same_name name) (sym same) ∙ nat_list_eq_equiv.refl name in
    true≢false
    (sym (list_any_at test types n (plain_tag []) within passes) ∙ sym (is_some-position test types) ∙ ap is_some none)

apart : (b : Bool) → (b ≡ true → ⊥) → b ≡ false
apart true h = absurd (h refl)
apart false h = refl

-- of some distinct names an earlier one isn't a later one
pub are_distinct-at : (names : List (List ℕ)) → are_distinct names ≡ true → (k n : ℕ) → k < n → n < length names
    → same_name (get_or names n []) (get_or names k []) ≡ false
are_distinct-at [] distinct k n earlier within = absurd (omega arith)
are_distinct-at (x ∷ xs) distinct k zero earlier within = absurd (omega arith)
are_distinct-at (x ∷ xs) distinct zero (suc n) earlier within =
    let others : list_any (same_name x) xs ≡ false = not-true _ ((and_parts (not (list_any (same_name x) xs)) (are_distinct xs) distinct).0) in
    let inside : n < length xs = omega arith in
    nat_list_eq_equiv.symm (get_or xs n []) x
    ∙ apart (same_name x (get_or xs n [])) (λ same. true≢false (sym (list_any_at (same_name x) xs n [] inside same) ∙ others))
are_distinct-at (x ∷ xs) distinct (suc k) (suc n) earlier within =
    are_distinct-at xs (and_parts (not (list_any (same_name x) xs)) (are_distinct xs) distinct).1 k n (omega arith) (omega arith)

-- a type's name finds the type
pub type_named-at : (types : List TypeInfo) → IsLawfulRegistry types → (n : ℕ) → n < length types
    → type_named types (type_at types n).name ≡ Some n
unfolding type_named
type_named-at types lawful n within =
    let name : List ℕ = (type_at types n).name in
    let test : TypeInfo → Bool = λ t. same_name name t.name in
    let named : (k : ℕ) → get_or (type_names types) k [] ≡ (type_at types k).name = λ k. get_or-map (λ (t : TypeInfo). t.name) types k (plain_tag []) in
    let inside : n < length (type_names types) = omega (arith, length-map types (λ (t : TypeInfo). t.name)) in
    let first : position_or_len test types ≡ n =
    position_or_len_is test types n (plain_tag []) (omega arith)
    (λ k earlier. sym (λ i. same_name (named n i) (named k i)) ∙ are_distinct-at (type_names types) lawful.distinct k n earlier inside)
    (λ _. nat_list_eq_equiv.refl name) in
    rw (first, lt-ltb n (length types) within) refl
