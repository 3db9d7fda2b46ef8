-- what it means that a set of types is in another, and that two sets meet
use Rattle.std.proofs.Common.{◌≡◌, ℕ, inl, inr, true, eqb, List, [], ◌∷◌, refl, sym, subst, eqb-true}
use Rattle.std.proofs.lemmas.Bool.{eq-eqb, false≢true, or_cases, or_left, or_right, and_parts, and_from}
use Rattle.std.proofs.lemmas.Bool.Decides.{same_from_decides, Decides-like}
use Rattle.std.specs.Bool.{Decides}
use Rattle.ent_types.specs.TypeSets.{IsRisingFrom, has_type, is_subset_of, meets}
use Rattle.ent_types.proofs.TypeSetLemmas.{same_types}

-- each type of the first set is in the second
pub is_subset_of-each : (types others : List ℕ) → is_subset_of types others ≡ true → (t : ℕ) → has_type types t ≡ true → has_type others t ≡ true
is_subset_of-each [] others subset t has = absurd (false≢true has)
is_subset_of-each (x ∷ xs) others subset t has =
    let parts : (has_type others x ≡ true) × (is_subset_of xs others ≡ true) =
    and_parts (has_type others x) (is_subset_of xs others) subset in
    elim (or_cases (eqb x t) (has_type xs t) has) [
      | inl e ↦ subst (λ n. has_type others n ≡ true) (eqb-true x t e) parts.0
      | inr rest ↦ is_subset_of-each xs others parts.1 t rest
    ]

pub is_subset_of-from_each : (types others : List ℕ) → ((t : ℕ) → has_type types t ≡ true → has_type others t ≡ true) → is_subset_of types others ≡ true
is_subset_of-from_each [] others each = refl
is_subset_of-from_each (x ∷ xs) others each =
    and_from (has_type others x) (is_subset_of xs others)
    (each x (or_left (eqb x x) (has_type xs x) (eq-eqb x x refl)))
    (is_subset_of-from_each xs others (λ t has. each t (or_right (eqb x t) (has_type xs t) has)))

pub Decides-is_subset_of : (types others : List ℕ)
    → Decides (is_subset_of types others) ((t : ℕ) → has_type types t ≡ true → has_type others t ≡ true)
Decides-is_subset_of types others = (is_subset_of-each types others, is_subset_of-from_each types others)

-- some type is in both sets
pub meets-some : (types others : List ℕ) → meets types others ≡ true → (t : ℕ) × (has_type types t ≡ true) × (has_type others t ≡ true)
meets-some [] others both = absurd (false≢true both)
meets-some (x ∷ xs) others both =
    elim (or_cases (has_type others x) (meets xs others) both) [
      | inl has ↦ (x, or_left (eqb x x) (has_type xs x) (eq-eqb x x refl), has)
      | inr rest ↦
          let found = meets-some xs others rest in
          (found.0, or_right (eqb x found.0) (has_type xs found.0) found.1, found.2)
    ]

pub meets-from_some : (types others : List ℕ) (t : ℕ) → has_type types t ≡ true → has_type others t ≡ true → meets types others ≡ true
meets-from_some [] others t has also = absurd (false≢true has)
meets-from_some (x ∷ xs) others t has also =
    elim (or_cases (eqb x t) (has_type xs t) has) [
      | inl e ↦ or_left (has_type others x) (meets xs others) (subst (λ n. has_type others n ≡ true) (sym (eqb-true x t e)) also)
      | inr rest ↦ or_right (has_type others x) (meets xs others) (meets-from_some xs others t rest also)
    ]

pub Decides-meets : (types others : List ℕ)
    → Decides (meets types others) ((t : ℕ) × (has_type types t ≡ true) × (has_type others t ≡ true))
Decides-meets types others = (meets-some types others, λ found. meets-from_some types others found.0 found.1 found.2)

-- ---- laws

pub is_subset_of-refl : (types : List ℕ) → is_subset_of types types ≡ true
is_subset_of-refl types = is_subset_of-from_each types types (λ t has. has)

pub is_subset_of-trans : (types others more : List ℕ) → is_subset_of types others ≡ true → is_subset_of others more ≡ true → is_subset_of types more ≡ true
is_subset_of-trans types others more first second =
    is_subset_of-from_each types more (λ t has. is_subset_of-each others more second t (is_subset_of-each types others first t has))

-- two sets that are each in the other are equal
pub same_from_subsets : (low high : ℕ) (types others : List ℕ) → IsRisingFrom low high types → IsRisingFrom low high others
    → is_subset_of types others ≡ true → is_subset_of others types ≡ true → types ≡ others
same_from_subsets low high types others rising rising' first second =
    same_types low high types others rising rising' (λ t _.
    same_from_decides _ _ (is_subset_of-each types others first t, is_subset_of-each others types second t) (λ has. has, λ has. has))

pub meets-comm : (types others : List ℕ) → meets types others ≡ meets others types
meets-comm types others =
    same_from_decides _ _ (Decides-meets types others)
    (Decides-like _ (λ found. (found.0, found.2, found.1)) (λ found. (found.0, found.2, found.1)) (Decides-meets others types))

-- a set that meets none of what it is in is empty
pub meets-subset : (types others more : List ℕ) → is_subset_of types others ≡ true → meets types more ≡ true → meets others more ≡ true
meets-subset types others more subset both =
    let found = meets-some types more both in
    meets-from_some others more found.0 (is_subset_of-each types others subset found.0 found.1) found.2
