-- the next type of a set, and a walk over its types
use Rattle.std.proofs.Common.{◌≡◌, ℕ, inl, inr, le_refl, ◌+◌, ◌<◌, ◌≤◌, true, false, not, ◌||◌, cond, eqb, ltb, leb, List, [], ◌∷◌, ◌++◌, Some, None, refl, sym, ap, ◌∙◌, subst, arith, zero-le}
use Rattle.std.proofs.lemmas.Bool.{cond-true, cond-false, cases_order, ne_eqb, eq-eqb, true≢false, false≢true, cases_lt, or_parts, lt-leb, le-leb, leb-true, cases_Bool, or_left, or_right, le-ltb, not_from_true, not_from_false}
use Rattle.std.specs.List.{filter}
use Rattle.ent_types.specs.TypeSets.{IsRisingFrom, IsRisingBelow, has_type, with_type, without_type, next_type}
use Rattle.ent_types.proofs.TypeSetLemmas.{IsRisingFrom-lower, has_type_below}

-- ---- the next type

-- a type that is there is below `from`, where none there is `from` or more
there_below : (x from : ℕ) (xs : List ℕ) → (from ≤ x → has_type (x ∷ xs) x ≡ false) → x < from
there_below x from xs none =
    elim (cases_lt x from) [
      | inl lt ↦ lt
      | inr le ↦ absurd (true≢false (sym (ap (λ b. b || has_type xs x) (eq-eqb x x refl)) ∙ none le))
    ]

-- no type is `from` or more
pub next_type-none : (types : List ℕ) (from : ℕ) → ((t : ℕ) → from ≤ t → has_type types t ≡ false) → next_type types from ≡ None
next_type-none [] from none = refl
next_type-none (x ∷ xs) from none =
    cond-false (leb from x) (Some x) (next_type xs from) (lt-leb from x (there_below x from xs (none x)))
    ∙ next_type-none xs from (λ t le. (or_parts (eqb x t) (has_type xs t) (none t le)).1)

-- `ty` is there, and no type from `from` up to it
pub next_type-some : (low high : ℕ) (types : List ℕ) (from ty : ℕ) → IsRisingFrom low high types → from ≤ ty → has_type types ty ≡ true
    → ((t : ℕ) → from ≤ t → t < ty → has_type types t ≡ false) → next_type types from ≡ Some ty
next_type-some low high [] from ty rising le has none = absurd (false≢true has)
next_type-some low high (x ∷ xs) from ty rising le has none =
    elim (cases_order x ty) [
      | inl e ↦
          let above : from ≤ x = omega arith in
          cond-true (leb from x) (Some x) (next_type xs from) (le-leb from x above) ∙ ap (λ n. Some n) e
      | inr (inl lt) ↦
          let there : has_type xs ty ≡ true = sym (ap (λ b. b || has_type xs ty) (ne_eqb x ty (λ e. omega arith))) ∙ has in
          cond-false (leb from x) (Some x) (next_type xs from) (lt-leb from x (there_below x from xs (λ from_x. none x from_x lt)))
          ∙ next_type-some (x + 1) high xs from ty rising.2 le there
          (λ t from_t t_ty. (or_parts (eqb x t) (has_type xs t) (none t from_t t_ty)).1)
      | inr (inr lt) ↦
          absurd (false≢true (sym (has_type_below x high (x ∷ xs) ty (le_refl x, rising.1, rising.2) lt) ∙ has))
    ]

-- the next type is there, and in range
pub next_type-found : (low high : ℕ) (types : List ℕ) (from ty : ℕ) → IsRisingFrom low high types → Some ty ≡ next_type types from
    → (from ≤ ty) × (ty < high) × (has_type types ty ≡ true)
next_type-found low high [] from ty rising is = absurd cc
next_type-found low high (x ∷ xs) from ty rising is =
    elim (cases_Bool (leb from x)) [
      | inl here ↦
          let same : Some ty ≡ Some x = is ∙ cond-true (leb from x) (Some x) (next_type xs from) here in
          let equal : ty ≡ x = cc in (
            subst (λ n. from ≤ n) (sym equal) (leb-true from x here),
            subst (λ n. n < high) (sym equal) rising.1,
            or_left (eqb x ty) (has_type xs ty) (eq-eqb x ty (sym equal)),
          )
      | inr past ↦
          let rest = next_type-found (x + 1) high xs from ty rising.2 (is ∙ cond-false (leb from x) (Some x) (next_type xs from) past) in
          (rest.0, rest.1, or_right (eqb x ty) (has_type xs ty) rest.2)
    ]

-- ---- a walk over the types

-- nothing comes first only where nothing is there
pub next_type-empty : (types : List ℕ) → next_type types 0 ≡ None → types ≡ []
next_type-empty [] none = refl
next_type-empty (x ∷ xs) none =
    let first : next_type (x ∷ xs) 0 ≡ Some x = cond-true (leb 0 x) (Some x) (next_type xs 0) (le-leb 0 x zero-le) in
    cc

-- a filter that passes all keeps all
filter_all : (low high x : ℕ) (types : List ℕ) → IsRisingFrom low high types → x < low → filter (λ y. not (eqb y x)) types ≡ types
filter_all low high x [] rising below = refl
filter_all low high x (y ∷ ys) rising below =
    let kept : not (eqb y x) ≡ true = not_from_false (eqb y x) (ne_eqb y x (λ e. omega (arith, rising.0))) in
    cond-true (not (eqb y x)) (y ∷ filter (λ z. not (eqb z x)) ys) (filter (λ z. not (eqb z x)) ys) kept
    ∙ ap (λ l. y ∷ l) (filter_all (y + 1) high x ys rising.2 (omega (arith, rising.0)))

-- the first type, and then the others
pub first_and_others : (high x : ℕ) (types : List ℕ) → IsRisingFrom 0 high types → Some x ≡ next_type types 0
    → (x < high) × (types ≡ x ∷ without_type types x)
first_and_others high x [] rising is = cc
first_and_others high x (y ∷ ys) rising is =
    let first : next_type (y ∷ ys) 0 ≡ Some y = cond-true (leb 0 y) (Some y) (next_type ys 0) (le-leb 0 y zero-le) in
    let same : x ≡ y = some_same (is ∙ first) in
    let gone : not (eqb y x) ≡ false = not_from_true (eqb y x) (eq-eqb y x (sym same)) in (
      subst (λ n. n < high) (sym same) rising.1,
      ap (λ n. n ∷ ys) (sym same)
          ∙ ap (λ l. x ∷ l) (sym (cond-false (not (eqb y x)) (y ∷ filter (λ z. not (eqb z x)) ys) (filter (λ z. not (eqb z x)) ys) gone
          ∙ filter_all (y + 1) high x ys rising.2 (omega arith))),
    )
  where
    some_same : {y : ℕ} → Some x ≡ Some y → x ≡ y
    some_same e = cc

-- a walk's step: the first type is below the limit, and the others are a set
pub IsRisingBelow-rest : (high x : ℕ) (types rest : List ℕ) → IsRisingBelow high types → types ≡ x ∷ rest
    → (x < high) × IsRisingFrom (x + 1) high rest × IsRisingBelow high rest
IsRisingBelow-rest high x types rest rising is =
    let whole : IsRisingBelow high (x ∷ rest) = subst (IsRisingBelow high) is rising in
    (whole.1, whole.2, IsRisingFrom-lower (x + 1) 0 high rest zero-le whole.2)

-- a type above all others goes to the end
pub with_type-last : (low ty : ℕ) (types : List ℕ) → IsRisingFrom low ty types → with_type types ty ≡ types ++ ty ∷ []
with_type-last low ty [] rising = refl
with_type-last low ty (x ∷ xs) rising =
    let above : ltb ty x ≡ false = le-ltb ty x (omega (arith, rising.1)) in
    let other : eqb x ty ≡ false = ne_eqb x ty (λ e. omega (arith, rising.1)) in
    cond-false (ltb ty x) (ty ∷ x ∷ xs) (cond (eqb x ty) (x ∷ xs) (x ∷ with_type xs ty)) above
    ∙ cond-false (eqb x ty) (x ∷ xs) (x ∷ with_type xs ty) other
    ∙ ap (λ l. x ∷ l) (with_type-last (x + 1) ty xs rising.2)

-- what a walk has passed is a set below what comes next
pub IsRisingFrom-passed : (low high x : ℕ) (passed rest : List ℕ) → IsRisingFrom low high (passed ++ x ∷ rest) → IsRisingFrom low x passed
IsRisingFrom-passed low high x [] rest rising = tt
IsRisingFrom-passed low high x (y ∷ ys) rest rising =
    let later : IsRisingFrom (y + 1) x ys = IsRisingFrom-passed (y + 1) high x ys rest rising.2 in
    (rising.0, omega (arith, first_of_rest (y + 1) high x ys rest rising.2), later)
  where
    first_of_rest : (from high x : ℕ) (ys rest : List ℕ) → IsRisingFrom from high (ys ++ x ∷ rest) → from ≤ x
    first_of_rest from high x [] rest rising = rising.0
    first_of_rest from high x (z ∷ zs) rest rising = omega (arith, rising.0, first_of_rest (z + 1) high x zs rest rising.2)
