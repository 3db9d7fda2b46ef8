-- Lists and sets whose elements pass a test.
use Rattle.std.proofs.Common.{ℕ, zero, suc, ◌≡◌, ◌+◌, List, [], ◌∷◌, ◌++◌, Bool, true, false, not, ◌||◌, cond, Some, get_or, refl, sym, ap, ◌∙◌, subst, arith}
use Rattle.std.specs.Prelude.{nat_lt, ◌==◌, fold, find}
use Rattle.std.specs.List.{list_any, list_all, AllByRecursion as Each}
use Rattle.std.proofs.lemmas.Bool.{and_parts, and_from, or_from, or_left, or_right, not-true, not_from_false, lt-ltb, eq-eqb}
use Rattle.std.proofs.lemmas.Option.{none-some, same_Some}
use Rattle.std.proofs.lemmas.List.Folds.{list_any-append, list_all-append}
use Rattle.ent_types.specs.TypeSets.{IsRisingFrom, has_type, with_type}
use Rattle.ent_types.proofs.TypeSetLemmas.{has_type_below, has_type-with_type}
use Rattle.scenario_record.specs.TextNames.{are_once}

module _ {A : Type 0} where
  pub each_weaker : (P Q : A → Type 0) → ((x : A) → P x → Q x) → (xs : List A) → Each P xs → Each Q xs
  each_weaker P Q step [] h = tt
  each_weaker P Q step (x ∷ xs) h = (step x h.0, each_weaker P Q step xs h.1)

  pub all_from_each : (p : A → Bool) (xs : List A) → Each (λ x. p x ≡ true) xs → list_all p xs ≡ true
  all_from_each p [] h = refl
  all_from_each p (x ∷ xs) h = and_from _ _ h.0 (all_from_each p xs h.1)

  pub all_weaker : (p q : A → Bool) → ((x : A) → p x ≡ true → q x ≡ true) → (xs : List A) → list_all p xs ≡ true → list_all q xs ≡ true
  all_weaker p q step [] h = refl
  all_weaker p q step (x ∷ xs) h =
      let (here, later) = and_parts (p x) (list_all p xs) h in
      and_from _ _ (step x here) (all_weaker p q step xs later)

  pub all_joined : (p : A → Bool) (xs ys : List A) → list_all p xs ≡ true → list_all p ys ≡ true → list_all p (xs ++ ys) ≡ true
  all_joined p xs ys h k = list_all-append p xs ys ∙ and_from _ _ h k

  -- what holds of each element, and of the default, holds at each place
  pub all_at : (p : A → Bool) (d : A) (xs : List A) (i : ℕ) → list_all p xs ≡ true → p d ≡ true → p (get_or xs i d) ≡ true
  all_at p d [] i h default = default
  all_at p d (x ∷ xs) zero h default = (and_parts (p x) (list_all p xs) h).0
  all_at p d (x ∷ xs) (suc i) h default = all_at p d xs i (and_parts (p x) (list_all p xs) h).1 default

  -- what is found passes the test
  pub find_ok : (P : A → Type 0) (p : A → Bool) (xs : List A) (x : A) → Each P xs → find p xs ≡ Some x → P x × (p x ≡ true)
  find_ok P p [] x h is = absurd (none-some x is)
  find_ok P p (y ∷ ys) x h is = by (p y) refl is (find_ok P p ys x h.1)
    where
      by : (b : Bool) → p y ≡ b → cond b (Some y) (find p ys) ≡ Some x → (find p ys ≡ Some x → P x × (p x ≡ true)) → P x × (p x ≡ true)
      by true passes got later =
          let same = same_Some y x got in
          (subst P same h.0, subst (λ z. p z ≡ true) same passes)
      by false fails got later = later got

-- ---- sets of types

pub has_type-append : (xs ys : List ℕ) (t : ℕ) → has_type (xs ++ ys) t ≡ (has_type xs t || has_type ys t)
has_type-append xs ys t = list_any-append (λ x. x == t) xs ys

pub all_with_type : (p : ℕ → Bool) (types : List ℕ) (ty : ℕ) → list_all p types ≡ true → p ty ≡ true → list_all p (with_type types ty) ≡ true
all_with_type p [] ty all here = and_from _ _ here refl
all_with_type p (x ∷ xs) ty all here =
    let (first, rest) = and_parts (p x) (list_all p xs) all in
    by (nat_lt ty x) (x == ty) (and_from _ _ first (all_with_type p xs ty rest here))
  where
    by : (a b : Bool) → list_all p (x ∷ with_type xs ty) ≡ true → list_all p (cond a (ty ∷ x ∷ xs) (cond b (x ∷ xs) (x ∷ with_type xs ty))) ≡ true
    by true b later = and_from _ _ here all
    by false true later = all
    by false false later = later

pub all_below : (low high : ℕ) (types : List ℕ) → IsRisingFrom low high types → list_all (λ t. nat_lt t high) types ≡ true
all_below low high [] h = refl
all_below low high (x ∷ xs) h = and_from _ _ (lt-ltb x high h.1) (all_below (x + 1) high xs h.2)

-- ---- lists in which no type is there twice

pub once_rising : (low high : ℕ) (types : List ℕ) → IsRisingFrom low high types → are_once types ≡ true
once_rising low high [] h = refl
once_rising low high (x ∷ xs) h =
    and_from _ _ (not_from_false _ (has_type_below (x + 1) high xs x h.2 (omega arith))) (once_rising (x + 1) high xs h.2)

pub once_joined : (xs ys : List ℕ) → are_once xs ≡ true → are_once ys ≡ true → ((t : ℕ) → has_type xs t ≡ true → has_type ys t ≡ false) → are_once (xs ++ ys) ≡ true
once_joined [] ys h k apart = k
once_joined (x ∷ xs) ys h k apart =
    let (alone, rest) = and_parts (not (has_type xs x)) (are_once xs) h in
    let first : has_type (x ∷ xs) x ≡ true = or_left _ _ (eq-eqb x x refl) in
    let other : has_type (xs ++ ys) x ≡ false = has_type-append xs ys x ∙ or_from _ _ (not-true _ alone) (apart x first) in
    and_from _ _ (not_from_false _ other) (once_joined xs ys rest k (λ t there. apart t (or_right _ _ there)))

-- ---- sets that grow by the types of a list

regrouped : (a b c : Bool) → ((a || b) || c) ≡ true → (b || (a || c)) ≡ true
regrouped true true c h = refl
regrouped true false c h = refl
regrouped false true c h = refl
regrouped false false c h = h

module _ {A : Type 0} (type_of : A → ℕ) where
  pub grown : (set : List ℕ) (xs : List A) (t : ℕ) → has_type (fold (λ types x. with_type types (type_of x)) set xs) t ≡ true
      → (has_type set t || list_any (λ x. type_of x == t) xs) ≡ true
  grown set [] t h = or_false _ h
    where
      or_false : (b : Bool) → b ≡ true → (b || false) ≡ true
      or_false true is = refl
      or_false false is = is
  grown set (x ∷ xs) t h =
      let later = grown (with_type set (type_of x)) xs t h in
      regrouped (type_of x == t) (has_type set t) (list_any (λ y. type_of y == t) xs)
      (ap (λ (b : Bool). b || list_any (λ y. type_of y == t) xs) (sym (has_type-with_type set (type_of x) t)) ∙ later)
