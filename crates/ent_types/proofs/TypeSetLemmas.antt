-- facts about rising lists of types
use Rattle.std.proofs.Common.{◌≡◌, ℕ, ◌⊎◌, inl, inr, ◌+◌, ◌-◌, ◌<◌, ◌≤◌, Bool, true, false, not, ◌&&◌, ◌||◌, cond, eqb, ltb, List, [], ◌∷◌, length, refl, sym, ap, ◌∙◌, subst, arith, eqb-true, ltb-false, ltb-true, le_trans}
use Rattle.std.proofs.lemmas.Bool.{cond_both, cases_order, ne_eqb, eq-eqb, eqb-false, true≢false, false≢true, cases_lt}
use Rattle.std.specs.List.{filter}
use Rattle.ent_types.specs.TypeSets.{IsRisingFrom, has_type, with_type, without_type}

-- ---- order

-- the least number may be lowered
pub IsRisingFrom-lower : (low lower high : ℕ) (types : List ℕ) → lower ≤ low → IsRisingFrom low high types → IsRisingFrom lower high types
IsRisingFrom-lower low lower high [] le rising = tt
IsRisingFrom-lower low lower high (x ∷ xs) le rising = (le_trans le rising.0, rising.1, rising.2)

-- what is below the least number is not there
pub has_type_below : (low high : ℕ) (types : List ℕ) (t : ℕ) → IsRisingFrom low high types → t < low → has_type types t ≡ false
has_type_below low high [] t rising lt = refl
has_type_below low high (x ∷ xs) t rising lt =
    let apart : eqb x t ≡ false = ne_eqb x t (λ e. omega (arith, rising.0)) in
    ap (λ b. b || has_type xs t) apart ∙ has_type_below (x + 1) high xs t rising.2 (omega (arith, rising.0))

-- what is not below the limit is not there
pub has_type_above : (low high : ℕ) (types : List ℕ) (t : ℕ) → IsRisingFrom low high types → high ≤ t → has_type types t ≡ false
has_type_above low high [] t rising le = refl
has_type_above low high (x ∷ xs) t rising le =
    let apart : eqb x t ≡ false = ne_eqb x t (λ e. omega (arith, rising.1)) in
    ap (λ b. b || has_type xs t) apart ∙ has_type_above (x + 1) high xs t rising.2 le

-- there are no more types than numbers
pub length_rising : (low high : ℕ) (types : List ℕ) → IsRisingFrom low high types → length types ≤ high - low
length_rising low high [] rising = omega arith
length_rising low high (x ∷ xs) rising = omega (arith, rising.0, rising.1, length_rising (x + 1) high xs rising.2)

-- ---- two sets with the same types are equal

heads_differ : (high x y : ℕ) (xs ys : List ℕ) → x < y → IsRisingFrom (y + 1) high ys
    → has_type (x ∷ xs) x ≡ has_type (y ∷ ys) x → false ≡ true
heads_differ high x y xs ys lt rising same =
    let own : eqb x x ≡ true = eq-eqb x x refl in
    let apart : eqb y x ≡ false = ne_eqb y x (λ e. omega arith) in
    let below : has_type ys x ≡ false = has_type_below (y + 1) high ys x rising (omega arith) in
    sym (ap (λ b. b || has_type ys x) apart ∙ below) ∙ sym same ∙ ap (λ b. b || has_type xs x) own

tails_same : (high x : ℕ) (xs ys : List ℕ) → IsRisingFrom (x + 1) high xs → IsRisingFrom (x + 1) high ys
    → ((t : ℕ) → t < high → has_type (x ∷ xs) t ≡ has_type (x ∷ ys) t) → (t : ℕ) → t < high → has_type xs t ≡ has_type ys t
tails_same high x xs ys rising rising' same t within = pick (cases_lt x t)
  where
    pick : (x < t) ⊎ (t ≤ x) → has_type xs t ≡ has_type ys t
    pick (inl above) =
        let apart : eqb x t ≡ false = ne_eqb x t (λ e. omega arith) in
        sym (ap (λ b. b || has_type xs t) apart) ∙ same t within ∙ ap (λ b. b || has_type ys t) apart
    pick (inr le) =
        has_type_below (x + 1) high xs t rising (omega arith) ∙ sym (has_type_below (x + 1) high ys t rising' (omega arith))

-- two sets that have the same types are equal
pub same_types : (low high : ℕ) (types others : List ℕ) → IsRisingFrom low high types → IsRisingFrom low high others
    → ((t : ℕ) → t < high → has_type types t ≡ has_type others t) → types ≡ others
same_types low high [] [] rising rising' same = refl
same_types low high [] (y ∷ ys) rising rising' same =
    absurd (false≢true (same y rising'.1 ∙ ap (λ b. b || has_type ys y) (eq-eqb y y refl)))
same_types low high (x ∷ xs) [] rising rising' same =
    absurd (false≢true (sym (same x rising.1) ∙ ap (λ b. b || has_type xs x) (eq-eqb x x refl)))
same_types low high (x ∷ xs) (y ∷ ys) rising rising' same =
    elim (cases_order x y) [
      | inl e ↦
          let tail : IsRisingFrom (x + 1) high ys = subst (λ n. IsRisingFrom (n + 1) high ys) (sym e) rising'.2 in
          let still : (t : ℕ) → t < high → has_type (x ∷ xs) t ≡ has_type (x ∷ ys) t =
          λ t within. same t within ∙ ap (λ n. has_type (n ∷ ys) t) (sym e) in
          ap (λ n. n ∷ xs) e
          ∙ ap (λ l. y ∷ l) (same_types (x + 1) high xs ys rising.2 tail (tails_same high x xs ys rising.2 tail still))
      | inr (inl lt) ↦ absurd (false≢true (heads_differ high x y xs ys lt rising'.2 (same x rising.1)))
      | inr (inr lt) ↦ absurd (false≢true (heads_differ high y x ys xs lt rising.2 (sym (same y rising'.1))))
    ]

-- ---- a type put in

pub or_left_comm : (a b c : Bool) → (a || (b || c)) ≡ (b || (a || c))
or_left_comm true true c = refl
or_left_comm true false c = refl
or_left_comm false true c = refl
or_left_comm false false c = refl

or_again : (a c : Bool) → (a || c) ≡ (a || (a || c))
or_again true c = refl
or_again false c = refl

-- the set with a type has that type, and else what it had
pub has_type-with_type : (types : List ℕ) (ty t : ℕ) → has_type (with_type types ty) t ≡ (eqb ty t || has_type types t)
has_type-with_type [] ty t = refl
has_type-with_type (x ∷ xs) ty t =
    let After : List ℕ → Type 0 = λ l. has_type l t ≡ (eqb ty t || has_type (x ∷ xs) t) in
    cond_both (ltb ty x) (ty ∷ x ∷ xs) (cond (eqb x ty) (x ∷ xs) (x ∷ with_type xs ty)) After (λ _. refl) (λ _.
    cond_both (eqb x ty) (x ∷ xs) (x ∷ with_type xs ty) After
    (λ e. or_again (eqb x t) (has_type xs t) ∙ ap (λ n. eqb n t || has_type (x ∷ xs) t) (eqb-true x ty e))
    (λ _. ap (λ b. eqb x t || b) (has_type-with_type xs ty t) ∙ or_left_comm (eqb x t) (eqb ty t) (has_type xs t)))

-- a set stays a set when a type is put in
pub IsRisingFrom-with_type : (low high : ℕ) (types : List ℕ) (ty : ℕ) → IsRisingFrom low high types → low ≤ ty → ty < high
    → IsRisingFrom low high (with_type types ty)
IsRisingFrom-with_type low high [] ty rising from within = (from, within, tt)
IsRisingFrom-with_type low high (x ∷ xs) ty rising from within =
    cond_both (ltb ty x) (ty ∷ x ∷ xs) (cond (eqb x ty) (x ∷ xs) (x ∷ with_type xs ty)) (IsRisingFrom low high)
    (λ lt. (from, within, (omega (arith, ltb-true ty x lt), rising.1, rising.2))) (λ ge.
    cond_both (eqb x ty) (x ∷ xs) (x ∷ with_type xs ty) (IsRisingFrom low high)
    (λ _. rising)
    (λ ne. (rising.0, rising.1, IsRisingFrom-with_type (x + 1) high xs ty rising.2 (above x ty (ltb-false ty x ge) (eqb-false x ty ne)) within)))
  where
    above : (x ty : ℕ) → x ≤ ty → (x ≡ ty → ⊥) → x + 1 ≤ ty
    above x ty le ne = omega arith

-- ---- a type taken out

-- a set stays a set when some types are taken out
pub IsRisingFrom-filter : (low high : ℕ) (keep : ℕ → Bool) (types : List ℕ) → IsRisingFrom low high types → IsRisingFrom low high (filter keep types)
IsRisingFrom-filter low high keep [] rising = tt
IsRisingFrom-filter low high keep (x ∷ xs) rising =
    let rest : IsRisingFrom (x + 1) high (filter keep xs) = IsRisingFrom-filter (x + 1) high keep xs rising.2 in
    cond_both (keep x) (x ∷ filter keep xs) (filter keep xs) (IsRisingFrom low high)
    (λ _. (rising.0, rising.1, rest))
    (λ _. IsRisingFrom-lower (x + 1) low high (filter keep xs) (omega (arith, rising.0)) rest)

kept_step : (k a c : Bool) → (a ≡ true → k ≡ true) → (a || (k && c)) ≡ (k && (a || c))
kept_step true a c kept = refl
kept_step false true c kept = sym (kept refl)
kept_step false false c kept = refl

dropped_step : (k a c : Bool) → (a ≡ true → k ≡ false) → (k && c) ≡ (k && (a || c))
dropped_step true true c gone = absurd (true≢false (gone refl))
dropped_step true false c gone = refl
dropped_step false a c gone = refl

none_kept : (k : Bool) → false ≡ (k && false)
none_kept true = refl
none_kept false = refl

-- the filtered set has the types that pass
pub has_type-filter : (keep : ℕ → Bool) (types : List ℕ) (t : ℕ) → has_type (filter keep types) t ≡ (keep t && has_type types t)
has_type-filter keep [] t = none_kept (keep t)
has_type-filter keep (x ∷ xs) t =
    cond_both (keep x) (x ∷ filter keep xs) (filter keep xs) (λ l. has_type l t ≡ (keep t && (eqb x t || has_type xs t)))
    (λ is. ap (λ b. eqb x t || b) (has_type-filter keep xs t)
    ∙ kept_step (keep t) (eqb x t) (has_type xs t) (λ e. ap keep (sym (eqb-true x t e)) ∙ is))
    (λ is. has_type-filter keep xs t
    ∙ dropped_step (keep t) (eqb x t) (has_type xs t) (λ e. ap keep (sym (eqb-true x t e)) ∙ is))

-- the set without a type
pub has_type-without_type : (types : List ℕ) (ty t : ℕ) → has_type (without_type types ty) t ≡ (not (eqb t ty) && has_type types t)
has_type-without_type types ty t = has_type-filter (λ x. not (eqb x ty)) types t

pub IsRisingFrom-without_type : (low high : ℕ) (types : List ℕ) (ty : ℕ) → IsRisingFrom low high types → IsRisingFrom low high (without_type types ty)
IsRisingFrom-without_type low high types ty rising = IsRisingFrom-filter low high (λ x. not (eqb x ty)) types rising
