-- Siblings without a cycle all get a place.
use Rattle.std.proofs.Common.{◌≡◌, ℕ, ◌+◌, ◌<◌, ◌≤◌, suc, zero, eqb, ltb, Bool, true, false, cond, inl, inr, List, [], ◌∷◌, Option, Some, None, length, get_or, ap, ◌∙◌, sym, refl, subst, arith}
use Rattle.std.specs.List.{count_by, find, position, position_or_len, remove}
use Rattle.std.specs.List.Sorted.{IsPermutation}
use Rattle.std.proofs.lemmas.Bool.{cases_Bool, cases_lt, cond-true, ltb-false, true≢false}
use Rattle.std.proofs.lemmas.List.{get_or_default, nil_from_length}
use Rattle.std.proofs.lemmas.List.Edits.{length-remove}
use Rattle.std.proofs.lemmas.List.Quantifiers.{position-Some}
use Rattle.std.proofs.lemmas.List.Sorted.{IsPermutation-cons, IsPermutation-refl, IsPermutation-remove, IsPermutation-trans}
use Rattle.std.proofs.lemmas.List.Sums.{fails_before_first, sum_by-cons, sum_by-le-sum_by, sum_by-remove}
use Rattle.std.proofs.lemmas.List.Folds.{find_at}
use Rattle.std.proofs.lemmas.Option.{none-some, slice_get-get_or}
use Rattle.system_order.specs.Chain.{chained, earliest_on_cycle}
use Rattle.system_order.specs.Place.{blockers_of, places}
use Rattle.system_order.proofs.Chains.{has_more, Has}
use Rattle.system_order.proofs.Paths.{chained_direct, chains_on_at, LeadsOn}
use Rattle.system_order.proofs.Waits.{places_some}

-- what is found at no place passes nowhere
position-None : (p : ℕ → Bool) (xs : List ℕ) → position p xs ≡ None → (k : ℕ) → k < length xs → p (get_or xs k 0) ≡ false
position-None p xs none k within = elim (cases_Bool (ltb (position_or_len p xs) (length xs))) [
  | inl found ↦ absurd (none-some (position_or_len p xs) (sym none ∙ cond-true (ltb (position_or_len p xs) (length xs)) (Some (position_or_len p xs)) None found))
  | inr past ↦ fails_before_first p xs k 0 (omega (arith, ltb-false (position_or_len p xs) (length xs) past, within))
]

find-None : (p : ℕ → Bool) (xs : List ℕ) → find p xs ≡ None → (k : ℕ) → k < length xs → p (get_or xs k 0) ≡ false
find-None p xs none k within = elim (cases_lt (position_or_len p xs) (length xs)) [
  | inl below ↦ absurd (none-some (get_or xs (position_or_len p xs) 0) (sym none ∙ find_at p xs ∙ slice_get-get_or xs (position_or_len p xs) 0 below))
  | inr past ↦ fails_before_first p xs k 0 (omega (arith, past, within))
]

-- where some are counted one passes
counted_one : (p : ℕ → Bool) (xs : List ℕ) → eqb (count_by p xs) 0 ≡ false → (k : ℕ) × (k < length xs) × (p (get_or xs k 0) ≡ true)
counted_one p [] some = absurd (true≢false some)
counted_one p (x ∷ xs) some = elim (cases_Bool (p x)) [
  | inl passes ↦ (0, omega arith, passes)
  | inr fails ↦
      let rest : count_by p (x ∷ xs) ≡ count_by p xs = sum_by-cons (λ y. cond (p y) 1 0) x xs ∙ ap (λ b. cond b 1 0 + count_by p xs) fails ∙ omega arith in
      let later = counted_one p xs (sym (ap (λ n. eqb n 0) rest) ∙ some) in
      (suc later.0, omega (arith, later.1), later.2)
]

-- what passes less often is counted less
fewer : (p q : ℕ → Bool) (xs : List ℕ) (k : ℕ) → k < length xs → ((x : ℕ) → p x ≡ true → q x ≡ true) → p (get_or xs k 0) ≡ false → q (get_or xs k 0) ≡ true → count_by p xs < count_by q xs
fewer p q xs k within implies fails passes =
    let f : ℕ → ℕ = λ x. cond (p x) 1 0 in
    let g : ℕ → ℕ = λ x. cond (q x) 1 0 in
    let at_p = sum_by-remove f xs k 0 within ∙ refl in
    let at_q = sum_by-remove g xs k 0 within ∙ refl in
    let none : f (get_or xs k 0) ≡ 0 = ap (λ (b : Bool). cond b 1 0) fails in
    let one : g (get_or xs k 0) ≡ 1 = ap (λ (b : Bool). cond b 1 0) passes in
    let others = sum_by-le-sum_by f g (remove xs k) (λ x. at_most (p x) (q x) (implies x)) in
    omega (arith, at_p, at_q, none, one, others)
  where
    at_most : (b c : Bool) → (b ≡ true → c ≡ true) → cond b 1 0 ≤ cond c 1 0
    at_most true c h = subst (λ (v : Bool). 1 ≤ cond v 1 0) (sym (h refl)) (omega arith)
    at_most false c h = omega arith

-- fewer lead to what precedes a sibling than to the sibling itself, where none leads to itself
fewer_before : (before : ℕ → ℕ → Bool) (all : List ℕ) (x y : ℕ) → Has all y → before y x ≡ true → ((k : ℕ) → k < length all → chained before all (get_or all k 0) (get_or all k 0) ≡ false) → count_by (λ w. chained before all w y) all < count_by (λ w. chained before all w x) all
fewer_before before all x y at link acyclic =
    let on : LeadsOn (chained before all) y = subst (LeadsOn (chained before all)) at.here (chains_on_at all before at.at at.within) in
    let linked = chained_direct all before y x link in
    fewer (λ w. chained before all w y) (λ w. chained before all w x) all at.at at.within (λ w led. on w x led linked)
    (subst (λ (z : ℕ). chained before all (get_or all at.at 0) z ≡ false) at.here (acyclic at.at at.within))
    (subst (λ (z : ℕ). chained before all z x ≡ true) (sym at.here) linked)

-- none of the siblings leads to itself, and each of the rest is preceded by one of the rest
no_end : (before : ℕ → ℕ → Bool) (all rest : List ℕ) → ((x : ℕ) → Has rest x → Has all x) → ((k : ℕ) → k < length all → chained before all (get_or all k 0) (get_or all k 0) ≡ false) → ((x : ℕ) → Has rest x → (y : ℕ) × Has rest y × (before y x ≡ true)) → (n x : ℕ) → Has rest x → count_by (λ w. chained before all w x) all ≤ n → ⊥
no_end before all rest known acyclic stuck zero x h few =
    let earlier = stuck x h in
    let less = fewer_before before all x earlier.0 (known earlier.0 earlier.1) earlier.2 acyclic in
    omega (arith, less, few)
no_end before all rest known acyclic stuck (suc n) x h few =
    let earlier = stuck x h in
    let less = fewer_before before all x earlier.0 (known earlier.0 earlier.1) earlier.2 acyclic in
    no_end before all rest known acyclic stuck n earlier.0 earlier.1 (omega (arith, less, few))

-- if no child is free, each is preceded by one of the rest
preceded : (before : ℕ → ℕ → Bool) (rest : List ℕ) → position (λ sibling. eqb (blockers_of before rest sibling) 0) rest ≡ None → (x : ℕ) → Has rest x → (y : ℕ) × Has rest y × (before y x ≡ true)
preceded before rest none x h =
    let blocked : eqb (blockers_of before rest x) 0 ≡ false =
    subst (λ (z : ℕ). eqb (blockers_of before rest z) 0 ≡ false) h.here (position-None (λ sibling. eqb (blockers_of before rest sibling) 0) rest none h.at h.within) in
    let one = counted_one (λ other. before other x) rest blocked in
    (get_or rest one.0 0, record { at = one.0; within = one.1; here = refl }, one.2)

places_end : (before : ℕ → ℕ → Bool) (rest : List ℕ) → places before zero rest ≡ []
unfolding places
places_end before rest = refl

all_placed_by : (before : ℕ → ℕ → Bool) (all : List ℕ) → ((k : ℕ) → k < length all → chained before all (get_or all k 0) (get_or all k 0) ≡ false) → (room : ℕ) (rest : List ℕ) → suc room ≡ length rest → ((x : ℕ) → Has rest x → Has all x) → ((left : List ℕ) → room ≡ length left → ((x : ℕ) → Has left x → Has all x) → IsPermutation left (places before room left)) → (free : Option ℕ) → position (λ sibling. eqb (blockers_of before rest sibling) 0) rest ≡ free → IsPermutation rest (places before (suc room) rest)
all_placed_by before all acyclic room rest long known later None none =
    let first = get_or rest 0 0 in
    absurd (no_end before all rest known acyclic (preceded before rest none) (count_by (λ w. chained before all w first) all) first (record { at = 0; within = omega (arith, long); here = refl }) (omega arith))
all_placed_by before all acyclic room rest long known later (Some at) some =
    let within = (position-Some (λ sibling. eqb (blockers_of before rest sibling) 0) rest at 0 some).0 in
    let first = get_or rest at 0 in
    let left = remove rest at in
    let shorter = length-remove rest at within in
    subst (λ (ys : List ℕ). IsPermutation rest ys) (sym (places_some before room rest at some))
    (IsPermutation-trans rest (first ∷ left) (first ∷ places before room left)
    (IsPermutation-remove rest at first within (get_or_default rest at 0 first within))
    (IsPermutation-cons first left (places before room left) (later left (omega (arith, shorter, long)) (λ x h. known x (has_more rest at x within h)))))

-- the places of siblings, none of which leads to itself, have each of them once
all_placed : (before : ℕ → ℕ → Bool) (all : List ℕ) → ((k : ℕ) → k < length all → chained before all (get_or all k 0) (get_or all k 0) ≡ false) → (room : ℕ) (rest : List ℕ) → room ≡ length rest → ((x : ℕ) → Has rest x → Has all x) → IsPermutation rest (places before room rest)
all_placed before all acyclic zero rest long known =
    let none : rest ≡ [] = nil_from_length rest (sym long) in
    subst (λ (ys : List ℕ). IsPermutation rest ys) (none ∙ sym (places_end before rest)) (IsPermutation-refl rest)
all_placed before all acyclic (suc room) rest long known =
    all_placed_by before all acyclic room rest long known (λ left. all_placed before all acyclic room left) (position (λ sibling. eqb (blockers_of before rest sibling) 0) rest) refl

-- siblings without a cycle all get a place
pub acyclic_places : (before : ℕ → ℕ → Bool) (siblings : List ℕ) → earliest_on_cycle before siblings ≡ None → IsPermutation siblings (places before (length siblings) siblings)
unfolding earliest_on_cycle
acyclic_places before siblings none =
    all_placed before siblings (find-None (λ sibling. chained before siblings sibling sibling) siblings none) (length siblings) siblings refl (λ x h. h)
