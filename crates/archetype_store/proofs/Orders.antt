-- A store with one block more, and with one block less.
use Rattle.std.proofs.Common.{◌≡◌, ◌≢◌, ℕ, zero, suc, ◌+◌, ◌<◌, ◌≤◌, inl, inr, Bool, true, false, not, cond, nat_eq, List, [], ◌∷◌, ◌++◌, length, set, filter, Option, Some, None, refl, sym, ap, ◌∙◌, subst, arith}
use Rattle.std.specs.Prelude.{option_map, count_by, is_some}
use Rattle.std.specs.List.{flat_map, sum_by}
use Rattle.archetype_store.specs.Times.{times}
use Rattle.archetype_store.proofs.Times.{times-append}
use Rattle.std.proofs.lemmas.Bool.{cases_eq, cases_lt, eq-eqb, ne_eqb, lt-ltb, le-ltb}
use Rattle.std.proofs.lemmas.List.{get_or_past, get_or-set_same, get_or-set_other, length-set, length-append, get_or_append_left, append-nil}
use Rattle.std.proofs.lemmas.Grind.{flat_map-append}
use Rattle.std.proofs.lemmas.List.Sums.{sum_by-set, sum_by-append}
use Rattle.std.proofs.lemmas.List.Recursion.{is_sum_by}
use Rattle.std.proofs.Math.Seq.{get_or-append_seam}
use Rattle.archetype_store.specs.Slots.{of_slot, of_slots, slot_at, put_slot, free_at, AreFree, AreOrdered, ArePlaced, number_if, number_of, numbers_of}

-- ---- slots of anything

-- a slot that has something is there
pub below_of : {X : Type 0} (slots : List (Option X)) (n : ℕ) (x : X) → slot_at slots n ≡ Some x → n < length slots
below_of slots n x is =
    elim (cases_lt n (length slots)) [
      | inl below ↦ below
      | inr past ↦ absurd (none_some x (sym (get_or_past slots n None past) ∙ is))
    ]
  where
    none_some : {X : Type 0} (x : X) → None ≡ Some x → ⊥
    none_some x is = cc

module _ {X : Type 0} where
  -- the next slot or one that is there
  pub put-same : (slots : List (Option X)) (n : ℕ) (x : X) → n ≤ length slots → slot_at (put_slot slots n x) n ≡ Some x
  put-same slots n x within =
      elim (cases_lt n (length slots)) [
        | inl below ↦ ap (λ b. slot_at (cond b (set slots n (Some x)) (slots ++ Some x ∷ [])) n) (lt-ltb n (length slots) below) ∙ get_or-set_same slots n (Some x) None below
        | inr past ↦
            let last : n ≡ length slots = omega (arith, within, past) in
            ap (λ b. slot_at (cond b (set slots n (Some x)) (slots ++ Some x ∷ [])) n) (le-ltb n (length slots) past)
            ∙ ap (slot_at (slots ++ Some x ∷ [])) last ∙ get_or-append_seam slots (Some x) [] None
      ]

  pub put-other : (slots : List (Option X)) (n m : ℕ) (x : X) → n ≤ length slots → m ≢ n → slot_at (put_slot slots n x) m ≡ slot_at slots m
  put-other slots n m x within apart =
      elim (cases_lt n (length slots)) [
        | inl below ↦ ap (λ b. slot_at (cond b (set slots n (Some x)) (slots ++ Some x ∷ [])) m) (lt-ltb n (length slots) below) ∙ get_or-set_other slots n m (Some x) None apart
        | inr past ↦
            ap (λ b. slot_at (cond b (set slots n (Some x)) (slots ++ Some x ∷ [])) m) (le-ltb n (length slots) past)
            ∙ elim (cases_lt m (length slots)) [
              | inl below ↦ get_or_append_left slots (Some x ∷ []) None m below
              | inr beyond ↦
                  get_or_past (slots ++ Some x ∷ []) m None (omega (arith, length-append slots (Some x ∷ []), within, past, beyond, apart))
                  ∙ sym (get_or_past slots m None beyond)
            ]
      ]

  pub length-put : (slots : List (Option X)) (n : ℕ) (x : X) → length slots ≤ length (put_slot slots n x)
  length-put slots n x =
      elim (cases_lt n (length slots)) [
        | inl below ↦ omega (arith, ap (λ b. length (cond b (set slots n (Some x)) (slots ++ Some x ∷ []))) (lt-ltb n (length slots) below), length-set slots n (Some x))
        | inr past ↦ omega (arith, ap (λ b. length (cond b (set slots n (Some x)) (slots ++ Some x ∷ []))) (le-ltb n (length slots) past), length-append slots (Some x ∷ []))
      ]

pub some_is : {X : Type 0} (x y : X) → Some x ≡ Some y → x ≡ y
some_is x y is = ap (unwrap_or_self x) is
  where
    unwrap_or_self : {X : Type 0} → X → Option X → X
    unwrap_or_self x None = x
    unwrap_or_self x (Some z) = z

pub none_some : {X : Type 0} (x : X) → None ≡ Some x → ⊥
none_some x is = cc

-- what a slot maps to shows that something is there
there_of : {X : Type 0} (rank : X → ℕ) (o : Option X) (k : ℕ) → option_map rank o ≡ Some k → (x : X) × (o ≡ Some x)
there_of rank None k is = absurd (none_some k is)
there_of rank (Some x) k is = (x, refl)

module _ {X : Type 0} (rank : X → ℕ) (slots : List (Option X)) (order : List (Option ℕ)) (ordered : AreOrdered rank slots order) where
  -- a number of the order isn't one without a block
  pub apart_of : (n k m : ℕ) → slot_at slots n ≡ None → slot_at order k ≡ Some m → m ≢ n
  apart_of n k m vacant at same =
      let there = there_of rank (slot_at slots m) k (ordered k m at) in
      none_some there.0 (sym vacant ∙ ap (slot_at slots) (sym same) ∙ there.1)

  module _ (n : ℕ) (x : X) (vacant : slot_at slots n ≡ None) (within : n ≤ length slots) (last : rank x ≡ length order) where
    pub ordered-put : AreOrdered rank (put_slot slots n x) (order ++ Some n ∷ [])
    ordered-put k m at =
        elim (cases_lt k (length order)) [
          | inl below ↦
              let old : slot_at order k ≡ Some m = sym (get_or_append_left order (Some n ∷ []) None k below) ∙ at in
              ap (option_map rank) (put-other slots n m x within (apart_of n k m vacant old)) ∙ ordered k m old
          | inr past ↦
              elim (cases_eq k (length order)) [
                | inl end ↦
                    let this : n ≡ m = some_is n m (sym (ap (slot_at (order ++ Some n ∷ [])) end ∙ get_or-append_seam order (Some n) [] None) ∙ at) in
                    ap (option_map rank) (ap (slot_at (put_slot slots n x)) (sym this) ∙ put-same slots n x within) ∙ ap Some (last ∙ sym end)
                | inr beyond ↦ absurd (none_some m (sym (get_or_past (order ++ Some n ∷ []) k None (omega (arith, length-append order (Some n ∷ []), past, beyond))) ∙ at))
              ]
        ]

    pub placed-put : ArePlaced rank slots order → ArePlaced rank (put_slot slots n x) (order ++ Some n ∷ [])
    placed-put placed m y at =
        elim (cases_eq m n) [
          | inl same ↦
              let this : x ≡ y = some_is x y (sym (ap (slot_at (put_slot slots n x)) same ∙ put-same slots n x within) ∙ at) in
              ap (slot_at (order ++ Some n ∷ [])) (ap rank (sym this) ∙ last) ∙ get_or-append_seam order (Some n) [] None ∙ ap Some (sym same)
          | inr apart ↦
              let old : slot_at order (rank y) ≡ Some m = placed m y (sym (put-other slots n m x within apart) ∙ at) in
              get_or_append_left order (Some n ∷ []) None (rank y) (below_of order (rank y) m old) ∙ old
        ]

    pub numbers-put : (test : X → Bool) → numbers_of test (put_slot slots n x) (order ++ Some n ∷ []) ≡ numbers_of test slots order ++ number_if test n (Some x)
    numbers-put test =
        flat_map-append (number_of test (put_slot slots n x)) order (Some n ∷ [])
        ∙ ap (λ ns. ns ++ flat_map (number_of test (put_slot slots n x)) (Some n ∷ [])) (same order (λ k m at. apart_of n k m vacant at))
        ∙ ap (λ ns. numbers_of test slots order ++ ns) (append-nil (number_of test (put_slot slots n x) (Some n)) ∙ ap (number_if test n) (put-same slots n x within))
      where
        same : (os : List (Option ℕ)) → ((k m : ℕ) → slot_at os k ≡ Some m → m ≢ n) → numbers_of test (put_slot slots n x) os ≡ numbers_of test slots os
        same [] apart = refl
        same (None ∷ os) apart = same os (λ k m at. apart (suc k) m at)
        same (Some m ∷ os) apart =
            ap (λ o. number_if test m o ++ numbers_of test (put_slot slots n x) os) (put-other slots n m x within (apart zero m refl))
            ∙ ap (λ ns. number_of test slots (Some m) ++ ns) (same os (λ k m at. apart (suc k) m at))

  module _ (n : ℕ) (x : X) (there : slot_at slots n ≡ Some x) (placed : ArePlaced rank slots order) where
    pub ordered-gone : AreOrdered rank (set slots n None) (set order (rank x) None)
    ordered-gone k m at =
        elim (cases_eq k (rank x)) [
          | inl same ↦
              absurd (none_some m (sym (ap (slot_at (set order (rank x) None)) same ∙ get_or-set_same order (rank x) None None (below_of order (rank x) n (placed n x there))) ∙ at))
          | inr apart ↦
              let old : slot_at order k ≡ Some m = sym (get_or-set_other order (rank x) k None None apart) ∙ at in
              let other : m ≢ n = λ same. apart (some_is k (rank x) (sym (ordered k m old) ∙ ap (option_map rank) (ap (slot_at slots) same ∙ there))) in
              ap (option_map rank) (get_or-set_other slots n m None None other) ∙ ordered k m old
        ]

    pub placed-gone : ArePlaced rank (set slots n None) (set order (rank x) None)
    placed-gone m y at =
        elim (cases_eq m n) [
          | inl same ↦ absurd (none_some y (sym (ap (slot_at (set slots n None)) same ∙ get_or-set_same slots n None None (below_of slots n x there)) ∙ at))
          | inr apart ↦
              let old : slot_at order (rank y) ≡ Some m = placed m y (sym (get_or-set_other slots n m None None apart) ∙ at) in
              let other : rank y ≢ rank x = λ same. apart (some_is m n (sym old ∙ ap (slot_at order) same ∙ placed n x there)) in
              get_or-set_other order (rank x) (rank y) None None other ∙ old
        ]

    -- an empty place gives nothing, as a number without a block does
    pub place-gone : {Y : Type 0} (f : Option ℕ → List Y) → f None ≡ [] → f (Some n) ≡ [] → flat_map f (set order (rank x) None) ≡ flat_map f order
    place-gone f none some = at order (rank x) (placed n x there)
      where
        at : (os : List (Option ℕ)) (r : ℕ) → slot_at os r ≡ Some n → flat_map f (set os r None) ≡ flat_map f os
        at [] r is = refl
        at (o ∷ os) zero is = ap (λ ys. ys ++ flat_map f os) (none ∙ sym (ap f is ∙ some))
        at (o ∷ os) (suc r) is = ap (λ ys. f o ++ ys) (at os r is)

    pub numbers-gone : (test : X → Bool) → numbers_of test (set slots n None) (set order (rank x) None) ≡ filter (λ m. not (nat_eq m n)) (numbers_of test slots order)
    numbers-gone test =
        place-gone (number_of test (set slots n None)) refl (ap (number_if test n) (get_or-set_same slots n None None (below_of slots n x there)))
        ∙ without order
      where
        without : (os : List (Option ℕ)) → numbers_of test (set slots n None) os ≡ filter (λ m. not (nat_eq m n)) (numbers_of test slots os)
        without [] = refl
        without (None ∷ os) = without os
        without (Some m ∷ os) =
            elim (cases_eq m n) [
              | inl same ↦
                  ap (λ o. number_if test m o ++ numbers_of test (set slots n None) os) (ap (slot_at (set slots n None)) same ∙ get_or-set_same slots n None None (below_of slots n x there))
                  ∙ without os ∙ sym (dropped m same (slot_at slots m) (numbers_of test slots os))
              | inr apart ↦
                  ap (λ o. number_if test m o ++ numbers_of test (set slots n None) os) (get_or-set_other slots n m None None apart)
                  ∙ ap (λ ns. number_of test slots (Some m) ++ ns) (without os) ∙ sym (stays m apart (slot_at slots m) (numbers_of test slots os))
            ]
          where
            dropped : (m : ℕ) → m ≡ n → (o : Option X) (ns : List ℕ) → filter (λ k. not (nat_eq k n)) (number_if test m o ++ ns) ≡ filter (λ k. not (nat_eq k n)) ns
            dropped m same None ns = refl
            dropped m same (Some y) ns = by (test y)
              where
                by : (b : Bool) → filter (λ k. not (nat_eq k n)) ((cond b (m ∷ []) []) ++ ns) ≡ filter (λ k. not (nat_eq k n)) ns
                by false = refl
                by true = ap (λ b. cond (not b) (m ∷ filter (λ k. not (nat_eq k n)) ns) (filter (λ k. not (nat_eq k n)) ns)) (eq-eqb m n same)

            stays : (m : ℕ) → m ≢ n → (o : Option X) (ns : List ℕ) → filter (λ k. not (nat_eq k n)) (number_if test m o ++ ns) ≡ number_if test m o ++ filter (λ k. not (nat_eq k n)) ns
            stays m apart None ns = refl
            stays m apart (Some y) ns = by (test y)
              where
                by : (b : Bool) → filter (λ k. not (nat_eq k n)) ((cond b (m ∷ []) []) ++ ns) ≡ (cond b (m ∷ []) []) ++ filter (λ k. not (nat_eq k n)) ns
                by false = refl
                by true = ap (λ b. cond (not b) (m ∷ filter (λ k. not (nat_eq k n)) ns) (filter (λ k. not (nat_eq k n)) ns)) (ne_eqb m n apart)

-- ---- free numbers

module _ {X : Type 0} where
  -- a block in the number that was freed last
  pub free-popped : (slots : List (Option X)) (free left : List ℕ) (n : ℕ) (x : X) → AreFree slots free → free ≡ left ++ n ∷ [] → AreFree (put_slot slots n x) left
  free-popped slots free left n x are is j below =
      let whole : length free ≡ length left + 1 = ap length is ∙ length-append left (n ∷ []) in
      let same : (k : ℕ) → k < length left → free_at free k ≡ free_at left k = λ k under. ap (λ f. free_at f k) is ∙ get_or_append_left left (n ∷ []) 0 k under in
      let top : free_at free (length left) ≡ n = ap (λ f. free_at f (length left)) is ∙ get_or-append_seam left n [] 0 in
      let this = are j (omega (arith, below, whole)) in
      let last = are (length left) (omega (arith, whole)) in
      let apart : free_at left j ≢ n = λ e. last.once j below (same j below ∙ e ∙ sym top) in
      let within : n ≤ length slots = omega (arith, subst (λ k. k < length slots) top last.below) in
      record {
        below = omega (arith, subst (λ k. k < length slots) (same j below) this.below, length-put slots n x);
        vacant = put-other slots n (free_at left j) x within apart ∙ subst (λ k. slot_at slots k ≡ None) (same j below) this.vacant;
        once = λ k under e. this.once k under (same k (omega (arith, under, below)) ∙ e ∙ sym (same j below));
      }

  -- the number that was freed last has no block
  pub top-free : (slots : List (Option X)) (free left : List ℕ) (n : ℕ) → AreFree slots free → free ≡ left ++ n ∷ [] → (n < length slots) × (slot_at slots n ≡ None)
  top-free slots free left n are is =
      let whole : length free ≡ length left + 1 = ap length is ∙ length-append left (n ∷ []) in
      let top : free_at free (length left) ≡ n = ap (λ f. free_at f (length left)) is ∙ get_or-append_seam left n [] 0 in
      let last = are (length left) (omega (arith, whole)) in
      (subst (λ k. k < length slots) top last.below, subst (λ k. slot_at slots k ≡ None) top last.vacant)

  -- nothing is free
  pub free-none : (slots : List (Option X)) → AreFree slots []
  free-none slots j below = absurd (omega (arith, below))

  -- a block went
  pub free-pushed : (slots : List (Option X)) (free : List ℕ) (n : ℕ) (x : X) → AreFree slots free → slot_at slots n ≡ Some x → AreFree (set slots n None) (free ++ n ∷ [])
  free-pushed slots free n x are there j below =
      elim (cases_lt j (length free)) [
        | inl under ↦
            let same : free_at (free ++ n ∷ []) j ≡ free_at free j = get_or_append_left free (n ∷ []) 0 j under in
            let this = are j under in
            let apart : free_at free j ≢ n = λ e. none_some x (sym this.vacant ∙ ap (slot_at slots) e ∙ there) in
            record {
              below = omega (arith, subst (λ k. k < length slots) (sym same) this.below, length-set slots n None);
              vacant = ap (slot_at (set slots n None)) same ∙ get_or-set_other slots n (free_at free j) None None apart ∙ this.vacant;
              once = λ k less e. this.once k less (sym (get_or_append_left free (n ∷ []) 0 k (omega (arith, less, under))) ∙ e ∙ same);
            }
        | inr past ↦
            let end : j ≡ length free = omega (arith, past, below, length-append free (n ∷ [])) in
            let same : free_at (free ++ n ∷ []) j ≡ n = ap (free_at (free ++ n ∷ [])) end ∙ get_or-append_seam free n [] 0 in
            record {
              below = omega (arith, subst (λ k. k < length slots) (sym same) (below_of slots n x there), length-set slots n None);
              vacant = ap (slot_at (set slots n None)) same ∙ get_or-set_same slots n None None (below_of slots n x there);
              once = λ k less e.
                  let under : k < length free = omega (arith, less, end) in
                  none_some x (sym (are k under).vacant ∙ ap (slot_at slots) (sym (get_or_append_left free (n ∷ []) 0 k under) ∙ e ∙ same) ∙ there);
            }
      ]

  -- ---- counts

  pub count-put : (slots : List (Option X)) (n : ℕ) (x : X) → slot_at slots n ≡ None → count_by is_some (put_slot slots n x) ≡ count_by is_some slots + 1
  count-put slots n x vacant =
      elim (cases_lt n (length slots)) [
        | inl below ↦
            ap (λ b. count_by is_some (cond b (set slots n (Some x)) (slots ++ Some x ∷ []))) (lt-ltb n (length slots) below)
            ∙ omega (arith, sum_by-set (λ (o : Option X). cond (is_some o) 1 0) slots n (Some x) None below, ap {B = ℕ} (λ (o : Option X). cond (is_some o) 1 0) vacant)
        | inr past ↦
            ap (λ b. count_by is_some (cond b (set slots n (Some x)) (slots ++ Some x ∷ []))) (le-ltb n (length slots) past)
            ∙ sum_by-append (λ (o : Option X). cond (is_some o) 1 0) slots (Some x ∷ [])
      ]

  pub count-gone : (slots : List (Option X)) (n : ℕ) (x : X) → slot_at slots n ≡ Some x → count_by is_some (set slots n None) + 1 ≡ count_by is_some slots
  count-gone slots n x there =
      omega (arith, sum_by-set (λ (o : Option X). cond (is_some o) 1 0) slots n None None (below_of slots n x there), ap {B = ℕ} (λ (o : Option X). cond (is_some o) 1 0) there)

  -- ---- what the blocks have

  module _ (ids : X → List ℕ) where
    -- how often a number is among what the blocks have
    sums : (id : ℕ) (slots : List (Option X)) → times id (of_slots ids slots) ≡ sum_by (λ o. times id (of_slot ids o)) slots
    sums id slots = is_sum_by (λ os. times id (of_slots ids os)) (λ o. times id (of_slot ids o)) refl (λ o os. times-append id (of_slot ids o) (of_slots ids os)) slots

    pub times-put : (slots : List (Option X)) (n : ℕ) (x : X) → slot_at slots n ≡ None → (id : ℕ) → times id (of_slots ids (put_slot slots n x)) ≡ times id (ids x) + times id (of_slots ids slots)
    times-put slots n x vacant id =
        elim (cases_lt n (length slots)) [
          | inl below ↦
              ap (λ b. times id (of_slots ids (cond b (set slots n (Some x)) (slots ++ Some x ∷ [])))) (lt-ltb n (length slots) below)
              ∙ omega (arith, sums id slots, sums id (set slots n (Some x)), sum_by-set (λ o. times id (of_slot ids o)) slots n (Some x) None below, ap (λ o. times id (of_slot ids o)) vacant)
          | inr past ↦
              ap (λ b. times id (of_slots ids (cond b (set slots n (Some x)) (slots ++ Some x ∷ [])))) (le-ltb n (length slots) past)
              ∙ omega (arith, sums id slots, sums id (slots ++ Some x ∷ []), sum_by-append (λ o. times id (of_slot ids o)) slots (Some x ∷ []))
        ]

    pub times-gone : (slots : List (Option X)) (n : ℕ) (x : X) → slot_at slots n ≡ Some x → (id : ℕ) → times id (of_slots ids slots) ≡ times id (ids x) + times id (of_slots ids (set slots n None))
    times-gone slots n x there id =
        omega (arith, sums id slots, sums id (set slots n None), sum_by-set (λ o. times id (of_slot ids o)) slots n None None (below_of slots n x there), ap (λ o. times id (of_slot ids o)) there)

-- a number whose block doesn't pass isn't among those that do
pub numbers-lack : (X : Type 0) (test : X → Bool) (slots : List (Option X)) (order : List (Option ℕ)) (n : ℕ) (x : X) → slot_at slots n ≡ Some x → test x ≡ false
    → filter (λ m. not (nat_eq m n)) (numbers_of test slots order) ≡ numbers_of test slots order
numbers-lack X test slots [] n x there fails = refl
numbers-lack X test slots (None ∷ os) n x there fails = numbers-lack X test slots os n x there fails
numbers-lack X test slots (Some m ∷ os) n x there fails =
    elim (cases_eq m n) [
      | inl same ↦
          let none : number_of test slots (Some m) ≡ [] =
          ap (number_if test m) (ap (slot_at slots) same ∙ there) ∙ ap (λ b. cond b (m ∷ []) []) fails in
          ap (λ ns. filter (λ k. not (nat_eq k n)) (ns ++ numbers_of test slots os)) none ∙ numbers-lack X test slots os n x there fails ∙ sym (ap (λ ns. ns ++ numbers_of test slots os) none)
      | inr apart ↦
          filter-append-number m apart (slot_at slots m) (numbers_of test slots os) ∙ ap (λ ns. number_of test slots (Some m) ++ ns) (numbers-lack X test slots os n x there fails)
    ]
  where
    filter-append-number : (m : ℕ) → m ≢ n → (o : Option X) (ns : List ℕ) → filter (λ k. not (nat_eq k n)) (number_if test m o ++ ns) ≡ number_if test m o ++ filter (λ k. not (nat_eq k n)) ns
    filter-append-number m apart None ns = refl
    filter-append-number m apart (Some y) ns = by (test y)
      where
        by : (b : Bool) → filter (λ k. not (nat_eq k n)) ((cond b (m ∷ []) []) ++ ns) ≡ (cond b (m ∷ []) []) ++ filter (λ k. not (nat_eq k n)) ns
        by false = refl
        by true = ap (λ b. cond (not b) (m ∷ filter (λ k. not (nat_eq k n)) ns) (filter (λ k. not (nat_eq k n)) ns)) (ne_eqb m n apart)
