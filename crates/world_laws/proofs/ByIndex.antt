-- The rows by index are all rows in another order.
use Rattle.std.proofs.Common.{◌≡◌, ◌≢◌, ℕ, zero, suc, ◌+◌, ◌<◌, ◌≤◌, inl, inr, nat_eq, nat_lt, Bool, true, false, cond, List, [], ◌∷◌, length, find, Option, Some, None, refl, sym, ap, ap₂, ◌∙◌, subst, arith, eqb-true, eq-eqb}
use Rattle.std.specs.List.{filter_map, cons_option, range_with_len}
use Rattle.world_model.specs.Members.{In, one_if, tally}
use Rattle.world_model.specs.World.{World}
use Rattle.world_model.specs.Found.{Found, placed, has_index, found_by_index}
use Rattle.world_model.specs.Lawful.{IsLawful}
use Rattle.world_laws.proofs.Perms.{Perm, keep, swap, follow, perm_is, perm_find}
use Rattle.world_laws.proofs.Members.{none_found}
use Rattle.world_laws.proofs.Meanings.{index_made}

abbrev is_number : ℕ → ℕ → Bool
is_number j i = nat_eq i j

-- ---- a range has each of its numbers once

range_before : (j a n : ℕ) → j < a → tally (is_number j) (range_with_len a n) ≡ 0
range_before j a zero less = refl
range_before j a (suc n) less = step (nat_eq a j) refl (range_before j (a + 1) n (omega arith))
  where
    step : (b : Bool) → nat_eq a j ≡ b → tally (is_number j) (range_with_len (a + 1) n) ≡ 0 → one_if b + tally (is_number j) (range_with_len (a + 1) n) ≡ 0
    step true e rest = let s = eqb-true a j e in absurd (omega arith)
    step false e rest = omega arith

range_once : (j a n : ℕ) → a ≤ j → j < a + n → tally (is_number j) (range_with_len a n) ≡ 1
range_once j a zero from within = absurd (omega arith)
range_once j a (suc n) from within = step (nat_eq a j) refl (λ more. range_once j (a + 1) n more (omega arith)) (λ same. range_before j (a + 1) n (omega arith))
  where
    step : (b : Bool) → nat_eq a j ≡ b → (a + 1 ≤ j → tally (is_number j) (range_with_len (a + 1) n) ≡ 1) → (a ≡ j → tally (is_number j) (range_with_len (a + 1) n) ≡ 0)
        → one_if b + tally (is_number j) (range_with_len (a + 1) n) ≡ 1
    step true e more same = let none = same (eqb-true a j e) in omega arith
    step false e more same = let d = differ in let one = more (omega arith) in omega arith
      where
        differ : a ≢ j
        differ is = let no_way : true ≡ false = sym (eq-eqb a j is) ∙ e in cc

-- ---- a search by index, over all indexes

module _ {X : Type 0} (j : ℕ) (x : X) (f : ℕ → Option X) where
  with_one : ℕ → Option X
  with_one i = cond (nat_eq i j) (Some x) (f i)

  absent : (is : List ℕ) → tally (is_number j) is ≡ 0 → filter_map (λ i. cond (nat_eq i j) (Some x) (f i)) is ≡ filter_map f is
  absent [] none = refl
  absent (i ∷ is) none = step (nat_eq i j) none (absent is)
    where
      step : (b : Bool) → one_if b + tally (is_number j) is ≡ 0 → (tally (is_number j) is ≡ 0 → filter_map (λ i. cond (nat_eq i j) (Some x) (f i)) is ≡ filter_map f is)
          → cons_option (cond b (Some x) (f i)) (filter_map (λ i. cond (nat_eq i j) (Some x) (f i)) is) ≡ cons_option (f i) (filter_map f is)
      step true none rest = absurd (omega arith)
      step false none rest = ap (cons_option (f i)) (rest (omega arith))

  pub one_more : (is : List ℕ) → f j ≡ None → tally (is_number j) is ≡ 1 → Perm X (filter_map (λ i. cond (nat_eq i j) (Some x) (f i)) is) (x ∷ filter_map f is)
  one_more [] none once = absurd (omega arith)
  one_more (i ∷ is) none once = step (nat_eq i j) refl once (one_more is none)
    where
      behind : (o : Option X) (xs ys : List X) → Perm X xs (x ∷ ys) → Perm X (cons_option o xs) (x ∷ cons_option o ys)
      behind None xs ys p = p
      behind (Some y) xs ys p = follow (keep y p) (swap y x ys)

      step : (b : Bool) → nat_eq i j ≡ b → one_if b + tally (is_number j) is ≡ 1 → (tally (is_number j) is ≡ 1 → Perm X (filter_map (λ i. cond (nat_eq i j) (Some x) (f i)) is) (x ∷ filter_map f is))
          → Perm X (cons_option (cond b (Some x) (f i)) (filter_map (λ i. cond (nat_eq i j) (Some x) (f i)) is)) (x ∷ cons_option (f i) (filter_map f is))
      step true e once rest =
          perm_is (ap (λ xs. x ∷ xs) (absent is (omega arith) ∙ ap (λ o. cons_option o (filter_map f is)) (sym (ap f (eqb-true i j e) ∙ none))))
      step false e once rest = behind (f i) _ _ (rest (omega arith))

nothing : {X : Type 0} (is : List ℕ) → filter_map (λ i. let none : Option X = None in none) is ≡ []
nothing [] = refl
nothing (i ∷ is) = nothing is

pub by_index_perm : (m : ℕ) (xs : List Found) → ((i : ℕ) → tally (has_index i) xs ≤ 1) → ((x : Found) → In x xs → x.row.entity.index < m)
    → Perm Found (filter_map (λ i. find (has_index i) xs) (range_with_len 0 m)) xs
by_index_perm m [] few made = perm_is (nothing (range_with_len 0 m))
by_index_perm m (x ∷ xs) few made =
    follow (one_more x.row.entity.index x (λ i. find (has_index i) xs) (range_with_len 0 m) (none_found (has_index x.row.entity.index) xs none) (range_once x.row.entity.index 0 m (omega arith) (within (made x (inl refl)))))
    (keep x (by_index_perm m xs (λ i. (let f = few i in omega arith)) (λ y i. made y (inr i))))
  where
    within : x.row.entity.index < m → x.row.entity.index < 0 + m
    within l = omega arith

    none : tally (has_index x.row.entity.index) xs ≡ 0
    none = let f = few x.row.entity.index in counted (subst (λ b. one_if b + tally (has_index x.row.entity.index) xs ≤ 1) (eq-eqb x.row.entity.index x.row.entity.index refl) f)
      where
        counted : 1 + tally (has_index x.row.entity.index) xs ≤ 1 → tally (has_index x.row.entity.index) xs ≡ 0
        counted c = omega arith

pub found_by_index_perm : (capacity : List ℕ → ℕ) (w : World) → IsLawful capacity w → Perm Found (found_by_index w) (placed w.blocks)
found_by_index_perm capacity w l = by_index_perm w.made (placed w.blocks) few (index_made capacity w l)
  where
    few : (i : ℕ) → tally (has_index i) (placed w.blocks) ≤ 1
    few i = let s = l.sound i in let m = most (nat_lt i w.made) in omega arith
      where
        most : (b : Bool) → one_if b ≤ 1
        most true = omega arith
        most false = omega arith

-- ---- rows in the order of their indexes

-- the first of these rows has this index, and each further one the next
abbrev pub AreFrom : ℕ → List Found → Type 0
AreFrom a [] = Unit {0}
AreFrom a (x ∷ xs) = (x.row.entity.index ≡ a) × AreFrom (a + 1) xs

in_order : (a : ℕ) (xs : List Found) → AreFrom a xs → filter_map (λ i. find (has_index i) xs) (range_with_len a (length xs)) ≡ xs
in_order a [] from = refl
in_order a (x ∷ xs) from =
    ap (λ b. cons_option (cond b (Some x) (find (has_index a) xs)) (filter_map (λ i. find (has_index i) (x ∷ xs)) (range_with_len (a + 1) (length xs))))
    (eq-eqb a x.row.entity.index (sym from.0))
    ∙ ap (λ ys. x ∷ ys)
    (absent x.row.entity.index x (λ i. find (has_index i) xs) (range_with_len (a + 1) (length xs)) (range_before x.row.entity.index (a + 1) (length xs) (less from.0))
    ∙ in_order (a + 1) xs from.1)
  where
    less : x.row.entity.index ≡ a → x.row.entity.index < a + 1
    less is = omega arith

filter_map_same : {X : Type 0} (f g : ℕ → Option X) (is : List ℕ) → ((i : ℕ) → f i ≡ g i) → filter_map f is ≡ filter_map g is
filter_map_same f g [] same = refl
filter_map_same f g (i ∷ is) same = ap₂ (λ o xs. cons_option o xs) (same i) (filter_map_same f g is same)

-- rows with the indexes 0, 1, .. are the rows by index of a lawful world that has them in another order
pub found_by_index_is : (capacity : List ℕ → ℕ) (w : World) → IsLawful capacity w → (xs : List Found) → Perm Found (placed w.blocks) xs → AreFrom 0 xs → w.made ≡ length xs
    → found_by_index w ≡ xs
found_by_index_is capacity w l xs rows from made =
    filter_map_same (λ i. find (has_index i) (placed w.blocks)) (λ i. find (has_index i) xs) (range_with_len 0 w.made) (λ i. perm_find (has_index i) rows (few i))
    ∙ (ap (λ n. filter_map (λ i. find (has_index i) xs) (range_with_len 0 n)) made ∙ in_order 0 xs from)
  where
    few : (i : ℕ) → tally (has_index i) (placed w.blocks) ≤ 1
    few i = let s = l.sound i in let m = most (nat_lt i w.made) in omega arith
      where
        most : (b : Bool) → one_if b ≤ 1
        most true = omega arith
        most false = omega arith
