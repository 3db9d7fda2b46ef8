-- Lists that are read by `slice_get`, after a write, and the items after a row.
use Rattle.std.proofs.Common.{◌≡◌, ◌≢◌, ℕ, zero, suc, ◌+◌, ◌<◌, ◌⊎◌, inl, inr, ⊎_elim, List, [], ◌∷◌, ◌++◌, length, map, set, get_or, replicate, slice_get, take, drop, drop-cons, take-append-drop, Option, None, Some, All, Result, Ok, Err, OnOk, OnErr, refl, sym, ◌∙◌, ap, subst, add-one, zero-add, arith}
use Rattle.std.proofs.lemmas.Option.{get_or_from_slice_get, slice_get_within, slice_get-get_or}
use Rattle.std.specs.Option.{option_map, option_map_or}
use Rattle.phase_core.specs.Work.{Work, after_row, after_rows, run_to_end}
use Rattle.phase_core.specs.Core.{with_row_run, rows_of, ran_of}

module _ {A : Type 0} where
  pub get-set_same : (xs : List A) (i : ℕ) (a : A) → i < length xs → slice_get (set xs i a) i ≡ Some a
  get-set_same [] i a h = absurd (omega arith)
  get-set_same (x ∷ xs) zero a h = refl
  get-set_same (x ∷ xs) (suc i) a h = get-set_same xs i a (omega arith)

  pub get-set_other : (xs : List A) (i j : ℕ) (a : A) → j ≢ i → slice_get (set xs i a) j ≡ slice_get xs j
  get-set_other [] i j a n = refl
  get-set_other (x ∷ xs) zero zero a n = absurd (n refl)
  get-set_other (x ∷ xs) zero (suc j) a n = refl
  get-set_other (x ∷ xs) (suc i) zero a n = refl
  get-set_other (x ∷ xs) (suc i) (suc j) a n = get-set_other xs i j a (λ e. n (ap suc e))

  pub some_same : (x y : A) → Some x ≡ Some y → x ≡ y
  some_same x y e = cc

  -- what is found after a write was written or was there
  pub get-set_cases : (xs : List A) (i j : ℕ) (a b : A) → slice_get (set xs i a) j ≡ Some b → ((j ≡ i) × (a ≡ b)) ⊎ ((j ≢ i) × (slice_get xs j ≡ Some b))
  get-set_cases [] i j a b e = absurd (cc)
  get-set_cases (x ∷ xs) zero zero a b e = inl (refl, some_same a b e)
  get-set_cases (x ∷ xs) zero (suc j) a b e = inr ((λ h. omega arith), e)
  get-set_cases (x ∷ xs) (suc i) zero a b e = inr ((λ h. omega arith), e)
  get-set_cases (x ∷ xs) (suc i) (suc j) a b e =
      ⊎_elim (λ t. inl (ap suc t.0, t.1)) (λ t. let n = t.0 in inr ((λ h. n (omega arith)), t.1)) (get-set_cases xs i j a b e)

  pub get-replicate : (n i : ℕ) (a b : A) → slice_get (replicate n a) i ≡ Some b → a ≡ b
  get-replicate zero i a b e = absurd (cc)
  get-replicate (suc n) zero a b e = some_same a b e
  get-replicate (suc n) (suc i) a b e = get-replicate n i a b e

  pub get-all : (P : A → Type 0) (xs : List A) (i : ℕ) (a : A) → All P xs → slice_get xs i ≡ Some a → P a
  get-all P xs i a all e = subst P (get_or_from_slice_get xs i a a e) (all i a (slice_get_within xs i a e))

  -- a list is its first i elements, element i, and the others
  pub split_at : (xs : List A) (i : ℕ) (x : A) → i < length xs → xs ≡ take i xs ++ get_or xs i x ∷ drop (suc i) xs
  split_at xs i x h = sym (take-append-drop i xs) ∙ ap (λ ys. take i xs ++ ys) (drop-cons xs i x h)

  -- lists that are found equal at each place are equal
  pub same_lookups : (xs ys : List A) → ((k : ℕ) → slice_get xs k ≡ slice_get ys k) → xs ≡ ys
  same_lookups [] [] same = refl
  same_lookups [] (y ∷ ys) same = let e = same 0 in absurd (cc)
  same_lookups (x ∷ xs) [] same = let e = same 0 in absurd (cc)
  same_lookups (x ∷ xs) (y ∷ ys) same = λ i. some_same x y (same 0) i ∷ same_lookups xs ys (λ k. same (suc k)) i

module _ {C : Type 0} where
  pub length-with_row_run : (xs : List (Work C)) (k : ℕ) → length (with_row_run xs k) ≡ length xs
  length-with_row_run [] k = refl
  length-with_row_run (x ∷ xs) zero = refl
  length-with_row_run (x ∷ xs) (suc k) = ap suc (length-with_row_run xs k)

  pub get-with_row_run_same : (xs : List (Work C)) (k : ℕ) → slice_get (with_row_run xs k) k ≡ option_map after_row (slice_get xs k)
  get-with_row_run_same [] k = refl
  get-with_row_run_same (x ∷ xs) zero = refl
  get-with_row_run_same (x ∷ xs) (suc k) = get-with_row_run_same xs k

  pub get-with_row_run_other : (xs : List (Work C)) (k j : ℕ) → j ≢ k → slice_get (with_row_run xs k) j ≡ slice_get xs j
  get-with_row_run_other [] k j n = refl
  get-with_row_run_other (x ∷ xs) zero zero n = absurd (n refl)
  get-with_row_run_other (x ∷ xs) zero (suc j) n = refl
  get-with_row_run_other (x ∷ xs) (suc k) zero n = refl
  get-with_row_run_other (x ∷ xs) (suc k) (suc j) n = get-with_row_run_other xs k j (λ e. n (ap suc e))

  pub rows-after_rows : (r : ℕ) (w : Work C) → (after_rows r w).rows ≡ w.rows
  rows-after_rows zero w = refl
  rows-after_rows (suc r) w = rows-after_rows r w

  pub ran-after_rows : (r : ℕ) (w : Work C) → (after_rows r w).ran ≡ w.ran + r
  ran-after_rows zero w = omega arith
  ran-after_rows (suc r) w = let e = ran-after_rows r w in omega arith

  rows-run : (o p : Option (Work C)) (r : ℕ) → o ≡ option_map (after_rows r) p → option_map_or (λ w. w.rows) o 0 ≡ option_map_or (λ w. w.rows) p 0
  rows-run o None r e = rw e refl
  rows-run o (Some w) r e = rw e (rows-after_rows r w)

  -- rows that have run leave the number of rows
  pub rows_of-run : (xs ys : List (Work C)) (k r : ℕ) → slice_get xs k ≡ option_map (after_rows r) (slice_get ys k) → rows_of xs k ≡ rows_of ys k
  rows_of-run xs ys k r e = rows-run (slice_get xs k) (slice_get ys k) r e

  ran-run : (o : Option (Work C)) (x : Work C) (r : ℕ) → o ≡ option_map (after_rows r) (Some x) → x.ran ≡ 0 → option_map_or (λ w. w.ran) o 0 ≡ r
  ran-run o x r e none = rw e (ran-after_rows r x ∙ ap (λ n. n + r) none ∙ zero-add r)

  -- as many rows have run as were run of an item of which none had
  pub ran_of-run : (xs ys : List (Work C)) (k r : ℕ) → slice_get xs k ≡ option_map (after_rows r) (slice_get ys k) → k < length ys → All (λ w. w.ran ≡ 0) ys → ran_of xs k ≡ r
  ran_of-run xs (y ∷ ys) k r e h none =
      let x : Work C = get_or (y ∷ ys) k y in
      ran-run (slice_get xs k) x r (e ∙ ap (option_map (after_rows r)) (slice_get-get_or (y ∷ ys) k y h)) (none k y h)
  ran_of-run xs [] k r e h none = absurd (omega arith)

  -- no row
  pub option_map-none_run : (o : Option (Work C)) → o ≡ option_map (after_rows 0) o
  option_map-none_run None = refl
  option_map-none_run (Some w) = refl

  -- one row more
  pub option_map-after_rows : (r : ℕ) (o : Option (Work C)) → option_map after_row (option_map (after_rows r) o) ≡ option_map (after_rows (r + 1)) o
  option_map-after_rows r None = refl
  option_map-after_rows r (Some w) = ap (λ n. Some (after_rows n w)) (sym (add-one r))

  -- an item that has run as many rows as it has is run to its end
  pub option_map-run_to_end : (o : Option (Work C)) → option_map (after_rows (option_map_or (λ w. w.rows) o 0)) o ≡ option_map run_to_end o
  option_map-run_to_end None = refl
  option_map-run_to_end (Some w) = refl

module _ {I C : Type 0} (work : I → Work C) where
  pub rows_of-map : (items : List I) (k : ℕ) (d : I) → k < length items → rows_of (map work items) k ≡ (work (get_or items k d)).rows
  rows_of-map [] k d h = absurd (omega arith)
  rows_of-map (x ∷ xs) zero d h = refl
  rows_of-map (x ∷ xs) (suc k) d h = rows_of-map xs k d (omega arith)

  pub ran_of-map : (items : List I) (k : ℕ) (d : I) → k < length items → ran_of (map work items) k ≡ (work (get_or items k d)).ran
  ran_of-map [] k d h = absurd (omega arith)
  ran_of-map (x ∷ xs) zero d h = refl
  ran_of-map (x ∷ xs) (suc k) d h = ran_of-map xs k d (omega arith)

  -- item k replaced by what it is after its next row
  pub map-set_row : (items : List I) (k : ℕ) (y d : I) → k < length items → work y ≡ after_row (work (get_or items k d)) → map work (set items k y) ≡ with_row_run (map work items) k
  map-set_row [] k y d h e = refl
  map-set_row (x ∷ xs) zero y d h e = λ i. e i ∷ map work xs
  map-set_row (x ∷ xs) (suc k) y d h e = λ i. work x ∷ map-set_row xs k y d (omega arith) e i

-- what follows on one variant
pub on_ok : {A E : Type 0} (r : Result A E) {P Q : Type 0} → (P → Q) → OnOk r P → OnOk r Q
on_ok (Ok x) f h = f h
on_ok (Err e) f h = tt

pub on_err : {A E : Type 0} (r : Result A E) {P Q : Type 0} → (P → Q) → OnErr r P → OnErr r Q
on_err (Ok x) f h = tt
on_err (Err e) f h = f h
