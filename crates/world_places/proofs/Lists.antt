-- Lists: elements by their places, and maps that agree on the members.
use Rattle.std.proofs.Common.{◌≡◌, ℕ, zero, suc, ◌-◌, ◌<◌, ◌≤◌, ◌⊎◌, inl, inr, Bool, true, false, cond, List, [], ◌∷◌, ◌++◌, length, take, set, get_or, map, filter, swap_remove, slice_get, Some, None, refl, sym, ap, ap₂, ◌∙◌, arith}
use Rattle.std.proofs.lemmas.Bool.{cases_eq}
use Rattle.std.proofs.lemmas.List.{length-take, length-set, get_or-set_other, take-set-le}
use Rattle.std.proofs.lemmas.Option.{slice_get_past, slice_get-get_or}
use Rattle.world_model.specs.Members.{In}

-- ---- elements by their places

module _ {X : Type 0} where
  pub get_take : (n : ℕ) (xs : List X) (j : ℕ) → j < n → slice_get (take n xs) j ≡ slice_get xs j
  get_take zero xs j below = absurd (omega arith)
  get_take (suc n) [] j below = refl
  get_take (suc n) (x ∷ xs) zero below = refl
  get_take (suc n) (x ∷ xs) (suc j) below = get_take n xs j (omega arith)

  pub get_set_other : (xs : List X) (i j : ℕ) (y : X) → (j ≡ i → ⊥) → slice_get (set xs i y) j ≡ slice_get xs j
  get_set_other [] i j y apart = refl
  get_set_other (x ∷ xs) zero zero y apart = absurd (apart refl)
  get_set_other (x ∷ xs) zero (suc j) y apart = refl
  get_set_other (x ∷ xs) (suc i) zero y apart = refl
  get_set_other (x ∷ xs) (suc i) (suc j) y apart = get_set_other xs i j y (λ same. apart (ap suc same))

  pub get_set_same : (xs : List X) (i : ℕ) (y : X) → i < length xs → slice_get (set xs i y) i ≡ Some y
  get_set_same [] i y below = absurd (omega arith)
  get_set_same (x ∷ xs) zero y below = refl
  get_set_same (x ∷ xs) (suc i) y below = get_set_same xs i y (omega arith)

  pub get_pushed : (xs : List X) (y : X) → slice_get (xs ++ y ∷ []) (length xs) ≡ Some y
  get_pushed [] y = refl
  get_pushed (x ∷ xs) y = get_pushed xs y

  pub get_pushed_other : (xs : List X) (y : X) (j : ℕ) → (j ≡ length xs → ⊥) → slice_get (xs ++ y ∷ []) j ≡ slice_get xs j
  get_pushed_other [] y zero apart = absurd (apart refl)
  get_pushed_other [] y (suc j) apart = refl
  get_pushed_other (x ∷ xs) y zero apart = refl
  get_pushed_other (x ∷ xs) y (suc j) apart = get_pushed_other xs y j (λ same. apart (ap suc same))

  pub set_twice : (xs : List X) (i : ℕ) (y z : X) → set (set xs i y) i z ≡ set xs i z
  set_twice [] i y z = refl
  set_twice (x ∷ xs) zero y z = refl
  set_twice (x ∷ xs) (suc i) y z = ap (λ (us : List X). x ∷ us) (set_twice xs i y z)

  -- ---- after the last element has taken the place of one that leaves

  pub length_swap : (xs : List X) (k : ℕ) (d : X) → length (swap_remove xs k d) ≡ length xs - 1
  length_swap xs k d =
      let cut = length-take (length xs - 1) (set xs k (get_or xs (length xs - 1) d)) in
      let same = length-set xs k (get_or xs (length xs - 1) d) in
      omega arith

  pub swap_other : (xs : List X) (k j : ℕ) (d : X) → (j ≡ k → ⊥) → j < length xs - 1 → slice_get (swap_remove xs k d) j ≡ slice_get xs j
  swap_other xs k j d apart below =
      get_take (length xs - 1) (set xs k (get_or xs (length xs - 1) d)) j below ∙ get_set_other xs k j (get_or xs (length xs - 1) d) apart

  pub swap_past : (xs : List X) (k j : ℕ) (d : X) → length xs - 1 ≤ j → slice_get (swap_remove xs k d) j ≡ None
  swap_past xs k j d past = let same = length_swap xs k d in slice_get_past (swap_remove xs k d) j (omega arith)

  pub swap_last : (xs : List X) (k : ℕ) (d : X) → k < length xs - 1 → slice_get (swap_remove xs k d) k ≡ slice_get xs (length xs - 1)
  swap_last xs k d below =
      get_take (length xs - 1) (set xs k (get_or xs (length xs - 1) d)) k below
      ∙ get_set_same xs k (get_or xs (length xs - 1) d) (omega arith)
      ∙ sym (slice_get-get_or xs (length xs - 1) d (omega arith))

  -- what the element that leaves was makes no difference
  pub swap_any : (xs : List X) (k : ℕ) (y d : X) → swap_remove (set xs k y) k d ≡ swap_remove xs k d
  swap_any xs k y d =
      ap (λ n. take (n - 1) (set (set xs k y) k (get_or (set xs k y) (n - 1) d))) (length-set xs k y) ∙ by (cases_eq (length xs - 1) k)
    where
      last : ℕ
      last = length xs - 1

      by : (last ≡ k) ⊎ (last ≡ k → ⊥) → take last (set (set xs k y) k (get_or (set xs k y) last d)) ≡ take last (set xs k (get_or xs last d))
      by (inl same) =
          take-set-le last (set xs k y) k (get_or (set xs k y) last d) (omega arith) ∙ take-set-le last xs k y (omega arith)
          ∙ sym (take-set-le last xs k (get_or xs last d) (omega arith))
      by (inr apart) =
          ap (λ z. take last (set (set xs k y) k z)) (get_or-set_other xs k last y d apart) ∙ ap (take last) (set_twice xs k y (get_or xs last d))

-- ---- maps that agree on the members

module _ {X Y : Type 0} where
  pub map_same : (f g : X → Y) (xs : List X) → ((x : X) → In x xs → f x ≡ g x) → map f xs ≡ map g xs
  map_same f g [] same = refl
  map_same f g (x ∷ xs) same = ap₂ (λ y ys. y ∷ ys) (same x (inl refl)) (map_same f g xs (λ z i. same z (inr i)))

pub map_twice : {X Y Z : Type 0} (f : Y → Z) (g : X → Y) (xs : List X) → map f (map g xs) ≡ map (λ x. f (g x)) xs
map_twice f g [] = refl
map_twice f g (x ∷ xs) = ap (λ ys. f (g x) ∷ ys) (map_twice f g xs)

module _ {X Y Z : Type 0} (f : X → Y) (keeps : Y → Bool) (seen : Y → Z) (g : X → Z) (stays : Z → Bool) where
  pub filter_same : (xs : List X) → ((x : X) → In x xs → (keeps (f x) ≡ stays (g x)) × (seen (f x) ≡ g x)) → map seen (filter keeps (map f xs)) ≡ filter stays (map g xs)
  filter_same [] same = refl
  filter_same (x ∷ xs) same = step (keeps (f x)) (stays (g x)) (same x (inl refl)).0 (same x (inl refl)).1 (filter_same xs (λ z i. same z (inr i)))
    where
      step : (b c : Bool) → b ≡ c → seen (f x) ≡ g x → map seen (filter keeps (map f xs)) ≡ filter stays (map g xs)
          → map seen (cond b (f x ∷ filter keeps (map f xs)) (filter keeps (map f xs))) ≡ cond c (g x ∷ filter stays (map g xs)) (filter stays (map g xs))
      step true true e is rest = ap₂ (λ z zs. z ∷ zs) is rest
      step false false e is rest = rest
      step true false e is rest = absurd (cc)
      step false true e is rest = absurd (cc)
