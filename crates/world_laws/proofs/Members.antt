-- Members of lists, searches and counts.
use Rattle.std.proofs.Common.{◌≡◌, ℕ, ◌+◌, ◌≤◌, ◌⊎◌, inl, inr, suc, Bool, true, false, cond, List, [], ◌∷◌, ◌++◌, map, filter, length, find, Option, Some, None, option_map, refl, sym, ap, ap₂, ◌∙◌, subst, arith}
use Rattle.world_model.specs.Members.{In, one_if, tally}

module _ {X : Type 0} where
  -- ---- members

  pub in_append : (x : X) (xs ys : List X) → In x (xs ++ ys) → In x xs ⊎ In x ys
  in_append x [] ys i = inr i
  in_append x (y ∷ xs) ys (inl e) = inl (inl e)
  in_append x (y ∷ xs) ys (inr i) = step (in_append x xs ys i)
    where
      step : In x xs ⊎ In x ys → ((x ≡ y) ⊎ In x xs) ⊎ In x ys
      step (inl j) = inl (inr j)
      step (inr j) = inr j

  pub in_left : (x : X) (xs ys : List X) → In x xs → In x (xs ++ ys)
  in_left x (y ∷ xs) ys (inl e) = inl e
  in_left x (y ∷ xs) ys (inr i) = inr (in_left x xs ys i)
  in_left x [] ys i = absurd i

  pub in_right : (x : X) (xs ys : List X) → In x ys → In x (xs ++ ys)
  in_right x [] ys i = i
  in_right x (y ∷ xs) ys i = inr (in_right x xs ys i)

  pub in_filter : (p : X → Bool) (x : X) (xs : List X) → In x (filter p xs) → In x xs
  in_filter p x [] i = i
  in_filter p x (y ∷ ys) i = step (p y) i (in_filter p x ys)
    where
      step : (b : Bool) → In x (cond b (y ∷ filter p ys) (filter p ys)) → (In x (filter p ys) → In x ys) → (x ≡ y) ⊎ In x ys
      step true (inl e) rest = inl e
      step true (inr j) rest = inr (rest j)
      step false j rest = inr (rest j)

  pub filter_passes : (p : X → Bool) (x : X) (xs : List X) → In x (filter p xs) → p x ≡ true
  filter_passes p x [] i = absurd i
  filter_passes p x (y ∷ ys) i = step (p y) refl i (filter_passes p x ys)
    where
      step : (b : Bool) → p y ≡ b → In x (cond b (y ∷ filter p ys) (filter p ys)) → (In x (filter p ys) → p x ≡ true) → p x ≡ true
      step true e (inl same) rest = ap p same ∙ e
      step true e (inr j) rest = rest j
      step false e j rest = rest j

  pub filter_swap : (p q : X → Bool) (xs : List X) → filter p (filter q xs) ≡ filter q (filter p xs)
  filter_swap p q [] = refl
  filter_swap p q (x ∷ xs) = step (p x) (q x) refl refl (filter_swap p q xs)
    where
      step : (b c : Bool) → p x ≡ b → q x ≡ c → filter p (filter q xs) ≡ filter q (filter p xs)
          → filter p (cond c (x ∷ filter q xs) (filter q xs)) ≡ filter q (cond b (x ∷ filter p xs) (filter p xs))
      step true true e f rest = rw (e, f) (ap (λ ys. x ∷ ys) rest)
      step true false e f rest = rw f rest
      step false true e f rest = rw e rest
      step false false e f rest = rest

  pub length_one_more : (xs : List X) (x : X) → length (xs ++ x ∷ []) ≡ suc (length xs)
  length_one_more [] x = refl
  length_one_more (y ∷ ys) x = ap suc (length_one_more ys x)

  -- ---- searches and counts

  pub find_in : (p : X → Bool) (x : X) (xs : List X) → find p xs ≡ Some x → In x xs
  find_in p x [] e = absurd (cc)
  find_in p x (y ∷ ys) e = step (p y) e (find_in p x ys)
    where
      step : (b : Bool) → cond b (Some y) (find p ys) ≡ Some x → (find p ys ≡ Some x → In x ys) → In x (y ∷ ys)
      step true is rest = let same : y ≡ x = cc in inl (sym same)
      step false is rest = inr (rest is)

  pub find_passes : (p : X → Bool) (x : X) (xs : List X) → find p xs ≡ Some x → p x ≡ true
  find_passes p x [] e = absurd (cc)
  find_passes p x (y ∷ ys) e = step (p y) refl e (find_passes p x ys)
    where
      step : (b : Bool) → p y ≡ b → cond b (Some y) (find p ys) ≡ Some x → (find p ys ≡ Some x → p x ≡ true) → p x ≡ true
      step true is e rest = let same : y ≡ x = cc in subst (λ u. p u ≡ true) same is
      step false is e rest = rest e

  pub none_found : (p : X → Bool) (xs : List X) → tally p xs ≡ 0 → find p xs ≡ None
  none_found p [] e = refl
  none_found p (x ∷ xs) e = step (p x) e (none_found p xs)
    where
      step : (b : Bool) → one_if b + tally p xs ≡ 0 → (tally p xs ≡ 0 → find p xs ≡ None) → cond b (Some x) (find p xs) ≡ None
      step true e rest = absurd (omega arith)
      step false e rest = rest (omega arith)

  pub found_counts : (p : X → Bool) (x : X) (xs : List X) → find p xs ≡ Some x → 1 ≤ tally p xs
  found_counts p x [] e = absurd (cc)
  found_counts p x (y ∷ ys) e = step (p y) e (found_counts p x ys)
    where
      step : (b : Bool) → cond b (Some y) (find p ys) ≡ Some x → (find p ys ≡ Some x → 1 ≤ tally p ys) → 1 ≤ one_if b + tally p ys
      step true e rest = omega arith
      step false e rest = let h = rest e in omega arith

  pub member_counts : (p : X → Bool) (x : X) (xs : List X) → In x xs → p x ≡ true → 1 ≤ tally p xs
  member_counts p x [] i h = absurd i
  member_counts p x (y ∷ ys) (inl e) h = subst (λ b. 1 ≤ one_if b + tally p ys) (sym h ∙ ap p e) (omega arith)
  member_counts p x (y ∷ ys) (inr i) h = let rest = member_counts p x ys i h in omega arith

  pub tally_append : (p : X → Bool) (xs ys : List X) → tally p (xs ++ ys) ≡ tally p xs + tally p ys
  tally_append p [] ys = omega arith
  tally_append p (x ∷ xs) ys = let rest = tally_append p xs ys in omega arith

  -- one test is weaker than another
  pub tally_more : (p q : X → Bool) → ((x : X) → p x ≡ true → q x ≡ true) → (xs : List X) → tally p xs ≤ tally q xs
  tally_more p q weaker [] = omega arith
  tally_more p q weaker (x ∷ xs) = step (p x) (q x) (weaker x) (tally_more p q weaker xs)
    where
      step : (b c : Bool) → (b ≡ true → c ≡ true) → tally p xs ≤ tally q xs → one_if b + tally p xs ≤ one_if c + tally q xs
      step true true w rest = omega arith
      step true false w rest = let no_way : false ≡ true = w refl in absurd (cc)
      step false true w rest = omega arith
      step false false w rest = omega arith

  -- where one at most passes, what a search finds is the only one
  pub only_one : (p : X → Bool) (x y : X) (xs : List X) → In x xs → p x ≡ true → tally p xs ≤ 1 → find p xs ≡ Some y → x ≡ y
  only_one p x y [] i h few is = absurd i
  only_one p x y (z ∷ zs) i h few is = step (p z) refl i few is (only_one p x y zs)
    where
      step : (b : Bool) → p z ≡ b → In x (z ∷ zs) → one_if b + tally p zs ≤ 1 → cond b (Some z) (find p zs) ≡ Some y
          → (In x zs → p x ≡ true → tally p zs ≤ 1 → find p zs ≡ Some y → x ≡ y) → x ≡ y
      step true e (inl f) few is rest = let same : z ≡ y = cc in f ∙ same
      step true e (inr j) few is rest = let c = member_counts p x zs j h in absurd (omega arith)
      step false e (inl f) few is rest = let no_way : true ≡ false = sym h ∙ (ap p f ∙ e) in absurd (cc)
      step false e (inr j) few is rest = rest j h (omega arith) is

module _ {X Y : Type 0} where
  pub in_map : (f : X → Y) (y : Y) (xs : List X) → In y (map f xs) → (x : X) × In x xs × (y ≡ f x)
  in_map f y [] i = absurd i
  in_map f y (x ∷ xs) (inl e) = (x, inl refl, e)
  in_map f y (x ∷ xs) (inr i) = let (z, j, e) = in_map f y xs i in (z, inr j, e)

  pub map_in : (f : X → Y) (x : X) (xs : List X) → In x xs → In (f x) (map f xs)
  map_in f x [] i = i
  map_in f x (y ∷ xs) (inl e) = inl (ap f e)
  map_in f x (y ∷ xs) (inr i) = inr (map_in f x xs i)

  pub map_append : (f : X → Y) (xs ys : List X) → map f (xs ++ ys) ≡ map f xs ++ map f ys
  map_append f [] ys = refl
  map_append f (x ∷ xs) ys = ap (λ zs. f x ∷ zs) (map_append f xs ys)

  pub length_map : (f : X → Y) (xs : List X) → length (map f xs) ≡ length xs
  length_map f [] = refl
  length_map f (x ∷ xs) = ap suc (length_map f xs)

  pub map_filter : (f : X → Y) (p : Y → Bool) (xs : List X) → map f (filter (λ x. p (f x)) xs) ≡ filter p (map f xs)
  map_filter f p [] = refl
  map_filter f p (x ∷ xs) = step (p (f x)) (map_filter f p xs)
    where
      step : (b : Bool) → map f (filter (λ z. p (f z)) xs) ≡ filter p (map f xs)
          → map f (cond b (x ∷ filter (λ z. p (f z)) xs) (filter (λ z. p (f z)) xs)) ≡ cond b (f x ∷ filter p (map f xs)) (filter p (map f xs))
      step true rest = ap (λ ys. f x ∷ ys) rest
      step false rest = rest

-- a map that keeps what a test asks
module _ {X : Type 0} (p : X → Bool) (f : X → X) (same : (x : X) → p (f x) ≡ p x) where
  pub find_map : (xs : List X) → find p (map f xs) ≡ option_map f (find p xs)
  find_map [] = refl
  find_map (x ∷ xs) = ap (λ b. cond b (Some (f x)) (find p (map f xs))) (same x) ∙ step (p x) (find_map xs)
    where
      step : (b : Bool) → find p (map f xs) ≡ option_map f (find p xs) → cond b (Some (f x)) (find p (map f xs)) ≡ option_map f (cond b (Some x) (find p xs))
      step true rest = refl
      step false rest = rest

  pub tally_map : (xs : List X) → tally p (map f xs) ≡ tally p xs
  tally_map [] = refl
  tally_map (x ∷ xs) = ap₂ (λ b n. one_if b + n) (same x) (tally_map xs)
