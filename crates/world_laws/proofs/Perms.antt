-- Lists in another order.
use Rattle.std.proofs.Common.{◌≡◌, ℕ, ◌+◌, ◌≤◌, ◌⊎◌, inl, inr, Bool, true, false, cond, List, [], ◌∷◌, ◌++◌, map, length, find, Option, Some, None, refl, sym, ap, ◌∙◌, subst, arith}
use Rattle.world_model.specs.Members.{In, one_if, tally}

-- one list is the other in another order
pub data Perm (X : Type 0) : List X → List X → Type 0 where
  empty : Perm X [] []
  keep : {xs ys : List X} (x : X) → Perm X xs ys → Perm X (x ∷ xs) (x ∷ ys)
  swap : (x y : X) (zs : List X) → Perm X (x ∷ y ∷ zs) (y ∷ x ∷ zs)
  follow : {xs ys zs : List X} → Perm X xs ys → Perm X ys zs → Perm X xs zs

module _ {X : Type 0} where
  pub perm_self : (xs : List X) → Perm X xs xs
  perm_self [] = empty
  perm_self (x ∷ xs) = keep x (perm_self xs)

  pub perm_is : {xs ys : List X} → xs ≡ ys → Perm X xs ys
  perm_is {xs} e = subst (λ zs. Perm X xs zs) e (perm_self xs)

  pub perm_back : {xs ys : List X} → Perm X xs ys → Perm X ys xs
  perm_back empty = empty
  perm_back (keep x p) = keep x (perm_back p)
  perm_back (swap x y zs) = swap y x zs
  perm_back (follow p q) = follow (perm_back q) (perm_back p)

  pub perm_middle : (xs : List X) (x : X) (ys : List X) → Perm X (xs ++ (x ∷ ys)) (x ∷ (xs ++ ys))
  perm_middle [] x ys = perm_self (x ∷ ys)
  perm_middle (z ∷ zs) x ys = follow (keep z (perm_middle zs x ys)) (swap z x (zs ++ ys))

  pub perm_before : (zs : List X) {xs ys : List X} → Perm X xs ys → Perm X (zs ++ xs) (zs ++ ys)
  perm_before [] p = p
  perm_before (z ∷ zs) p = keep z (perm_before zs p)

  pub perm_after : (zs : List X) {xs ys : List X} → Perm X xs ys → Perm X (xs ++ zs) (ys ++ zs)
  perm_after zs empty = perm_self zs
  perm_after zs (keep x p) = keep x (perm_after zs p)
  perm_after zs (swap x y us) = swap x y (us ++ zs)
  perm_after zs (follow p q) = follow (perm_after zs p) (perm_after zs q)

  pub perm_length : {xs ys : List X} → Perm X xs ys → length xs ≡ length ys
  perm_length empty = refl
  perm_length (keep x p) = let same = perm_length p in omega arith
  perm_length (swap x y zs) = refl
  perm_length (follow p q) = perm_length p ∙ perm_length q

  pub perm_tally : (p : X → Bool) {xs ys : List X} → Perm X xs ys → tally p xs ≡ tally p ys
  perm_tally p empty = refl
  perm_tally p (keep x h) = ap (λ n. one_if (p x) + n) (perm_tally p h)
  perm_tally p (swap x y zs) = omega arith
  perm_tally p (follow h k) = perm_tally p h ∙ perm_tally p k

  pub perm_in : (x : X) {xs ys : List X} → Perm X xs ys → In x xs → In x ys
  perm_in x empty i = i
  perm_in x (keep y p) (inl e) = inl e
  perm_in x (keep y p) (inr i) = inr (perm_in x p i)
  perm_in x (swap y z zs) (inl e) = inr (inl e)
  perm_in x (swap y z zs) (inr (inl e)) = inl e
  perm_in x (swap y z zs) (inr (inr i)) = inr (inr i)
  perm_in x (follow p q) i = perm_in x q (perm_in x p i)

  -- where one element at most passes, a search finds the same
  pub perm_find : (p : X → Bool) {xs ys : List X} → Perm X xs ys → tally p xs ≤ 1 → find p xs ≡ find p ys
  perm_find p empty few = refl
  perm_find p (keep {xs} {ys} x h) few = by (p x) few (perm_find p h)
    where
      by : (b : Bool) → one_if b + tally p xs ≤ 1 → (tally p xs ≤ 1 → find p xs ≡ find p ys) → cond b (Some x) (find p xs) ≡ cond b (Some x) (find p ys)
      by true few rest = refl
      by false few rest = rest (omega arith)
  perm_find p (swap x y zs) few = by (p x) (p y) few
    where
      by : (b c : Bool) → one_if b + (one_if c + tally p zs) ≤ 1 → cond b (Some x) (cond c (Some y) (find p zs)) ≡ cond c (Some y) (cond b (Some x) (find p zs))
      by true true few = absurd (omega arith)
      by true false few = refl
      by false true few = refl
      by false false few = refl
  perm_find p (follow h k) few = perm_find p h few ∙ perm_find p k (subst (λ n. n ≤ 1) (perm_tally p h) few)
