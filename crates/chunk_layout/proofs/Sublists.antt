-- Fewer columns: where a set of types has room, its subsets have room.
use Rattle.std.proofs.Common.{ℕ, ◌≤◌, ◌<◌, Bool, List, [], ◌∷◌, map, filter, sum_by, arith}
use Rattle.std.proofs.lemmas.Bool.{cond_both}
use Rattle.std.proofs.lemmas.List.Sums.{sum_by-cons}
use Rattle.chunk_layout.specs.Capacity.{column_bytes, capacity_of}
use Rattle.chunk_layout.proofs.CapacityLemmas.{capacity_of-le}

-- the first list is the second one with some elements left out
pub data IsSublist {X : Type 0} : List X → List X → Type 0 where
  none : IsSublist [] []
  skip : {y : X} {xs ys : List X} → IsSublist xs ys → IsSublist xs (y ∷ ys)
  keep : {x : X} {xs ys : List X} → IsSublist xs ys → IsSublist (x ∷ xs) (x ∷ ys)

pub IsSublist_refl : {X : Type 0} (xs : List X) → IsSublist xs xs
IsSublist_refl [] = none
IsSublist_refl (x ∷ xs) = keep (IsSublist_refl xs)

pub IsSublist-empty : {X : Type 0} (xs : List X) → IsSublist [] xs
IsSublist-empty [] = none
IsSublist-empty (x ∷ xs) = skip (IsSublist-empty xs)

pub IsSublist-map : {X Y : Type 0} (f : X → Y) {xs ys : List X} → IsSublist xs ys → IsSublist (map f xs) (map f ys)
IsSublist-map f none = none
IsSublist-map f (skip s) = skip (IsSublist-map f s)
IsSublist-map f (keep s) = keep (IsSublist-map f s)

pub IsSublist-filter : {X : Type 0} (p : X → Bool) (xs : List X) → IsSublist (filter p xs) xs
IsSublist-filter p [] = none
IsSublist-filter p (x ∷ xs) =
    cond_both (p x) (x ∷ filter p xs) (filter p xs) (λ ys. IsSublist ys (x ∷ xs)) (λ _. keep (IsSublist-filter p xs)) (λ _. skip (IsSublist-filter p xs))

pub sum_by-sublist : {X : Type 0} (f : X → ℕ) {xs ys : List X} → IsSublist xs ys → sum_by f xs ≤ sum_by f ys
sum_by-sublist f none = omega arith
sum_by-sublist f (skip {y} {xs} {ys} s) = omega (arith, sum_by-cons f y ys, sum_by-sublist f s)
sum_by-sublist f (keep {x} {xs} {ys} s) = omega (arith, sum_by-cons f x xs, sum_by-cons f x ys, sum_by-sublist f s)

pub capacity_of-sublist : {fewer sizes : List ℕ} → IsSublist fewer sizes → capacity_of sizes ≤ capacity_of fewer
capacity_of-sublist {fewer} {sizes} s =
    capacity_of-le fewer sizes (λ n _ fits. omega (arith, fits, sum_by-sublist (column_bytes n) s))

-- where these sizes have room, fewer of them have room
pub capacity_of-room : {fewer sizes : List ℕ} → IsSublist fewer sizes → 0 < capacity_of sizes → 0 < capacity_of fewer
capacity_of-room s room = omega (arith, capacity_of-sublist s)
