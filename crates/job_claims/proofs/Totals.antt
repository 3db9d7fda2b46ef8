-- Numbers of all views, added up, where one view changes or comes in.
use Rattle.std.proofs.Common.{◌≡◌, ℕ, zero, suc, ◌+◌, ◌≤◌, List, [], ◌∷◌, ◌++◌, set, refl, sym, ap, arith, cond, eqb}
use mathlib.Core.Option.{some, some-injective, some-ne-none}
use lib.ListN.{get_elem?}
use Rattle.job_claims.specs.declared.seat.View.{View}
use Rattle.job_claims.specs.Rule.{times, total, once_below}

module _ {T : Type 0} where
  -- one view is replaced
  pub total-set : (f : View T → ℕ) (views : List (View T)) (seat : ℕ) (v w : View T) → get_elem? views seat ≡ some v → total f (set views seat w) + f v ≡ total f views + f w
  total-set f [] seat v w e = absurd (some-ne-none v (sym e))
  total-set f (x ∷ xs) zero v w e = let same : f x ≡ f v = ap f (some-injective x v e) in omega arith
  total-set f (x ∷ xs) (suc seat) v w e = let t = total-set f xs seat v w e in omega arith

  -- one view comes in
  pub total-snoc : (f : View T → ℕ) (views : List (View T)) (w : View T) → total f (views ++ w ∷ []) ≡ total f views + f w
  total-snoc f [] w = omega arith
  total-snoc f (x ∷ xs) w = let t = total-snoc f xs w in omega arith

  -- no view has more than all
  pub total-one : (f : View T → ℕ) (views : List (View T)) (seat : ℕ) (v : View T) → get_elem? views seat ≡ some v → f v ≤ total f views
  total-one f [] seat v e = absurd (some-ne-none v (sym e))
  total-one f (x ∷ xs) zero v e = let same : f x ≡ f v = ap f (some-injective x v e) in omega arith
  total-one f (x ∷ xs) (suc seat) v e = let t = total-one f xs seat v e in omega arith

  total-none : (f g : View T → ℕ) (views : List (View T)) → total g views ≡ 0 → ((i : ℕ) (w : View T) → get_elem? views i ≡ some w → g w ≡ 0 → f w ≡ 0) → total f views ≡ 0
  total-none f g [] zeros empty = refl
  total-none f g (x ∷ xs) zeros empty =
      let first : f x ≡ 0 = empty 0 x refl (omega arith) in
      let rest = total-none f g xs (omega arith) (λ i w at. empty (suc i) w at) in
      omega arith

  -- a view with the whole of g leaves nothing to the others, which have nothing of f either
  pub total-alone : (f g : View T → ℕ) (views : List (View T)) (seat : ℕ) (v : View T) → get_elem? views seat ≡ some v → g v ≡ total g views
      → ((i : ℕ) (w : View T) → get_elem? views i ≡ some w → g w ≡ 0 → f w ≡ 0) → total f views ≡ f v
  total-alone f g [] seat v e whole empty = absurd (some-ne-none v (sym e))
  total-alone f g (x ∷ xs) zero v e whole empty =
      let same : x ≡ v = some-injective x v e in
      let here : f x ≡ f v = ap f same in
      let there : g x ≡ g v = ap g same in
      let rest = total-none f g xs (omega arith) (λ i w at. empty (suc i) w at) in
      omega arith
  total-alone f g (x ∷ xs) (suc seat) v e whole empty =
      let one = total-one g xs seat v e in
      let first : f x ≡ 0 = empty 0 x refl (omega arith) in
      let t = total-alone f g xs seat v e (omega arith) (λ i w at. empty (suc i) w at) in
      omega arith

pub times-append : (x : ℕ) (xs ys : List ℕ) → times x (xs ++ ys) ≡ times x xs + times x ys
times-append x [] ys = omega arith
times-append x (z ∷ zs) ys = let t = times-append x zs ys in omega arith

-- the next number comes in once
-- a number is not below itself
pub once_below-same : (k : ℕ) → once_below k k ≡ 0
once_below-same k = grind arith

pub once_below-more : (x k : ℕ) → once_below x (k + 1) ≡ once_below x k + (cond (eqb x k) 1 0 + 0)
once_below-more x k = grind arith
