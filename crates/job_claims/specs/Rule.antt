-- The rule of the claims, which holds between any two steps of any threads, and the result of a draw.
use Rattle.std.specs.Prelude.{◌≡◌, ℕ, ◌+◌, ◌<◌, ◌≤◌, ◌⊎◌, true, false, nat_lt, ◌==◌, if◌then◌else◌, List, [], ◌∷◌, length, slice_index, slice_get, min, Option, Some}
use mathlib.Core.Option.{some}
use lib.ListN.{get_elem?}
use Rattle.atomic_table.specs.Table.{State, Me, Step}
use Rattle.ent_types.specs.declared.limits.TheConstants.{MOST_WORKERS}
use Rattle.job_claims.specs.declared.seat.Drawn.{Drawn}
use Rattle.job_claims.specs.declared.seat.Drawn.TheVariants.{Piece, Ended}
use Rattle.job_claims.specs.declared.seat.View.{View}
use Rattle.job_claims.specs.Views.{spent, with_drawn, with_end}

-- how often x is in a list
abbrev pub times : ℕ → List ℕ → ℕ
times x [] = 0
times x (y ∷ ys) = (if x == y then 1 else 0) + times x ys

abbrev pub once_below : ℕ → ℕ → ℕ
once_below x n = if nat_lt x n then 1 else 0

-- each number below n is in a list once, and no other number is
abbrev pub IsEachOnce : ℕ → List ℕ → Type 0
IsEachOnce n xs = (x : ℕ) → times x xs ≡ once_below x n

module _ {T : Type 0} where
  -- a number of each view, added up
  abbrev pub total : (View T → ℕ) → List (View T) → ℕ
  total f [] = 0
  total f (v ∷ vs) = f v + total f vs

  abbrev pub weight_going : View T → ℕ
  weight_going v = if v.ended then 0 else v.weight

  -- n is the number of slots, and `word` the claim word
  pub record Keeps (n word : ℕ) (homes : List (mathlib.Core.Option.Option (Option T))) (views : List (View T)) : Type 0 where
    pub pieces : List T
    pub count : length pieces ≡ n
    -- all views that aren't spent agree about the pieces, and have a weight
    pub agree : (seat : ℕ) (v : View T) → get_elem? views seat ≡ some v → (v ≡ spent) ⊎ ((v.pieces ≡ pieces) × (0 < v.weight))
    pub weights : total (λ v. v.weight) views ≡ MOST_WORKERS
    -- the word counts the draws, those that found a piece and those that found none
    pub word_is : word ≡ total (λ v. length v.mine) views + total (λ v. v.ends) views
    pub drawn : total (λ v. length v.mine) views ≡ min n word
    -- the numbers below n and below the word are each in one view, once, and no others are
    pub once : (x : ℕ) → total (λ v. times x v.mine) views ≡ once_below x (min n word)
    pub ended : (seat : ℕ) (v : View T) → get_elem? views seat ≡ some v → v.ended ≡ true → n < word
    -- a seat ends at most once for each weight that it has, so the word is at most n + MOST_WORKERS
    pub few_ends : total weight_going views + total (λ v. v.ends) views ≤ MOST_WORKERS
    -- a slot that was not drawn is at home and holds its piece
    pub home : (k : ℕ) (p : T) → word ≤ k → slice_get pieces k ≡ Some p → get_elem? homes k ≡ some (some (Some p))

  abbrev pub IsKept : State (Option T) (View T) → Type 0
  IsKept s = (length s.words ≡ 1) × Keeps (length s.homes) (slice_index s.words 0) s.homes s.views

  -- A draw found the number k: it is one that the seat didn't have, and the slot of that piece is the seat's; or no piece was left
  abbrev pub Draws : Step (Option T) → Me (Option T) (View T) → ℕ → Me (Option T) (View T) → Type 0
  Draws step me k after =
      ((k < step.slots) × (times k me.0.mine ≡ 0) × (length me.0.mine < length me.0.pieces)
      × ((p : T) × (slice_get me.0.pieces k ≡ Some p) × (after ≡ (with_drawn me.0 k, (k, Some p) ∷ me.1))))
      ⊎ ((step.slots ≤ k) × (after ≡ (with_end me.0, me.1)))

  -- the result of a draw: the piece of a number that the seat didn't have; or nothing, if no piece was left, or the seat was ended and took no step
  abbrev pub Gives : View T → Drawn T → View T → Type 0
  Gives v (Piece k p) w =
      (v.ended ≡ false) × (times k v.mine ≡ 0) × (length v.mine < length v.pieces)
      × (slice_get v.pieces k ≡ Some p) × (w ≡ with_drawn v k)
  Gives v Ended w = (w.ended ≡ true) × (w ≡ (if v.ended then v else with_end v))
