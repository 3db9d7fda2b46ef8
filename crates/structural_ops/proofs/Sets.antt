-- Sets of types.
use Rattle.std.proofs.Common.{ℕ, ◌+◌, ◌<◌, ◌≤◌, inl, inr, subst, sym, List, [], ◌∷◌, arith}
use Rattle.ent_types.specs.declared.limits.TheConstants.{MOST_TYPES}
use Rattle.ent_types.specs.TypeSets.{IsRisingFrom, IsRisingBelow}
use Rattle.world_model.specs.Members.{In, IsRising}

between : (low high : ℕ) (ts : List ℕ) → IsRisingFrom low high ts → (t : ℕ) → In t ts → (low ≤ t) × (t < high)
between low high [] rising t i = absurd i
between low high (u ∷ us) rising t (inl e) = (subst (λ k. low ≤ k) (sym e) rising.0, subst (λ k. k < high) (sym e) rising.1)
between low high (u ∷ us) rising t (inr i) = let rest = between (u + 1) high us rising.2 t i in (omega (arith, rest.0, rising.0), rest.1)

-- the types of a set are below the most
pub set_below : (ts : List ℕ) → IsRisingBelow MOST_TYPES ts → (t : ℕ) → In t ts → t < MOST_TYPES
set_below ts rising t i = (between 0 MOST_TYPES ts rising t i).1

rises : (low high : ℕ) (ts : List ℕ) → IsRisingFrom low high ts → IsRising ts
rises low high [] rising = tt
rises low high (t ∷ ts) rising = ((λ u i. let up = (between (t + 1) high ts rising.2 u i).0 in omega (arith, up)), rises (t + 1) high ts rising.2)

-- they rise
pub set_rises : (ts : List ℕ) → IsRisingBelow MOST_TYPES ts → IsRising ts
set_rises ts rising = rises 0 MOST_TYPES ts rising
