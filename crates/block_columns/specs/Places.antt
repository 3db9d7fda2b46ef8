-- Lists by place: what n rows have, and a list changed place by place.
use Rattle.std.specs.Prelude.{ℕ, zero, suc, ◌+◌, List, [], ◌∷◌}

module _ {A : Type 0} where
  -- what the n places from k on have
  abbrev pub tabulated : (ℕ → A) → ℕ → ℕ → List A
  tabulated f k zero = []
  tabulated f k (suc n) = f k ∷ tabulated f (k + 1) n

  -- each element changed by its place, which is k for the first
  abbrev pub at_places : (ℕ → A → A) → ℕ → List A → List A
  at_places f k [] = []
  at_places f k (x ∷ xs) = f k x ∷ at_places f (k + 1) xs
