-- Members of lists, and how many of them pass a test.
use Rattle.std.specs.Prelude.{◌≡◌, ◌⊎◌, ℕ, ◌+◌, ◌<◌, Bool, true, false, List, [], ◌∷◌}

abbrev pub In : {X : Type 0} → X → List X → Type 0
In x [] = ⊥
In x (y ∷ ys) = (x ≡ y) ⊎ In x ys

abbrev pub one_if : Bool → ℕ
one_if true = 1
one_if false = 0

-- how many elements pass a test
abbrev pub tally : {X : Type 0} → (X → Bool) → List X → ℕ
tally p [] = 0
tally p (x ∷ xs) = one_if (p x) + tally p xs

-- each number is above those before it
abbrev pub IsRising : List ℕ → Type 0
IsRising [] = Unit {0}
IsRising (t ∷ ts) = ((u : ℕ) → In u ts → t < u) × IsRising ts

-- no number is there twice
abbrev pub AreDistinct : List ℕ → Type 0
AreDistinct [] = Unit {0}
AreDistinct (t ∷ ts) = (In t ts → ⊥) × AreDistinct ts
