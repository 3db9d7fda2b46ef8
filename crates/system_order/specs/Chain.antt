-- Chains of siblings, by any relation `before` of which of two precedes the other.
use Rattle.std.specs.Prelude.{◌≡◌, ℕ, Bool, ◌||◌, ◌&&◌, List, [], ◌∷◌, Option, map, find, slice_index_or, false, true, All, Contains}
use Rattle.std.specs.List.{zip}

-- the first leads to the last, or leads to the middle one, which leads to the last
abbrev pub through : (ℕ → ℕ → Bool) → ℕ → ℕ → ℕ → Bool
through leads middle first last = leads first last || (leads first middle && leads middle last)

-- the first precedes the last, directly or through a chain of the siblings
unfoldable pub chained : (ℕ → ℕ → Bool) → List ℕ → ℕ → ℕ → Bool
chained before [] = before
chained before (sibling ∷ siblings) = chained (through before sibling) siblings

-- the earliest declared of the siblings that precedes itself through a chain
unfoldable pub earliest_on_cycle : (ℕ → ℕ → Bool) → List ℕ → Option ℕ
earliest_on_cycle before siblings = find (λ sibling. chained before siblings sibling sibling) siblings

-- a relation as a table: a row for each sibling, with a mark for each sibling that it leads to
abbrev pub table_of : (ℕ → ℕ → Bool) → List ℕ → List (List Bool)
table_of leads siblings = map (λ first. map (λ last. leads first last) siblings) siblings

-- a row with also the marks of the sibling at a place, if the row marks that sibling
unfoldable pub widened : List Bool → ℕ → List Bool → List Bool
widened more at row = map (λ marks. marks.0 || (slice_index_or row at false && marks.1)) (zip row more)

-- the first precedes the next, that one the one after it, and so on to the last
abbrev pub IsPath : (ℕ → ℕ → Bool) → ℕ → List ℕ → ℕ → Type 0
IsPath before first [] last = before first last ≡ true
IsPath before first (next ∷ path) last = (before first next ≡ true) × IsPath before next path last

-- some path among the siblings leads from the first to the last
pub record HasPath (before : ℕ → ℕ → Bool) (siblings : List ℕ) (first last : ℕ) : Type 0 where
  pub path : List ℕ
  pub among : All (Contains siblings) path
  pub links : IsPath before first path last
