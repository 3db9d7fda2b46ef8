-- sets of types, as contracts see them: the rising list of the types' numbers. Equal sets are equal lists
use Rattle.std.specs.Prelude.{ℕ, ◌+◌, ◌<◌, ◌≤◌, Bool, not, ◌==◌, nat_lt, nat_le, if◌then◌else◌, List, [], ◌∷◌, Option, filter, find}
use Rattle.std.specs.List.{list_any, list_all}

-- the numbers rise strictly, from `low` on, and all are below `high`
abbrev pub IsRisingFrom : ℕ → ℕ → List ℕ → Type 0
IsRisingFrom low high [] = Unit {0}
IsRisingFrom low high (x ∷ xs) = (low ≤ x) × (x < high) × IsRisingFrom (x + 1) high xs

-- the numbers rise strictly, and all are below `high`: what each set of types is at MOST_TYPES
abbrev pub IsRisingBelow : ℕ → List ℕ → Type 0
IsRisingBelow high xs = IsRisingFrom 0 high xs

-- whether the type is in the set
abbrev pub has_type : List ℕ → ℕ → Bool
has_type types ty = list_any (λ x. x == ty) types

-- the set, and the type
abbrev pub with_type : List ℕ → ℕ → List ℕ
with_type [] ty = ty ∷ []
with_type (x ∷ xs) ty = if nat_lt ty x then ty ∷ x ∷ xs else if x == ty then x ∷ xs else x ∷ with_type xs ty

-- the set without the type
abbrev pub without_type : List ℕ → ℕ → List ℕ
without_type types ty = filter (λ x. not (x == ty)) types

-- whether each type of the first set is in the second
abbrev pub is_subset_of : List ℕ → List ℕ → Bool
is_subset_of types others = list_all (λ x. has_type others x) types

-- whether some type is in both sets
abbrev pub meets : List ℕ → List ℕ → Bool
meets types others = list_any (λ x. has_type others x) types

-- the first type of the set whose number is `from` or more
abbrev pub next_type : List ℕ → ℕ → Option ℕ
next_type types from = find (λ x. nat_le from x) types
