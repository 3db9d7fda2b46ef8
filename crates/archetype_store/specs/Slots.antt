-- The slots of a store by number, and the numbers that are free.
use Rattle.std.specs.Prelude.{ℕ, ◌≡◌, ◌<◌, Bool, List, [], ◌∷◌, ◌++◌, length, Option, Some, None, option_map, slice_index_or, slice_set, if◌then◌else◌, nat_lt}
use Rattle.std.specs.List.{flat_map}

abbrev pub slot_at : {X : Type 0} → List (Option X) → ℕ → Option X
slot_at slots n = slice_index_or slots n None

-- the slots with another one, which may be the next
abbrev pub put_slot : {X : Type 0} → List (Option X) → ℕ → X → List (Option X)
put_slot slots n x = if nat_lt n (length slots) then slice_set slots n (Some x) else slots ++ Some x ∷ []

-- the number at a place of the stack of free numbers
abbrev pub free_at : List ℕ → ℕ → ℕ
free_at free j = slice_index_or free j 0

-- a free number has no block, and is there once
pub record IsFreeAt {X : Type 0} (slots : List (Option X)) (free : List ℕ) (j : ℕ) : Type 0 where
  pub below : free_at free j < length slots
  pub vacant : slot_at slots (free_at free j) ≡ None
  pub once : (k : ℕ) → k < j → free_at free k ≡ free_at free j → ⊥

abbrev pub AreFree : {X : Type 0} → List (Option X) → List ℕ → Type 0
AreFree slots free = (j : ℕ) → j < length free → IsFreeAt slots free j

-- ---- the numbers in block order

module _ {X : Type 0} where
  -- a number of the order has a block, which knows its place
  abbrev pub AreOrdered : (X → ℕ) → List (Option X) → List (Option ℕ) → Type 0
  AreOrdered rank slots order = (k n : ℕ) → slot_at order k ≡ Some n → option_map rank (slot_at slots n) ≡ Some k

  -- the place that a block knows has its number
  abbrev pub ArePlaced : (X → ℕ) → List (Option X) → List (Option ℕ) → Type 0
  ArePlaced rank slots order = (n : ℕ) (x : X) → slot_at slots n ≡ Some x → slot_at order (rank x) ≡ Some n

  -- the number, if its block passes a test
  abbrev pub number_if : (X → Bool) → ℕ → Option X → List ℕ
  number_if test n None = []
  number_if test n (Some x) = if test x then n ∷ [] else []

  abbrev pub number_of : (X → Bool) → List (Option X) → Option ℕ → List ℕ
  number_of test slots None = []
  number_of test slots (Some n) = number_if test n (slot_at slots n)

  -- the numbers of the blocks that pass a test, in block order
  abbrev pub numbers_of : (X → Bool) → List (Option X) → List (Option ℕ) → List ℕ
  numbers_of test slots order = flat_map (number_of test slots) order

  -- what the blocks have
  abbrev pub of_slot : (X → List ℕ) → Option X → List ℕ
  of_slot ids None = []
  of_slot ids (Some x) = ids x

  abbrev pub of_slots : (X → List ℕ) → List (Option X) → List ℕ
  of_slots ids slots = flat_map (of_slot ids) slots
