-- The capacity rule: how many rows of an archetype fit into one block. The sizes are those of the types with a
-- column, in bytes.
use Rattle.std.specs.Prelude.{ℕ, ◌+◌, ◌*◌, ◌/◌, ◌≤◌, Bool, List, sum_by, nat_le, if◌then◌else◌}
use Rattle.std.proofs.Common.{zero, suc}
use Rattle.chunk_layout.specs.declared.rows.TheConstants.{MAX_ROWS, COLUMN_ROOM}

-- the least multiple of 64 that is at least x
abbrev pub up64 : ℕ → ℕ
up64 x = (x + 63) / 64 * 64

-- the bytes of one column of n rows
abbrev pub column_bytes : ℕ → ℕ → ℕ
column_bytes n size = up64 (size * n)

-- the bytes of all columns of n rows: the id column, with 8 bytes a row, and one for each size
abbrev pub block_bytes : List ℕ → ℕ → ℕ
block_bytes sizes n = up64 (8 * n) + sum_by (column_bytes n) sizes

-- n rows fit beside the header, which takes 64 of a block's 16,384 bytes
abbrev pub Fits : List ℕ → ℕ → Type 0
Fits sizes n = block_bytes sizes n ≤ COLUMN_ROOM

-- the greatest number up to n that passes, or 0
unfoldable pub greatest_up_to : ℕ → (ℕ → Bool) → ℕ
greatest_up_to zero p = zero
greatest_up_to (suc n) p = if p (suc n) then suc n else greatest_up_to n p

-- the capacity: the greatest n from 0 to MAX_ROWS for which n rows fit
unfoldable pub capacity_of : List ℕ → ℕ
capacity_of sizes = greatest_up_to MAX_ROWS (λ n. nat_le (block_bytes sizes n) COLUMN_ROOM)

-- what the capacity is, said apart from how it is found
pub record IsCapacity (sizes : List ℕ) (n : ℕ) : Type 0 where
  pub bounded : n ≤ MAX_ROWS
  pub fits : Fits sizes n
  pub greatest : (m : ℕ) → m ≤ MAX_ROWS → Fits sizes m → m ≤ n
