-- The columns of a block: as many places as sizes, each at a multiple of 64 and behind the column before, and all
-- within the block's 16,384 bytes.
use Rattle.std.proofs.Common.{◌≡◌, ℕ, zero, suc, ◌+◌, ◌*◌, ◌%◌, ◌≤◌, ◌<◌, List, [], ◌∷◌, length, get_or, sum_by, arith, refl, ap}
use Rattle.std.proofs.lemmas.List.Sums.{sum_by-cons}
use Rattle.chunk_layout.specs.Capacity.{up64, column_bytes, Fits}
use Rattle.chunk_layout.specs.Places.{places_from, places_of}

length-places_from : (start n : ℕ) (sizes : List ℕ) → length (places_from start n sizes) ≡ length sizes
length-places_from start n [] = refl
length-places_from start n (size ∷ sizes) = ap suc (length-places_from (start + column_bytes n size) n sizes)

from_start : (start n : ℕ) (sizes : List ℕ) (i : ℕ) → i < length sizes → start ≤ get_or (places_from start n sizes) i 0
from_start start n [] i h = absurd (omega arith)
from_start start n (size ∷ sizes) zero h = omega arith
from_start start n (size ∷ sizes) (suc i) h =
    omega (arith, from_start (start + column_bytes n size) n sizes i (omega arith))

within_from : (start n : ℕ) (sizes : List ℕ) (i : ℕ) → i < length sizes
    → get_or (places_from start n sizes) i 0 + column_bytes n (get_or sizes i 0) ≤ start + sum_by (column_bytes n) sizes
within_from start n [] i h = absurd (omega arith)
within_from start n (size ∷ sizes) zero h = omega (arith, sum_by-cons (column_bytes n) size sizes)
within_from start n (size ∷ sizes) (suc i) h =
    omega (arith, sum_by-cons (column_bytes n) size sizes, within_from (start + column_bytes n size) n sizes i (omega arith))

apart_from : (start n : ℕ) (sizes : List ℕ) (i j : ℕ) → i < j → j < length sizes
    → get_or (places_from start n sizes) i 0 + column_bytes n (get_or sizes i 0) ≤ get_or (places_from start n sizes) j 0
apart_from start n [] i j below h = absurd (omega arith)
apart_from start n (size ∷ sizes) i zero below h = absurd (omega arith)
apart_from start n (size ∷ sizes) zero (suc j) below h = from_start (start + column_bytes n size) n sizes j (omega arith)
apart_from start n (size ∷ sizes) (suc i) (suc j) below h =
    apart_from (start + column_bytes n size) n sizes i j (omega arith) (omega arith)

aligned_from : (start n : ℕ) (sizes : List ℕ) (i : ℕ) → start % 64 ≡ 0 → i < length sizes → get_or (places_from start n sizes) i 0 % 64 ≡ 0
aligned_from start n [] i multiple h = absurd (omega arith)
aligned_from start n (size ∷ sizes) zero multiple h = multiple
aligned_from start n (size ∷ sizes) (suc i) multiple h =
    aligned_from (start + column_bytes n size) n sizes i (omega arith) (omega arith)

module _ (n : ℕ) (sizes : List ℕ) where
  -- one place for each size
  pub length-places_of : length (places_of n sizes) ≡ length sizes
  length-places_of = length-places_from _ n sizes

  -- no column stands on the id column
  pub behind_ids : (i : ℕ) → i < length sizes → 64 + up64 (8 * n) ≤ get_or (places_of n sizes) i 0
  behind_ids i h = from_start _ n sizes i h

  -- of two columns the first ends where the other one stands, or before
  pub columns_apart : (i j : ℕ) → i < j → j < length sizes
      → get_or (places_of n sizes) i 0 + column_bytes n (get_or sizes i 0) ≤ get_or (places_of n sizes) j 0
  columns_apart i j below h = apart_from _ n sizes i j below h

  pub place_multiple : (i : ℕ) → i < length sizes → get_or (places_of n sizes) i 0 % 64 ≡ 0
  place_multiple i h = aligned_from _ n sizes i (omega arith) h

  -- where n rows fit, each column ends within the block
  pub column_within : Fits sizes n → (i : ℕ) → i < length sizes
      → get_or (places_of n sizes) i 0 + column_bytes n (get_or sizes i 0) ≤ 16384
  column_within fits i h = omega (arith, fits, within_from (64 + up64 (8 * n)) n sizes i h)
