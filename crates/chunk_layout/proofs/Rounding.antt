-- Rounding up to a multiple of 64, and how the bytes of a block grow with its rows.
use Rattle.std.proofs.Common.{◌≡◌, ℕ, ◌*◌, ◌%◌, ◌≤◌, List, arith}
use Rattle.std.proofs.lemmas.List.Sums.{sum_by-le-sum_by}
use Rattle.chunk_layout.specs.Capacity.{up64, column_bytes, block_bytes}

pub up64_at_least : (x : ℕ) → x ≤ up64 x
up64_at_least x = omega arith

pub up64_multiple : (x : ℕ) → up64 x % 64 ≡ 0
up64_multiple x = omega arith

pub up64_least : (x q : ℕ) → x ≤ q * 64 → up64 x ≤ q * 64
up64_least x q h = omega arith

pub up64-mono : (x y : ℕ) → x ≤ y → up64 x ≤ up64 y
up64-mono x y h = omega arith

-- more rows take no fewer bytes
pub column_bytes-mono : (m n size : ℕ) → m ≤ n → column_bytes m size ≤ column_bytes n size
column_bytes-mono m n size h = up64-mono (size * m) (size * n) (grind arith)

pub block_bytes-mono : (sizes : List ℕ) (m n : ℕ) → m ≤ n → block_bytes sizes m ≤ block_bytes sizes n
block_bytes-mono sizes m n h =
    omega (arith, up64-mono (8 * m) (8 * n) (omega arith), sum_by-le-sum_by (column_bytes m) (column_bytes n) sizes (λ size. column_bytes-mono m n size h))
