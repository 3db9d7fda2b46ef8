-- Loans in order.
use Rattle.std.specs.Prelude.{ℕ, List}
use Rattle.chunk_block.specs.Blocks.{LoanState}

-- the loans, and for how many more there is room
pub record LoansState : Type 0 where
  pub loans : List LoanState
  pub spare : ℕ
