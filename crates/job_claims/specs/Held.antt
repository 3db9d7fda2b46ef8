-- The value of a seat in a contract.
use Rattle.atomic_table.specs.Seated.{TableId}
use Rattle.job_claims.specs.declared.seat.View.{View}

-- the table of a seat, and its view
pub record Held (T : Type 0) : Type 0 where
  pub table : TableId
  pub view : View T
