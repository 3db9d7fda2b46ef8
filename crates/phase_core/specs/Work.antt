-- The meaning of an item of a phase.
use Rattle.std.specs.Prelude.{ℕ, zero, suc, ◌+◌}

-- The count of rows, and of those that have run, the content, and the content that row k makes of another
pub record Work (C : Type 0) : Type 0 where
  pub rows : ℕ
  pub ran : ℕ
  pub content : C
  pub row_makes : ℕ → C → C

-- the item after its next row
abbrev pub after_row : {C : Type 0} → Work C → Work C
after_row w = record w { ran = w.ran + 1; content = w.row_makes w.ran w.content }

-- the item after its next n rows
abbrev pub after_rows : {C : Type 0} → ℕ → Work C → Work C
after_rows zero w = w
after_rows (suc n) w = after_row (after_rows n w)

-- an item of which no row has run, run to its end
abbrev pub run_to_end : {C : Type 0} → Work C → Work C
run_to_end w = after_rows w.rows w
