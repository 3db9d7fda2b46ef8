-- The rows of an item: those of a block of a frozen world, with the loan of the types that a system writes.
use Rattle.std.specs.Prelude.{◌≡◌, ⊤, ◌≤◌, ◌<◌, ℕ, Bool, false, not, ◌&&◌, ◌||◌, List, length}
use Rattle.ent_types.specs.declared.limits.TheConstants.{MOST_BLOCK_ROWS}
use Rattle.ent_types.specs.declared.type_info.TypeInfo.{TypeInfo}
use Rattle.ent_types.specs.TypeLookups.{is_buffer_at, is_shared_at}
use Rattle.ent_types.specs.TypeSets.{has_type}
use Rattle.world_model.specs.Found.{found}
use Rattle.world_model.specs.Lawful.{IsLawfulHome}
use Rattle.world_model.specs.Row.{Row}
use Rattle.world_model.specs.World.{Block}
use Rattle.expr_eval.specs.Rows.{others_of}
use Rattle.expr_eval.specs.Values.{OwnRow}
use Rattle.block_columns.specs.Types.{TypeState, blank_cell, cell_in}
use Rattle.chunk_block.specs.Blocks.{AreDistinct, BlockState, LoanState, HaveTypes, IsLoanOf, content_at, row_in, shape_of}
use Rattle.block_laws.specs.Lending.{piece_types, with_pieces}
use Rattle.world_rows.specs.Rows.{own_types}
use Rattle.structural_ops.specs.Freezing.{AreBlank, FrozenState, block_at, is_lent, lent_block, lent_of}
use Rattle.structural_ops.specs.Numbered.{HasBlock}
use Rattle.scenario_record.specs.TextNames.{has_field}
use Rattle.run_laws.specs.Runnable.{Sources}
use Rattle.item_run.specs.Seats.{Seat, row_seen}

-- a loan of a block of a frozen world, and where the block stands in the run
pub record RowsState : Type 0 where
  pub frozen : FrozenState
  pub loan : LoanState
  pub item : ℕ
  pub frame : ℕ

abbrev pub registry_of : RowsState → List TypeInfo
registry_of x = x.frozen.state.world.registry

-- the block in the frozen world: the cells of types that are lent are blank
abbrev pub frozen_block : RowsState → Block
frozen_block x = block_at x.loan.number x.frozen.state.numbers x.frozen.state.world.blocks

-- the types that are lent of the block
abbrev pub lent_types : RowsState → List ℕ
lent_types x = lent_of x.frozen x.loan.number

-- the block as the frozen world shows it
abbrev pub block_of : RowsState → BlockState
block_of x = lent_block (registry_of x) (lent_types x) (frozen_block x)

abbrev pub row_count : RowsState → ℕ
row_count x = length (frozen_block x).rows

-- the rows as they now are: those of the block, with the cells of the loan
abbrev pub rows_of : RowsState → List Row
rows_of x = (with_pieces (block_of x) x.loan.pieces).rows

abbrev pub seat_of : RowsState → Seat
seat_of x = record {
  registry = registry_of x;
  home = (frozen_block x).home;
  others = others_of (λ e. found e x.frozen.state.world.blocks);
  item = x.item;
  frame = x.frame;
}

-- the row at a place, as texts see it
abbrev pub own_row_at : RowsState → ℕ → OwnRow
own_row_at x k = row_seen (seat_of x) k (row_in k (rows_of x))

-- one of the rows
pub record RowState : Type 0 where
  pub rows : RowsState
  pub place : ℕ

-- ---- what can be read

-- the type is shared, in the loan, or lent to nobody
abbrev pub is_held : RowsState → ℕ → Bool
is_held x t = is_shared_at (registry_of x) t || (has_type (piece_types x.loan.pieces) t || not (has_type (lent_types x) t))

-- fields of the block's types that aren't lent to others, and types of other rows that aren't lent at all
abbrev pub sources_in : RowsState → Sources
sources_in x = record {
  own = λ ty i. has_type (frozen_block x).home.types ty.0 && (has_field (registry_of x) ty i && is_held x ty.0);
  others = λ ty. not (is_lent x.frozen ty.0) && not (is_buffer_at (registry_of x) ty.0);
}

-- ---- what holds

-- the loan is one of a block that is there
pub record AreRows (x : RowsState) : Type 0 where
  pub there : HasBlock x.loan.number (λ _. ⊤) x.frozen.state
  -- each type of the loan is there once, with a cell for each row
  pub of : IsLoanOf (block_of x) x.loan
  pub once : AreDistinct (piece_types x.loan.pieces)

-- what follows of such rows
pub record AreLawfulRows (x : RowsState) : Type 0 where
  pub home : IsLawfulHome (registry_of x) (frozen_block x).home
  pub have : HaveTypes (own_types (registry_of x) (frozen_block x).home.types) (frozen_block x).rows
  pub few : row_count x ≤ MOST_BLOCK_ROWS
  pub blank : AreBlank (lent_types x) (frozen_block x).rows

-- what the code keeps of the rows is theirs
pub record AreRowsOf (registry : List TypeInfo) (block : BlockState) (x : RowsState) : Type 0 where
  pub rows : AreRows x
  pub lawful : AreLawfulRows x
  pub registry_is : registry ≡ registry_of x
  pub block_is : block ≡ block_of x

-- ---- one type

-- these are the cells of a type that isn't shared, in all rows
pub record ShowsType (t : ℕ) (x : RowsState) (s : TypeState) : Type 0 where
  pub shape : s.shape ≡ shape_of (registry_of x) t
  pub size : length s.cells ≡ row_count x
  pub cells : (k : ℕ) → k < row_count x → cell_in k s.cells ≡ content_at t (row_in k (rows_of x)).cells

-- the block lacks the type, or it is shared or lent to others
pub record ShowsNothing (t : ℕ) (x : RowsState) : Type 0 where
  pub none : (has_type (own_types (registry_of x) (frozen_block x).home.types) t && is_held x t) ≡ false
  pub blank : (k : ℕ) → k < row_count x → content_at t (row_in k (rows_of x)).cells ≡ blank_cell
