-- What texts need of the rows of an item, and what they leave in its loan.
use Rattle.std.specs.Prelude.{◌≡◌, true, ℕ, List, map}
use Rattle.ent_types.specs.TypeLookups.{field_kind_at, is_enableable_at}
use Rattle.ent_types.specs.TypeSets.{has_type}
use Rattle.expr_trees.specs.declared.tree.Assign.{Assign}
use Rattle.expr_trees.specs.declared.tree.Switch.{Switch}
use Rattle.chunk_block.specs.Blocks.{BlockState, LoanState, IsLoanOf}
use Rattle.block_laws.specs.Lending.{piece_types}
use Rattle.world_loans.specs.Fitting.{AreFitting}
use Rattle.scenario_record.specs.TextNames.{has_field}
use Rattle.run_model.specs.Job.{Text}
use Rattle.run_laws.specs.Runnable.{ExprReads, ValueReads}
use Rattle.run_laws.specs.Suits.{IsOfKind}
use Rattle.item_run.specs.Seats.{after_texts_on}
use Rattle.item_run.specs.ItemRows.{AreRows, RowsState, registry_of, rows_of, seat_of, sources_in}
use Rattle.item_run.specs.declared.texts.Context.{Context}

-- the rows of a loan
abbrev pub rows_at : Context → LoanState → RowsState
rows_at c loan = record { frozen = c.frozen.now; loan = loan; item = c.item; frame = c.frame }

-- ---- before

-- rows that texts can be done on
pub record AreReady (x : RowsState) : Type 0 where
  pub rows : AreRows x
  pub fit : AreFitting (registry_of x) x.loan.pieces

-- the loan has the type; the field is there, of the value's kind; and what the value reads is there
pub record CanAssign (x : RowsState) (a : Assign) : Type 0 where
  pub lent : has_type (piece_types x.loan.pieces) a.ty.0 ≡ true
  pub field : has_field (registry_of x) a.ty a.field ≡ true
  pub kind : IsOfKind (field_kind_at (registry_of x) a.ty.0 a.field) a.value
  pub reads : ValueReads (sources_in x) a.value

pub record CanSwitch (x : RowsState) (w : Switch) : Type 0 where
  pub lent : has_type (piece_types x.loan.pieces) w.ty.0 ≡ true
  pub enableable : is_enableable_at (registry_of x) w.ty.0 ≡ true
  pub reads : ExprReads (sources_in x) w.value

-- ---- after

-- the loan was written, and is one of the same block and types
pub record Rewrites (old new : LoanState) : Type 0 where
  pub number : new.number ≡ old.number
  pub types : new.types ≡ old.types
  pub shapes : map (λ x. x.shape) new.pieces ≡ map (λ x. x.shape) old.pieces
  pub of : (b : BlockState) → IsLoanOf b old → IsLoanOf b new

-- texts were done on the rows of a mask, which left this loan
pub record Does (x : RowsState) (texts : List Text) (mask : List ℕ) (new : LoanState) : Type 0 where
  pub loan : Rewrites x.loan new
  pub fit : AreFitting (registry_of x) new.pieces
  pub rows : rows_of (record x { loan = new }) ≡ after_texts_on (seat_of x) texts mask (rows_of x)
