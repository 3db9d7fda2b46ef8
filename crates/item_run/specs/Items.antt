-- Items: a block that a system visits, with the loan of the types that the system writes.
use Rattle.std.specs.Prelude.{◌≡◌, ◌<◌, ℕ, true, List, []}
use Rattle.ent_types.specs.TypeSets.{has_type}
use Rattle.enable_bits.specs.Masks.{has, IsMask}
use Rattle.world_model.specs.Members.{In}
use Rattle.block_laws.specs.Lending.{piece_types}
use Rattle.world_loans.specs.Fitting.{AreFitting}
use Rattle.scenario_record.specs.declared.record.SystemEntry.{SystemEntry}
use Rattle.run_model.specs.Job.{texts_of, writes}
use Rattle.run_laws.specs.Runnable.{SystemReads, SystemRuns}
use Rattle.item_run.specs.ItemRows.{AreRows, RowsState, registry_of, row_count, sources_in}
use Rattle.item_run.specs.Writing.{Does}

-- `left` has the places of the matching rows that haven't run
pub record ItemState : Type 0 where
  pub at : RowsState
  pub system : SystemEntry
  pub left : List ℕ

pub record IsItem (i : ItemState) : Type 0 where
  pub rows : AreRows i.at
  pub runs : SystemRuns (registry_of i.at) i.system
  pub reads : SystemReads (sources_in i.at) i.system
  -- the loan has the types that the system writes, and what is in it fits
  pub written : (t : ℕ) → In t (writes i.system) → has_type (piece_types i.at.loan.pieces) t ≡ true
  pub fit : AreFitting (registry_of i.at) i.at.loan.pieces
  pub mask : IsMask i.left
  pub within : (k : ℕ) → has i.left k ≡ true → k < row_count i.at

-- all rows that were left have run
pub record Finishes (old new : ItemState) : Type 0 where
  pub does : Does old.at (texts_of old.system) old.left new.at.loan
  pub at : new.at ≡ record (old.at) { loan = new.at.loan }
  pub system : new.system ≡ old.system
  pub left : new.left ≡ []
