-- The visits of a run with their loans, item by item.
use Rattle.std.specs.Prelude.{ℕ, ◌+◌, List, [], ◌∷◌}
use Rattle.chunk_block.specs.Blocks.{LoanState}
use Rattle.structural_ops.specs.Freezing.{FrozenState}
use Rattle.scenario_record.specs.declared.record.SystemEntry.{SystemEntry}
use Rattle.run_model.specs.Job.{texts_of}
use Rattle.query_select.specs.declared.visits.Visit.{Visit}
use Rattle.item_run.specs.ItemRows.{RowsState}
use Rattle.item_run.specs.Items.{IsItem, ItemState}
use Rattle.item_run.specs.Writing.{Does}

-- the rows of a loan, which is that of the item of this number
abbrev pub rows_of_loan : FrozenState → ℕ → ℕ → LoanState → RowsState
rows_of_loan f frame number loan = record { frozen = f; loan = loan; item = number; frame = frame }

abbrev pub item_of : FrozenState → SystemEntry → ℕ → ℕ → List ℕ → LoanState → ItemState
item_of f s frame number rows loan = record { at = rows_of_loan f frame number loan; system = s; left = rows }

module _ (f : FrozenState) (s : SystemEntry) (frame : ℕ) where
  -- each visit with its loan is an item, of which the first has this number
  abbrev pub AreItems : ℕ → List Visit → List LoanState → Type 0
  AreItems number [] [] = Unit {0}
  AreItems number [] (l ∷ ls) = ⊥
  AreItems number (v ∷ vs) [] = ⊥
  AreItems number (v ∷ vs) (l ∷ ls) = IsItem (item_of f s frame number v.rows l) × AreItems (number + 1) vs ls

  -- the loans after each item has run
  abbrev pub AreDone : ℕ → List Visit → List LoanState → List LoanState → Type 0
  AreDone number [] [] [] = Unit {0}
  AreDone number [] [] (m ∷ ms) = ⊥
  AreDone number [] (l ∷ ls) ms = ⊥
  AreDone number (v ∷ vs) [] ms = ⊥
  AreDone number (v ∷ vs) (l ∷ ls) [] = ⊥
  AreDone number (v ∷ vs) (l ∷ ls) (m ∷ ms) = Does (rows_of_loan f frame number l) (texts_of s) v.rows m × AreDone (number + 1) vs ls ms
