-- Worlds of which types of blocks are lent, and the loans.
use Rattle.std.specs.Prelude.{ℕ, ◌≡◌, ⊤, Bool, true, not, if◌then◌else◌, nat_eq, List, [], ◌∷◌, map, filter, fold, sum_by}
use Rattle.std.specs.List.{list_any}
use Rattle.ent_types.specs.declared.type_info.TypeInfo.{TypeInfo}
use Rattle.ent_types.specs.TypeSets.{has_type}
use Rattle.world_model.specs.Members.{In, one_if}
use Rattle.world_model.specs.Row.{Row}
use Rattle.world_model.specs.World.{Block}
use Rattle.block_columns.specs.Types.{blank_cell}
use Rattle.chunk_block.specs.Blocks.{BlockState, LoanState, IsLoanOf, content_at, lent_type, lent_row, given_rows, new_types, row_in}
use Rattle.archetype_store.specs.Stores.{Numbered}
use Rattle.world_rows.specs.Rows.{own_types}
use Rattle.world_loans.specs.Fitting.{AreFitting}
use Rattle.world_loans.specs.Plans.{AreApart, planned, loan_from, lent_by, lent_types}
use Rattle.world_loans.specs.Returns.{pieces_of, pieces_in}
use Rattle.structural_ops.specs.Worlds.{WorldState, IsConsistent, state_of}
use Rattle.structural_ops.specs.Numbered.{HasBlock, whole_block, with_each}
use Rattle.structural_ops.specs.declared.tables.Tables.{Tables}

-- ---- what contracts see

-- The world, where the cell of a type that is lent is blank. `lent` has the types that are lent of each block, in block order.
pub record FrozenState : Type 0 where
  pub state : WorldState
  pub lent : List (List ℕ)

abbrev pub frozen_of : Tables → FrozenState
frozen_of w = record { state = state_of w; lent = map (λ b. lent_types b.block.columns) w.store.blocks }

-- what always holds: types were lent of the blocks of a world, and nothing else was changed
pub record IsFrozen (w : Tables) : Type 0 where
  pub before : List Numbered
  pub types : ℕ → List ℕ
  pub consistent : IsConsistent (record w { store = record (w.store) { blocks = before } })
  pub blocks : w.store.blocks ≡ map (lent_by types) before

abbrev pub lent_at : ℕ → List ℕ → List (List ℕ) → List ℕ
lent_at n [] lent = []
lent_at n (m ∷ ms) [] = []
lent_at n (m ∷ ms) (ts ∷ lent) = if nat_eq m n then ts else lent_at n ms lent

-- the types that are lent of the block of a number
abbrev pub lent_of : FrozenState → ℕ → List ℕ
lent_of f n = lent_at n f.state.numbers f.lent

-- the type is lent of some block
abbrev pub is_lent : FrozenState → ℕ → Bool
is_lent f t = list_any (λ ts. has_type ts t) f.lent

-- a block of which some types are lent
abbrev pub lent_block : List TypeInfo → List ℕ → Block → BlockState
lent_block registry lent b = record (whole_block registry b) { columns = map (lent_type lent) (new_types registry b.home.types) }

-- in each row the cells of these types are blank
abbrev pub AreBlank : List ℕ → List Row → Type 0
AreBlank types rows = (t : ℕ) → has_type types t ≡ true → (k : ℕ) → content_at t (row_in k rows).cells ≡ blank_cell

-- ---- freezing

-- each entry names a block that is there, and entries of one block name no common type
pub record IsPlan (plan : List (ℕ × List ℕ)) (w : WorldState) : Type 0 where
  pub there : (e : ℕ × List ℕ) → In e plan → HasBlock e.0 (λ _. ⊤) w
  pub apart : AreApart plan

abbrev pub no_block : Block
no_block = record { home = record { types = []; shared = [] }; marks = []; rows = []; order = 0 }

-- the block of a number; one without types where there is none
abbrev pub block_at : ℕ → List ℕ → List Block → Block
block_at n [] bs = no_block
block_at n (m ∷ ms) [] = no_block
block_at n (m ∷ ms) (b ∷ bs) = if nat_eq m n then b else block_at n ms bs

-- the loan that an entry of a plan gets
abbrev pub loan_of : WorldState → ℕ × List ℕ → LoanState
loan_of w e = loan_from e (whole_block w.world.registry (block_at e.0 w.numbers w.world.blocks))

-- the block of a number with blank cells for the types that are lent
abbrev pub blanked : (ℕ → List ℕ) → ℕ → Block → Block
blanked types n b = record b { rows = map (lent_row (types n)) b.rows }

-- those types of each block that aren't shared, as far as they are lent
abbrev pub lents : List TypeInfo → (ℕ → List ℕ) → List ℕ → List Block → List (List ℕ)
lents registry types [] bs = []
lents registry types (n ∷ ns) [] = []
lents registry types (n ∷ ns) (b ∷ bs) = filter (has_type (types n)) (own_types registry b.home.types) ∷ lents registry types ns bs

-- the world after what a plan names was lent
abbrev pub frozen_by : List (ℕ × List ℕ) → WorldState → FrozenState
frozen_by plan w = record { state = with_each (blanked (planned plan)) w; lent = lents w.world.registry (planned plan) w.numbers w.world.blocks }

-- ---- what comes back

-- the block of a number with the cells of loans in place of its own
abbrev pub with_cells : List LoanState → ℕ → Block → Block
with_cells loans n b = record b { rows = fold given_rows b.rows (pieces_of loans n) }

abbrev pub with_loans : List LoanState → WorldState → WorldState
with_loans loans w = with_each (with_cells loans) w

-- these are the loans, in any order
pub record AreLoansOf (f : FrozenState) (loans : List LoanState) : Type 0 where
  -- each is of a block that is there
  pub each : (l : LoanState) → In l loans → HasBlock l.number (λ b. IsLoanOf (lent_block f.state.world.registry (lent_of f l.number) b) l) f.state
  -- what was written fits
  pub fit : (l : LoanState) → In l loans → AreFitting f.state.world.registry l.pieces
  -- they have each type that is lent of a block once, and no other type
  pub once : (n t : ℕ) → sum_by (pieces_in n t) loans ≡ one_if (has_type (lent_of f n) t)
