-- What loans bring back into a store.
use Rattle.std.specs.Prelude.{ℕ, Bool, if◌then◌else◌, nat_eq, List, [], ◌∷◌, ◌++◌, fold}
use Rattle.world_model.specs.Members.{tally}
use Rattle.block_columns.specs.Types.{TypeState}
use Rattle.chunk_block.specs.Blocks.{BlockState, LoanState, given_type, given_rows}
use Rattle.archetype_store.specs.Stores.{Numbered, StoreState, with_block_in}

-- the pieces that loans have of the block of a number
abbrev pub pieces_of : List LoanState → ℕ → List TypeState
pieces_of [] n = []
pieces_of (l ∷ ls) n = if nat_eq n l.number then l.pieces ++ pieces_of ls n else pieces_of ls n

-- the block with pieces back in their places
abbrev pub with_given : List TypeState → BlockState → BlockState
with_given ps b = record b { columns = fold given_type b.columns ps; rows = fold given_rows b.rows ps }

abbrev pub given_by : List LoanState → Numbered → Numbered
given_by loans b = record b { block = with_given (pieces_of loans b.number) b.block }

-- one loan after another
abbrev pub after_returns : List LoanState → StoreState → StoreState
after_returns [] s = s
after_returns (l ∷ ls) s = after_returns ls (with_block_in l.number (with_given l.pieces) s)

abbrev pub is_piece : ℕ → TypeState → Bool
is_piece t x = nat_eq x.shape.ty.0 t

-- how many pieces of a type of the block of a number a loan has
abbrev pub pieces_in : ℕ → ℕ → LoanState → ℕ
pieces_in n t l = if nat_eq n l.number then tally (is_piece t) l.pieces else 0
