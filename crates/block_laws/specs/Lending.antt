-- What a block is after a loan came back, and loans that have no type in common.
use Rattle.std.specs.Prelude.{ℕ, ◌≡◌, ◌<◌, false, List, [], ◌∷◌, nat_eq, map, fold}
use Rattle.std.specs.List.{flat_map}
use Rattle.block_columns.specs.Types.{TypeState, Content, cell_in}
use Rattle.chunk_block.specs.Blocks.{BlockState, LoanState, lent_type, lent_row, lent_piece, given_type, given_rows}

-- the block after these types were lent, and the pieces of the loan
abbrev pub after_lending : List ℕ → BlockState → BlockState
after_lending types b = record b { columns = map (lent_type types) b.columns; rows = map (lent_row types) b.rows }

abbrev pub lent_pieces : List ℕ → BlockState → List TypeState
lent_pieces types b = flat_map (lent_piece types b.capacity b.rows) b.columns

-- the pieces have the types that were lent, in their order, and any rows
abbrev pub AreLentFrom : List ℕ → BlockState → List TypeState → Type 0
AreLentFrom types b xs = map (λ x. x.shape) xs ≡ map (λ x. x.shape) (lent_pieces types b)

-- the block with the cells of these pieces in place of its own
abbrev pub with_pieces : BlockState → List TypeState → BlockState
with_pieces b xs = record b { rows = fold given_rows b.rows xs }

abbrev pub piece_types : List TypeState → List ℕ
piece_types xs = map (λ x. x.shape.ty.0) xs

-- `F` changes the cells of the first n rows as `G` says, and no type
pub record Writes (n : ℕ) (F : TypeState → TypeState) (G : ℕ → Content → Content) (x : TypeState) : Type 0 where
  pub same_shape : (F x).shape ≡ x.shape
  pub cells : (k : ℕ) → k < n → cell_in k (F x).cells ≡ G k (cell_in k x.cells)

abbrev pub given_back : BlockState → LoanState → BlockState
given_back b loan = record b { columns = fold given_type b.columns loan.pieces; rows = fold given_rows b.rows loan.pieces }

-- none of the pieces is of this one's type
abbrev pub IsApart : TypeState → List TypeState → Type 0
IsApart x [] = Unit {0}
IsApart x (y ∷ ys) = (nat_eq x.shape.ty.0 y.shape.ty.0 ≡ false) × IsApart x ys

abbrev pub AreApart : List TypeState → List TypeState → Type 0
AreApart [] ys = Unit {0}
AreApart (x ∷ xs) ys = IsApart x ys × AreApart xs ys
