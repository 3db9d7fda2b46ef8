-- Worked examples: a block of two rows and two types, and what comes back into it.
use Rattle.std.specs.Prelude.{ℕ, ℤ, pos, Bool, true, false, List, [], ◌∷◌}
use Rattle.ent_types.specs.declared.kinds.FieldKind.TheVariants.{I32}
use Rattle.ent_types.specs.declared.value.Value.TheVariants.{Int}
use Rattle.world_model.specs.Row.{Row}
use Rattle.block_columns.specs.Types.{one_row, with_value, with_off}
use Rattle.chunk_block.specs.Pieces.{change_piece}
use Rattle.chunk_block.specs.Blocks.{BlockType, BlockState, LoanState}
use Rattle.block_laws.specs.Lending.{lent_pieces}

-- type 3 has an i32 field, type 5 is a tag; both can be disabled
abbrev pub number_type : BlockType
number_type = record { shape = record { ty = record { 0 = 3 }; kinds = I32 ∷ []; is_buffer = false; enableable = true }; lent = false }

abbrev pub tag_type : BlockType
tag_type = record { shape = record { ty = record { 0 = 5 }; kinds = []; is_buffer = false; enableable = true }; lent = false }

-- the row of an entity: its number, and which of the two types are disabled
abbrev pub row : ℕ → ℤ → Bool → Bool → Row
row index number off tag_off = record {
  entity = record { index = index; version = 1 };
  cells = (record { type_id = 3; values = Int number ∷ []; off = off }) ∷ (record { type_id = 5; values = []; off = tag_off }) ∷ [];
  dying = false;
}

abbrev pub block_of : List Row → BlockState
block_of rows = record {
  types = 3 ∷ 5 ∷ [];
  columns = number_type ∷ tag_type ∷ [];
  capacity = 128;
  rows = rows;
  marks = (record { type_id = 3; moment = 1 }) ∷ (record { type_id = 5; moment = 1 }) ∷ [];
  order = 1;
}

abbrev pub block : BlockState
block = block_of (row 8 (pos 10) false false ∷ row 9 (pos 20) false false ∷ [])

-- the loan of some types
abbrev pub loan_of : List ℕ → BlockState → LoanState
loan_of types b = record { number = 0; types = types; pieces = lent_pieces types b }

-- the loan with 21 in the second row
abbrev pub with_21 : LoanState → LoanState
with_21 l = record l { pieces = change_piece 3 (one_row 1 (with_value 0 (Int (pos 21)))) l.pieces }

-- the loan with a type disabled in a row
abbrev pub with_disabled : ℕ → ℕ → LoanState → LoanState
with_disabled t k l = record l { pieces = change_piece t (one_row k (with_off true)) l.pieces }
