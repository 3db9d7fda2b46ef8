-- What a block keeps of each of its types, and lists of what is lent.
use Rattle.std.specs.Prelude.{ℕ, ℤ, ◌≡◌, ◌<◌, Bool, false, List, [], ◌∷◌, Option, Some, None, ◌++◌, Box, option_map, nat_eq, if◌then◌else◌, map, fold, length}
use Rattle.std.specs.Bool.{MatchBool}
use Rattle.std.specs.List.{swap_remove}
use Rattle.std.specs.declared.alloc.Global.{Global}
use Rattle.ent_types.specs.TypeSets.{has_type}
use Rattle.block_columns.specs.declared.shape.TypeShape.{TypeShape}
use Rattle.block_columns.specs.Types.{TypeState, blank_cell, cell_in, new_cell, kind_in, with_number_in, all_rows}
use Rattle.chunk_block.specs.declared.piece.Piece.{Piece, out-Piece}
use Rattle.chunk_block.specs.declared.piece.Piece.TheOpen.{Piece-F}
use Rattle.chunk_block.specs.declared.piece.Piece.TheFolds.{fold-Piece}
use Rattle.chunk_block.specs.declared.slot.Slot.{Slot}

-- a type of a block, and its rows unless they are lent
pub record Place : Type 0 where
  pub shape : TypeShape
  pub held : Option TypeState

-- ---- from boxes to lists

abbrev pub after : Option (Box (List TypeState) Global) → List TypeState
after None = []
after (Some b) = b.value

abbrev pub lent_from : Option TypeState → List TypeState
lent_from None = []
lent_from (Some x) = x ∷ []

abbrev pub chain_step : Piece-F (List TypeState) → List TypeState
chain_step p = lent_from p.rows ++ after p.next

abbrev pub pieces_from : Piece → List TypeState
pieces_from = fold-Piece (List TypeState) chain_step

abbrev pub pieces_in : Option (Box Piece Global) → List TypeState
pieces_in None = []
pieces_in (Some b) = pieces_from b.value

abbrev pub rows_of : Piece → Option TypeState
rows_of p = (out-Piece p).rows

abbrev pub place_of : Slot → Place
place_of s = record { shape = s.shape; held = option_map (λ h. h.rows) s.held }

abbrev pub places_of : List Slot → List Place
places_of slots = map place_of slots

-- ---- one type

-- the type is among the pieces, and this holds of the first of it
abbrev pub OfPiece : ℕ → (TypeState → Type 0) → List TypeState → Type 0
OfPiece t P [] = ⊥
OfPiece t P (x ∷ xs) = MatchBool (nat_eq x.shape.ty.0 t) (P x) (OfPiece t P xs)

abbrev pub LacksPiece : ℕ → List TypeState → Type 0
LacksPiece t [] = Unit {0}
LacksPiece t (x ∷ xs) = MatchBool (nat_eq x.shape.ty.0 t) ⊥ (LacksPiece t xs)

abbrev pub change_piece : ℕ → (TypeState → TypeState) → List TypeState → List TypeState
change_piece t f [] = []
change_piece t f (x ∷ xs) = if nat_eq x.shape.ty.0 t then f x ∷ xs else x ∷ change_piece t f xs

abbrev pub IsHeld : (TypeState → Type 0) → Option TypeState → Type 0
IsHeld P None = ⊥
IsHeld P (Some x) = P x

-- the block has the type, it isn't lent, and this holds of it
abbrev pub OfPlace : ℕ → (TypeState → Type 0) → List Place → Type 0
OfPlace t P [] = ⊥
OfPlace t P (p ∷ ps) = MatchBool (nat_eq p.shape.ty.0 t) (IsHeld P p.held) (OfPlace t P ps)

-- the block lacks the type, or it is lent
abbrev pub LacksPlace : ℕ → List Place → Type 0
LacksPlace t [] = Unit {0}
LacksPlace t (p ∷ ps) = MatchBool (nat_eq p.shape.ty.0 t) (p.held ≡ None) (LacksPlace t ps)

abbrev pub change_place : ℕ → (TypeState → TypeState) → List Place → List Place
change_place t f [] = []
change_place t f (p ∷ ps) = if nat_eq p.shape.ty.0 t then record p { held = option_map f p.held } ∷ ps else p ∷ change_place t f ps

-- the row is there, and this holds of the type
abbrev pub InRow : ℕ → (TypeShape → Type 0) → TypeState → Type 0
InRow row P x = (row < length x.cells) × P x.shape

-- there are n rows, and this holds of the type
abbrev pub OfRows : ℕ → (TypeShape → Type 0) → TypeState → Type 0
OfRows n P x = (n ≡ length x.cells) × P x.shape

abbrev pub OfShape : (TypeShape → Type 0) → TypeState → Type 0
OfShape P x = P x.shape

-- what a field keeps of the numbers of some rows
abbrev pub stored_numbers : List ℕ → ℕ → List ℤ → TypeState → TypeState
stored_numbers rows f numbers x = all_rows (with_number_in rows (kind_in f x.shape.kinds) f numbers) x

-- ---- the bit of a row

-- if the type is among the pieces, this holds of the first of it
abbrev pub IfPiece : ℕ → (TypeState → Type 0) → List TypeState → Type 0
IfPiece t P [] = Unit {0}
IfPiece t P (x ∷ xs) = MatchBool (nat_eq x.shape.ty.0 t) (P x) (IfPiece t P xs)

-- the type is disabled in the row; a type that isn't there never is
abbrev pub piece_off : ℕ → ℕ → List TypeState → Bool
piece_off row t [] = false
piece_off row t (x ∷ xs) = if nat_eq x.shape.ty.0 t then (cell_in row x.cells).off else piece_off row t xs

abbrev pub held_off : ℕ → Option TypeState → Bool
held_off row None = false
held_off row (Some x) = (cell_in row x.cells).off

abbrev pub place_off : ℕ → ℕ → List Place → Bool
place_off row t [] = false
place_off row t (p ∷ ps) = if nat_eq p.shape.ty.0 t then held_off row p.held else place_off row t ps

-- ---- all types

abbrev pub IsIfHeld : (TypeState → Type 0) → Option TypeState → Type 0
IsIfHeld P None = Unit {0}
IsIfHeld P (Some x) = P x

-- this holds of each type that isn't lent
abbrev pub Every : (TypeState → Type 0) → List Place → Type 0
Every P [] = Unit {0}
Every P (p ∷ ps) = IsIfHeld P p.held × Every P ps

abbrev pub HasRoom : TypeState → Type 0
HasRoom x = length x.cells < x.capacity

abbrev pub HasTheRow : ℕ → TypeState → Type 0
HasTheRow row x = row < length x.cells

-- a row more, with the cell of a new row
abbrev pub pushed : TypeState → TypeState
pushed x = record x { cells = x.cells ++ new_cell x.shape ∷ [] }

abbrev pub pushed_place : Place → Place
pushed_place p = record p { held = option_map pushed p.held }

-- without a row, whose place the last one took
abbrev pub swapped : ℕ → TypeState → TypeState
swapped row x = record x { cells = swap_remove x.cells row blank_cell }

abbrev pub swapped_place : ℕ → Place → Place
swapped_place row p = record p { held = option_map (swapped row) p.held }

-- a set of types knows numbers below 256
abbrev pub AreSmall : List Place → Type 0
AreSmall [] = Unit {0}
AreSmall (p ∷ ps) = (p.shape.ty.0 < 256) × AreSmall ps

-- ---- lending

-- the place after these types were lent
abbrev pub kept : List ℕ → Place → Place
kept types p = if has_type types p.shape.ty.0 then record p { held = None } else p

abbrev pub lent : List ℕ → Place → List TypeState
lent types p = if has_type types p.shape.ty.0 then lent_from p.held else []

-- a piece in the place of its type
abbrev pub put : List Place → TypeState → List Place
put [] x = []
put (p ∷ ps) x = if nat_eq p.shape.ty.0 x.shape.ty.0 then record p { held = Some x } ∷ ps else p ∷ put ps x

abbrev pub put_all : List Place → List TypeState → List Place
put_all ps xs = fold put ps xs
