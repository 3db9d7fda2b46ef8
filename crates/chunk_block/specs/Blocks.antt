-- What contracts see of a block and of a loan: rows of cells, and what is lent by type.
use Rattle.std.specs.Prelude.{ℕ, ◌≤◌, ◌≡◌, Bool, true, false, List, [], ◌∷◌, Option, Some, None, is_none, nat_eq, if◌then◌else◌, map, length, slice_index_or}
use Rattle.std.specs.Bool.{MatchBool}
use Rattle.std.specs.List.{flat_map}
use Rattle.ent_types.specs.declared.entity.Entity.{Entity}
use Rattle.ent_types.specs.declared.value.Value.{Value}
use Rattle.ent_types.specs.declared.kinds.FieldKind.{FieldKind}
use Rattle.ent_types.specs.declared.kinds.FieldKind.TheVariants.{I32}
use Rattle.ent_types.specs.declared.type_info.TypeInfo.{TypeInfo}
use Rattle.ent_types.specs.Fitting.{null_entity}
use Rattle.ent_types.specs.Types.{is_shared, is_buffer}
use Rattle.ent_types.specs.Registries.{type_at}
use Rattle.ent_types.specs.TypeSets.{has_type}
use Rattle.enable_bits.specs.Masks.{has}
use Rattle.world_model.specs.Row.{Row, Cell}
use Rattle.world_model.specs.World.{Mark}
use Rattle.block_columns.specs.Places.{at_places}
use Rattle.block_columns.specs.Columns.{value_at}
use Rattle.block_columns.specs.Types.{TypeState, Content, blank_cell, cell_in, new_cell, kind_in}
use Rattle.block_columns.specs.declared.shape.TypeShape.{TypeShape}
use Rattle.chunk_block.specs.Pieces.{Place, IsIfHeld, AreSmall}
use Rattle.chunk_block.specs.declared.marks.TypeMark.{TypeMark}

-- ---- what contracts see

-- a type of a block that isn't shared, and whether its rows are lent
pub record BlockType : Type 0 where
  pub shape : TypeShape
  pub lent : Bool

-- A block. Its types are those of its home, shared ones among them; `columns` has the others, by rising type. Each row has a
-- cell for each of these, in their order. The cell of a type that is lent is blank. There is a mark for each type.
pub record BlockState : Type 0 where
  pub types : List ℕ
  pub columns : List BlockType
  pub capacity : ℕ
  pub rows : List Row
  pub marks : List Mark
  pub order : ℕ

-- a loan: the number and the types that `lend` was given, and the rows of each type
pub record LoanState : Type 0 where
  pub number : ℕ
  pub types : List ℕ
  pub pieces : List TypeState

-- ---- cells by type

abbrev pub content_of : Cell → Content
content_of c = record { values = c.values; off = c.off }

-- what a row has of a type; blank where there is no cell of it
abbrev pub content_at : ℕ → List Cell → Content
content_at t [] = blank_cell
content_at t (c ∷ cs) = if nat_eq c.type_id t then content_of c else content_at t cs

-- the cell with another content
abbrev pub with_content : Content → Cell → Cell
with_content x c = record { type_id = c.type_id; values = x.values; off = x.off }

-- the cells with the cell of a type changed
abbrev pub change_cell : ℕ → (Content → Content) → List Cell → List Cell
change_cell t g [] = []
change_cell t g (c ∷ cs) = if nat_eq c.type_id t then with_content (g (content_of c)) c ∷ cs else c ∷ change_cell t g cs

-- the row with its cell of a type changed
abbrev pub changed : ℕ → (Content → Content) → Row → Row
changed t g r = record r { cells = change_cell t g r.cells }

-- a row that isn't there
abbrev pub no_row : Row
no_row = record { entity = null_entity; cells = []; dying = false }

abbrev pub row_in : ℕ → List Row → Row
row_in k rows = slice_index_or rows k no_row

-- the value of a field of a row
abbrev pub field_at : ℕ → ℕ → Row → Value
field_at t f r = value_at f (content_at t r.cells).values

abbrev pub is_off : ℕ → Row → Bool
is_off t r = (content_at t r.cells).off

-- ---- from places to rows

abbrev pub held_content : ℕ → Option TypeState → Content
held_content k None = blank_cell
held_content k (Some x) = cell_in k x.cells

abbrev pub place_cell : ℕ → Place → Cell
place_cell k p = record { type_id = p.shape.ty.0; values = (held_content k p.held).values; off = (held_content k p.held).off }

abbrev pub row_at : List Place → List ℕ → List Entity → ℕ → Row
row_at ps dying es k = record { entity = slice_index_or es k null_entity; cells = map (place_cell k) ps; dying = has dying k }

abbrev pub type_of : Place → BlockType
type_of p = record { shape = p.shape; lent = is_none p.held }

abbrev pub marks_of : List TypeMark → List Mark
marks_of marks = map (λ m. record { type_id = m.ty.0; moment = m.version }) marks

-- ---- what always holds

-- the rows of a type are those of the block
pub record Suits (n cap : ℕ) (shape : TypeShape) (x : TypeState) : Type 0 where
  pub same_shape : x.shape ≡ shape
  pub same_capacity : x.capacity ≡ cap
  pub same_rows : length x.cells ≡ n

abbrev pub AllSuit : ℕ → ℕ → List Place → Type 0
AllSuit n cap [] = Unit {0}
AllSuit n cap (p ∷ ps) = IsIfHeld (Suits n cap p.shape) p.held × AllSuit n cap ps

-- no type is there twice
abbrev pub AreDistinct : List ℕ → Type 0
AreDistinct [] = Unit {0}
AreDistinct (t ∷ ts) = (has_type ts t ≡ false) × AreDistinct ts

abbrev pub place_types : List Place → List ℕ
place_types ps = map (λ p. p.shape.ty.0) ps

-- n rows, with room for the capacity
pub record IsSound (n room cap : ℕ) (dying : List ℕ) (ps : List Place) : Type 0 where
  pub few : n ≤ cap
  pub most : cap ≤ 128
  pub reserved : cap ≤ room
  pub past : (k : ℕ) → n ≤ k → has dying k ≡ false
  pub small : AreSmall ps
  pub distinct : AreDistinct (place_types ps)
  pub suit : AllSuit n cap ps

-- ---- what the types and cells of a block are

abbrev pub column_types : List BlockType → List ℕ
column_types columns = map (λ x. x.shape.ty.0) columns

-- each row has a cell for each of these types, in this order
abbrev pub HaveTypes : List ℕ → List Row → Type 0
HaveTypes ts [] = Unit {0}
HaveTypes ts (r ∷ rs) = (map (λ c. c.type_id) r.cells ≡ ts) × HaveTypes ts rs

-- ---- what the calls ask

-- the block has the type, which isn't shared and not lent, and this holds of it
abbrev pub OfType : ℕ → (TypeShape → Type 0) → List BlockType → Type 0
OfType t P [] = ⊥
OfType t P (x ∷ xs) = MatchBool (nat_eq x.shape.ty.0 t) ((x.lent ≡ false) × P x.shape) (OfType t P xs)

-- the block lacks the type, or it is shared or lent
abbrev pub Lacks : ℕ → List BlockType → Type 0
Lacks t [] = Unit {0}
Lacks t (x ∷ xs) = MatchBool (nat_eq x.shape.ty.0 t) (x.lent ≡ true) (Lacks t xs)

-- the type isn't lent; a shared type never is
abbrev pub IsNotLent : ℕ → List BlockType → Type 0
IsNotLent t [] = Unit {0}
IsNotLent t (x ∷ xs) = MatchBool (nat_eq x.shape.ty.0 t) (x.lent ≡ false) (IsNotLent t xs)

-- nothing is lent
abbrev pub IsWhole : List BlockType → Type 0
IsWhole [] = Unit {0}
IsWhole (x ∷ xs) = (x.lent ≡ false) × IsWhole xs

-- of these types none is lent
abbrev pub AreHeld : List ℕ → List BlockType → Type 0
AreHeld types [] = Unit {0}
AreHeld types (x ∷ xs) = (has_type types x.shape.ty.0 ≡ true → x.lent ≡ false) × AreHeld types xs

-- the block has this type
abbrev pub HasShape : TypeShape → List BlockType → Type 0
HasShape shape [] = ⊥
HasShape shape (x ∷ xs) = MatchBool (nat_eq x.shape.ty.0 shape.ty.0) (shape ≡ x.shape) (HasShape shape xs)

abbrev pub ArePiecesOf : BlockState → List TypeState → Type 0
ArePiecesOf b [] = Unit {0}
ArePiecesOf b (x ∷ xs) = ((length x.cells ≡ length b.rows) × ((x.capacity ≡ b.capacity) × HasShape x.shape b.columns)) × ArePiecesOf b xs

-- the loan is one of this block
abbrev pub IsLoanOf : BlockState → LoanState → Type 0
IsLoanOf b loan = ArePiecesOf b loan.pieces

-- the kind of a field of a type; i32 where there is none
abbrev pub kind_at : ℕ → ℕ → List BlockType → FieldKind
kind_at t f [] = I32
kind_at t f (x ∷ xs) = if nat_eq x.shape.ty.0 t then kind_in f x.shape.kinds else kind_at t f xs

-- ---- rows and types after a call

-- the row of a new entity: 0 or null in each field, all types enabled, and not dying
abbrev pub new_row : List BlockType → Entity → Row
new_row columns e = record {
  entity = e;
  cells = map (λ x. record { type_id = x.shape.ty.0; values = (new_cell x.shape).values; off = false }) columns;
  dying = false;
}

abbrev pub lent_type : List ℕ → BlockType → BlockType
lent_type types x = if has_type types x.shape.ty.0 then record x { lent = true } else x

-- the cell is blank if its type is lent
abbrev pub lent_cell : List ℕ → Cell → Cell
lent_cell types c = if has_type types c.type_id then with_content blank_cell c else c

abbrev pub lent_row : List ℕ → Row → Row
lent_row types r = record r { cells = map (lent_cell types) r.cells }

-- what a loan gets of a type
abbrev pub lent_piece : List ℕ → ℕ → List Row → BlockType → List TypeState
lent_piece types cap rows x =
    if has_type types x.shape.ty.0
    then record { shape = x.shape; capacity = cap; cells = map (λ r. content_at x.shape.ty.0 r.cells) rows } ∷ []
    else []

-- the type of a piece that came back
abbrev pub given_type : List BlockType → TypeState → List BlockType
given_type [] x = []
given_type (y ∷ ys) x = if nat_eq y.shape.ty.0 x.shape.ty.0 then record y { lent = false } ∷ ys else y ∷ given_type ys x

-- the rows with the cells of a piece that came back
abbrev pub given_rows : List Row → TypeState → List Row
given_rows rows x = at_places (λ k r. changed x.shape.ty.0 (λ _. cell_in k x.cells) r) 0 rows

-- the mark of a type; 0 where there is none
abbrev pub mark_at : ℕ → List Mark → ℕ
mark_at t [] = 0
mark_at t (m ∷ ms) = if nat_eq m.type_id t then m.moment else mark_at t ms

-- the marks with another one for a type
abbrev pub with_mark : ℕ → ℕ → List Mark → List Mark
with_mark t moment [] = []
with_mark t moment (m ∷ ms) = if nat_eq m.type_id t then record m { moment = moment } ∷ ms else m ∷ with_mark t moment ms

-- ---- a new block

abbrev pub new_mark : ℕ → Mark
new_mark t = record { type_id = t; moment = 0 }

abbrev pub shape_of : List TypeInfo → ℕ → TypeShape
shape_of registry t = record {
  ty = record { 0 = t };
  kinds = map (λ f. f.kind) (type_at registry t).fields;
  is_buffer = is_buffer (type_at registry t).kind;
  enableable = (type_at registry t).enableable;
}

-- a type with no row
abbrev pub new_place : ℕ → TypeShape → Place
new_place cap shape = record { shape = shape; held = Some (record { shape = shape; capacity = cap; cells = [] }) }

-- the place of a type, unless it is shared
abbrev pub new_place_of : List TypeInfo → ℕ → ℕ → List Place
new_place_of registry cap t = if is_shared (type_at registry t).kind then [] else new_place cap (shape_of registry t) ∷ []

abbrev pub new_places : List TypeInfo → ℕ → List ℕ → List Place
new_places registry cap types = flat_map (new_place_of registry cap) types

abbrev pub new_type_of : List TypeInfo → ℕ → List BlockType
new_type_of registry t = if is_shared (type_at registry t).kind then [] else record { shape = shape_of registry t; lent = false } ∷ []

-- the types of a block that aren't shared
abbrev pub new_types : List TypeInfo → List ℕ → List BlockType
new_types registry types = flat_map (new_type_of registry) types

abbrev pub new_block : List TypeInfo → List ℕ → ℕ → BlockState
new_block registry types cap = record {
  types = types;
  columns = new_types registry types;
  capacity = cap;
  rows = [];
  marks = map new_mark types;
  order = 0;
}
