-- The rows of one type, as the list of their cells.
use Rattle.std.specs.Prelude.{ℕ, ℤ, ◌≡◌, ◌<◌, ◌≤◌, Bool, true, false, not, List, [], map, length, slice_index_or, slice_set, if◌then◌else◌}
use Rattle.ent_types.specs.declared.entity.Entity.{Entity}
use Rattle.ent_types.specs.declared.value.Value.{Value}
use Rattle.ent_types.specs.declared.value.Value.TheVariants.{Int, Ref}
use Rattle.ent_types.specs.declared.kinds.FieldKind.{FieldKind}
use Rattle.ent_types.specs.declared.kinds.FieldKind.TheVariants.{I32, Ref as KindRef}
use Rattle.ent_types.specs.Fitting.{default_value, fit, fits_field}
use Rattle.enable_bits.specs.Masks.{has}
use Rattle.buffer_store.specs.Buffers.{Buffer}
use Rattle.block_columns.specs.Places.{at_places}
use Rattle.block_columns.specs.Columns.{number_at, reference_at, IsNumberKind}
use Rattle.block_columns.specs.Fields.{FieldsState, values_in, HaveRows, AreOf}
use Rattle.block_columns.specs.declared.shape.TypeShape.{TypeShape}

-- what a row has of the type: its values, and whether the type is disabled in this row
pub record Content : Type 0 where
  pub values : List Value
  pub off : Bool

-- what contracts see: the type, for how many rows there is room, and the rows' cells
pub record TypeState : Type 0 where
  pub shape : TypeShape
  pub capacity : ℕ
  pub cells : List Content

-- the cell of the row at place k
abbrev pub cell_at : TypeShape → FieldsState → List ℕ → ℕ → Content
cell_at shape fields off k = record { values = values_in k fields; off = has off k }

-- What always holds of n rows: the fields are the type's, each with a value for each row and room for the capacity.
-- Only an enableable type has bits, and only for rows that are there.
pub record IsEven (n cap : ℕ) (shape : TypeShape) (off : List ℕ) (fields : FieldsState) : Type 0 where
  pub few : n ≤ cap
  pub most : cap ≤ 128
  pub fields_of_type : AreOf shape fields
  pub have_rows : HaveRows n cap fields
  pub past : (k : ℕ) → n ≤ k → has off k ≡ false
  pub bits : shape.enableable ≡ false → (k : ℕ) → has off k ≡ false

-- an element of a buffer has 1 to 8 values
abbrev pub HasLawfulWidth : TypeShape → Type 0
HasLawfulWidth shape = shape.is_buffer ≡ true → (1 ≤ length shape.kinds) × (length shape.kinds ≤ 8)

-- ---- cells

-- a cell with nothing: what a row shows of a type that isn't there
abbrev pub blank_cell : Content
blank_cell = record { values = []; off = false }

abbrev pub cell_in : ℕ → List Content → Content
cell_in k cells = slice_index_or cells k blank_cell

-- the cell of a new row: 0 or null in each field, or no element, and enabled
abbrev pub new_cell : TypeShape → Content
new_cell shape = record { values = if shape.is_buffer then [] else map default_value shape.kinds; off = false }

-- the kind of a field; i32 where there is none
abbrev pub kind_in : ℕ → List FieldKind → FieldKind
kind_in f kinds = slice_index_or kinds f I32

-- another value in a field
abbrev pub with_value : ℕ → Value → Content → Content
with_value f v c = record c { values = slice_set c.values f v }

abbrev pub with_off : Bool → Content → Content
with_off off c = record c { off = off }

abbrev pub with_values : List Value → Content → Content
with_values values c = record c { values = values }

-- what the field keeps of the row's number, if the mask has the row
abbrev pub with_number_in : List ℕ → FieldKind → ℕ → List ℤ → ℕ → Content → Content
with_number_in rows kind f numbers k c = if has rows k then with_value f (fit kind (Int (number_at k numbers))) c else c

abbrev pub with_reference_in : List ℕ → ℕ → List Entity → ℕ → Content → Content
with_reference_in rows f references k c = if has rows k then with_value f (Ref (reference_at k references)) c else c

-- enabled as the second mask says, if the first one has the row
abbrev pub with_enabled_in : List ℕ → List ℕ → ℕ → Content → Content
with_enabled_in rows on k c = if has rows k then with_off (not (has on k)) c else c

-- ---- rows changed

-- another cell in one row
abbrev pub one_row : ℕ → (Content → Content) → TypeState → TypeState
one_row row g t = record t { cells = slice_set t.cells row (g (cell_in row t.cells)) }

-- each row's cell changed by its place
abbrev pub all_rows : (ℕ → Content → Content) → TypeState → TypeState
all_rows g t = record t { cells = at_places g 0 t.cells }

-- ---- what the calls ask

-- the type has a column for this field
abbrev pub HasField : ℕ → TypeShape → Type 0
HasField f shape = (shape.is_buffer ≡ false) × (f < length shape.kinds)

abbrev pub TakesValue : ℕ → Value → TypeShape → Type 0
TakesValue f v shape = HasField f shape × (fits_field (kind_in f shape.kinds) v ≡ true)

abbrev pub TakesNumbers : ℕ → TypeShape → Type 0
TakesNumbers f shape = HasField f shape × IsNumberKind (kind_in f shape.kinds)

abbrev pub TakesReferences : ℕ → TypeShape → Type 0
TakesReferences f shape = HasField f shape × (kind_in f shape.kinds ≡ KindRef)

abbrev pub IsEnableable : TypeShape → Type 0
IsEnableable shape = shape.enableable ≡ true

abbrev pub IsBuffer : TypeShape → Type 0
IsBuffer shape = shape.is_buffer ≡ true

abbrev pub TakesElements : Buffer Value → TypeShape → Type 0
TakesElements new shape = IsBuffer shape × (new.width ≡ length shape.kinds)
