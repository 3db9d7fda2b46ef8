-- The columns or the buffers of one type.
use Rattle.std.specs.Prelude.{ℕ, ℤ, true, false, if◌then◌else◌, ◌≡◌, ◌<◌, ◌≤◌, ◌++◌, List, [], ◌∷◌, map, length, slice_index_or, slice_set}
use Rattle.std.specs.List.{swap_remove}
use Rattle.ent_types.specs.declared.entity.Entity.{Entity}
use Rattle.ent_types.specs.declared.value.Value.{Value}
use Rattle.ent_types.specs.declared.kinds.FieldKind.TheVariants.{I32, Ref as KindRef}
use Rattle.block_columns.specs.Places.{at_places}
use Rattle.block_columns.specs.Columns.{ColumnState, value_at, empty_column, pushed, swapped, IsNumberKind, with_number, with_reference}
use Rattle.block_columns.specs.Buffers.{BuffersState}
use Rattle.buffer_store.specs.Buffers.{Buffer}
use Rattle.block_columns.specs.declared.shape.TypeShape.{TypeShape}
use Rattle.block_columns.specs.declared.fields.Fields.{Fields}
use Rattle.block_columns.specs.declared.fields.Fields.TheVariants as fields

-- a column for each field, or the buffers
pub data FieldsState : Type 0 where
  Columns : List ColumnState → FieldsState
  Lists : BuffersState → FieldsState

abbrev pub fields_of : Fields → FieldsState
fields_of (fields.One c) = Columns (c ∷ [])
fields_of (fields.Two c d) = Columns (c ∷ d ∷ [])
fields_of (fields.Columns v) = Columns v.items
fields_of (fields.Lists b) = Lists b

-- ---- one row

-- a column that isn't there
abbrev pub no_column : ColumnState
no_column = record { kind = I32; room = 0; values = [] }

abbrev pub column_at : ℕ → List ColumnState → ColumnState
column_at f columns = slice_index_or columns f no_column

-- the values of the row at place k
abbrev pub values_in : ℕ → FieldsState → List Value
values_in k (Columns cs) = map (λ c. value_at k c.values) cs
values_in k (Lists b) = slice_index_or b.lists k []

-- ---- what a call asks

-- each column has n values, and room for cap
abbrev pub AreEven : ℕ → ℕ → List ColumnState → Type 0
AreEven n cap [] = Unit {0}
AreEven n cap (c ∷ cs) = (length c.values ≡ n) × ((c.room ≡ cap) × AreEven n cap cs)

-- n rows, with room for cap
abbrev pub HaveRows : ℕ → ℕ → FieldsState → Type 0
HaveRows n cap (Columns cs) = AreEven n cap cs
HaveRows n cap (Lists b) = (b.room ≡ cap) × (length b.lists ≡ n)

-- the fields are those of the type
abbrev pub AreOf : TypeShape → FieldsState → Type 0
AreOf shape (Columns cs) = (shape.is_buffer ≡ false) × (map (λ c. c.kind) cs ≡ shape.kinds)
AreOf shape (Lists b) = (shape.is_buffer ≡ true) × (b.width ≡ length shape.kinds)

-- there are columns, with this field; not so of buffers
abbrev pub HasColumn : ℕ → (ColumnState → Type 0) → FieldsState → Type 0
HasColumn f P (Columns cs) = (f < length cs) × P (column_at f cs)
HasColumn f P (Lists b) = ⊥

abbrev pub AreLists : (BuffersState → Type 0) → FieldsState → Type 0
AreLists P (Columns cs) = ⊥
AreLists P (Lists b) = P b

-- ---- changed

abbrev pub with_column : ℕ → (ColumnState → ColumnState) → FieldsState → FieldsState
with_column f g (Columns cs) = Columns (slice_set cs f (g (column_at f cs)))
with_column f g (Lists b) = Lists b

abbrev pub pushed_fields : FieldsState → FieldsState
pushed_fields (Columns cs) = Columns (map pushed cs)
pushed_fields (Lists b) = Lists (record b { lists = b.lists ++ [] ∷ [] })

abbrev pub swapped_fields : ℕ → FieldsState → FieldsState
swapped_fields row (Columns cs) = Columns (map (swapped row) cs)
swapped_fields row (Lists b) = Lists (record b { lists = swap_remove b.lists row [] })

abbrev pub put_list : ℕ → List Value → FieldsState → FieldsState
put_list row values (Columns cs) = Columns cs
put_list row values (Lists b) = Lists (record b { lists = slice_set b.lists row values })

abbrev pub stored_numbers : List ℕ → List ℤ → ColumnState → ColumnState
stored_numbers rows numbers c = record c { values = at_places (with_number rows c.kind numbers) 0 c.values }

abbrev pub stored_references : List ℕ → List Entity → ColumnState → ColumnState
stored_references rows references c = record c { values = at_places (with_reference rows references) 0 c.values }

abbrev pub CanStoreNumbers : ℕ → ColumnState → Type 0
CanStoreNumbers n c = IsNumberKind c.kind × ((length c.values ≡ n) × (n ≤ 128))

abbrev pub CanStoreReferences : ℕ → ColumnState → Type 0
CanStoreReferences n c = (c.kind ≡ KindRef) × ((length c.values ≡ n) × (n ≤ 128))

abbrev pub HasRow : ℕ → ColumnState → Type 0
HasRow row c = row < length c.values

abbrev pub HasList : ℕ → BuffersState → Type 0
HasList row b = row < length b.lists

abbrev pub TakesElements : ℕ → Buffer Value → BuffersState → Type 0
TakesElements row new b = HasList row b × (new.width ≡ b.width)

-- the fields of a type with no row
abbrev pub new_fields : ℕ → TypeShape → FieldsState
new_fields cap shape = if shape.is_buffer then Lists (record { width = length shape.kinds; room = cap; lists = [] }) else Columns (map (empty_column cap) shape.kinds)
