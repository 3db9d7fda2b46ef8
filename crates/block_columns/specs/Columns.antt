-- A column of one field, as the list of its rows' values.
use Rattle.std.specs.Prelude.{ℕ, ℤ, pos, ◌≡◌, ◌<◌, ◌++◌, List, [], ◌∷◌, map, length, vec_capacity, slice_index_or, slice_set, if◌then◌else◌}
use Rattle.std.specs.List.{swap_remove}
use Rattle.ent_types.specs.declared.entity.Entity.{Entity}
use Rattle.ent_types.specs.declared.value.Value.{Value}
use Rattle.ent_types.specs.declared.value.Value.TheVariants.{Int, Ref}
use Rattle.ent_types.specs.declared.kinds.FieldKind.{FieldKind}
use Rattle.ent_types.specs.declared.kinds.FieldKind.TheVariants.{I32 as KindI32, I64 as KindI64, Ref as KindRef}
use Rattle.ent_types.specs.Fitting.{null_entity, default_value, fit}
use Rattle.enable_bits.specs.Masks.{has}
use Rattle.block_columns.specs.declared.cells.Cells.{Cells}
use Rattle.block_columns.specs.declared.cells.Cells.TheVariants.{I32, I64, Refs}

-- what contracts see of a column: its kind, for how many rows it has room, and the rows' values
pub record ColumnState : Type 0 where
  pub kind : FieldKind
  pub room : ℕ
  pub values : List Value

-- ---- from the code's lists to values

abbrev pub kind_of : Cells → FieldKind
kind_of (I32 v) = KindI32
kind_of (I64 v) = KindI64
kind_of (Refs v) = KindRef

abbrev pub values_of : Cells → List Value
values_of (I32 v) = map (λ z. Int z) v.items
values_of (I64 v) = map (λ z. Int z) v.items
values_of (Refs v) = map (λ e. Ref e) v.items

abbrev pub room_of : Cells → ℕ
room_of (I32 v) = vec_capacity v
room_of (I64 v) = vec_capacity v
room_of (Refs v) = vec_capacity v

-- ---- lists of numbers and of references, one for each row

-- the number of a row; 0 past the end
abbrev pub number_at : ℕ → List ℤ → ℤ
number_at place numbers = slice_index_or numbers place (pos 0)

-- the reference of a row; null past the end
abbrev pub reference_at : ℕ → List Entity → Entity
reference_at place references = slice_index_or references place null_entity

-- the value of a row; 0 past the end
abbrev pub value_at : ℕ → List Value → Value
value_at place values = slice_index_or values place (Int (pos 0))

-- a list of n numbers, each as `f` has it
pub record HoldsNumbers (column : List ℤ) (n : ℕ) (f : ℕ → ℤ) : Type 0 where
  pub size : length column ≡ n
  pub numbers : (k : ℕ) → k < n → number_at k column ≡ f k

-- a list of n references, each as `f` has it
pub record HoldsReferences (column : List Entity) (n : ℕ) (f : ℕ → Entity) : Type 0 where
  pub size : length column ≡ n
  pub references : (k : ℕ) → k < n → reference_at k column ≡ f k

-- ---- a column changed

abbrev pub IsNumberKind : FieldKind → Type 0
IsNumberKind KindI32 = Unit {0}
IsNumberKind KindI64 = Unit {0}
IsNumberKind KindRef = ⊥

-- a column with no row
abbrev pub empty_column : ℕ → FieldKind → ColumnState
empty_column cap kind = record { kind = kind; room = cap; values = [] }

-- one more row, with 0 or null
abbrev pub pushed : ColumnState → ColumnState
pushed s = record s { values = s.values ++ default_value s.kind ∷ [] }

-- without a row, whose place the last one took
abbrev pub swapped : ℕ → ColumnState → ColumnState
swapped row s = record s { values = swap_remove s.values row (default_value s.kind) }

-- with what the field keeps of a value in a row
abbrev pub written : ℕ → Value → ColumnState → ColumnState
written row v s = record s { values = slice_set s.values row (fit s.kind v) }

-- the value of a row: what the field keeps of the row's number where the mask has the row, else as before
abbrev pub with_number : List ℕ → FieldKind → List ℤ → ℕ → Value → Value
with_number rows kind numbers k v = if has rows k then fit kind (Int (number_at k numbers)) else v

abbrev pub with_reference : List ℕ → List Entity → ℕ → Value → Value
with_reference rows references k v = if has rows k then Ref (reference_at k references) else v
