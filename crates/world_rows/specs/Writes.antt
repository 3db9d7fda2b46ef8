-- Writes into one row.
use Rattle.std.specs.Prelude.{ℕ, ◌≡◌, ◌+◌, ◌<◌, Bool, true, if◌then◌else◌, List, [], ◌∷◌, ◌++◌, length, map, filter, reverse, slice_set}
use Rattle.ent_types.specs.declared.type_info.TypeInfo.{TypeInfo}
use Rattle.ent_types.specs.declared.value.Value.{Value}
use Rattle.ent_types.specs.TypeLookups.{fields_at, is_shared_at, is_buffer_at}
use Rattle.ent_types.specs.TypeSets.{has_type}
use Rattle.world_model.specs.Part.{PartOf}
use Rattle.world_model.specs.Row.{Row}
use Rattle.block_columns.specs.Types.{with_value, with_off, with_values, TakesValue, IsEnableable, IsBuffer}
use Rattle.chunk_block.specs.Blocks.{BlockState, BlockType, OfType, changed, row_in}
use Rattle.archetype_store.specs.Stores.{StoreState, OfBlock, with_block_in}
use Rattle.world_rows.specs.Rows.{values_at}

-- a value into a field, a bit, or all elements of a buffer
pub data Write : Type 0 where
  Field : ℕ → ℕ → Value → Write
  Switch : ℕ → Bool → Write
  Elements : ℕ → ℕ → List Value → Write

abbrev pub row_write : Write → Row → Row
row_write (Field t f v) r = changed t (with_value f v) r
row_write (Switch t off) r = changed t (with_off off) r
row_write (Elements t width vs) r = changed t (with_values vs) r

abbrev pub row_writes : List Write → Row → Row
row_writes [] r = r
row_writes (w ∷ ws) r = row_writes ws (row_write w r)

abbrev pub block_write : ℕ → Write → BlockState → BlockState
block_write k w b = record b { rows = slice_set b.rows k (row_write w (row_in k b.rows)) }

abbrev pub block_writes : ℕ → List Write → BlockState → BlockState
block_writes k [] b = b
block_writes k (w ∷ ws) b = block_writes k ws (block_write k w b)

-- a store after writes into the row k of block n
abbrev pub written : ℕ → ℕ → List Write → StoreState → StoreState
written n k [] s = s
written n k (w ∷ ws) s = written n k ws (with_block_in n (block_write k w) s)

-- the block takes the write
abbrev pub Takes : Write → List BlockType → Type 0
Takes (Field t f v) columns = OfType t (TakesValue f v) columns
Takes (Switch t off) columns = OfType t IsEnableable columns
Takes (Elements t width vs) columns = OfType t (λ shape. IsBuffer shape × (width ≡ length shape.kinds)) columns

abbrev pub AllTake : List Write → List BlockType → Type 0
AllTake [] columns = Unit {0}
AllTake (w ∷ ws) columns = Takes w columns × AllTake ws columns

-- the row is there, and its block takes the writes
abbrev pub CanWrite : ℕ → ℕ → List Write → StoreState → Type 0
CanWrite n k ws s = OfBlock n (λ b. (k < length b.rows) × AllTake ws b.columns) s.blocks

-- ---- the writes of parts

-- values into the fields of a type, from a field on
abbrev pub field_writes : ℕ → ℕ → List Value → List Write
field_writes t f [] = []
field_writes t f (v ∷ vs) = Field t f v ∷ field_writes t (f + 1) vs

-- the values of a type that has columns
abbrev pub value_writes : List TypeInfo → List (PartOf Value) → ℕ → List Write
value_writes registry parts t = if is_shared_at registry t then [] else if is_buffer_at registry t then [] else field_writes t 0 (values_at t parts)

abbrev pub bit_writes : List TypeInfo → List ℕ → ℕ → List Write
bit_writes registry off t = if is_shared_at registry t then [] else if has_type off t then Switch t true ∷ [] else []

abbrev pub type_writes : List TypeInfo → List (PartOf Value) → List ℕ → ℕ → List Write
type_writes registry parts off t = value_writes registry parts t ++ bit_writes registry off t

abbrev pub all_type_writes : List TypeInfo → List (PartOf Value) → List ℕ → List ℕ → List Write
all_type_writes registry parts off [] = []
all_type_writes registry parts off (t ∷ ts) = type_writes registry parts off t ++ all_type_writes registry parts off ts

abbrev pub buffer_write : List TypeInfo → List (PartOf Value) → ℕ → Write
buffer_write registry parts t = Elements t (length (fields_at registry t)) (values_at t parts)

-- a write for each buffer type
abbrev pub buffer_writes : List TypeInfo → List ℕ → List (PartOf Value) → List Write
buffer_writes registry types parts = map (buffer_write registry parts) (filter (is_buffer_at registry) types)

-- all writes that fill a new row
abbrev pub fill_writes : List TypeInfo → List ℕ → List (PartOf Value) → List ℕ → List Write
fill_writes registry types parts off = all_type_writes registry parts off types ++ reverse (buffer_writes registry types parts)
