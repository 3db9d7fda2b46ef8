-- The steps in which the blocks of a scene become a world's: where its rows are, what they are named, and their marks.
use Rattle.std.specs.Prelude.{ℕ, ◌≡◌, ◌+◌, if◌then◌else◌, nat_eq, slice_set, List, [], ◌∷◌, Some, None}
use Rattle.ent_types.specs.declared.entity.Entity.{Entity}
use Rattle.entity_table.specs.declared.table.Place.{Place}
use Rattle.entity_table.specs.Table.{Table, Rebinds, given_by, place_of, with_made, with_place}
use Rattle.world_model.specs.Enter.{marks_at}
use Rattle.world_model.specs.Row.{Row}
use Rattle.chunk_block.specs.Blocks.{BlockState, row_in}
use Rattle.archetype_store.specs.Stores.{Numbered, StoreState, with_block_in}

-- ---- where the rows are

-- the table after the entities of some rows were noted to be in the block of a number, the first of them at place k
abbrev pub rows_noted : ℕ → ℕ → List Row → Table → Table
rows_noted n k [] t = t
rows_noted n k (r ∷ rs) t = rows_noted n (k + 1) rs (with_place t r.entity (record { block = n; row = k }))

-- the rows of the block of a number; none where there is no such block
abbrev pub rows_of : ℕ → List Numbered → List Row
rows_of n [] = []
rows_of n (b ∷ bs) = if nat_eq b.number n then b.block.rows else rows_of n bs

-- the table after the rows of the blocks of some numbers were noted
abbrev pub all_noted : List Numbered → List ℕ → Table → Table
all_noted blocks [] t = t
all_noted blocks (n ∷ ns) t = all_noted blocks ns (rows_noted n 0 (rows_of n blocks) t)

-- ---- what they are named

-- the place of an entity of a walk
abbrev pub place_of_item : Entity × Place → Place
place_of_item x = x.1

-- the table after an entity was made at each of some places
abbrev pub all_made : List Place → Table → Table
all_made [] t = t
all_made (p ∷ ps) t = all_made ps (with_made t p)

-- the entity that is made next isn't alive yet, and no other entity changes when it is made
pub record IsNew (t : Table) (p : Place) : Type 0 where
  pub fresh : place_of t (given_by t).entity ≡ None
  pub rebinds : Rebinds t (with_made t p) (given_by t).entity (Some p)

abbrev pub AreNew : List Place → Table → Type 0
AreNew [] t = Unit {0}
AreNew (p ∷ ps) t = IsNew t p × AreNew ps (with_made t p)

-- the block with another entity in the row at a place
abbrev pub row_named : ℕ → Entity → BlockState → BlockState
row_named k e b = record b { rows = slice_set b.rows k (record (row_in k b.rows) { entity = e }) }

-- the store after the rows at some places got the entities that a table makes, one after another
abbrev pub all_named : List Place → Table → StoreState → StoreState
all_named [] t s = s
all_named (p ∷ ps) t s = all_named ps (with_made t p) (with_block_in p.block (row_named p.row (given_by t).entity) s)

-- ---- their marks

-- the block, every type and the order marked
abbrev pub all_written : ℕ → BlockState → BlockState
all_written now b = record b { marks = marks_at now b.types; order = now }

-- the store after the blocks of some numbers were marked
abbrev pub each_written : ℕ → List ℕ → StoreState → StoreState
each_written now [] s = s
each_written now (n ∷ ns) s = each_written now ns (with_block_in n (all_written now) s)
