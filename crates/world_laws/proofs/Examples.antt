-- Worked cases of operations and scenes, by computing. A definition that says something else breaks one of them.
use Rattle.std.proofs.Common.{◌≡◌, ℕ, pos, Bool, true, false, cond, List, [], ◌∷◌, map, replicate, Some, None, refl}
use Rattle.std.specs.Prelude.{fold}
use Rattle.chunk_layout.specs.Capacity.{capacity_of, greatest_up_to}
use Rattle.ent_types.specs.declared.entity.Entity.{Entity}
use Rattle.ent_types.specs.declared.kinds.FieldKind.TheVariants.{I32, I64, Ref as RefField}
use Rattle.ent_types.specs.declared.kinds.Kind.{Kind}
use Rattle.ent_types.specs.declared.kinds.Kind.TheVariants.{Plain, Tag, Shared, Cleanup, Buffer}
use Rattle.ent_types.specs.declared.skip.Skip.TheVariants.{NoEntity, NoComponent, TooLarge, Full, NotEnableable, TooLong}
use Rattle.ent_types.specs.declared.type_info.FieldInfo.{FieldInfo}
use Rattle.ent_types.specs.declared.type_info.TypeInfo.{TypeInfo}
use Rattle.ent_types.specs.declared.value.Value.{Value}
use Rattle.ent_types.specs.declared.value.Value.TheVariants.{Int, Ref}
use Rattle.ent_types.specs.Fitting.{null_entity}
use Rattle.ent_types.specs.Types.{column_size}
use Rattle.ent_types.specs.TypeSets.{has_type}
use Rattle.world_model.specs.Part.{PartOf}
use Rattle.world_model.specs.Row.{Cell, Row}
use Rattle.world_model.specs.World.{Mark, Block, World, raised, capacity}
use Rattle.world_model.specs.Reads.{value_of, elements_of, element_of}
use Rattle.world_model.specs.Ids.{room, next_ids}
use Rattle.world_model.specs.Enter.{enter}
use Rattle.world_model.specs.Leave.{leave}
use Rattle.world_model.specs.Write.{rewrite}
use Rattle.world_model.specs.Operations.{Destroy, Add, Remove, Set, SetShared, SetEnabled, Instantiate, Append, Clear, Operation, Create, On, Reply, Made, Done, Skipped, operate}
use Rattle.world_model.specs.Scenes.{Node, built, moved, attached, put_ref, put_element_ref}

-- ---- what the cases are about

abbrev a_type : Kind → List FieldInfo → Bool → TypeInfo
a_type kind fields enableable = record { name = []; kind = kind; fields = fields; enableable = enableable }

abbrev number : FieldInfo
number = record { name = []; kind = I32 }

abbrev reference : FieldInfo
reference = record { name = []; kind = RefField }

-- 0 Disabled, 1 Prefab, 2 SceneTag, 3 a plain type, 4 a tag that can be switched, 5 a shared type, 6 a cleanup type, 7 a
-- reference, 8 a buffer of numbers, 9 a type that is too large, 10 a buffer of references,
-- 11 a buffer of pairs of references
abbrev registry : List TypeInfo
registry =
    a_type Tag [] false ∷ a_type Tag [] false ∷ a_type Shared (record { name = []; kind = I64 } ∷ []) false
    ∷ a_type Plain (number ∷ []) false ∷ a_type Tag [] true ∷ a_type Shared (number ∷ []) false ∷ a_type Cleanup (number ∷ []) false
    ∷ a_type Plain (reference ∷ []) false ∷ a_type Buffer (number ∷ []) false ∷ a_type Plain (number ∷ []) false
    ∷ a_type Buffer (reference ∷ []) false ∷ a_type Buffer (reference ∷ reference ∷ []) false ∷ []

-- two rows in a block, and none where type 9 is
abbrev two : List ℕ → ℕ
two types = cond (has_type types 9) 0 2

abbrev e : ℕ → ℕ → Entity
e index version = record { index = index; version = version }

abbrev part : ℕ → ℕ → PartOf Value
part t n = record { type_id = t; values = Int (pos n) ∷ [] }

abbrev tag : ℕ → PartOf Value
tag t = record { type_id = t; values = [] }

abbrev link : Entity → PartOf Value
link to = record { type_id = 7; values = Ref to ∷ [] }

abbrev cell : ℕ → ℕ → Cell
cell t n = record { type_id = t; values = Int (pos n) ∷ []; off = false }

abbrev tag_cell : ℕ → Bool → Cell
tag_cell t off = record { type_id = t; values = []; off = off }

abbrev link_cell : Entity → Cell
link_cell to = record { type_id = 7; values = Ref to ∷ []; off = false }

abbrev buffer_cell : ℕ → List Value → Cell
buffer_cell t values = record { type_id = t; values = values; off = false }

abbrev row : Entity → List Cell → Row
row entity cells = record { entity = entity; cells = cells; dying = false }

abbrev dying_row : Entity → List Cell → Row
dying_row entity cells = record { entity = entity; cells = cells; dying = true }

abbrev mark : ℕ → ℕ → Mark
mark t moment = record { type_id = t; moment = moment }

abbrev block : List ℕ → List (PartOf Value) → List Mark → ℕ → List Row → Block
block types shared marks order rows = record { home = record { types = types; shared = shared }; marks = marks; rows = rows; order = order }

-- the world with these blocks, free entities and number made, at moment 5
abbrev world : List Block → List Entity → ℕ → World
world blocks free made = record { registry = registry; blocks = blocks; free = free; made = made; first_entity_version = 1; moment = 5 }

abbrev after : World → List Operation → World
after w operations = fold (λ v o. (operate two v o).world) w operations

abbrev reply : World → Operation → Reply
reply w o = (operate two w o).reply

abbrev empty : World
empty = world [] [] 0

-- a row of type 3 alone, marked before
abbrev one : World
one = world (block (3 ∷ []) [] (mark 3 2 ∷ []) 2 (row (e 0 1) (cell 3 7 ∷ []) ∷ []) ∷ []) [] 1

-- ---- create

-- parts are given in any order and kept by type; the shared type has its value only in the block
create_by_type : after empty (Create (part 6 1 ∷ part 5 2 ∷ part 3 4 ∷ []) ∷ [])
    ≡ world (block (3 ∷ 5 ∷ 6 ∷ []) (part 5 2 ∷ []) (mark 3 5 ∷ mark 5 5 ∷ mark 6 5 ∷ []) 5 (row (e 0 1) (cell 3 4 ∷ cell 6 1 ∷ []) ∷ []) ∷ []) [] 1
unfolding operate enter
create_by_type = refl

create_replies : reply one (Create (part 3 8 ∷ [])) ≡ Made (e 1 1)
unfolding operate
create_replies = refl

-- a row enters the first block with room, and marks it whole
create_in_first_block : after one (Create (part 3 8 ∷ []) ∷ Create (part 3 9 ∷ []) ∷ [])
    ≡ world (block (3 ∷ []) [] (mark 3 5 ∷ []) 5 (row (e 0 1) (cell 3 7 ∷ []) ∷ row (e 1 1) (cell 3 8 ∷ []) ∷ [])
    ∷ block (3 ∷ []) [] (mark 3 5 ∷ []) 5 (row (e 2 1) (cell 3 9 ∷ []) ∷ []) ∷ []) [] 3
unfolding operate enter
create_in_first_block = refl

-- other shared values are another block
create_by_shared_values : after empty (Create (part 5 1 ∷ []) ∷ Create (part 5 2 ∷ []) ∷ Create (part 5 1 ∷ []) ∷ [])
    ≡ world (block (5 ∷ []) (part 5 1 ∷ []) (mark 5 5 ∷ []) 5 (row (e 0 1) [] ∷ row (e 2 1) [] ∷ [])
    ∷ block (5 ∷ []) (part 5 2 ∷ []) (mark 5 5 ∷ []) 5 (row (e 1 1) [] ∷ []) ∷ []) [] 3
unfolding operate enter
create_by_shared_values = refl

-- a living row may have no types
create_without_parts : after empty (Create [] ∷ []) ≡ world (block [] [] [] 5 (row (e 0 1) [] ∷ []) ∷ []) [] 1
unfolding operate enter
create_without_parts = refl

-- a new entity takes the index that was freed last
create_takes_freed : reply (world [] (e 4 2 ∷ e 3 9 ∷ []) 7) (Create []) ≡ Made (e 4 2)
unfolding operate
create_takes_freed = refl

-- a fresh index has the first version of the world
create_first_version : reply (record empty { first_entity_version = 3 }) (Create []) ≡ Made (e 0 3)
unfolding operate
create_first_version = refl

abbrev full : World
full = world [] [] 4194304

create_full : reply full (Create (part 3 1 ∷ [])) ≡ Skipped Full
unfolding operate
create_full = refl

-- too large comes before full
create_too_large : reply full (Create (part 9 1 ∷ [])) ≡ Skipped TooLarge
unfolding operate
create_too_large = refl

-- the free indexes are room too
room_is : room (world [] (e 4 2 ∷ e 3 9 ∷ []) 4194303) ≡ 3
room_is = refl

-- ---- destroy

-- The last row takes the place. The order is marked and no type. The index comes back with the next version.
destroy_swaps : after (world (block (3 ∷ []) [] (mark 3 2 ∷ []) 2 (row (e 0 1) (cell 3 7 ∷ []) ∷ row (e 1 1) (cell 3 8 ∷ []) ∷ row (e 2 1) (cell 3 9 ∷ []) ∷ []) ∷ []) [] 3) (On (e 0 1) Destroy ∷ [])
    ≡ world (block (3 ∷ []) [] (mark 3 2 ∷ []) 5 (row (e 2 1) (cell 3 9 ∷ []) ∷ row (e 1 1) (cell 3 8 ∷ []) ∷ []) ∷ []) (e 0 2 ∷ []) 3
unfolding operate leave
destroy_swaps = refl

-- an emptied block is removed
destroy_last : after one (On (e 0 1) Destroy ∷ []) ≡ world [] (e 0 2 ∷ []) 1
unfolding operate leave
destroy_last = refl

-- the last version is retired
destroy_retires : after (world (block [] [] [] 2 (row (e 0 4294967295) [] ∷ []) ∷ []) [] 1) (On (e 0 4294967295) Destroy ∷ []) ≡ world [] [] 1
unfolding operate leave
destroy_retires = refl

destroy_dead : reply one (On (e 0 2) Destroy) ≡ Skipped NoEntity
unfolding operate
destroy_dead = refl

destroy_null : reply one (On null_entity Destroy) ≡ Skipped NoEntity
unfolding operate
destroy_null = refl

-- a row with a cleanup type keeps the cleanup types, and is dying
destroy_cleanup : after (world (block (3 ∷ 5 ∷ 6 ∷ []) (part 5 2 ∷ []) (mark 3 2 ∷ mark 5 2 ∷ mark 6 2 ∷ []) 2 (row (e 0 1) (cell 3 4 ∷ cell 6 1 ∷ []) ∷ []) ∷ []) [] 1) (On (e 0 1) Destroy ∷ [])
    ≡ world (block (6 ∷ []) [] (mark 6 5 ∷ []) 5 (dying_row (e 0 1) (cell 6 1 ∷ []) ∷ []) ∷ []) [] 1
unfolding operate enter leave
destroy_cleanup = refl

-- with cleanup types alone it stays where it is, and nothing is marked
abbrev keeper : World
keeper = world (block (6 ∷ []) [] (mark 6 2 ∷ []) 2 (row (e 0 1) (cell 6 1 ∷ []) ∷ row (e 1 1) (cell 6 3 ∷ []) ∷ []) ∷ []) [] 2

destroy_cleanup_alone : after keeper (On (e 0 1) Destroy ∷ [])
    ≡ world (block (6 ∷ []) [] (mark 6 2 ∷ []) 2 (dying_row (e 0 1) (cell 6 1 ∷ []) ∷ row (e 1 1) (cell 6 3 ∷ []) ∷ []) ∷ []) [] 2
unfolding operate rewrite
destroy_cleanup_alone = refl

-- a dying row is alive for operations: it gets a type and stays dying when its cleanup type goes
dying_goes_on : after keeper (On (e 0 1) Destroy ∷ On (e 0 1) (Add (part 3 9)) ∷ On (e 0 1) (Remove 6) ∷ [])
    ≡ world (block (6 ∷ []) [] (mark 6 2 ∷ []) 5 (row (e 1 1) (cell 6 3 ∷ []) ∷ []) ∷ block (3 ∷ []) [] (mark 3 5 ∷ []) 5 (dying_row (e 0 1) (cell 3 9 ∷ []) ∷ []) ∷ []) [] 2
unfolding operate enter leave rewrite
dying_goes_on = refl

-- and ends with its last type
dying_ends : after keeper (On (e 0 1) Destroy ∷ On (e 0 1) (Remove 6) ∷ [])
    ≡ world (block (6 ∷ []) [] (mark 6 2 ∷ []) 5 (row (e 1 1) (cell 6 3 ∷ []) ∷ []) ∷ []) (e 0 2 ∷ []) 2
unfolding operate leave rewrite
dying_ends = refl

-- what else is done to a dying row leaves it dying
abbrev dying_world : World
dying_world = world (block (3 ∷ 4 ∷ 5 ∷ []) (part 5 2 ∷ []) (mark 3 2 ∷ mark 4 2 ∷ mark 5 2 ∷ []) 2 (dying_row (e 0 1) (cell 3 7 ∷ tag_cell 4 false ∷ []) ∷ []) ∷ []) [] 1

dying_set : (after dying_world (On (e 0 1) (Set (part 3 8)) ∷ On (e 0 1) (SetEnabled 4 false) ∷ [])).blocks
    ≡ block (3 ∷ 4 ∷ 5 ∷ []) (part 5 2 ∷ []) (mark 3 5 ∷ mark 4 5 ∷ mark 5 2 ∷ []) 2 (dying_row (e 0 1) (cell 3 8 ∷ tag_cell 4 true ∷ []) ∷ []) ∷ []
unfolding operate rewrite
dying_set = refl

dying_shared : (after dying_world (On (e 0 1) (SetShared (part 5 3)) ∷ On (e 0 1) (Add (part 2 9)) ∷ [])).blocks
    ≡ block (2 ∷ 3 ∷ 4 ∷ 5 ∷ []) (part 2 9 ∷ part 5 3 ∷ []) (mark 2 5 ∷ mark 3 5 ∷ mark 4 5 ∷ mark 5 5 ∷ []) 5 (dying_row (e 0 1) (cell 3 7 ∷ tag_cell 4 false ∷ []) ∷ []) ∷ []
unfolding operate enter leave
dying_shared = refl

-- ---- add and remove

-- a type that is there gets the values, and it alone is marked
add_there : after (world (block (3 ∷ 4 ∷ []) [] (mark 3 2 ∷ mark 4 2 ∷ []) 2 (row (e 0 1) (cell 3 7 ∷ tag_cell 4 true ∷ []) ∷ []) ∷ []) [] 1) (On (e 0 1) (Add (part 3 8)) ∷ [])
    ≡ world (block (3 ∷ 4 ∷ []) [] (mark 3 5 ∷ mark 4 2 ∷ []) 2 (row (e 0 1) (cell 3 8 ∷ tag_cell 4 true ∷ []) ∷ []) ∷ []) [] 1
unfolding operate rewrite
add_there = refl

-- else the row moves with its values and bits, and the type is on
add_moves : after (world (block (4 ∷ []) [] (mark 4 2 ∷ []) 2 (row (e 0 1) (tag_cell 4 true ∷ []) ∷ row (e 1 1) (tag_cell 4 false ∷ []) ∷ []) ∷ []) [] 2) (On (e 0 1) (Add (part 3 8)) ∷ [])
    ≡ world (block (4 ∷ []) [] (mark 4 2 ∷ []) 5 (row (e 1 1) (tag_cell 4 false ∷ []) ∷ []) ∷ block (3 ∷ 4 ∷ []) [] (mark 3 5 ∷ mark 4 5 ∷ []) 5 (row (e 0 1) (cell 3 8 ∷ tag_cell 4 true ∷ []) ∷ []) ∷ []) [] 2
unfolding operate enter leave
add_moves = refl

add_shared : after one (On (e 0 1) (Add (part 5 2)) ∷ [])
    ≡ world (block (3 ∷ 5 ∷ []) (part 5 2 ∷ []) (mark 3 5 ∷ mark 5 5 ∷ []) 5 (row (e 0 1) (cell 3 7 ∷ []) ∷ []) ∷ []) [] 1
unfolding operate enter leave
add_shared = refl

add_too_large : reply one (On (e 0 1) (Add (part 9 1))) ≡ Skipped TooLarge
unfolding operate
add_too_large = refl

add_too_large_of_none : reply one (On (e 5 1) (Add (part 9 1))) ≡ Skipped NoEntity
unfolding operate
add_too_large_of_none = refl

remove_nothing : operate two one (On (e 0 1) (Remove 4)) ≡ record { world = one; reply = Done }
unfolding operate
remove_nothing = refl

-- the last type of a row that isn't dying
remove_last : after one (On (e 0 1) (Remove 3) ∷ []) ≡ world (block [] [] [] 5 (row (e 0 1) [] ∷ []) ∷ []) [] 1
unfolding operate enter leave
remove_last = refl

-- ---- set

set_marks : after (world (block (3 ∷ 6 ∷ []) [] (mark 3 2 ∷ mark 6 2 ∷ []) 2 (row (e 0 1) (cell 3 7 ∷ cell 6 1 ∷ []) ∷ row (e 1 1) (cell 3 8 ∷ cell 6 2 ∷ []) ∷ []) ∷ []) [] 2) (On (e 1 1) (Set (part 6 9)) ∷ [])
    ≡ world (block (3 ∷ 6 ∷ []) [] (mark 3 2 ∷ mark 6 5 ∷ []) 2 (row (e 0 1) (cell 3 7 ∷ cell 6 1 ∷ []) ∷ row (e 1 1) (cell 3 8 ∷ cell 6 9 ∷ []) ∷ []) ∷ []) [] 2
unfolding operate rewrite
set_marks = refl

set_lacking : reply one (On (e 0 1) (Set (part 6 9))) ≡ Skipped NoComponent
unfolding operate
set_lacking = refl

-- equal shared values change nothing and mark nothing
abbrev team : World
team = world (block (3 ∷ 5 ∷ []) (part 5 2 ∷ []) (mark 3 2 ∷ mark 5 2 ∷ []) 2 (row (e 0 1) (cell 3 7 ∷ []) ∷ []) ∷ []) [] 1

set_shared_equal : operate two team (On (e 0 1) (SetShared (part 5 2))) ≡ record { world = team; reply = Done }
unfolding operate
set_shared_equal = refl

set_shared_moves : after team (On (e 0 1) (SetShared (part 5 3)) ∷ [])
    ≡ world (block (3 ∷ 5 ∷ []) (part 5 3 ∷ []) (mark 3 5 ∷ mark 5 5 ∷ []) 5 (row (e 0 1) (cell 3 7 ∷ []) ∷ []) ∷ []) [] 1
unfolding operate enter leave
set_shared_moves = refl

-- adding a shared type that is there acts as that
add_shared_there : operate two team (On (e 0 1) (Add (part 5 2))) ≡ record { world = team; reply = Done }
unfolding operate
add_shared_there = refl

set_shared_lacking : reply one (On (e 0 1) (SetShared (part 5 2))) ≡ Skipped NoComponent
unfolding operate
set_shared_lacking = refl

-- ---- enabling

switch_off : after (world (block (3 ∷ 4 ∷ []) [] (mark 3 2 ∷ mark 4 2 ∷ []) 2 (row (e 0 1) (cell 3 7 ∷ tag_cell 4 false ∷ []) ∷ []) ∷ []) [] 1) (On (e 0 1) (SetEnabled 4 false) ∷ [])
    ≡ world (block (3 ∷ 4 ∷ []) [] (mark 3 2 ∷ mark 4 5 ∷ []) 2 (row (e 0 1) (cell 3 7 ∷ tag_cell 4 true ∷ []) ∷ []) ∷ []) [] 1
unfolding operate rewrite
switch_off = refl

-- a type that can't be switched comes before one that isn't there
switch_not_enableable : reply one (On (e 0 1) (SetEnabled 6 false)) ≡ Skipped NotEnableable
unfolding operate
switch_not_enableable = refl

switch_lacking : reply one (On (e 0 1) (SetEnabled 4 false)) ≡ Skipped NoComponent
unfolding operate
switch_lacking = refl

switch_dead : reply one (On (e 0 9) (SetEnabled 6 false)) ≡ Skipped NoEntity
unfolding operate
switch_dead = refl

-- ---- instantiate

-- a copy has no Prefab and no cleanup types, isn't dying, and has the shared values and the bits
instantiate_copies : after (world (block (1 ∷ 2 ∷ 3 ∷ 4 ∷ 6 ∷ []) (part 2 1 ∷ []) (mark 1 2 ∷ mark 2 2 ∷ mark 3 2 ∷ mark 4 2 ∷ mark 6 2 ∷ []) 2 (dying_row (e 0 3) (tag_cell 1 false ∷ cell 3 7 ∷ tag_cell 4 true ∷ cell 6 1 ∷ []) ∷ []) ∷ []) [] 1) (On (e 0 3) Instantiate ∷ [])
    ≡ world (block (1 ∷ 2 ∷ 3 ∷ 4 ∷ 6 ∷ []) (part 2 1 ∷ []) (mark 1 2 ∷ mark 2 2 ∷ mark 3 2 ∷ mark 4 2 ∷ mark 6 2 ∷ []) 2 (dying_row (e 0 3) (tag_cell 1 false ∷ cell 3 7 ∷ tag_cell 4 true ∷ cell 6 1 ∷ []) ∷ [])
    ∷ block (2 ∷ 3 ∷ 4 ∷ []) (part 2 1 ∷ []) (mark 2 5 ∷ mark 3 5 ∷ mark 4 5 ∷ []) 5 (row (e 1 1) (cell 3 7 ∷ tag_cell 4 true ∷ []) ∷ []) ∷ []) [] 2
unfolding operate enter
instantiate_copies = refl

-- a reference is copied as it is
instantiate_keeps_references : after (world (block (7 ∷ []) [] (mark 7 2 ∷ []) 2 (row (e 0 1) (link_cell (e 0 1) ∷ []) ∷ []) ∷ []) [] 1) (On (e 0 1) Instantiate ∷ [])
    ≡ world (block (7 ∷ []) [] (mark 7 5 ∷ []) 5 (row (e 0 1) (link_cell (e 0 1) ∷ []) ∷ row (e 1 1) (link_cell (e 0 1) ∷ []) ∷ []) ∷ []) [] 2
unfolding operate enter
instantiate_keeps_references = refl

instantiate_full : reply (record one { made = 4194304 }) (On (e 0 1) Instantiate) ≡ Skipped Full
unfolding operate
instantiate_full = refl

-- ---- buffers

abbrev list : List Value → World
list values = world (block (3 ∷ 8 ∷ []) [] (mark 3 2 ∷ mark 8 2 ∷ []) 2 (row (e 0 1) (cell 3 7 ∷ buffer_cell 8 values ∷ []) ∷ []) ∷ []) [] 1

abbrev list_after : List Value → World
list_after values = world (block (3 ∷ 8 ∷ []) [] (mark 3 2 ∷ mark 8 5 ∷ []) 2 (row (e 0 1) (cell 3 7 ∷ buffer_cell 8 values ∷ []) ∷ []) ∷ []) [] 1

append_last : after (list (Int (pos 1) ∷ [])) (On (e 0 1) (Append (part 8 2)) ∷ []) ≡ list_after (Int (pos 1) ∷ Int (pos 2) ∷ [])
unfolding operate rewrite
append_last = refl

append_lacking : reply one (On (e 0 1) (Append (part 8 2))) ≡ Skipped NoComponent
unfolding operate
append_lacking = refl

append_too_long : reply (list (replicate 4096 (Int (pos 1)))) (On (e 0 1) (Append (part 8 2))) ≡ Skipped TooLong
unfolding operate
append_too_long = refl

append_not_too_long : reply (list (replicate 4095 (Int (pos 1)))) (On (e 0 1) (Append (part 8 2))) ≡ Done
unfolding operate
append_not_too_long = refl

-- an empty list is marked too
clear_marks : after (list []) (On (e 0 1) (Clear 8) ∷ []) ≡ list_after []
unfolding operate rewrite
clear_marks = refl

clear_all : after (list (Int (pos 1) ∷ Int (pos 2) ∷ [])) (On (e 0 1) (Clear 8) ∷ []) ≡ list_after []
unfolding operate rewrite
clear_all = refl

clear_lacking : reply one (On (e 0 1) (Clear 8)) ≡ Skipped NoComponent
unfolding operate
clear_lacking = refl

-- ---- reading

-- a shared value and an own one, also of a type that is disabled; a type that isn't there and a field that isn't there
read_values : map (λ t. value_of team (e 0 1) t 0) (3 ∷ 5 ∷ 6 ∷ []) ≡ Some (Int (pos 7)) ∷ Some (Int (pos 2)) ∷ None ∷ []
read_values = refl

-- a type that is disabled, and a row that is dying, are read like any other
read_disabled : value_of (world (block (3 ∷ []) [] (mark 3 2 ∷ []) 2 (row (e 0 1) (record { type_id = 3; values = Int (pos 7) ∷ []; off = true } ∷ []) ∷ []) ∷ []) [] 1) (e 0 1) 3 0 ≡ Some (Int (pos 7))
read_disabled = refl

read_dying : value_of dying_world (e 0 1) 3 0 ≡ Some (Int (pos 7))
read_dying = refl

read_of_none : value_of team (e 0 2) 3 0 ≡ None
read_of_none = refl

read_past_fields : value_of team (e 0 1) 3 1 ≡ None
read_past_fields = refl

read_elements : elements_of (list (Int (pos 1) ∷ Int (pos 2) ∷ [])) (e 0 1) 8 ≡ Some 2
read_elements = refl

read_element : map (λ k. element_of (list (Int (pos 1) ∷ Int (pos 2) ∷ [])) (e 0 1) 8 k 0) (0 ∷ 1 ∷ 2 ∷ []) ≡ Some (Int (pos 1)) ∷ Some (Int (pos 2)) ∷ None ∷ []
read_element = refl

-- a field that the type lacks isn't that of the next element
read_element_past_fields : element_of (list (Int (pos 1) ∷ Int (pos 2) ∷ [])) (e 0 1) 8 0 1 ≡ None
read_element_past_fields = refl

-- ---- scenes

-- two nodes that name each other and one that isn't there; the second is switched off
abbrev pair : List Node
pair =
    (record { entity = e 4 9; parts = link (e 6 1) ∷ []; disabled = [] })
    ∷ (record { entity = e 6 1; parts = tag 4 ∷ link (e 6 2) ∷ []; disabled = 4 ∷ [] })
    ∷ []

abbrev two_blocks : ℕ → Entity → Entity → Entity → List Block
two_blocks now first second to =
    block (2 ∷ 7 ∷ []) (part 2 3 ∷ []) (mark 2 now ∷ mark 7 now ∷ []) now (row first (link_cell to ∷ []) ∷ [])
    ∷ block (2 ∷ 4 ∷ 7 ∷ []) (part 2 3 ∷ []) (mark 2 now ∷ mark 4 now ∷ mark 7 now ∷ []) now (row second (tag_cell 4 true ∷ link_cell null_entity ∷ []) ∷ [])
    ∷ []

built_pair : built two registry pair 3
    ≡ record { registry = registry; blocks = two_blocks 1 (e 0 1) (e 1 1) (e 1 1); free = []; made = 2; first_entity_version = 1; moment = 1 }
unfolding built operate enter rewrite
built_pair = refl

-- the scene's entities get ids of the world in the order of their indexes; its blocks come last, all marked
moved_pair : moved (world [] (e 5 3 ∷ []) 8) (record { registry = registry; blocks = two_blocks 1 (e 0 1) (e 1 1) (e 1 1); free = []; made = 2; first_entity_version = 1; moment = 1 })
    ≡ world (two_blocks 5 (e 5 3) (e 8 1) (e 8 1)) [] 9
unfolding moved
moved_pair = refl

moved_behind : (moved one (world (block (7 ∷ []) [] (mark 7 2 ∷ []) 2 (row (e 3 4) (link_cell (e 3 4) ∷ []) ∷ row (e 1 4) (link_cell (e 3 5) ∷ []) ∷ []) ∷ []) [] 9)).blocks
    ≡ block (3 ∷ []) [] (mark 3 2 ∷ []) 2 (row (e 0 1) (cell 3 7 ∷ []) ∷ [])
    ∷ block (7 ∷ []) [] (mark 7 5 ∷ []) 5 (row (e 2 1) (link_cell (e 2 1) ∷ []) ∷ row (e 1 1) (link_cell null_entity ∷ []) ∷ [])
    ∷ []
unfolding moved
moved_behind = refl

-- references stay where a scene is only attached
attached_keeps : (attached one (world (block (7 ∷ []) [] (mark 7 2 ∷ []) 2 (row (e 3 4) (link_cell (e 3 4) ∷ []) ∷ []) ∷ []) [] 9)).blocks
    ≡ block (3 ∷ []) [] (mark 3 2 ∷ []) 2 (row (e 0 1) (cell 3 7 ∷ []) ∷ [])
    ∷ block (7 ∷ []) [] (mark 7 5 ∷ []) 5 (row (e 1 1) (link_cell (e 3 4) ∷ []) ∷ [])
    ∷ []
unfolding attached
attached_keeps = refl

put_in_field : put_ref (e 0 1) 7 0 (e 9 9) (world (block (7 ∷ []) [] (mark 7 2 ∷ []) 2 (row (e 0 1) (link_cell (e 3 4) ∷ []) ∷ []) ∷ []) [] 1)
    ≡ world (block (7 ∷ []) [] (mark 7 5 ∷ []) 2 (row (e 0 1) (link_cell (e 9 9) ∷ []) ∷ []) ∷ []) [] 1
unfolding put_ref rewrite
put_in_field = refl

put_in_element : put_element_ref (e 0 1) 10 1 0 (e 9 9) (world (block (10 ∷ []) [] (mark 10 2 ∷ []) 2 (row (e 0 1) (buffer_cell 10 (Ref (e 1 1) ∷ Ref (e 2 1) ∷ []) ∷ []) ∷ []) ∷ []) [] 1)
    ≡ world (block (10 ∷ []) [] (mark 10 5 ∷ []) 2 (row (e 0 1) (buffer_cell 10 (Ref (e 1 1) ∷ Ref (e 9 9) ∷ []) ∷ []) ∷ []) ∷ []) [] 1
unfolding put_element_ref rewrite
put_in_element = refl

-- an element has as many values as the type has fields
put_in_second_field : put_element_ref (e 0 1) 11 1 1 (e 9 9)
    (world (block (11 ∷ []) [] (mark 11 2 ∷ []) 2 (row (e 0 1) (buffer_cell 11 (Ref (e 1 1) ∷ Ref (e 2 1) ∷ Ref (e 3 1) ∷ Ref (e 4 1) ∷ []) ∷ []) ∷ []) ∷ []) [] 1)
    ≡ world (block (11 ∷ []) [] (mark 11 5 ∷ []) 2 (row (e 0 1) (buffer_cell 11 (Ref (e 1 1) ∷ Ref (e 2 1) ∷ Ref (e 3 1) ∷ Ref (e 9 9) ∷ []) ∷ []) ∷ []) ∷ []) [] 1
unfolding put_element_ref rewrite
put_in_second_field = refl

ids_in_order : next_ids 4 (e 4 2 ∷ e 3 9 ∷ []) 7 1 ≡ e 4 2 ∷ e 3 9 ∷ e 7 1 ∷ e 8 1 ∷ []
ids_in_order = refl

-- ---- capacity and moments

-- 64 fields of 8 bytes; a shared type and a buffer have no column
abbrev wide : TypeInfo
wide = a_type Plain (replicate 64 (record { name = []; kind = I64 })) false

capacity_by_types : map (capacity (wide ∷ wide ∷ a_type Shared (number ∷ []) false ∷ a_type Buffer (number ∷ []) false ∷ [])) ((0 ∷ []) ∷ (0 ∷ 1 ∷ 2 ∷ 3 ∷ []) ∷ (2 ∷ 3 ∷ []) ∷ [])
    ≡ 31 ∷ 15 ∷ 128 ∷ []
unfolding capacity_of greatest_up_to column_size
capacity_by_types = refl

moment_after : (raised one).moment ≡ 6
moment_after = refl
