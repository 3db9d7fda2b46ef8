-- What is read of a world by an entity.
use Rattle.std.specs.Prelude.{ℕ, ◌+◌, ◌*◌, ◌/◌, nat_lt, Bool, false, if◌then◌else◌, List, length, slice_get, unwrap_or, Option, None, is_some, option_map, option_and_then}
use Rattle.ent_types.specs.declared.entity.Entity.{Entity}
use Rattle.ent_types.specs.declared.value.Value.{Value}
use Rattle.ent_types.specs.TypeLookups.{fields_at}
use Rattle.world_model.specs.World.{World}
use Rattle.world_model.specs.Found.{found, cell_at, values_of}

-- whether the entity is alive, dying or not
abbrev pub is_alive : World → Entity → Bool
is_alive w e = is_some (found e w.blocks)

abbrev pub is_dying : World → Entity → Bool
is_dying w e = unwrap_or (option_map (λ x. x.row.dying) (found e w.blocks)) false

-- the types of an entity; none where it isn't alive
abbrev pub types_of : World → Entity → Option (List ℕ)
types_of w e = option_map (λ x. x.home.types) (found e w.blocks)

-- the value of a field, disabled or not; none where the entity isn't alive, lacks the type, or the type lacks the field
abbrev pub value_of : World → Entity → ℕ → ℕ → Option Value
value_of w e t field = option_and_then (λ values. slice_get values field) (option_and_then (values_of t) (found e w.blocks))

-- the values of a buffer's elements, one element after another; none where the entity isn't alive or lacks the type
abbrev pub buffer_of : World → Entity → ℕ → Option (List Value)
buffer_of w e t = option_map (λ c. c.values) (option_and_then (λ x. cell_at t x.row.cells) (found e w.blocks))

-- the number of a buffer's elements
abbrev pub elements_of : World → Entity → ℕ → Option ℕ
elements_of w e t = option_map (λ values. length values / length (fields_at w.registry t)) (buffer_of w e t)

-- the value of a field of an element; none also where there is no such element, or the type lacks the field
abbrev pub element_of : World → Entity → ℕ → ℕ → ℕ → Option Value
element_of w e t k field =
    if nat_lt field (length (fields_at w.registry t))
    then option_and_then (λ values. slice_get values (k * length (fields_at w.registry t) + field)) (buffer_of w e t)
    else None
