-- The rows of a world, and how one is looked up.
use Rattle.std.specs.Prelude.{ℕ, nat_eq, Bool, List, [], ◌∷◌, ◌++◌, length, find, Option, option_map, map}
use Rattle.std.specs.List.{filter_map, range_with_len}
use Rattle.std.specs.Option.{option_or}
use Rattle.ent_types.specs.declared.entity.Entity.{Entity}
use Rattle.ent_types.specs.declared.value.Value.{Value}
use Rattle.world_model.specs.Part.{PartOf, part_type, same_entity, at_type}
use Rattle.world_model.specs.Row.{Row, Cell, cell_type}
use Rattle.world_model.specs.World.{Home, Block, World}

-- a row, with where it belongs
pub record Found : Type 0 where
  pub home : Home
  pub row : Row

-- all rows, block after block
abbrev pub placed_in : Home → List Row → List Found
placed_in home [] = []
placed_in home (r ∷ rs) = record { home = home; row = r } ∷ placed_in home rs

abbrev pub placed : List Block → List Found
placed [] = []
placed (b ∷ bs) = placed_in b.home b.rows ++ placed bs

-- how many entities are alive, dying ones among them
abbrev pub alive_count : World → ℕ
alive_count w = length (placed w.blocks)

abbrev pub is_of : Entity → Found → Bool
is_of e x = same_entity e x.row.entity

-- The row of an entity; none where the entity isn't alive. A row that is dying is there.
abbrev pub found : Entity → List Block → Option Found
found e blocks = find (is_of e) (placed blocks)

abbrev pub has_index : ℕ → Found → Bool
has_index index x = nat_eq index x.row.entity.index

-- the rows by index
abbrev pub found_by_index : World → List Found
found_by_index w = filter_map (λ index. find (has_index index) (placed w.blocks)) (range_with_len 0 w.made)

-- the alive entities by index
abbrev pub entities_by_index : World → List Entity
entities_by_index w = map (λ x. x.row.entity) (found_by_index w)

-- what a row has of a type; none where it lacks the type or the type is shared
abbrev pub cell_at : ℕ → List Cell → Option Cell
cell_at t cells = at_type cell_type t cells

-- the values of a type among some parts
abbrev pub part_at : ℕ → List (PartOf Value) → Option (List Value)
part_at t parts = option_map (λ p. p.values) (at_type part_type t parts)

-- the values of a type that a row has, disabled or not, its own or shared; none where it lacks the type
abbrev pub values_of : ℕ → Found → Option (List Value)
values_of t x = option_or (option_map (λ c. c.values) (cell_at t x.row.cells)) (part_at t x.home.shared)
