-- The rows that the nodes of a scene become, in file order.
use Rattle.std.specs.Prelude.{ℕ, ◌≤◌, ◌&&◌, false, List, ◌∷◌, map, length}
use Rattle.ent_types.specs.declared.entity.Entity.{Entity}
use Rattle.ent_types.specs.declared.limits.TheConstants.{MOST_ENTITIES}
use Rattle.ent_types.specs.declared.type_info.TypeInfo.{TypeInfo}
use Rattle.ent_types.specs.declared.value.Value.{Value}
use Rattle.ent_types.specs.TypeLookups.{is_enableable_at}
use Rattle.ent_types.specs.TypeSets.{has_type}
use Rattle.world_model.specs.Members.{In, AreDistinct}
use Rattle.world_model.specs.Part.{PartOf, part_type, by_type}
use Rattle.world_model.specs.Row.{Cell}
use Rattle.world_model.specs.Found.{Found}
use Rattle.world_model.specs.Operations.{home_of, cells_of}
use Rattle.world_model.specs.Scenes.{Node, IsLawfulNode, Renaming, renamings, value_renamed, scene_tag, row_moved}

-- the parts of a node with the part that says with which load it came, by rising type
abbrev pub node_parts : ℕ → Node → List (PartOf Value)
node_parts load node = by_type (scene_tag load ∷ node.parts)

-- Nodes that all become entities: they are lawful, their types have room in a block, there are not too many of them, and
-- no two have one index.
pub record AreLawfulNodes (capacity : List ℕ → ℕ) (registry : List TypeInfo) (load : ℕ) (nodes : List Node) : Type 0 where
  pub lawful : (node : Node) → In node nodes → IsLawfulNode registry node
  pub room : (node : Node) → In node nodes → 1 ≤ capacity (map part_type (node_parts load node))
  pub few : length nodes ≤ MOST_ENTITIES
  pub distinct : AreDistinct (map (λ (node : Node). node.entity.index) nodes)

-- the entities of the nodes, as the file names them
abbrev pub file_entities : List Node → List Entity
file_entities nodes = map (λ (node : Node). node.entity) nodes

-- some cells, in which the types that the node disables are off, if they can be
abbrev pub cells_disabled : List TypeInfo → List ℕ → List Cell → List Cell
cells_disabled registry disabled cells =
    map (λ (c : Cell). record c { off = has_type disabled c.type_id && is_enableable_at registry c.type_id }) cells

-- the row of a node as the file spells it, where no reference is renamed yet
abbrev pub node_row : List TypeInfo → ℕ → Node → Found
node_row registry load node = record {
  home = home_of registry (node_parts load node);
  row = record {
    entity = node.entity;
    cells = cells_disabled registry node.disabled (cells_of registry (node_parts load node));
    dying = false;
  };
}

-- the row with its entity and its references renamed
abbrev pub row_renamed : List Renaming → Found → Found
row_renamed rs x = record x { row = row_moved rs (value_renamed rs) x.row }

-- The rows of the nodes in file order, if the node at place k becomes the entity at place k. A reference to a node follows
-- it, and every other one is null.
abbrev pub file_rows : List TypeInfo → ℕ → List Node → List Entity → List Found
file_rows registry load nodes entities =
    map (λ node. row_renamed (renamings (file_entities nodes) entities) (node_row registry load node)) nodes
