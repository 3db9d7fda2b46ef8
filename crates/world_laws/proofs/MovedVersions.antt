-- Versions may stand for moments also where a scene is moved in or attached. Those of the scene are not read.
use Rattle.std.proofs.Common.{◌≡◌, ℕ, ◌+◌, ◌-◌, ◌≤◌, List, [], ◌∷◌, ◌++◌, map, length, drop, find, refl, sym, ap, ap₂, ◌∙◌, subst, arith}
use Rattle.std.specs.List.{filter_map, range_with_len}
use Rattle.ent_types.specs.declared.value.Value.{Value}
use Rattle.system_version.specs.Versions.{version_of}
use Rattle.world_model.specs.World.{Mark, Block, World}
use Rattle.world_model.specs.Found.{Found, placed, has_index, alive_count}
use Rattle.world_model.specs.Ids.{next_ids, room}
use Rattle.world_model.specs.Scenes.{Renaming, renamings, value_renamed, arrivals, row_moved, block_moved, joined, attached, moved}
use Rattle.world_model.specs.Versions.{block_versions, world_versions, IsLawfulCode}
use Rattle.world_laws.proofs.Members.{map_append}
use Rattle.world_laws.proofs.Moved.{moved_lawful}
use Rattle.world_laws.proofs.Versions.{turned, placed_turned, marks_turned, room_turned}

module _ (v u : ℕ → ℕ) where
  arrivals_turned : (w scene : World) → arrivals (world_versions v w) (world_versions u scene) ≡ arrivals w scene
  arrivals_turned w scene =
      ap (λ xs. renamings (map (λ (x : Found). x.row.entity) (filter_map (λ i. find (has_index i) xs) (range_with_len 0 scene.made))) (next_ids (length xs) w.free w.made w.first_entity_version))
      (placed_turned u scene.blocks)

  blocks_turned : (now : ℕ) (rs : List Renaming) (change : Value → Value) (bs : List Block)
      → map (block_moved (v now) rs change) (turned u bs) ≡ turned v (map (block_moved now rs change) bs)
  blocks_turned now rs change [] = refl
  blocks_turned now rs change (b ∷ bs) =
      ap₂ (λ (ms : List Mark) (cs : List Block). record b { marks = ms; rows = map (row_moved rs change) b.rows; order = v now } ∷ cs) (marks_turned v now b.home.types) (blocks_turned now rs change bs)

  joined_turned : (change : List Renaming → Value → Value) (w scene : World)
      → joined (arrivals (world_versions v w) (world_versions u scene)) (change (arrivals (world_versions v w) (world_versions u scene))) (world_versions v w) (world_versions u scene)
      ≡ world_versions v (joined (arrivals w scene) (change (arrivals w scene)) w scene)
  joined_turned change w scene =
      ap₂ (λ rs n. after rs n (turned v w.blocks ++ map (block_moved (v w.moment) rs (change rs)) (turned u scene.blocks))) (arrivals_turned w scene) (ap length (placed_turned u scene.blocks))
      ∙ ap (after (arrivals w scene) (alive_count scene))
      (ap (λ cs. turned v w.blocks ++ cs) (blocks_turned w.moment (arrivals w scene) (change (arrivals w scene)) scene.blocks)
      ∙ sym (map_append (block_versions v) w.blocks (map (block_moved w.moment (arrivals w scene) (change (arrivals w scene))) scene.blocks)))
    where
      after : List Renaming → ℕ → List Block → World
      after rs n blocks = record w { blocks = blocks; free = drop n w.free; made = w.made + (n - length w.free); moment = v w.moment }

  pub moved_turned : (w scene : World) → moved (world_versions v w) (world_versions u scene) ≡ world_versions v (moved w scene)
  unfolding moved
  moved_turned w scene = joined_turned value_renamed w scene

  pub attached_turned : (w scene : World) → attached (world_versions v w) (world_versions u scene) ≡ world_versions v (attached w scene)
  unfolding attached
  attached_turned w scene = joined_turned (λ rs value. value) w scene

-- a lawful world of the code stays one
pub moved_lawful_code : (capacity : List ℕ → ℕ) (code scene : World) → IsLawfulCode capacity code → IsLawfulCode capacity scene → scene.registry ≡ code.registry → alive_count scene ≤ room code
    → IsLawfulCode capacity (moved code scene)
moved_lawful_code capacity code scene l s same fits = record {
  first = l.first;
  world = moved l.world s.world;
  version = l.version;
  stands = ap₂ moved l.stands s.stands ∙ moved_turned (version_of l.first) (version_of s.first) l.world s.world;
  lawful = moved_lawful capacity l.world s.world l.lawful s.lawful
      (sym (ap (λ (c : World). c.registry) s.stands) ∙ (same ∙ ap (λ (c : World). c.registry) l.stands)) has_room;
}
  where
    alive : alive_count scene ≡ alive_count s.world
    alive = ap alive_count s.stands ∙ ap length (placed_turned (version_of s.first) s.world.blocks)

    rooms : room code ≡ room l.world
    rooms = ap room l.stands ∙ room_turned (version_of l.first) l.world

    has_room : alive_count s.world ≤ room l.world
    has_room = let a = alive in let r = rooms in omega arith
