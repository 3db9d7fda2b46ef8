-- A scene that is built of nodes and moved into a world: the rows of its nodes have the world's next ids, in file order.
use Rattle.std.proofs.Common.{◌≡◌, ℕ, zero, suc, ◌+◌, ◌<◌, ◌≤◌, inl, inr, Bool, true, false, List, [], ◌∷◌, map, length, Some, refl, sym, ap, ap₂, ◌∙◌, subst, arith, pos}
use Rattle.std.specs.Prelude.{slice_get}
use Rattle.ent_types.specs.declared.entity.Entity.{Entity}
use Rattle.ent_types.specs.declared.kinds.FieldKind.TheVariants.{I64}
use Rattle.ent_types.specs.declared.type_info.TypeInfo.{TypeInfo}
use Rattle.ent_types.specs.declared.value.Value.TheVariants.{Int}
use Rattle.ent_types.specs.Fitting.{null_entity, fits_field}
use Rattle.world_model.specs.Members.{In, one_if, tally}
use Rattle.world_model.specs.Part.{same_entity}
use Rattle.world_model.specs.World.{World}
use Rattle.world_model.specs.Found.{Found, placed, found, found_by_index, entities_by_index, alive_count}
use Rattle.world_model.specs.Ids.{room, next_ids}
use Rattle.world_model.specs.Lawful.{IsLawful, HasRoomForParts}
use Rattle.world_model.specs.Scenes.{Node, Renaming, renamings, renamed, node_renamings, arrivals, built, moved}
use Rattle.world_laws.specs.SceneRows.{AreLawfulNodes, file_entities, node_row, row_renamed, file_rows}
use Rattle.world_laws.proofs.Perms.{perm_in}
use Rattle.world_laws.proofs.Members.{in_map, map_in, length_map}
use Rattle.world_laws.proofs.Same.{entity_is}
use Rattle.world_laws.proofs.Taking.{length_ids}
use Rattle.world_laws.proofs.ByIndex.{found_by_index_perm}
use Rattle.world_laws.proofs.Renaming.{AreOnce, entity_of, renamed_null, scene_once, scene_long}
use Rattle.world_laws.proofs.Moved.{moved_finds}
use Rattle.world_laws.proofs.Built.{built_lawful, built_registry}
use Rattle.world_laws.proofs.Twice.{renamed_twice, null_not_fresh, cells_twice}
use Rattle.world_laws.proofs.FileOrder.{fresh, nodes_once, nodes_become, nodes_named, built_in_file_order}

-- the k-th of fresh ids
fresh_at : (n m k : ℕ) → k < n → slice_get (next_ids n [] m 1) k ≡ Some (fresh (m + k))
fresh_at zero m k less = absurd (omega arith)
fresh_at (suc n) m zero less = ap (λ i. Some (fresh i)) (same m)
  where
    same : (m : ℕ) → m ≡ m + 0
    same m = omega arith
fresh_at (suc n) m (suc k) less = fresh_at n (m + 1) k (omega arith) ∙ ap (λ i. Some (fresh i)) (same m k)
  where
    same : (m k : ℕ) → (m + 1) + k ≡ m + suc k
    same m k = omega arith

pub fresh_ids : (n k : ℕ) → k < n → slice_get (next_ids n [] 0 1) k ≡ Some (fresh k)
fresh_ids n k less = fresh_at n 0 k less ∙ ap (λ i. Some (fresh i)) same
  where
    same : 0 + k ≡ k
    same = omega arith

-- what the entities of the nodes become in a world
pub nodes_arrive : (capacity : List ℕ → ℕ) (w : World) (load : ℕ) (nodes : List Node) → AreLawfulNodes capacity w.registry load nodes
    → map (renamed (renamings (file_entities nodes) (next_ids (length nodes) w.free w.made w.first_entity_version))) (file_entities nodes)
    ≡ next_ids (length nodes) w.free w.made w.first_entity_version
nodes_arrive capacity w load nodes h =
    nodes_become nodes (next_ids (length nodes) w.free w.made w.first_entity_version) (length_ids (length nodes) w.free w.made w.first_entity_version)
    (nodes_once capacity w.registry load nodes h)

none_in : (e : Entity) (es : List Entity) → (In e es → ⊥) → tally (same_entity e) es ≡ 0
none_in e [] out = refl
none_in e (d ∷ es) out = step (same_entity e d) refl (none_in e es (λ i. out (inr i)))
  where
    step : (b : Bool) → same_entity e d ≡ b → tally (same_entity e) es ≡ 0 → one_if b + tally (same_entity e) es ≡ 0
    step true is rest = absurd (out (inl (entity_is e d is)))
    step false is rest = omega arith

-- every other entity becomes null
pub others_become_null : (nodes : List Node) (ids : List Entity) (e : Entity) → (In e (file_entities nodes) → ⊥) → renamed (renamings (file_entities nodes) ids) e ≡ null_entity
others_become_null nodes ids e out = renamed_null e (file_entities nodes) ids (none_in e (file_entities nodes) out)

entities_renamed : (rs : List Renaming) (registry : List TypeInfo) (load : ℕ) (ns : List Node)
    → map entity_of (map (λ n. row_renamed rs (node_row registry load n)) ns) ≡ map (renamed rs) (file_entities ns)
entities_renamed rs registry load [] = refl
entities_renamed rs registry load (n ∷ ns) = ap (λ es. renamed rs n.entity ∷ es) (entities_renamed rs registry load ns)

module _ (capacity : List ℕ → ℕ) (fits : HasRoomForParts capacity) (w : World) (l : IsLawful capacity w) (load : ℕ) (fit : fits_field I64 (Int (pos load)) ≡ true)
    (nodes : List Node) (h : AreLawfulNodes capacity w.registry load nodes) where
  abbrev scene : World
  scene = built capacity w.registry nodes load

  abbrev own : List Entity
  own = next_ids (length nodes) [] 0 1

  abbrev ids : List Entity
  ids = next_ids (length nodes) w.free w.made w.first_entity_version

  lawful : IsLawful capacity scene
  lawful = built_lawful capacity fits w.registry l.registry load fit nodes h.lawful

  by_index : found_by_index scene ≡ file_rows w.registry load nodes own
  by_index = built_in_file_order capacity fits w.registry l.registry load fit nodes h

  entities : entities_by_index scene ≡ own
  entities = ap (map entity_of) by_index ∙ (entities_renamed (node_renamings nodes) w.registry load nodes ∙ nodes_named capacity w.registry load nodes h)

  -- as many entities as nodes
  pub scene_count : alive_count scene ≡ length nodes
  scene_count = sym (scene_long capacity scene lawful) ∙ (ap length entities ∙ length_ids (length nodes) [] 0 1)

  arrivals_are : arrivals w scene ≡ renamings own ids
  arrivals_are = ap₂ (λ es n. renamings es (next_ids n w.free w.made w.first_entity_version)) entities scene_count

  twice : (e : Entity) → renamed (renamings own ids) (renamed (renamings (file_entities nodes) own) e) ≡ renamed (renamings (file_entities nodes) ids) e
  twice e =
      renamed_twice e (file_entities nodes) own ids (length_map (λ (n : Node). n.entity) nodes ∙ sym (length_ids (length nodes) [] 0 1))
      (length_ids (length nodes) [] 0 1 ∙ sym (length_ids (length nodes) w.free w.made w.first_entity_version))
      (subst AreOnce entities (scene_once capacity scene lawful)) (null_not_fresh (length nodes) 0)

  row_twice : (x : Found) → row_renamed (renamings own ids) (row_renamed (renamings (file_entities nodes) own) x) ≡ row_renamed (renamings (file_entities nodes) ids) x
  row_twice x =
      ap₂ (λ e cells. let y : Found = record x { row = record (x.row) { entity = e; cells = cells } } in y) (twice x.row.entity)
      (cells_twice (renamings (file_entities nodes) own) (renamings own ids) (renamings (file_entities nodes) ids) twice x.row.cells)

  -- after the scene moved in, the row of each node is found by its id
  pub arrived_rows : length nodes ≤ room w → (x : Found) → In x (file_rows w.registry load nodes ids) → found x.row.entity (moved w scene).blocks ≡ Some x
  arrived_rows few x i =
      let (n, j, is) = in_map (λ n. row_renamed (renamings (file_entities nodes) ids) (node_row w.registry load n)) x nodes i in
      let y : Found = row_renamed (renamings (file_entities nodes) own) (node_row w.registry load n) in
      let there : In y (placed scene.blocks) =
      perm_in y (found_by_index_perm capacity scene lawful)
      (subst (In y) (sym by_index) (map_in (λ n. row_renamed (renamings (file_entities nodes) own) (node_row w.registry load n)) n nodes j)) in
      let same : row_renamed (arrivals w scene) y ≡ x =
      ap (λ rs. row_renamed rs y) arrivals_are ∙ (row_twice (node_row w.registry load n) ∙ sym is) in
      subst (λ (z : Found). found z.row.entity (moved w scene).blocks ≡ Some z) same
      (moved_finds capacity w scene l lawful (built_registry capacity fits w.registry l.registry load fit nodes h.lawful) (subst (λ n. n ≤ room w) (sym scene_count) few) y there)
