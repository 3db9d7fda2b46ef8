-- The node at place k of a scene becomes the entity k:1 of the world that is built of it.
use Rattle.std.proofs.Common.{◌≡◌, ℕ, suc, ◌+◌, ◌<◌, ◌≤◌, inl, inr, nat_eq, Bool, true, false, not, ◌&&◌, cond, List, [], ◌∷◌, ◌++◌, map, length, Some, refl, sym, ap, ap₂, ◌∙◌, subst, arith, pos, append-nil, append_assoc, eqb-true}
use Rattle.std.specs.Prelude.{fold}
use Rattle.ent_types.specs.declared.entity.Entity.{Entity}
use Rattle.ent_types.specs.declared.kinds.FieldKind.TheVariants.{I64}
use Rattle.ent_types.specs.declared.limits.TheConstants.{MOST_ENTITIES}
use Rattle.ent_types.specs.declared.skip.Skip.TheVariants.{TooLarge, Full, NoComponent, NotEnableable}
use Rattle.ent_types.specs.declared.type_info.TypeInfo.{TypeInfo}
use Rattle.ent_types.specs.declared.value.Value.{Value}
use Rattle.ent_types.specs.declared.value.Value.TheVariants.{Int}
use Rattle.ent_types.specs.Fitting.{null_entity, fits_field}
use Rattle.ent_types.specs.Registries.{IsLawfulRegistry}
use Rattle.ent_types.specs.TypeLookups.{is_enableable_at}
use Rattle.ent_types.specs.TypeSets.{has_type}
use Rattle.world_model.specs.Members.{In, AreDistinct}
use Rattle.world_model.specs.Part.{PartOf, part_type, part_map, same_entity, by_type}
use Rattle.world_model.specs.Row.{Cell, Row}
use Rattle.world_model.specs.World.{Home, World, empty_world}
use Rattle.world_model.specs.Found.{Found, placed, found, found_by_index}
use Rattle.world_model.specs.Fits.{IsKnown, IsFitting}
use Rattle.world_model.specs.Ids.{take_id, room, next_id, next_ids}
use Rattle.world_model.specs.Operations.{Create, On, SetEnabled, Act, Made, Answer, Outcome, Skips, Writes, Makes, sight, decide, apply, acted, made, operate, switched, home_of, cells_of}
use Rattle.world_model.specs.Lawful.{IsLawful, HasRoomForParts}
use Rattle.world_model.specs.Scenes.{Node, IsLawfulNode, Renaming, renamings, renamed, value_renamed, scene_tag, switched_off, all_off, node_built, node_renamings, built}
use Rattle.world_laws.specs.SceneRows.{node_parts, AreLawfulNodes, file_entities, cells_disabled, node_row, row_renamed, file_rows}
use Rattle.world_laws.proofs.Perms.{Perm, empty, keep, follow, perm_is, perm_back, perm_middle, perm_length, perm_in}
use Rattle.world_laws.proofs.Members.{in_right, length_one_more, length_map}
use Rattle.world_laws.proofs.Same.{entity_is, entity_self}
use Rattle.world_laws.proofs.Types.{in_by_type}
use Rattle.world_laws.proofs.Entering.{enter_perm}
use Rattle.world_laws.proofs.Writing.{put_in, rewrite_placed}
use Rattle.world_laws.proofs.Meanings.{each_once, index_made}
use Rattle.world_laws.proofs.Taking.{length_ids}
use Rattle.world_laws.proofs.ByIndex.{AreFrom, found_by_index_is}
use Rattle.world_laws.proofs.Renaming.{AreOnce, map_renamed}
use Rattle.world_laws.proofs.Moved.{perm_map}
use Rattle.world_laws.proofs.Built.{tag_fits, parts_of, node_suits, IsGood, operate_good, empty_good}
use Rattle.world_laws.proofs.NodeRows.{by_type_map, types_map, cell_changed, cells_of_map, home_stays, turned, cells_turned}
use Rattle.world_laws.proofs.Twice.{once_by_index}

-- a fresh entity of a scene's world
abbrev pub fresh : ℕ → Entity
fresh index = record { index = index; version = 1 }

abbrev placed_row : Home → List Cell → Entity → Found
placed_row home cells e = record { home = home; row = record { entity = e; cells = cells; dying = false } }

-- A world that was built of some nodes: it has these rows in some order, none of its indexes is free, and as many as there
-- are rows were made.
record IsSoFar (capacity : List ℕ → ℕ) (registry : List TypeInfo) (w : World) (done : List Found) : Type 0 where
  good : IsGood capacity registry w
  free : w.free ≡ []
  first : w.first_entity_version ≡ 1
  made : w.made ≡ length done
  rows : Perm Found (placed w.blocks) done

some : (n : ℕ) → 1 ≤ n → nat_eq n 0 ≡ false
some n h = step (nat_eq n 0) refl
  where
    step : (b : Bool) → nat_eq n 0 ≡ b → b ≡ false
    step true is = let same = eqb-true n 0 is in absurd (omega arith)
    step false is = refl

last_perm : {X : Type 0} (xs : List X) (x : X) → Perm X (x ∷ xs) (xs ++ x ∷ [])
last_perm xs x = perm_back (follow (perm_middle xs x []) (perm_is (ap (λ ys. x ∷ ys) (append-nil xs))))

-- ---- a create

create_is : (capacity : List ℕ → ℕ) (w : World) (parts : List (PartOf Value)) → nat_eq (capacity (map part_type (by_type parts))) 0 ≡ false → nat_eq (room w) 0 ≡ false
    → operate capacity w (Create parts) ≡ record { world = made capacity (home_of w.registry (by_type parts)) (cells_of w.registry (by_type parts)) w; reply = Made (next_id w) }
unfolding operate
create_is capacity w parts small open_ =
    ap₂ (λ b c. apply capacity w null_entity (cond b (Skips TooLarge) (cond c (Skips Full) (Makes (home_of w.registry (by_type parts)) (cells_of w.registry (by_type parts)))))) small open_

module _ (capacity : List ℕ → ℕ) (registry : List TypeInfo) where
  next_is : (w : World) (done : List Found) → IsSoFar capacity registry w done → next_id w ≡ fresh (length done)
  next_is w done h =
      ap (λ f. (take_id f w.made w.first_entity_version).entity) h.free
      ∙ ap₂ (λ m v. let d : Entity = record { index = m; version = v } in d) h.made h.first

  has_room : (w : World) (done : List Found) → length done + 1 ≤ MOST_ENTITIES → IsSoFar capacity registry w done → nat_eq (room w) 0 ≡ false
  has_room w done few h = some (room w) (let n = perm_length h.rows in let m = h.made in omega arith)

  made_so_far : (w : World) (done : List Found) (home : Home) (cells : List Cell) → IsSoFar capacity registry w done → IsLawful capacity (made capacity home cells w)
      → IsSoFar capacity registry (made capacity home cells w) (done ++ placed_row home cells (fresh (length done)) ∷ [])
  made_so_far w done home cells h l = record {
    good = record { lawful = l; same = h.good.same };
    free = ap (λ f. (take_id f w.made w.first_entity_version).free) h.free;
    first = h.first;
    made = ap (λ f. (take_id f w.made w.first_entity_version).made) h.free ∙ longer (length_one_more done (placed_row home cells (fresh (length done))));
    rows =
        subst (λ e. Perm Found (placed (made capacity home cells w).blocks) (done ++ placed_row home cells e ∷ [])) (next_is w done h)
        (follow (enter_perm (capacity home.types) w.moment home (placed_row home cells (next_id w)).row w.blocks)
        (follow (keep (placed_row home cells (next_id w)) h.rows) (last_perm done (placed_row home cells (next_id w)))));
  }
    where
      longer : length (done ++ placed_row home cells (fresh (length done)) ∷ []) ≡ suc (length done) → w.made + 1 ≡ length (done ++ placed_row home cells (fresh (length done)) ∷ [])
      longer n = let m = h.made in omega arith

-- ---- a type is disabled

-- the last row is written, and no other
put_last : (row : Row) (x : Found) (done : List Found) → ((d : Found) → In d done → same_entity row.entity d.row.entity ≡ false) → same_entity row.entity x.row.entity ≡ true
    → map (put_in row) (done ++ x ∷ []) ≡ done ++ record x { row = row } ∷ []
put_last row x [] other same = ap (λ b. let y : Found = record x { row = cond b row x.row } in y ∷ []) same
put_last row x (d ∷ ds) other same =
    ap₂ (λ y ys. y ∷ ys) (ap (λ b. let y : Found = record d { row = cond b row d.row } in y) (other d (inl refl))) (put_last row x ds (λ y i. other y (inr i)) same)

other_entity : (d e : Entity) → d.index < e.index → same_entity e d ≡ false
other_entity d e less = step (same_entity e d) refl
  where
    step : (b : Bool) → same_entity e d ≡ b → b ≡ false
    step true is = let same = ap (λ (x : Entity). x.index) (entity_is e d is) in absurd (omega arith)
    step false is = refl

on_is : (capacity : List ℕ → ℕ) (v : World) (e : Entity) (a : Act Value) (x : Found) → found e v.blocks ≡ Some x → operate capacity v (On e a) ≡ apply capacity v e (decide (sight capacity v) x a)
unfolding operate
on_is capacity v e a x is = ap (acted capacity v e a) is

module _ (capacity : List ℕ → ℕ) (fits : HasRoomForParts capacity) (registry : List TypeInfo) (done : List Found) (home : Home) (e : Entity)
    (below : (d : Found) → In d done → d.row.entity.index < e.index) where
  abbrev with_last : List Cell → List Found
  with_last cells = done ++ placed_row home cells e ∷ []

  abbrev turn : ℕ → List Cell → Bool → Bool → Outcome
  turn t cells b c = cond (not b) (Skips NotEnableable) (cond (not c) (Skips NoComponent) (Writes (t ∷ []) (switched t false cells) false))

  long : (cells : List Cell) → length (with_last cells) ≡ suc (length done)
  long cells = length_one_more done (placed_row home cells e)

  turned_so_far : (v : World) (t : ℕ) (cells : List Cell) → (b c : Bool) → IsSoFar capacity registry v (with_last cells) → IsLawful capacity (apply capacity v e (turn t cells b c)).world
      → IsSoFar capacity registry (apply capacity v e (turn t cells b c)).world (with_last (cond (b && c) (switched t false cells) cells))
  turned_so_far v t cells true true h l = record {
    good = record { lawful = l; same = h.good.same };
    free = h.free;
    first = h.first;
    made = h.made ∙ (long cells ∙ sym (long (switched t false cells)));
    rows =
        follow (perm_is (rewrite_placed v.moment (t ∷ []) row v.blocks))
        (follow (perm_map (put_in row) h.rows)
        (perm_is (put_last row (placed_row home cells e) done (λ d i. other_entity d.row.entity e (below d i)) (entity_self e))));
  }
    where
      row : Row
      row = record { entity = e; cells = switched t false cells; dying = false }
  turned_so_far v t cells true false h l = h
  turned_so_far v t cells false c h l = h

  off_so_far : (v : World) (t : ℕ) (cells : List Cell) → IsKnown registry t → IsSoFar capacity registry v (with_last cells)
      → IsSoFar capacity registry (switched_off capacity e v t) (with_last (turned registry home.types cells t))
  off_so_far v t cells known h =
      let there : found e v.blocks ≡ Some (placed_row home cells e) =
      each_once capacity v h.good.lawful (placed_row home cells e)
      (perm_in (placed_row home cells e) (perm_back h.rows) (in_right (placed_row home cells e) done (placed_row home cells e ∷ []) (inl refl))) in
      let is : operate capacity v (On e (SetEnabled t false)) ≡ apply capacity v e (turn t cells (is_enableable_at v.registry t) (has_type home.types t)) =
      on_is capacity v e (SetEnabled t false) (placed_row home cells e) there in
      subst (λ (a : Answer). IsSoFar capacity registry a.world (with_last (turned registry home.types cells t))) (sym is)
      (subst (λ r. IsSoFar capacity registry (apply capacity v e (turn t cells (is_enableable_at v.registry t) (has_type home.types t))).world (with_last (turned r home.types cells t))) h.good.same
      (turned_so_far v t cells (is_enableable_at v.registry t) (has_type home.types t) h
      (subst (λ (a : Answer). IsLawful capacity a.world) is (operate_good capacity fits registry v (On e (SetEnabled t false)) h.good known).lawful)))

  all_off_so_far : (ts : List ℕ) (v : World) (cells : List Cell) → ((t : ℕ) → In t ts → IsKnown registry t) → IsSoFar capacity registry v (with_last cells)
      → IsSoFar capacity registry (fold (switched_off capacity e) v ts) (with_last (fold (turned registry home.types) cells ts))
  all_off_so_far [] v cells known h = h
  all_off_so_far (t ∷ ts) v cells known h =
      all_off_so_far ts (switched_off capacity e v t) (turned registry home.types cells t) (λ u i. known u (inr i)) (off_so_far v t cells (known t (inl refl)) h)

-- ---- the nodes

module _ (capacity : List ℕ → ℕ) (fits : HasRoomForParts capacity) (registry : List TypeInfo) (lawful : IsLawfulRegistry registry)
    (load : ℕ) (fit : fits_field I64 (Int (pos load)) ≡ true) (rs : List Renaming) where
  -- the row of a node with this entity, its references renamed
  abbrev row_at : Node → Entity → Found
  row_at node e =
      placed_row (home_of registry (node_parts load node)) (map (cell_changed (value_renamed rs)) (cells_disabled registry node.disabled (cells_of registry (node_parts load node)))) e

  abbrev rows_at : List Node → ℕ → List Found
  rows_at [] m = []
  rows_at (n ∷ ns) m = row_at n (fresh m) ∷ rows_at ns (m + 1)

  abbrev first_cells : Node → List Cell
  first_cells node = map (cell_changed (value_renamed rs)) (cells_of registry (node_parts load node))

  all_fit : (node : Node) → IsLawfulNode registry node → (p : PartOf Value) → In p (node_parts load node) → IsFitting registry p
  all_fit node h p i = step (in_by_type p (scene_tag load ∷ node.parts) i)
    where
      step : In p (scene_tag load ∷ node.parts) → IsFitting registry p
      step (inl is) = subst (IsFitting registry) (sym is) (tag_fits registry lawful load fit)
      step (inr j) = h.fit p j

  -- the create of a node
  answer_is : (w : World) (done : List Found) (node : Node) → IsLawfulNode registry node → 1 ≤ capacity (map part_type (node_parts load node)) → length done + 1 ≤ MOST_ENTITIES
      → IsSoFar capacity registry w done
      → operate capacity w (Create (parts_of rs load node))
      ≡ record { world = made capacity (home_of registry (node_parts load node)) (first_cells node) w; reply = Made (fresh (length done)) }
  answer_is w done node h room_ few so_far =
      create_is capacity w (parts_of rs load node) small (has_room capacity registry w done few so_far)
      ∙ (ap₂ (λ home cells. answer home cells (next_id w)) home cells
      ∙ ap (answer (home_of registry (node_parts load node)) (first_cells node)) (next_is capacity registry w done so_far))
    where
      answer : Home → List Cell → Entity → Answer
      answer home cells e = record { world = made capacity home cells w; reply = Made e }

      sorted : by_type (parts_of rs load node) ≡ map (part_map (value_renamed rs)) (node_parts load node)
      sorted = by_type_map (value_renamed rs) (scene_tag load ∷ node.parts)

      small : nat_eq (capacity (map part_type (by_type (parts_of rs load node)))) 0 ≡ false
      small = ap (λ ts. nat_eq (capacity ts) 0) (ap (map part_type) sorted ∙ types_map (value_renamed rs) (node_parts load node)) ∙ some (capacity (map part_type (node_parts load node))) room_

      home : home_of w.registry (by_type (parts_of rs load node)) ≡ home_of registry (node_parts load node)
      home = ap₂ home_of so_far.good.same sorted ∙ home_stays rs registry lawful (node_parts load node) (all_fit node h)

      cells : cells_of w.registry (by_type (parts_of rs load node)) ≡ first_cells node
      cells = ap₂ cells_of so_far.good.same sorted ∙ cells_of_map registry (value_renamed rs) (node_parts load node)

  node_so_far : (w : World) (done : List Found) (node : Node) → IsLawfulNode registry node → 1 ≤ capacity (map part_type (node_parts load node)) → length done + 1 ≤ MOST_ENTITIES
      → IsSoFar capacity registry w done → IsSoFar capacity registry (node_built capacity rs load w node) (done ++ row_at node (fresh (length done)) ∷ [])
  node_so_far w done node h room_ few so_far =
      let is = answer_is w done node h room_ few so_far in
      let good = operate_good capacity fits registry w (Create (parts_of rs load node)) so_far.good (node_suits registry lawful rs load fit node h) in
      let after = made_so_far capacity registry w done (home_of registry (node_parts load node)) (first_cells node) so_far (subst (λ (a : Answer). IsLawful capacity a.world) is good.lawful) in
      subst (λ (a : Answer). IsSoFar capacity registry (all_off capacity node.disabled a) (done ++ row_at node (fresh (length done)) ∷ [])) (sym is)
      (subst (λ cells. IsSoFar capacity registry (fold (switched_off capacity (fresh (length done))) (made capacity (home_of registry (node_parts load node)) (first_cells node) w) node.disabled)
      (done ++ placed_row (home_of registry (node_parts load node)) cells (fresh (length done)) ∷ []))
      (cells_turned registry (value_renamed rs) node.disabled (node_parts load node))
      (all_off_so_far capacity fits registry done (home_of registry (node_parts load node)) (fresh (length done)) below node.disabled
      (made capacity (home_of registry (node_parts load node)) (first_cells node) w) (first_cells node) h.known after))
    where
      below : (d : Found) → In d done → d.row.entity.index < length done
      below d i = subst (λ n. d.row.entity.index < n) so_far.made (index_made capacity w so_far.good.lawful d (perm_in d (perm_back so_far.rows) i))

  nodes_so_far : (ns : List Node) (w : World) (done : List Found) → ((node : Node) → In node ns → IsLawfulNode registry node)
      → ((node : Node) → In node ns → 1 ≤ capacity (map part_type (node_parts load node))) → length done + length ns ≤ MOST_ENTITIES → IsSoFar capacity registry w done
      → IsSoFar capacity registry (fold (node_built capacity rs load) w ns) (done ++ rows_at ns (length done))
  nodes_so_far [] w done all room_ few h = subst (IsSoFar capacity registry w) (sym (append-nil done)) h
  nodes_so_far (n ∷ ns) w done all room_ few h =
      subst (IsSoFar capacity registry (fold (node_built capacity rs load) (node_built capacity rs load w n) ns))
      (append_assoc done (x ∷ []) (rows_at ns (length (done ++ x ∷ []))) ∙ ap (λ m. done ++ x ∷ rows_at ns m) one_more)
      (nodes_so_far ns (node_built capacity rs load w n) (done ++ x ∷ []) (λ m i. all m (inr i)) (λ m i. room_ m (inr i)) fewer
      (node_so_far w done n (all n (inl refl)) (room_ n (inl refl)) (omega arith) h))
    where
      x : Found
      x = row_at n (fresh (length done))

      one_more : length (done ++ x ∷ []) ≡ length done + 1
      one_more = let l = length_one_more done x in omega arith

      fewer : length (done ++ x ∷ []) + length ns ≤ MOST_ENTITIES
      fewer = let l = length_one_more done x in omega arith

  -- the rows at rising fresh entities are those of the nodes, where the nodes become these entities
  rows_named : (ns : List Node) (m : ℕ) → map (renamed rs) (file_entities ns) ≡ next_ids (length ns) [] m 1 → rows_at ns m ≡ map (λ n. row_renamed rs (node_row registry load n)) ns
  rows_named [] m same = refl
  rows_named (n ∷ ns) m same =
      let first : renamed rs n.entity ≡ fresh m = cc in
      let rest : map (renamed rs) (file_entities ns) ≡ next_ids (length ns) [] (m + 1) 1 = cc in
      ap₂ (λ (x : Found) xs. x ∷ xs) (ap (row_at n) (sym first)) (rows_named ns (m + 1) rest)

  rows_from : (ns : List Node) (m : ℕ) → AreFrom m (rows_at ns m)
  rows_from [] m = tt
  rows_from (n ∷ ns) m = (refl, rows_from ns (m + 1))

  empty_so_far : IsSoFar capacity registry (empty_world registry 1 1) []
  empty_so_far = record { good = empty_good capacity fits registry lawful load fit; free = refl; first = refl; made = refl; rows = empty }

-- ---- the whole scene

-- no two nodes have one entity
pub nodes_once : (capacity : List ℕ → ℕ) (registry : List TypeInfo) (load : ℕ) (nodes : List Node) → AreLawfulNodes capacity registry load nodes → AreOnce (file_entities nodes)
nodes_once capacity registry load nodes h = once_by_index (file_entities nodes) (subst AreDistinct (indexes nodes) h.distinct)
  where
    indexes : (ns : List Node) → map (λ (n : Node). n.entity.index) ns ≡ map (λ (e : Entity). e.index) (file_entities ns)
    indexes [] = refl
    indexes (n ∷ ns) = ap (λ ts. n.entity.index ∷ ts) (indexes ns)

-- the entities of the nodes become these, in file order
pub nodes_become : (nodes : List Node) (ids : List Entity) → length ids ≡ length nodes → AreOnce (file_entities nodes)
    → map (renamed (renamings (file_entities nodes) ids)) (file_entities nodes) ≡ ids
nodes_become nodes ids long once = map_renamed (file_entities nodes) ids (length_map (λ (n : Node). n.entity) nodes ∙ sym long) once

-- in their own world the fresh ones
pub nodes_named : (capacity : List ℕ → ℕ) (registry : List TypeInfo) (load : ℕ) (nodes : List Node) → AreLawfulNodes capacity registry load nodes
    → map (renamed (node_renamings nodes)) (file_entities nodes) ≡ next_ids (length nodes) [] 0 1
nodes_named capacity registry load nodes h = nodes_become nodes (next_ids (length nodes) [] 0 1) (length_ids (length nodes) [] 0 1) (nodes_once capacity registry load nodes h)

pub built_in_file_order : (capacity : List ℕ → ℕ) → HasRoomForParts capacity → (registry : List TypeInfo) → IsLawfulRegistry registry → (load : ℕ) → fits_field I64 (Int (pos load)) ≡ true
    → (nodes : List Node) → AreLawfulNodes capacity registry load nodes
    → found_by_index (built capacity registry nodes load) ≡ file_rows registry load nodes (next_ids (length nodes) [] 0 1)
unfolding built
built_in_file_order capacity fits registry lawful load fit nodes h =
    let rs : List Renaming = node_renamings nodes in
    let all = nodes_so_far capacity fits registry lawful load fit rs nodes (empty_world registry 1 1) [] h.lawful h.room few (empty_so_far capacity fits registry lawful load fit rs) in
    found_by_index_is capacity (built capacity registry nodes load) all.good.lawful (rows_at capacity fits registry lawful load fit rs nodes 0) all.rows
    (rows_from capacity fits registry lawful load fit rs nodes 0) all.made
    ∙ rows_named capacity fits registry lawful load fit rs nodes 0 (nodes_named capacity registry load nodes h)
  where
    few : 0 + length nodes ≤ MOST_ENTITIES
    few = let f = h.few in omega arith
