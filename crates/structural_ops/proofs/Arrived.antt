-- The world after the blocks of a scene were appended, their rows named, and marked.
use Rattle.std.proofs.Common.{ℕ, suc, ◌≡◌, ◌+◌, ◌-◌, ◌<◌, ◌≤◌, ◌∙◌, ◌⊎◌, inl, inr, Bool, true, false, cond, nat_eq, refl, sym, ap, ap₂, subst, List, [], ◌∷◌, ◌++◌, map, length, drop, find, slice_get, Option, Some, None, option_map, append_assoc, arith}
use Rattle.std.specs.Prelude.{unwrap_or}
use Rattle.std.proofs.lemmas.Bool.{cases_eq, eq-eqb, ne_eqb}
use Rattle.std.proofs.lemmas.List.{length-map}
use Rattle.std.proofs.lemmas.Option.{none-some, same_Some, slice_get-map, slice_get_within}
use Rattle.ent_types.specs.declared.entity.Entity.{Entity}
use Rattle.ent_types.specs.declared.type_info.TypeInfo.{TypeInfo}
use Rattle.ent_types.specs.declared.value.Value.{Value}
use Rattle.entity_table.specs.declared.table.Place.{Place}
use Rattle.entity_table.specs.Table.{IsAlive, Table, alive_count as table_alive, given_by, living, made, place_of, with_made}
use Rattle.world_model.specs.Enter.{marks_at}
use Rattle.world_model.specs.Found.{Found, alive_count, entities_by_index, found, is_of, placed}
use Rattle.world_model.specs.Ids.{next_ids, room}
use Rattle.world_model.specs.Lawful.{IsSound}
use Rattle.world_model.specs.Members.{AreDistinct, In, tally}
use Rattle.world_model.specs.Part.{PartOf, same_entity}
use Rattle.world_model.specs.Row.{Cell, Row}
use Rattle.world_model.specs.Scenes.{Renaming, arrivals, attached, block_moved, renamings, row_moved}
use Rattle.world_model.specs.Versions.{IsLawfulCode}
use Rattle.world_model.specs.World.{Block, World, mark_type}
use Rattle.system_version.specs.Versions.{version_of}
use Rattle.world_laws.proofs.Members.{in_append, in_map, in_right, map_append, map_in}
use Rattle.world_laws.proofs.Moved.{attached_lawful}
use Rattle.world_laws.proofs.MovedVersions.{attached_turned}
use Rattle.world_laws.proofs.Renaming.{AreOnce, apart as apart_once}
use Rattle.world_laws.proofs.Same.{entity_self}
use Rattle.world_laws.proofs.Versions.{placed_turned, room_turned}
use Rattle.chunk_block.specs.Blocks.{BlockState, new_types}
use Rattle.archetype_store.specs.Attached.{Each, IsMoved}
use Rattle.archetype_store.specs.Stores.{Numbered, OfBlock, StoreState, with_block}
use Rattle.world_places.specs.Placing.{AreAtPlaces, IsPlaced, entity_at, numbers_of, row_at, world_block, world_blocks, world_of}
use Rattle.world_places.proofs.Looking.{AllLack, none_is, none_tally, one_has, one_tally, place_at_row, placed_length, there_is, without_place}
use Rattle.world_places.proofs.Numbers.{block_append, block_none, change_yes, of_in, row_at_in, row_at_some}
use Rattle.world_places.proofs.Rows.{entity_in}
use Rattle.world_places.proofs.Tables.{alive_at_place, free_below}
use Rattle.world_places.proofs.Whereabouts.{number_is}
use Rattle.structural_ops.specs.Attaching.{AreNew, all_made, all_named, all_noted, all_written, each_written, place_of_item}
use Rattle.structural_ops.proofs.Naming.{behind_apart, behind_distinct, block_renamed, given_places, given_there, ids_are, ids_long, ids_made, free_left, first_stays, made_counts, made_more, nothing_renamed, number_there, places_stay, renamed_if, renamed_same, row_renamed, walk_named, who_has_place}
use Rattle.structural_ops.proofs.Noting.{AreOnceIn, BlocksAlive, Notes, item_entity, noted, noted_is, notes, once_later, placed_walked, rows_of_in, same_walk, walked_count, walked_once, walked_place}
use Rattle.structural_ops.proofs.Numbering.{Keeps, number_at}

-- ---- a lawful world of the code stays one

pub attached_lawful_code : (capacity : List ℕ → ℕ) (code scene : World) → IsLawfulCode capacity code → IsLawfulCode capacity scene → scene.registry ≡ code.registry → alive_count scene ≤ room code
    → IsLawfulCode capacity (attached code scene)
attached_lawful_code capacity code scene l s same fits = record {
  first = l.first;
  world = attached l.world s.world;
  version = l.version;
  stands = ap₂ attached l.stands s.stands ∙ attached_turned (version_of l.first) (version_of s.first) l.world s.world;
  lawful = attached_lawful capacity l.world s.world l.lawful s.lawful
      (sym (ap (λ (c : World). c.registry) s.stands) ∙ (same ∙ ap (λ (c : World). c.registry) l.stands)) has_room;
}
  where
    alive : alive_count scene ≡ alive_count s.world
    alive = ap alive_count s.stands ∙ ap length (placed_turned (version_of s.first) s.world.blocks)

    rooms : room code ≡ room l.world
    rooms = ap room l.stands ∙ room_turned (version_of l.first) l.world

    has_room : alive_count s.world ≤ room l.world
    has_room = omega (arith, alive, rooms, fits)

-- ---- blocks marked one after another

abbrev pub block_written : ℕ → Numbered → Numbered
block_written now b = record b { block = all_written now b.block }

numbers_append : (bs cs : List Numbered) → numbers_of (bs ++ cs) ≡ numbers_of bs ++ numbers_of cs
numbers_append bs cs = map_append (λ (b : Numbered). b.number) bs cs

module _ (now : ℕ) (s : StoreState) where
  pub written_each : (bs cs : List Numbered) → AreDistinct (numbers_of (bs ++ cs))
      → each_written now (numbers_of cs) (record s { blocks = bs ++ cs }) ≡ record s { blocks = bs ++ map (block_written now) cs }
  written_each bs [] distinct = refl
  written_each bs (c ∷ cs) distinct =
      ap (λ (xs : List Numbered). each_written now (numbers_of cs) (record s { blocks = xs })) one
      ∙ written_each (bs ++ block_written now c ∷ []) cs (subst AreDistinct (sym same) distinct)
      ∙ ap (λ (xs : List Numbered). record s { blocks = xs }) (append_assoc bs (block_written now c ∷ []) (map (block_written now) cs))
    where
      here : with_block c.number (all_written now) (c ∷ cs) ≡ block_written now c ∷ cs
      here =
          ap₂ (λ (b : Numbered) (xs : List Numbered). b ∷ xs) (change_yes c.number (all_written now) c (eq-eqb c.number c.number refl))
          (block_none c.number (all_written now) cs (behind_distinct bs (c ∷ cs) distinct).0)

      one : with_block c.number (all_written now) (bs ++ c ∷ cs) ≡ (bs ++ block_written now c ∷ []) ++ cs
      one =
          block_append c.number (all_written now) bs (c ∷ cs)
          ∙ ap₂ (λ (xs ys : List Numbered). xs ++ ys) (block_none c.number (all_written now) bs (λ i. behind_apart bs (c ∷ cs) distinct c.number i (inl refl))) here
          ∙ sym (append_assoc bs (block_written now c ∷ []) cs)

      same : numbers_of ((bs ++ block_written now c ∷ []) ++ cs) ≡ numbers_of (bs ++ c ∷ cs)
      same = ap numbers_of (append_assoc bs (block_written now c ∷ []) cs) ∙ numbers_append bs (block_written now c ∷ cs) ∙ sym (numbers_append bs (c ∷ cs))

-- ---- the blocks of a scene, and the blocks that were added for them

module _ (archetypes : List (List ℕ)) where
  pub moved_numbers : (ss : List Numbered) (ns : List ℕ) (cs : List Numbered) → Each (IsMoved archetypes) ss ns cs → numbers_of cs ≡ ns
  moved_numbers [] [] [] each = refl
  moved_numbers [] [] (c ∷ cs) each = absurd each
  moved_numbers [] (n ∷ ns) cs each = absurd each
  moved_numbers (b ∷ bs) [] cs each = absurd each
  moved_numbers (b ∷ bs) (n ∷ ns) [] each = absurd each
  moved_numbers (b ∷ bs) (n ∷ ns) (c ∷ cs) each = ap₂ (λ (m : ℕ) (ms : List ℕ). m ∷ ms) each.0.like.number (moved_numbers bs ns cs each.1)

  pub moved_blocks : (ss : List Numbered) (ns : List ℕ) (cs : List Numbered) → Each (IsMoved archetypes) ss ns cs → world_blocks cs ≡ world_blocks ss
  moved_blocks [] [] [] each = refl
  moved_blocks [] [] (c ∷ cs) each = absurd each
  moved_blocks [] (n ∷ ns) cs each = absurd each
  moved_blocks (b ∷ bs) [] cs each = absurd each
  moved_blocks (b ∷ bs) (n ∷ ns) [] each = absurd each
  moved_blocks (b ∷ bs) (n ∷ ns) (c ∷ cs) each =
      ap₂ (λ (x : Block) (xs : List Block). x ∷ xs)
      (ap₂ (λ (shared : List (PartOf Value)) (block : BlockState). world_block (record c { shared = shared; block = block })) each.0.like.shared each.0.block) (moved_blocks bs ns cs each.1)

  -- a block of the scene was added
  pub was_added : (ss : List Numbered) (ns : List ℕ) (cs : List Numbered) → Each (IsMoved archetypes) ss ns cs → (b : Numbered) → In b ss → (c : Numbered) × In c cs × (c.block ≡ b.block)
  was_added [] [] [] each b i = absurd i
  was_added [] [] (c ∷ cs) each b i = absurd i
  was_added [] (n ∷ ns) cs each b i = absurd i
  was_added (a ∷ bs) [] cs each b i = absurd each
  was_added (a ∷ bs) (n ∷ ns) [] each b i = absurd each
  was_added (a ∷ bs) (n ∷ ns) (c ∷ cs) each b (inl same) = (c, inl refl, each.0.block ∙ ap (λ (d : Numbered). d.block) (sym same))
  was_added (a ∷ bs) (n ∷ ns) (c ∷ cs) each b (inr i) = let (d, j, is) = was_added bs ns cs each.1 b i in (d, inr j, is)

  -- and each that was added is one of them
  pub came_from : (ss : List Numbered) (ns : List ℕ) (cs : List Numbered) → Each (IsMoved archetypes) ss ns cs → (c : Numbered) → In c cs → (b : Numbered) × In b ss × (c.block ≡ b.block)
  came_from [] [] [] each c i = absurd i
  came_from [] [] (a ∷ cs) each c i = absurd each
  came_from [] (n ∷ ns) cs each c i = absurd each
  came_from (b ∷ bs) [] cs each c i = absurd each
  came_from (b ∷ bs) (n ∷ ns) [] each c i = absurd i
  came_from (b ∷ bs) (n ∷ ns) (a ∷ cs) each c (inl same) = (b, inl refl, ap (λ (d : Numbered). d.block) same ∙ each.0.block)
  came_from (b ∷ bs) (n ∷ ns) (a ∷ cs) each c (inr i) = let (d, j, is) = came_from bs ns cs each.1 c i in (d, inr j, is)

-- an entity of rows is at a place
at_place : (rows : List Row) (e : Entity) → In e (map (λ (r : Row). r.entity) rows) → (k : ℕ) × (entity_in rows k ≡ Some e)
at_place [] e i = absurd i
at_place (r ∷ rs) e (inl same) = (0, ap Some (sym same))
at_place (r ∷ rs) e (inr i) = let (k, is) = at_place rs e i in (suc k, is)

in_or_not : (n : ℕ) (ns : List ℕ) → In n ns ⊎ (In n ns → ⊥)
in_or_not n [] = inr (λ i. i)
in_or_not n (m ∷ ms) = by (cases_eq n m) (in_or_not n ms)
  where
    by : (n ≡ m) ⊎ (n ≡ m → ⊥) → In n ms ⊎ (In n ms → ⊥) → In n (m ∷ ms) ⊎ (In n (m ∷ ms) → ⊥)
    by (inl same) rest = inl (inl same)
    by (inr other) (inl i) = inl (inr i)
    by (inr other) (inr none) = inr (λ i. neither i)
      where
        neither : In n (m ∷ ms) → ⊥
        neither (inl same) = other same
        neither (inr i) = none i

cells_same : (cells : List Cell) → map (λ (c : Cell). record c { values = map (λ (v : Value). v) c.values }) cells ≡ cells
cells_same [] = refl
cells_same (c ∷ cs) = ap₂ (λ (vs : List Value) (ds : List Cell). record c { values = vs } ∷ ds) (values_same c.values) (cells_same cs)
  where
    values_same : (vs : List Value) → map (λ (v : Value). v) vs ≡ vs
    values_same [] = refl
    values_same (v ∷ vs) = ap (λ (us : List Value). v ∷ us) (values_same vs)

-- A world with the blocks `bs` and the table `u`, and a scene with the blocks `ss` and the table `t`. The blocks `cs` with the
-- numbers `ns` were added for those of the scene.
pub record Arrives (registry : List TypeInfo) (bs ss cs : List Numbered) (ns : List ℕ) (u t : Table) (archetypes : List (List ℕ)) : Type 0 where
  pub was : IsPlaced registry bs u
  pub scene : IsPlaced registry ss t
  pub each : Each (IsMoved archetypes) ss ns cs
  pub distinct : AreDistinct (numbers_of (bs ++ cs))

module _ {registry : List TypeInfo} {bs ss cs : List Numbered} {ns : List ℕ} {u t : Table} {archetypes : List (List ℕ)} (a : Arrives registry bs ss cs ns u t archetypes) where
  apart : (n : ℕ) → In n (numbers_of bs) → In n (numbers_of cs) → ⊥
  apart = behind_apart bs cs a.distinct

  added_distinct : AreDistinct (numbers_of cs)
  added_distinct = behind_distinct bs cs a.distinct

  same_blocks : world_blocks cs ≡ world_blocks ss
  same_blocks = moved_blocks archetypes ss ns cs a.each

  -- ---- the table of the scene, with the new places

  pub added_alive : BlocksAlive cs t
  added_alive c i e j =
      let (b, k, same) = came_from archetypes ss ns cs a.each c i in
      let (at, is) = at_place c.block.rows e j in
      alive_at_place t e (record { block = b.number; row = at })
      (place_at_row a.scene b k at e (ap (λ (x : BlockState). entity_in x.rows at) (sym same) ∙ is))

  -- what `note_blocks` asks
  pub can_note : (n : ℕ) → In n ns → OfBlock n (λ b. (e : Entity) → In e (map (λ (r : Row). r.entity) b.rows) → IsAlive t e) (bs ++ cs)
  can_note n i =
      let (c, j, same) = in_map (λ (b : Numbered). b.number) n cs (subst (In n) (sym (moved_numbers archetypes ss ns cs a.each)) i) in
      of_in n (λ b. (e : Entity) → In e (map (λ (r : Row). r.entity) b.block.rows) → IsAlive t e) (bs ++ cs) a.distinct c (in_right c bs cs j) (sym same) (added_alive c j)

  once : AreOnceIn cs
  once e = subst (λ (xs : List Block). tally (is_of e) (placed xs) ≤ 1) (sym same_blocks) (by (place_of t e) refl)
    where
      by : (o : Option Place) → place_of t e ≡ o → tally (is_of e) (placed (world_blocks ss)) ≤ 1
      by None none = omega (arith, none_tally e ss (without_place a.scene e none))
      by (Some p) at = one_tally e p.block p.row ss a.scene.numbers (one_has a.scene e p at)

  abbrev pub there : Table
  there = noted cs t

  pub noted_there : all_noted (bs ++ cs) ns t ≡ there
  noted_there =
      ap (λ ms. all_noted (bs ++ cs) ms t) (sym (moved_numbers archetypes ss ns cs a.each))
      ∙ noted_is (bs ++ cs) cs t (λ c i. rows_of_in (bs ++ cs) a.distinct c (in_right c bs cs i))

  noting : Notes cs t there
  noting = notes cs t added_alive added_distinct once

  pub at_places : AreAtPlaces there cs
  at_places = record { there = placed_at; found = noting.there }
    where
      placed_at : (e : Entity) (p : Place) → place_of there e ≡ Some p → entity_at cs p.block p.row ≡ Some e
      placed_at e p at = by (place_of t e) refl
        where
          by : (o : Option Place) → place_of t e ≡ o → entity_at cs p.block p.row ≡ Some e
          by None none =
              let lack : AllLack e cs = λ c i k is. (let (b, j, same) = came_from archetypes ss ns cs a.each c i in without_place a.scene e none b j k (ap (λ (x : BlockState). entity_in x.rows k) (sym same) ∙ is)) in
              absurd (none-some p (sym (noting.others e lack ∙ none) ∙ at))
          by (Some q) was_at =
              let was_there = there_is a.scene e q was_at in
              let (c, j, same) = was_added archetypes ss ns cs a.each was_there.block was_there.member in
              let here : entity_at cs c.number q.row ≡ Some e =
              ap (option_map (λ (r : Row). r.entity)) (row_at_in cs added_distinct c j c.number q.row refl ∙ ap (λ (x : BlockState). slice_get x.rows q.row) same ∙ was_there.at)
              ∙ ap Some was_there.entity in
              let place : record { block = c.number; row = q.row } ≡ p = same_Some _ p (sym (noting.there e (record { block = c.number; row = q.row }) here) ∙ at) in
              subst (λ (o : Place). entity_at cs o.block o.row ≡ Some e) place here

  -- ---- the walk

  abbrev pub items : List (Entity × Place)
  items = living there

  abbrev pub places : List Place
  places = map place_of_item items

  abbrev pub entities : List Entity
  entities = map item_entity items

  pub walk_is_scene : entities ≡ map item_entity (living t)
  walk_is_scene = same_walk t there noting.versions

  item_there : (x : Entity × Place) → In x items → entity_at cs x.1.block x.1.row ≡ Some x.0
  item_there x i = at_places.there x.0 x.1 (walked_place there x i)

  pub places_long : length places ≡ table_alive t
  places_long =
      omega
      (arith, length-map items place_of_item, length-map items item_entity, length-map (living t) item_entity, ap length walk_is_scene, walked_count t)

  -- what `name_rows` asks
  pub can_name : (p : Place) → In p places → OfBlock p.block (λ b. p.row < length b.rows) (bs ++ cs)
  can_name p i =
      let (x, j, same) = in_map place_of_item p items i in
      by (row_at cs p.block p.row) refl (subst (λ (q : Place). entity_at cs q.block q.row ≡ Some x.0) (sym same) (item_there x j))
    where
      by : {e : Entity} (o : Option Row) → row_at cs p.block p.row ≡ o → option_map (λ (r : Row). r.entity) o ≡ Some e → OfBlock p.block (λ b. p.row < length b.rows) (bs ++ cs)
      by {e} None at is = absurd (none-some e is)
      by (Some r) at is =
          let (c, j, number, got) = row_at_some cs p.block p.row r at in
          of_in p.block (λ b. p.row < length b.block.rows) (bs ++ cs) a.distinct c (in_right c bs cs j) number (slice_get_within c.block.rows p.row r got)

  -- ---- the names

  abbrev pub ids : List Entity
  ids = ids_made places u

  abbrev pub names : List Renaming
  names = renamings entities ids

  abbrev pub named : List Numbered
  named = map (block_renamed names) cs

  names_long : length entities ≡ length ids
  names_long =
      omega (arith, length-map items place_of_item, length-map items item_entity, ids_long places u)

  unnamed : (xs : List Numbered) → map (block_renamed []) xs ≡ xs
  unnamed [] = refl
  unnamed (x ∷ xs) = ap₂ (λ (rows : List Row) (ys : List Numbered). record x { block = record (x.block) { rows = rows } } ∷ ys) (nothing_renamed x.block.rows) (unnamed xs)

  pub rows_are_named : (s : StoreState) → s.blocks ≡ bs ++ cs → all_named places u s ≡ record s { blocks = bs ++ named }
  rows_are_named s is =
      ap (λ (xs : List Numbered). all_named places u (record s { blocks = xs })) (is ∙ ap (λ (xs : List Numbered). bs ++ xs) (sym (unnamed cs)))
      ∙ walk_named s bs cs a.distinct once items u [] item_there (walked_once there) (λ e i. refl)

  named_numbers : numbers_of named ≡ numbers_of cs
  named_numbers = same cs
    where
      same : (xs : List Numbered) → numbers_of (map (block_renamed names) xs) ≡ numbers_of xs
      same [] = refl
      same (x ∷ xs) = ap (λ (ms : List ℕ). x.number ∷ ms) (same xs)

  all_numbers : numbers_of (bs ++ named) ≡ numbers_of (bs ++ cs)
  all_numbers = numbers_append bs named ∙ ap (λ ms. numbers_of bs ++ ms) named_numbers ∙ sym (numbers_append bs cs)

  named_distinct : AreDistinct (numbers_of (bs ++ named))
  named_distinct = subst AreDistinct (sym all_numbers) a.distinct

  -- ---- the marks

  -- what `mark_blocks` asks
  pub can_mark : ((b : Numbered) → In b ss → map mark_type b.block.marks ≡ b.block.types) → (n : ℕ) → In n ns → OfBlock n (λ b. map mark_type b.marks ≡ b.types) (bs ++ named)
  can_mark marked n i =
      let (c, j, same) = in_map (λ (b : Numbered). b.number) n cs (subst (In n) (sym (moved_numbers archetypes ss ns cs a.each)) i) in
      let (b, k, block) = came_from archetypes ss ns cs a.each c j in
      of_in n (λ b. map mark_type b.block.marks ≡ b.block.types) (bs ++ named) named_distinct (block_renamed names c) (in_right (block_renamed names c) bs named (map_in (block_renamed names) c cs j)) (sym same)
      (subst (λ (x : BlockState). map mark_type x.marks ≡ x.types) (sym block) (marked b k))

  abbrev pub arrived : ℕ → List Numbered
  arrived now = map (block_written now) named

  pub blocks_are_marked : (now : ℕ) (s : StoreState) → s.blocks ≡ bs ++ named → each_written now ns s ≡ record s { blocks = bs ++ arrived now }
  blocks_are_marked now s is =
      ap₂ (λ (ms : List ℕ) (xs : List Numbered). each_written now ms (record s { blocks = xs })) (sym (named_numbers ∙ moved_numbers archetypes ss ns cs a.each)) is
      ∙ written_each now s bs named named_distinct

  -- ---- rows by their places

  module _ (now : ℕ) where
    -- a row that arrived is the row that was added, with its name
    arrived_at : (xs : List Numbered) (n k : ℕ) → row_at (map (block_written now) (map (block_renamed names) xs)) n k ≡ option_map (row_renamed names) (row_at xs n k)
    arrived_at [] n k = refl
    arrived_at (x ∷ xs) n k = by (nat_eq x.number n) (arrived_at xs n k)
      where
        by : (b : Bool) → row_at (map (block_written now) (map (block_renamed names) xs)) n k ≡ option_map (row_renamed names) (row_at xs n k)
            → cond b (slice_get (map (row_renamed names) x.block.rows) k) (row_at (map (block_written now) (map (block_renamed names) xs)) n k)
            ≡ option_map (row_renamed names) (cond b (slice_get x.block.rows k) (row_at xs n k))
        by true rest = slice_get-map (row_renamed names) x.block.rows k
        by false rest = rest

    arrived_numbers : numbers_of (arrived now) ≡ numbers_of cs
    arrived_numbers = same named ∙ named_numbers
      where
        same : (xs : List Numbered) → numbers_of (map (block_written now) xs) ≡ numbers_of xs
        same [] = refl
        same (x ∷ xs) = ap (λ (ms : List ℕ). x.number ∷ ms) (same xs)

    abbrev pub blocks : List Numbered
    blocks = bs ++ arrived now

    blocks_distinct : AreDistinct (numbers_of blocks)
    blocks_distinct = subst AreDistinct (sym (numbers_append bs (arrived now) ∙ ap (λ ms. numbers_of bs ++ ms) arrived_numbers ∙ sym (numbers_append bs cs))) a.distinct

    -- rows of blocks one after another
    behind_at : (xs ys : List Numbered) (n k : ℕ) → (In n (numbers_of xs) → ⊥) → row_at (xs ++ ys) n k ≡ row_at ys n k
    behind_at [] ys n k none = refl
    behind_at (x ∷ xs) ys n k none =
        ap (λ b. cond b (slice_get x.block.rows k) (row_at (xs ++ ys) n k)) (ne_eqb x.number n (λ same. none (inl (sym same)))) ∙ behind_at xs ys n k (λ i. none (inr i))

    front_at : (xs ys : List Numbered) (n k : ℕ) → In n (numbers_of xs) → row_at (xs ++ ys) n k ≡ row_at xs n k
    front_at [] ys n k i = absurd i
    front_at (x ∷ xs) ys n k i = by (cases_eq x.number n) i (front_at xs ys n k)
      where
        by : (x.number ≡ n) ⊎ (x.number ≡ n → ⊥) → In n (numbers_of (x ∷ xs)) → (In n (numbers_of xs) → row_at (xs ++ ys) n k ≡ row_at xs n k) → row_at ((x ∷ xs) ++ ys) n k ≡ row_at (x ∷ xs) n k
        by (inl same) i rest =
            ap (λ b. cond b (slice_get x.block.rows k) (row_at (xs ++ ys) n k)) (eq-eqb x.number n same)
            ∙ sym (ap (λ b. cond b (slice_get x.block.rows k) (row_at xs n k)) (eq-eqb x.number n same))
        by (inr other) (inl same) rest = absurd (other (sym same))
        by (inr other) (inr i) rest = ap (λ (o : Option Row). cond (nat_eq x.number n) (slice_get x.block.rows k) o) (rest i)

    old_at : (n k : ℕ) → In n (numbers_of bs) → entity_at blocks n k ≡ entity_at bs n k
    old_at n k i = ap (option_map (λ (r : Row). r.entity)) (front_at bs (arrived now) n k i)

    -- an entity that is there is that of a row that was added
    new_at : (n k : ℕ) → (In n (numbers_of bs) → ⊥) → entity_at blocks n k ≡ option_map (renamed_if names) (entity_at cs n k)
    new_at n k none =
        ap (option_map (λ (r : Row). r.entity)) (behind_at bs (arrived now) n k none ∙ arrived_at cs n k) ∙ by (row_at cs n k)
      where
        by : (o : Option Row) → option_map (λ (r : Row). r.entity) (option_map (row_renamed names) o) ≡ option_map (renamed_if names) (option_map (λ (r : Row). r.entity) o)
        by None = refl
        by (Some r) = refl

    -- ---- the entities of a walk, and the ids that they get

    given_for : (xs : List (Entity × Place)) (v : Table) (x : Entity × Place) → In x xs → AreOnce (map item_entity xs)
        → In (renamed_if (renamings (map item_entity xs) (ids_made (map place_of_item xs) v)) x.0, x.1) (given_places (map place_of_item xs) v)
    given_for [] v x i alone = absurd i
    given_for ((e, p) ∷ xs) v x (inl same) alone =
        inl
        (ap₂ (λ (d : Entity) (q : Place). (d, q))
        (ap (renamed_if (renamings (e ∷ map item_entity xs) ((given_by v).entity ∷ ids_made (map place_of_item xs) (with_made v p)))) (ap item_entity same)
        ∙ ap (λ b. unwrap_or (option_map (λ (r : Renaming). r.to) (cond b (Some (record { from = e; to = (given_by v).entity })) (find (λ (r : Renaming). same_entity e r.from) (renamings (map item_entity xs) (ids_made (map place_of_item xs) (with_made v p)))))) e) (entity_self e))
        (ap place_of_item same))
    given_for ((e, p) ∷ xs) v x (inr i) alone =
        inr
        (subst (λ d. In (d, x.1) (given_places (map place_of_item xs) (with_made v p)))
        (sym (ap (λ b. unwrap_or (option_map (λ (r : Renaming). r.to) (cond b (Some (record { from = e; to = (given_by v).entity })) (find (λ (r : Renaming). same_entity x.0 r.from) (renamings (map item_entity xs) (ids_made (map place_of_item xs) (with_made v p)))))) x.0)
        (apart_once x.0 e (map item_entity xs) alone (map_in item_entity x xs i))))
        (given_for xs (with_made v p) x i (once_later e (map item_entity xs) alone)))

    -- what is given is what a row of the walk gets
    for_item : (xs : List (Entity × Place)) (v : Table) (d : Entity) (p : Place) → In (d, p) (given_places (map place_of_item xs) v) → AreOnce (map item_entity xs)
        → (x : Entity × Place) × In x xs × (x.1 ≡ p) × (renamed_if (renamings (map item_entity xs) (ids_made (map place_of_item xs) v)) x.0 ≡ d)
    for_item [] v d p i alone = absurd i
    for_item ((e, q) ∷ xs) v d p (inl same) alone = (
      (e, q),
      inl refl,
      ap place_of_item (sym same),
      ap (λ b. unwrap_or (option_map (λ (r : Renaming). r.to) (cond b (Some (record { from = e; to = (given_by v).entity })) (find (λ (r : Renaming). same_entity e r.from) (renamings (map item_entity xs) (ids_made (map place_of_item xs) (with_made v q)))))) e) (entity_self e)
          ∙ ap item_entity (sym same),
    )
    for_item ((e, q) ∷ xs) v d p (inr i) alone =
        let (x, j, place, is) = for_item xs (with_made v q) d p i (once_later e (map item_entity xs) alone) in (
          x,
          inr j,
          place,
          ap (λ b. unwrap_or (option_map (λ (r : Renaming). r.to) (cond b (Some (record { from = e; to = (given_by v).entity })) (find (λ (r : Renaming). same_entity x.0 r.from) (renamings (map item_entity xs) (ids_made (map place_of_item xs) (with_made v q)))))) x.0)
              (apart_once x.0 e (map item_entity xs) alone (map_in item_entity x xs j))
              ∙ is,
        )

    module _ (new : AreNew places u) where
      abbrev pub table : Table
      table = all_made places u

      arrived_there : (e : Entity) (p : Place) → place_of table e ≡ Some p → entity_at blocks p.block p.row ≡ Some e
      arrived_there e p at = by (who_has_place places u new e p at)
        where
          by : (place_of u e ≡ Some p) ⊎ In (e, p) (given_places places u) → entity_at blocks p.block p.row ≡ Some e
          by (inl old) = let here = a.was.places.there e p old in old_at p.block p.row (number_there bs p.block p.row e here) ∙ here
          by (inr i) =
              let (x, j, place, is) = for_item items u e p i (walked_once there) in
              let here : entity_at cs p.block p.row ≡ Some x.0 = subst (λ (q : Place). entity_at cs q.block q.row ≡ Some x.0) place (item_there x j) in
              new_at p.block p.row (λ k. apart p.block k (number_there cs p.block p.row x.0 here)) ∙ ap (option_map (renamed_if names)) here ∙ ap Some is

      arrived_found : (e : Entity) (p : Place) → entity_at blocks p.block p.row ≡ Some e → place_of table e ≡ Some p
      arrived_found e p is = by (in_or_not p.block (numbers_of bs))
        where
          named_by : (o : Option Entity) → entity_at cs p.block p.row ≡ o → option_map (renamed_if names) o ≡ Some e → place_of table e ≡ Some p
          named_by None at got = absurd (none-some e got)
          named_by (Some d) at got =
              let i = placed_walked there d p (at_places.found d p at) in
              given_there places u new e p (subst (λ c. In (c, p) (given_places places u)) (same_Some (renamed_if names d) e got) (given_for items u (d, p) i (walked_once there)))

          by : In p.block (numbers_of bs) ⊎ (In p.block (numbers_of bs) → ⊥) → place_of table e ≡ Some p
          by (inl i) = places_stay places u new e p (a.was.places.found e p (sym (old_at p.block p.row i) ∙ is))
          by (inr none) = named_by (entity_at cs p.block p.row) refl (sym (new_at p.block p.row none) ∙ is)

      rows_long : (xs : List Numbered) → length (placed (world_blocks (map (block_written now) (map (block_renamed names) xs)))) ≡ length (placed (world_blocks xs))
      rows_long [] = refl
      rows_long (x ∷ xs) =
          omega (
            arith,
            placed_length (block_written now (block_renamed names x)) (map (block_written now) (map (block_renamed names) xs)),
            placed_length x xs,
            length-map x.block.rows (row_renamed names),
            rows_long xs,
          )

      placed_long : (xs ys : List Numbered) → length (placed (world_blocks (xs ++ ys))) ≡ length (placed (world_blocks xs)) + length (placed (world_blocks ys))
      placed_long [] ys = omega arith
      placed_long (x ∷ xs) ys = omega (arith, placed_length x (xs ++ ys), placed_length x xs, placed_long xs ys)

      each_block : (P : Numbered → Type 0) → ((b : Numbered) → In b bs → P b) → ((c : Numbered) → In c cs → P (block_written now (block_renamed names c))) → (b : Numbered) → In b blocks → P b
      each_block P old added b i = by (in_append b bs (arrived now) i)
        where
          by : In b bs ⊎ In b (arrived now) → P b
          by (inl j) = old b j
          by (inr j) =
              let (d, k, is) = in_map (block_written now) b named j in
              let (c, l, same) = in_map (block_renamed names) d cs k in
              subst P (sym (is ∙ ap (block_written now) same)) (added c l)

      pub arrived_placed : IsPlaced registry blocks table
      arrived_placed = record {
        numbers = blocks_distinct;
        filled = each_block (λ b. 1 ≤ length b.block.rows) a.was.filled
            (λ c i. let (b, j, same) = came_from archetypes ss ns cs a.each c i in omega (arith, length-map c.block.rows (row_renamed names), a.scene.filled b j, ap (λ (x : BlockState). length x.rows) same));
        whole = each_block (λ b. b.block.columns ≡ new_types registry b.block.types) a.was.whole
            (λ c i. let (b, j, same) = came_from archetypes ss ns cs a.each c i in
            ap (λ (x : BlockState). x.columns) same ∙ a.scene.whole b j ∙ ap (λ (x : BlockState). new_types registry x.types) (sym same));
        places = record { there = arrived_there; found = arrived_found };
        counted =
            omega (arith, made_counts places u new, places_long, a.was.counted, a.scene.counted, placed_long bs (arrived now), rows_long cs, ap (λ (xs : List Block). length (placed xs)) same_blocks);
      }

      -- ---- numbers

      pub arrived_keeps : Keeps bs blocks
      arrived_keeps e stays = by (place_of u e) refl (place_of table e) refl
        where
          homeless : (o : Option Found) → o ≡ None → option_map (λ (x : Found). x.home) o ≡ None
          homeless o is = ap (option_map (λ (x : Found). x.home)) is

          by : (o : Option Place) → place_of u e ≡ o → (q : Option Place) → place_of table e ≡ q → number_at blocks e ≡ number_at bs e
          by (Some p) old q at =
              number_is arrived_placed e ∙ ap (option_map (λ (x : Place). x.block)) (places_stay places u new e p old ∙ sym old) ∙ sym (number_is a.was e)
          by None old None at = number_is arrived_placed e ∙ ap (option_map (λ (x : Place). x.block)) (at ∙ sym old) ∙ sym (number_is a.was e)
          by None old (Some q) at =
              let here = there_is arrived_placed e q at in
              absurd (none-some _ (sym (stays ∙ homeless (found e (world_blocks bs)) (none_is a.was e old)) ∙ ap (option_map (λ (x : Found). x.home)) here.is_found))

      -- ---- the world

      module _ (sound : IsSound (world_of registry bs u now)) (w : World) (scene_is : world_blocks ss ≡ w.blocks) (walked : map item_entity (living t) ≡ entities_by_index w) where
        count_is : length places ≡ alive_count w
        count_is = omega (arith, places_long, a.scene.counted, ap (λ (xs : List Block). length (placed xs)) scene_is)

        made_below : (d : Entity) → In d u.free → d.index < made u
        made_below = free_below (world_of registry bs u now) sound

        names_are : names ≡ arrivals (world_of registry bs u now) w
        names_are =
            ap₂ renamings (walk_is_scene ∙ walked) (ids_are places u made_below ∙ ap (λ n. next_ids n u.free (made u) u.first_version) count_is)

        row_arrives : (c : Numbered) → In c cs → (rows : List Row) → ((e : Entity) → In e (map (λ (r : Row). r.entity) rows) → In e entities) → map (row_renamed names) rows ≡ map (row_moved names (λ (v : Value). v)) rows
        row_arrives c i [] among = refl
        row_arrives c i (r ∷ rs) among =
            ap₂ (λ (q : Row) (qs : List Row). q ∷ qs)
            (ap₂ (λ (e : Entity) (cells : List Cell). record r { entity = e; cells = cells }) (renamed_same entities ids names_long r.entity (among r.entity (inl refl))) (sym (cells_same r.cells)))
            (row_arrives c i rs (λ e j. among e (inr j)))

        among_walk : (c : Numbered) → In c cs → (e : Entity) → In e (map (λ (r : Row). r.entity) c.block.rows) → In e entities
        among_walk c i e j =
            let (k, is) = at_place c.block.rows e j in
            let at : entity_at cs c.number k ≡ Some e = ap (option_map (λ (r : Row). r.entity)) (row_at_in cs added_distinct c i c.number k refl) ∙ is in
            map_in item_entity (e, record { block = c.number; row = k }) items (placed_walked there e (record { block = c.number; row = k }) (at_places.found e (record { block = c.number; row = k }) at))

        blocks_arrive : (xs : List Numbered) → ((c : Numbered) → In c xs → In c cs)
            → world_blocks (map (block_written now) (map (block_renamed names) xs)) ≡ map (block_moved now names (λ (v : Value). v)) (world_blocks xs)
        blocks_arrive [] among = refl
        blocks_arrive (x ∷ xs) among =
            ap₂ (λ (rows : List Row) (ys : List Block). record (world_block x) { marks = marks_at now x.block.types; rows = rows; order = now } ∷ ys)
            (row_arrives x (among x (inl refl)) x.block.rows (among_walk x (among x (inl refl)))) (blocks_arrive xs (λ c i. among c (inr i)))

        blocks_are : world_blocks blocks ≡ world_blocks bs ++ map (block_moved now (arrivals (world_of registry bs u now) w) (λ (v : Value). v)) w.blocks
        blocks_are =
            map_append world_block bs (arrived now)
            ∙ ap (λ (xs : List Block). world_blocks bs ++ xs)
            (blocks_arrive cs (λ c i. i)
            ∙ ap₂ (λ (rs : List Renaming) (xs : List Block). map (block_moved now rs (λ (v : Value). v)) xs) names_are (same_blocks ∙ scene_is))

        pub arrived_world : world_of registry blocks table now ≡ attached (world_of registry bs u now) w
        unfolding attached
        arrived_world = λ k. record {
          registry = registry;
          blocks = blocks_are k;
          free = (free_left places u ∙ ap (λ n. drop n u.free) count_is) k;
          made = (made_more places u made_below ∙ ap (λ n. made u + (n - length u.free)) count_is) k;
          first_entity_version = first_stays places u k;
          moment = now;
        }
