-- A scene attached to a world.
use Rattle.std.proofs.Common.{ℕ, ◌≡◌, ◌+◌, ◌<◌, ◌≤◌, ◌∙◌, ◌⊎◌, inl, inr, Bool, true, false, max, refl, sym, ap, ap₂, subst, List, [], ◌∷◌, ◌++◌, map, length, Option, Some, None, Result, Ok, Err, is_err, arith}
use Rattle.std.proofs.lemmas.List.{length-map}
use Rattle.std.specs.Option.{IfSome}
use Rattle.ent_types.specs.declared.entity.Entity.{Entity}
use Rattle.ent_types.specs.declared.limits.TheConstants.{MOST_ENTITIES}
use Rattle.ent_types.specs.declared.type_info.TypeInfo.{TypeInfo}
use Rattle.entity_table.specs.declared.table.Place.{Place}
use Rattle.entity_table.specs.declared.table.TableFault.{TableFault}
use Rattle.entity_table.specs.declared.table.TableFault.TheVariants as fault
use Rattle.entity_table.specs.Table.{IsAlive, Reserves, Spared, Table, alive_count as table_alive, living}
use Rattle.world_model.specs.Found.{alive_count, entities_by_index}
use Rattle.world_model.specs.Ids.{room}
use Rattle.world_model.specs.Members.{AreDistinct, In}
use Rattle.world_model.specs.Row.{Row}
use Rattle.world_model.specs.Scenes.{attached}
use Rattle.world_model.specs.Versions.{IsLawfulCode}
use Rattle.world_model.specs.World.{World, capacity, mark_type}
use Rattle.archetype_store.specs.Attached.{Attaches, Each, IsMoved, Grows as StoreGrows}
use Rattle.archetype_store.specs.Stores.{Numbered, OfBlock, StoreState}
use Rattle.world_places.specs.Placing.{IsPlaced, numbers_of, world_of}
use Rattle.world_places.proofs.Looking.{few_blocks}
use Rattle.world_rows.proofs.CodeLawful.{code_alive, code_sound}
use Rattle.structural_ops.specs.Attaching.{AreNew, all_made, all_named, all_noted, each_written, place_of_item}
use Rattle.structural_ops.specs.Worlds.{Becomes, IsConsistent, KeepsNumbers, Stays, state_of}
use Rattle.structural_ops.specs.declared.tables.Tables.{Tables}
use Rattle.structural_ops.proofs.Arrived.{Arrives, arrived, arrived_keeps, arrived_placed, arrived_world, attached_lawful_code, blocks_are_marked, can_mark, can_name, can_note, named, noted_there, places, places_long, rows_are_named, there}
use Rattle.structural_ops.proofs.Looked.{block_whole}
use Rattle.structural_ops.proofs.Noting.{AllAlive}
use Rattle.structural_ops.proofs.Walked.{entities_walked}

-- ---- memory for the new entities

-- only the memory changes
pub reserved_table : (old : Spared) (n : ℕ) (new : Spared) (r : Result (Unit {0}) TableFault) → Reserves old n new r → new.table ≡ old.table
reserved_table old n new (Ok u) is = ap (λ (s : Spared). s.table) is.1
reserved_table old n new (Err fault.Full) is = ap (λ (s : Spared). s.table) is.1
reserved_table old n new (Err fault.Memory) is = ap (λ (s : Spared). s.table) is.1

pub reserved_spare : (old : Spared) (n : ℕ) (new : Spared) (r : Result (Unit {0}) TableFault) → is_err r ≡ false → Reserves old n new r → n ≤ new.spare
reserved_spare old n new (Ok u) ok is = subst (λ m. n ≤ m) (sym (ap (λ (s : Spared). s.spare) is.1)) (most old.spare n)
  where
    most : (a b : ℕ) → b ≤ max a b
    most a b = omega arith
reserved_spare old n new (Err f) ok is = absurd (let never : true ≡ false = ok in cc)

-- ---- a store that has the registry of its world

pub grown_registered : (registry : List TypeInfo) (old new other : StoreState) → IfSome old.registry (λ r. r ≡ registry) → IfSome other.registry (λ r. r ≡ registry)
    → StoreGrows other.registry old new → IfSome new.registry (λ r. r ≡ registry)
grown_registered registry old new other own theirs grows = by grows.registry
  where
    by : (new.registry ≡ old.registry) ⊎ (new.registry ≡ other.registry) → IfSome new.registry (λ r. r ≡ registry)
    by (inl same) = subst (λ (o : Option (List TypeInfo)). IfSome o (λ r. r ≡ registry)) (sym same) own
    by (inr same) = subst (λ (o : Option (List TypeInfo)). IfSome o (λ r. r ≡ registry)) (sym same) theirs

module _ (w scene : Tables) (was : IsConsistent w) (is : IsConsistent scene) (same : scene.registry ≡ w.registry) where
  theirs : IfSome scene.store.registry (λ r. r ≡ w.registry)
  theirs = subst (λ (q : List TypeInfo). IfSome scene.store.registry (λ r. r ≡ q)) same is.agrees.registered

  abbrev pub now : ℕ
  now = w.version.0

  -- what the store's `attach` asks
  pub few_in_all : alive_count (state_of scene).world ≤ room (state_of w).world → length w.store.blocks + length scene.store.blocks ≤ 4294967295
  few_in_all fits =
      let a = few_blocks was.agrees.placed in
      let b = few_blocks is.agrees.placed in
      let c = code_alive (capacity w.registry) (state_of w).world was.lawful in
      let d = code_alive (capacity scene.registry) (state_of scene).world is.lawful in
      omega (arith, a, b, c, d, was.agrees.placed.counted, is.agrees.placed.counted)

  -- ---- memory ran out

  module _ (store : StoreState) (table : Spared) (table_is : table.table ≡ w.table.table) (blocks_are : store.blocks ≡ w.store.blocks) (grows : StoreGrows scene.store.registry w.store store) where
    abbrev pub kept : Tables
    kept = record w { store = store; table = table }

    world_same : (state_of kept).world ≡ (state_of w).world
    world_same = ap₂ (λ (bs : List Numbered) (t : Table). world_of w.registry bs t now) blocks_are table_is

    pub kept_stays : Stays (state_of w) (state_of kept)
    kept_stays = record {
      world = world_same;
      numbers = ap (map (λ (b : Numbered). b.number)) blocks_are;
      archetypes = record { more = grows.more; are = grows.archetypes };
    }

    pub kept_consistent : IsConsistent kept
    kept_consistent = record {
      agrees = record {
        placed = subst (λ (bs : List Numbered). IsPlaced w.registry bs table.table) (sym blocks_are) (subst (IsPlaced w.registry w.store.blocks) (sym table_is) was.agrees.placed);
        registered = grown_registered w.registry w.store store scene.store was.agrees.registered theirs grows;
      };
      lawful = subst (IsLawfulCode (capacity w.registry)) (sym world_same) was.lawful;
    }

-- ---- the blocks were appended

-- what the store's `attach` left, of a world and a scene
pub record IsAppended (w scene : Tables) (mid : StoreState) (ns : List ℕ) : Type 0 where
  pub was : IsConsistent w
  pub is : IsConsistent scene
  pub same : scene.registry ≡ w.registry
  pub attaches : Attaches w.store mid scene.store ns

module _ {w scene : Tables} {mid : StoreState} {ns : List ℕ} (a : IsAppended w scene mid ns) where
  abbrev pub cs : List Numbered
  cs = a.attaches.blocks.added

  pub distinct : AreDistinct (numbers_of (w.store.blocks ++ cs))
  distinct = subst (λ (xs : List Numbered). AreDistinct (numbers_of xs)) a.attaches.blocks.blocks a.attaches.distinct

  pub theirs_placed : IsPlaced w.registry scene.store.blocks scene.table.table
  theirs_placed = subst (λ (q : List TypeInfo). IsPlaced q scene.store.blocks scene.table.table) a.same a.is.agrees.placed

  pub arrives : Arrives w.registry w.store.blocks scene.store.blocks cs ns w.table.table scene.table.table mid.archetypes
  arrives = record { was = a.was.agrees.placed; scene = theirs_placed; each = a.attaches.blocks.each; distinct = distinct }

  pub may_note : (ms : List ℕ) → ms ≡ ns → (n : ℕ) → In n ms → OfBlock n (λ b. AllAlive b.rows scene.table.table) mid.blocks
  may_note ms same n i = subst (OfBlock n (λ b. AllAlive b.rows scene.table.table)) (sym a.attaches.blocks.blocks) (can_note arrives n (subst (In n) same i))

  -- the table of the scene after its rows were noted
  module _ (ms : List ℕ) (listed : ms ≡ ns) (v : Table) (noted : v ≡ all_noted mid.blocks ms scene.table.table) where
    v_is : v ≡ there arrives
    v_is =
        noted
        ∙ ap₂ (λ (xs : List Numbered) (ls : List ℕ). all_noted xs ls scene.table.table) a.attaches.blocks.blocks listed
        ∙ noted_there arrives

    pub may_make : (spare : ℕ) → table_alive scene.table.table ≤ spare → length (living v) ≤ spare
    may_make spare enough =
        let long = sym (length-map (living (there arrives)) place_of_item) ∙ places_long arrives in
        subst (λ (x : Table). length (living x) ≤ spare) (sym v_is) (omega (arith, long, enough))

    pub may_name : (p : Place) → In p (map place_of_item (living v)) → OfBlock p.block (λ b. p.row < length b.rows) mid.blocks
    may_name =
        subst (λ (x : Table). (p : Place) → In p (map place_of_item (living x)) → OfBlock p.block (λ b. p.row < length b.rows) mid.blocks) (sym v_is)
        (λ p i. subst (OfBlock p.block (λ b. p.row < length b.rows)) (sym a.attaches.blocks.blocks) (can_name arrives p i))

    -- the store after its rows were named
    module _ (u : Table) (reserved : u ≡ w.table.table) (s : StoreState) (names : s ≡ all_named (map place_of_item (living v)) u mid) where
      s_is : s ≡ record mid { blocks = w.store.blocks ++ named arrives }
      s_is = names ∙ ap₂ (λ (x y : Table). all_named (map place_of_item (living x)) y mid) v_is reserved ∙ rows_are_named arrives mid a.attaches.blocks.blocks

      pub may_mark : (ls : List ℕ) → ls ≡ ns → (n : ℕ) → In n ls → OfBlock n (λ b. map mark_type b.marks ≡ b.types) s.blocks
      may_mark ls same n i =
          subst (λ (x : StoreState). OfBlock n (λ b. map mark_type b.marks ≡ b.types) x.blocks) (sym s_is)
          (can_mark arrives (λ b j. (block_whole scene a.is b j).marked) n (subst (In n) same i))

      -- the world in the end
      module _ (new : AreNew (map place_of_item (living v)) u) (table : Spared) (makes : table.table ≡ all_made (map place_of_item (living v)) u)
          (ls : List ℕ) (listed_again : ls ≡ ns) (store : StoreState) (marks : store ≡ each_written w.version.0 ls s) where
        abbrev pub joined : Tables
        joined = record w { store = store; table = table }

        abbrev blocks : List Numbered
        blocks = w.store.blocks ++ arrived arrives w.version.0

        store_is : store ≡ record mid { blocks = blocks }
        store_is =
            marks
            ∙ ap₂ (λ (ks : List ℕ) (x : StoreState). each_written w.version.0 ks x) listed_again s_is
            ∙ blocks_are_marked arrives w.version.0 (record mid { blocks = w.store.blocks ++ named arrives }) refl

        table_is : table.table ≡ all_made (places arrives) w.table.table
        table_is = makes ∙ ap₂ (λ (x y : Table). all_made (map place_of_item (living x)) y) v_is reserved

        news : AreNew (places arrives) w.table.table
        news =
            subst (AreNew (places arrives)) reserved (subst (λ (x : Table). AreNew (map place_of_item (living x)) u) v_is new)

        world_is : (state_of joined).world ≡ attached (state_of w).world (state_of scene).world
        world_is =
            ap₂ (λ (x : StoreState) (y : Table). world_of w.registry x.blocks y w.version.0) store_is table_is
            ∙ arrived_world arrives w.version.0 news (code_sound (capacity w.registry) (state_of w).world a.was.lawful) (state_of scene).world refl (entities_walked scene a.is)

        pub joined_becomes : Becomes (state_of w) (state_of joined) (attached (state_of w).world (state_of scene).world)
        joined_becomes = record {
          world_is = world_is;
          numbers = subst (λ (x : StoreState). KeepsNumbers (state_of w) (state_of (record joined { store = x }))) (sym store_is) (arrived_keeps arrives w.version.0 news);
          archetypes = record { more = a.attaches.grows.more; are = ap (λ (x : StoreState). x.archetypes) store_is ∙ a.attaches.grows.archetypes };
        }

        pub joined_consistent : alive_count (state_of scene).world ≤ room (state_of w).world → IsConsistent joined
        joined_consistent fits = record {
          agrees = record {
            placed = subst (λ (x : StoreState). IsPlaced w.registry x.blocks table.table) (sym store_is)
                (subst (IsPlaced w.registry blocks) (sym table_is) (arrived_placed arrives w.version.0 news));
            registered = subst (λ (x : StoreState). IfSome x.registry (λ r. r ≡ w.registry)) (sym store_is)
                (grown_registered w.registry w.store mid scene.store a.was.agrees.registered (theirs w scene a.was a.is a.same) a.attaches.grows);
          };
          lawful = subst (IsLawfulCode (capacity w.registry)) (sym world_is)
              (attached_lawful_code (capacity w.registry) (state_of w).world (state_of scene).world a.was.lawful
              (subst (λ (q : List TypeInfo). IsLawfulCode (capacity q) (state_of scene).world) a.same a.is.lawful) a.same fits);
        }
