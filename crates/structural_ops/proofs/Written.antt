-- The world after writes into a row that is found, and a mark of their type.
use Rattle.std.proofs.Common.{ℕ, ◌≡◌, ◌<◌, ◌∙◌, Bool, true, false, sym, ap, refl, subst, List, [], ◌∷◌, length, map, Some}
use Rattle.std.specs.Prelude.{⊤}
use Rattle.std.specs.Option.{IfSome}
use Rattle.ent_types.specs.declared.entity.Entity.{Entity}
use Rattle.ent_types.specs.declared.value.Value.{Value}
use Rattle.ent_types.specs.TypeLookups.{fields_at, is_buffer_at, is_shared_at}
use Rattle.ent_types.specs.TypeSets.{has_type}
use Rattle.world_model.specs.Fits.{Fits}
use Rattle.entity_table.specs.declared.table.Place.{Place}
use Rattle.entity_table.specs.Table.{place_of}
use Rattle.world_model.specs.Members.{In, AreDistinct, IsRising}
use Rattle.world_model.specs.Row.{Row}
use Rattle.world_model.specs.World.{Mark, mark_type}
use Rattle.world_model.specs.Write.{marked}
use Rattle.world_laws.proofs.Types.{has_in}
use Rattle.chunk_block.specs.Blocks.{BlockState, new_types, row_in}
use Rattle.archetype_store.specs.Stores.{Numbered, OfBlock, OfNumber, StoreState, with_block_in}
use Rattle.world_places.specs.Placing.{IsPlaced, numbers_of, types_marked, with_row, world_of}
use Rattle.world_places.proofs.Marks.{mark_is, rising_distinct}
use Rattle.world_places.proofs.Numbers.{block_same, block_twice, numbers_same, of_changed, of_member}
use Rattle.world_places.proofs.Rewriting.{rewritten_placed}
use Rattle.world_places.proofs.Worlds.{world_written}
use Rattle.world_rows.specs.Marks.{block_marked}
use Rattle.world_rows.specs.Writes.{AllTake, CanWrite, Write, block_writes, field_writes, row_writes, written}
use Rattle.world_rows.specs.Reading.{found_at}
use Rattle.world_rows.specs.Types.{row_put}
use Rattle.world_rows.proofs.Composed.{dying_set}
use Rattle.world_rows.proofs.Filled.{fits_plain}
use Rattle.world_rows.proofs.Fitting.{fields_take}
use Rattle.world_rows.proofs.Rewritten.{values_put, written_in, writes_in_place}
use Rattle.structural_ops.specs.Worlds.{Agrees, CanPut, IsConsistent, WritesIn, state_of}
use Rattle.structural_ops.specs.declared.tables.Tables.{Tables}
use Rattle.structural_ops.proofs.Readable.{has_at}
use Rattle.structural_ops.proofs.Looked.{block_whole, entity_there, lawful_there, of_block, of_number, row_there, there}

-- the entity of a row that can be written
pub put_at : (w : Tables) (t : ℕ) (p : Place) → OfNumber p.block (CanPut w t p) w.store.blocks → (e : Entity) × (place_of w.table.table e ≡ Some p)
put_at w t p can = let (b, i, number, has) = of_member p.block (CanPut w t p) w.store.blocks can in ((row_in p.row b.block.rows).entity, has.place)

module _ (w : Tables) (is : IsConsistent w) (e : Entity) (p : Place) (at : place_of w.table.table e ≡ Some p) where
  abbrev pub its : Numbered
  its = (there w is e p at).block

  abbrev pub its_row : Row
  its_row = row_in p.row its.block.rows

  pub put_type : (t : ℕ) → OfNumber p.block (CanPut w t p) w.store.blocks → In t its.block.types
  put_type t can = has_in t its.block.types (of_number w is e p at (CanPut w t p) can).has

  -- whether the row has a type, as its block says
  pub has_is : (now : BlockState) (types : List ℕ) (t : ℕ) (b : Bool) → OfBlock p.block (λ c. now ≡ c) w.store.blocks → types ≡ now.types → b ≡ has_type types t → has_type its.block.types t ≡ b
  has_is now types t b looked are has = has_at its.block now types t b (of_number w is e p at (λ c. now ≡ c.block) looked) are has

  pub put_there : (t : ℕ) → has_type its.block.types t ≡ true → OfNumber p.block (CanPut w t p) w.store.blocks
  put_there t has = of_block w is e p at (CanPut w t p) (record { place = ap (place_of w.table.table) (entity_there w is e p at) ∙ at; has = has })

  columns_are : its.block.columns ≡ new_types w.registry its.block.types
  columns_are = is.agrees.placed.whole its (there w is e p at).member

  pub can_write : (ws : List Write) → AllTake ws (new_types w.registry its.block.types) → CanWrite p.block p.row ws w.store
  can_write ws take =
      of_block w is e p at (λ b. (p.row < length b.block.rows) × AllTake ws b.block.columns) (row_there w is e p at, subst (AllTake ws) (sym columns_are) take)

  pub can_mark : (ws : List Write) → OfBlock p.block (λ _. ⊤) (written p.block p.row ws w.store).blocks
  can_mark ws =
      subst (λ (s : StoreState). OfBlock p.block (λ _. ⊤) s.blocks) (sym (written_in p.block p.row ws w.store))
      (of_changed p.block (block_writes p.row ws) (λ _. ⊤) w.store.blocks (of_block w is e p at (λ _. ⊤) tt))

  marks_distinct : AreDistinct (map mark_type its.block.marks)
  marks_distinct =
      rising_distinct (map mark_type its.block.marks)
      (subst (λ (ts : List ℕ). IsRising ts) (sym (block_whole w is its (there w is e p at).member).marked) (lawful_there w is e p at).home.types)

  -- another row stands in its place, and some types are marked
  module _ (types : List ℕ) (new : Row) (same : new.entity ≡ e) (s : StoreState)
      (store_is : s ≡ with_block_in p.block (λ b. types_marked w.version.0 types (with_row p.row new b)) w.store) where
    replaced_agrees : Agrees (record w { store = s })
    replaced_agrees = record {
      placed = subst (λ (r : StoreState). IsPlaced w.registry r.blocks w.table.table) (sym store_is) (rewritten_placed is.agrees.placed e p at w.version.0 types new same);
      registered = subst (λ (r : StoreState). IfSome r.registry (λ g. g ≡ w.registry)) (sym store_is) is.agrees.registered;
    }

    replaced_here : WritesIn (state_of w) (state_of (record w { store = s })) types new
    replaced_here = record {
      world = ap (λ (r : StoreState). world_of w.registry r.blocks w.table.table w.version.0) store_is
          ∙ world_written is.agrees.placed e p at w.version.0 types new same;
      numbers = ap (λ (r : StoreState). numbers_of r.blocks) store_is ∙ numbers_same p.block (λ b. types_marked w.version.0 types (with_row p.row new b)) w.store.blocks;
      archetypes = ap (λ (r : StoreState). r.archetypes) store_is;
    }

  module _ (t : ℕ) (ws : List Write) (new : Row) (same : new.entity ≡ e) (becomes : row_writes ws its_row ≡ new) (s : StoreState)
      (writes : s ≡ with_block_in p.block (block_marked t w.version.0) (written p.block p.row ws w.store)) where
    abbrev change : BlockState → BlockState
    change b = types_marked w.version.0 (t ∷ []) (with_row p.row new b)

    one_block : block_marked t w.version.0 (block_writes p.row ws its.block) ≡ change its.block
    one_block =
        ap (block_marked t w.version.0) (writes_in_place p.row ws its.block (row_there w is e p at) ∙ ap (λ r. with_row p.row r its.block) becomes)
        ∙ ap (λ ms. record (with_row p.row new its.block) { marks = ms }) (mark_is t w.version.0 its.block.marks marks_distinct)

    store_is : s ≡ with_block_in p.block change w.store
    store_is =
        writes
        ∙ ap (with_block_in p.block (block_marked t w.version.0)) (written_in p.block p.row ws w.store)
        ∙ ap (λ (bs : List Numbered). record (w.store) { blocks = bs })
        (block_twice p.block (block_marked t w.version.0) (block_writes p.row ws) w.store.blocks
        ∙ block_same p.block (λ b. block_marked t w.version.0 (block_writes p.row ws b)) change w.store.blocks is.agrees.placed.numbers
        (of_block w is e p at (λ b. block_marked t w.version.0 (block_writes p.row ws b.block) ≡ change b.block) one_block))

    pub written_agrees : Agrees (record w { store = s })
    written_agrees = replaced_agrees (t ∷ []) new same s store_is

    pub written_here : WritesIn (state_of w) (state_of (record w { store = s })) (t ∷ []) new
    written_here = replaced_here (t ∷ []) new same s store_is

    -- of the block of the number
    pub written_at : (row : Row → Row) → row its_row ≡ new → OfNumber p.block (λ b. WritesIn (state_of w) (state_of (record w { store = s })) (t ∷ []) (row (row_in p.row b.block.rows))) w.store.blocks
    written_at row is_new =
        of_block w is e p at (λ b. WritesIn (state_of w) (state_of (record w { store = s })) (t ∷ []) (row (row_in p.row b.block.rows)))
        (subst (WritesIn (state_of w) (state_of (record w { store = s })) (t ∷ [])) (sym is_new) written_here)

  -- ---- a row that becomes dying

  module _ (s : StoreState) (dies : s ≡ with_block_in p.block (dying_set p.row true) w.store) where
    abbrev dying_row : Row
    dying_row = record (its_row) { dying = true }

    none_marked : (ms : List Mark) → marked w.version.0 [] ms ≡ ms
    none_marked [] = refl
    none_marked (m ∷ ms) = ap (λ rest. m ∷ rest) (none_marked ms)

    dies_in_place : s ≡ with_block_in p.block (λ b. types_marked w.version.0 [] (with_row p.row dying_row b)) w.store
    dies_in_place =
        dies
        ∙ ap (λ (bs : List Numbered). record (w.store) { blocks = bs })
        (block_same p.block (dying_set p.row true) (λ b. types_marked w.version.0 [] (with_row p.row dying_row b)) w.store.blocks is.agrees.placed.numbers
        (of_block w is e p at (λ b. dying_set p.row true b.block ≡ types_marked w.version.0 [] (with_row p.row dying_row b.block))
        (ap (λ ms. record (with_row p.row dying_row its.block) { marks = ms }) (sym (none_marked its.block.marks)))))

    pub dies_agrees : Agrees (record w { store = s })
    dies_agrees = replaced_agrees [] dying_row (entity_there w is e p at) s dies_in_place

    pub dies_here : WritesIn (state_of w) (state_of (record w { store = s })) [] (record (its_row) { dying = true })
    dies_here = replaced_here [] dying_row (entity_there w is e p at) s dies_in_place

  -- ---- what a row takes of a type that is there

  module _ (t : ℕ) (can : OfNumber p.block (CanPut w t p) w.store.blocks) (own : is_shared_at w.registry t ≡ false) where
    pub takes_values : is_buffer_at w.registry t ≡ false → (vs : List Value) → Fits w.registry t vs → AllTake (field_writes t 0 vs) (new_types w.registry its.block.types)
    takes_values plain vs fits = fields_take w.registry its.block.types t (put_type t can) own plain [] (fields_at w.registry t) vs refl (fits_plain w.registry t vs plain fits)

    pub values_are : is_buffer_at w.registry t ≡ false → (vs : List Value) → Fits w.registry t vs → row_writes (field_writes t 0 vs) its_row ≡ row_put (record { type_id = t; values = vs }) its_row
    values_are plain vs fits = values_put w.registry (found_at p.row its) (lawful_there w is e p at) t vs plain fits
