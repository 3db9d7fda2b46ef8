-- What is read of a row makes the row that moves to another home.
use Rattle.std.proofs.Common.{ℕ, ◌≡◌, ◌≢◌, ◌⊎◌, ◌<◌, ◌∙◌, Bool, true, false, sym, ap, ap₂, subst, List, [], ◌∷◌, ◌++◌, length, map, filter, Result, Err, Some}
use Rattle.std.specs.Prelude.{⊤}
use Rattle.std.specs.Result.{IsErrAnd}
use Rattle.std.proofs.lemmas.Result.{err_from_is_err_and}
use Rattle.ent_types.specs.declared.entity.Entity.{Entity}
use Rattle.ent_types.specs.declared.value.Part.{Part}
use Rattle.ent_types.specs.declared.value.Value.{Value}
use Rattle.ent_types.specs.TypeLookups.{is_shared_at}
use Rattle.ent_types.specs.TypeSets.{has_type, with_type}
use Rattle.entity_table.specs.declared.table.Place.{Place}
use Rattle.entity_table.specs.Table.{place_of}
use Rattle.world_model.specs.Fits.{IsFitting}
use Rattle.world_model.specs.Members.{In}
use Rattle.world_model.specs.Part.{PartOf, part_of as seen}
use Rattle.world_model.specs.Row.{Row}
use Rattle.world_model.specs.World.{Home}
use Rattle.world_model.specs.Operations.{home_kept, cells_kept}
use Rattle.world_laws.proofs.Members.{in_filter}
use Rattle.chunk_block.specs.Blocks.{BlockState, IsWhole, row_in}
use Rattle.chunk_block.proofs.New.{whole_new}
use Rattle.archetype_store.specs.Stores.{Numbered, OfBlock, OfNumber}
use Rattle.world_places.specs.Placing.{home_of}
use Rattle.world_rows.specs.Reading.{AreOff, CanRead, found_at, parts_in}
use Rattle.world_rows.specs.Rows.{AreParts, cells_from, home_from, row_from}
use Rattle.world_rows.specs.Types.{IsPart, home_taking, row_kept, row_taking}
use Rattle.world_rows.proofs.Apart.{kept_apart}
use Rattle.world_rows.proofs.Becoming.{kept_home, kept_cells, taken_home, taken_row}
use Rattle.world_rows.proofs.PartsAre.{read_are, taken_are}
use Rattle.structural_ops.specs.Worlds.{IsConsistent, MovesTo, WorldState, state_of}
use Rattle.structural_ops.specs.Worlds.{Makes as MakesRow}
use Rattle.structural_ops.specs.declared.fault.OpFault.{OpFault}
use Rattle.structural_ops.specs.declared.fault.OpFault.TheVariants as fault
use Rattle.structural_ops.specs.declared.tables.Tables.{Tables}
use Rattle.structural_ops.proofs.Given.{stays_self}
use Rattle.structural_ops.proofs.Looked.{there, row_there, lawful_there, can_read, of_block, of_number}

module _ (w : Tables) (is : IsConsistent w) (e : Entity) (p : Place) (at : place_of w.table.table e ≡ Some p) where
  -- the block of the row
  abbrev pub own : Numbered
  own = (there w is e p at).block

  pub block_is : (b : BlockState) → OfBlock p.block (λ c. b ≡ c) w.store.blocks → b ≡ own.block
  block_is b is_it = of_number w is e p at (λ c. b ≡ c.block) is_it

  -- ---- what the reads ask

  pub block_there : OfBlock p.block (λ _. ⊤) w.store.blocks
  block_there = of_block w is e p at (λ _. ⊤) tt

  pub row_whole : OfBlock p.block (λ b. (p.row < length b.rows) × IsWhole b.columns) w.store.blocks
  row_whole =
      of_block w is e p at (λ b. (p.row < length b.block.rows) × IsWhole b.block.columns)
      (row_there w is e p at, subst IsWhole (sym (is.agrees.placed.whole own (there w is e p at).member)) (whole_new w.registry own.block.types))

  pub readable : (types : List ℕ) → ((t : ℕ) → In t types → In t own.block.types)
      → OfNumber p.block (λ b. CanRead w.registry p.row b × ((t : ℕ) → In t types → In t b.block.types)) w.store.blocks
  readable types among = of_block w is e p at (λ b. CanRead w.registry p.row b × ((t : ℕ) → In t types → In t b.block.types)) (can_read w is e p at, among)

  -- memory ran out before the row moved
  pub unmoved : (home : Numbered → Home) (row : Numbered → Row) (r : Result (Unit {0}) OpFault) → IsErrAnd r (λ f. f ≡ fault.Memory)
      → OfNumber p.block (λ b. MovesTo (state_of w) (state_of w) (home b) (row b) r) w.store.blocks
  unmoved home row r fails =
      let (f, failed, is_memory) = err_from_is_err_and r fails in
      of_block w is e p at (λ b. MovesTo (state_of w) (state_of w) (home b) (row b) r)
      (subst (MovesTo (state_of w) (state_of w) (home own) (row own)) (sym (failed ∙ ap Err is_memory)) (stays_self (state_of w)))

  -- what was read stands behind the parts that were there
  read_after : (types : List ℕ) (first : List (PartOf Value)) (before after given : List Part) → map seen before ≡ first → given ≡ after
      → OfNumber p.block (λ b. map seen after ≡ map seen before ++ parts_in p.row b types) w.store.blocks → map seen given ≡ first ++ parts_in p.row own types
  read_after types first before after given are same read =
      ap (map seen) same ∙ of_number w is e p at (λ b. map seen after ≡ map seen before ++ parts_in p.row b types) read ∙ ap (λ ps. ps ++ parts_in p.row own types) are

  -- ---- some of the types

  module _ (keeps : ℕ → Bool) (types : List ℕ) (are : types ≡ filter keeps own.block.types) where
    pub some_among : (t : ℕ) → In t types → In t own.block.types
    some_among t i = in_filter keeps t own.block.types (subst (In t) are i)

    module _ (off : List ℕ) (bits : OfNumber p.block (AreOff p.row types off) w.store.blocks) (none after given : List Part) (empty : none ≡ []) (same : given ≡ after)
        (read : OfNumber p.block (λ b. map seen after ≡ map seen none ++ parts_in p.row b types) w.store.blocks) where
      some_read : map seen given ≡ parts_in p.row own types
      some_read = read_after types [] none after given (ap (map seen) empty) same read

      some_bits : AreOff p.row types off own
      some_bits = of_number w is e p at (AreOff p.row types off) bits

      pub some_are : AreParts w.registry types (map seen given) off
      some_are =
          subst (λ ps. AreParts w.registry types ps off) (sym some_read) (read_are w.registry (found_at p.row own) (lawful_there w is e p at) types off some_among some_bits)

      some_home : home_from w.registry types (map seen given) ≡ home_kept keeps (home_of own)
      some_home = ap (home_from w.registry types) some_read ∙ kept_home w.registry (found_at p.row own) (lawful_there w is e p at) keeps types are

      some_cells : cells_from w.registry types (map seen given) off ≡ cells_kept keeps (row_in p.row own.block.rows).cells
      some_cells =
          ap (λ ps. cells_from w.registry types ps off) some_read ∙ kept_cells w.registry (found_at p.row own) (lawful_there w is e p at) keeps types are off some_bits

      pub some_make : (new : WorldState) (r : Result Entity OpFault) → MakesRow (state_of w) new (home_from w.registry types (map seen given)) (cells_from w.registry types (map seen given) off) r
          → MakesRow (state_of w) new (home_kept keeps (home_of own)) (cells_kept keeps (row_in p.row own.block.rows).cells) r
      some_make new r makes =
          subst (λ cs. MakesRow (state_of w) new (home_kept keeps (home_of own)) cs r) some_cells
          (subst (λ h. MakesRow (state_of w) new h (cells_from w.registry types (map seen given) off) r) some_home makes)

  module _ (types : List ℕ) (part : OfNumber p.block (λ b. IsPart types b.block.types) w.store.blocks) where
    part_own : IsPart types own.block.types
    part_own = of_number w is e p at (λ b. IsPart types b.block.types) part

    pub part_among : (t : ℕ) → In t types → In t own.block.types
    part_among = some_among (has_type types) types part_own.kept

    module _ (off : List ℕ) (bits : OfNumber p.block (AreOff p.row types off) w.store.blocks) (none after given : List Part) (empty : none ≡ []) (same : given ≡ after)
        (read : OfNumber p.block (λ b. map seen after ≡ map seen none ++ parts_in p.row b types) w.store.blocks) where
      pub kept_are : AreParts w.registry types (map seen given) off
      kept_are = some_are (has_type types) types part_own.kept off bits none after given empty same read

      kept_home_is : home_from w.registry types (map seen given) ≡ home_kept (has_type types) (home_of own)
      kept_home_is = some_home (has_type types) types part_own.kept off bits none after given empty same read

      kept_cells_are : cells_from w.registry types (map seen given) off ≡ cells_kept (has_type types) (row_in p.row own.block.rows).cells
      kept_cells_are = some_cells (has_type types) types part_own.kept off bits none after given empty same read

      pub kept_away : OfNumber p.block (λ b. home_of b ≢ home_from w.registry types (map seen given)) w.store.blocks
      kept_away = of_block w is e p at (λ b. home_of b ≢ home_from w.registry types (map seen given)) (λ same. kept_apart (home_of own) types part_own (same ∙ kept_home_is))

      pub kept_moves : (new : WorldState) (dying : Bool) (r : Result (Unit {0}) OpFault)
          → MovesTo (state_of w) new (home_from w.registry types (map seen given)) (row_from w.registry types (map seen given) off e dying) r
          → OfNumber p.block (λ b. MovesTo (state_of w) new (home_kept (has_type types) (home_of b)) (row_kept types e dying (row_in p.row b.block.rows)) r) w.store.blocks
      kept_moves new dying r moves =
          of_block w is e p at (λ b. MovesTo (state_of w) new (home_kept (has_type types) (home_of b)) (row_kept types e dying (row_in p.row b.block.rows)) r)
          (subst (λ cs. MovesTo (state_of w) new (home_kept (has_type types) (home_of own)) (record { entity = e; cells = cs; dying = dying }) r) kept_cells_are
          (subst (λ h. MovesTo (state_of w) new h (row_from w.registry types (map seen given) off e dying) r) kept_home_is moves))

  -- ---- one part more, or another one

  module _ (q : PartOf Value) (fit : IsFitting w.registry q) (block : BlockState) (seen_block : OfBlock p.block (λ b. block ≡ b) w.store.blocks) (types all : List ℕ)
      (types_are : types ≡ block.types) (all_are : all ≡ with_type types q.type_id) (off : List ℕ) (bits : OfNumber p.block (AreOff p.row types off) w.store.blocks)
      (none first after given : List Part) (empty : none ≡ []) (one : map seen first ≡ map seen none ++ q ∷ []) (same : given ≡ after)
      (read : OfNumber p.block (λ b. map seen after ≡ map seen first ++ parts_in p.row b types) w.store.blocks) where
    types_own : types ≡ own.block.types
    types_own = types_are ∙ ap (λ (b : BlockState). b.types) (block_is block seen_block)

    all_own : all ≡ with_type own.block.types q.type_id
    all_own = all_are ∙ ap (λ ts. with_type ts q.type_id) types_own

    taken_read : map seen given ≡ q ∷ parts_in p.row own own.block.types
    taken_read =
        read_after types (q ∷ []) first after given (one ∙ ap (λ ps. map seen ps ++ q ∷ []) empty) same read ∙ ap (λ ts. q ∷ parts_in p.row own ts) types_own

    taken_bits : AreOff p.row own.block.types off own
    taken_bits = subst (λ ts. AreOff p.row ts off own) types_own (of_number w is e p at (AreOff p.row types off) bits)

    pub more_are : AreParts w.registry all (map seen given) off
    more_are =
        subst (λ ts. AreParts w.registry ts (map seen given) off) (sym all_own)
        (subst (λ ps. AreParts w.registry (with_type own.block.types q.type_id) ps off) (sym taken_read)
        (taken_are w.registry (found_at p.row own) (lawful_there w is e p at) q off fit taken_bits))

    module _ (may : OfNumber p.block (λ b. (is_shared_at w.registry q.type_id ≡ true) ⊎ (has_type b.block.types q.type_id ≡ false)) w.store.blocks) where
      may_own : (is_shared_at w.registry q.type_id ≡ true) ⊎ (has_type own.block.types q.type_id ≡ false)
      may_own = of_number w is e p at (λ b. (is_shared_at w.registry q.type_id ≡ true) ⊎ (has_type b.block.types q.type_id ≡ false)) may

      more_home_is : home_from w.registry all (map seen given) ≡ home_taking w.registry q (home_of own)
      more_home_is =
          ap₂ (home_from w.registry) all_own taken_read
          ∙ taken_home w.registry (found_at p.row own) (lawful_there w is e p at) q off taken_bits may_own

      more_row_is : row_from w.registry all (map seen given) off e (row_in p.row own.block.rows).dying ≡ row_taking w.registry q e (row_in p.row own.block.rows)
      more_row_is =
          ap (λ cs. let r : Row = record { entity = e; cells = cs; dying = (row_in p.row own.block.rows).dying } in r)
          (ap₂ (λ ts ps. cells_from w.registry ts ps off) all_own taken_read
          ∙ taken_row w.registry (found_at p.row own) (lawful_there w is e p at) q off taken_bits may_own)

      pub more_away : OfNumber p.block (λ b. home_of b ≢ home_taking w.registry q (home_of b)) w.store.blocks
          → OfNumber p.block (λ b. home_of b ≢ home_from w.registry all (map seen given)) w.store.blocks
      more_away apart =
          of_block w is e p at (λ b. home_of b ≢ home_from w.registry all (map seen given))
          (λ stays. of_number w is e p at (λ b. home_of b ≢ home_taking w.registry q (home_of b)) apart (stays ∙ more_home_is))

      pub more_moves : (new : WorldState) (dying : Bool) (r : Result (Unit {0}) OpFault) → dying ≡ (row_in p.row block.rows).dying
          → MovesTo (state_of w) new (home_from w.registry all (map seen given)) (row_from w.registry all (map seen given) off e dying) r
          → OfNumber p.block (λ b. MovesTo (state_of w) new (home_taking w.registry q (home_of b)) (row_taking w.registry q e (row_in p.row b.block.rows)) r) w.store.blocks
      more_moves new dying r dies moves =
          of_block w is e p at (λ b. MovesTo (state_of w) new (home_taking w.registry q (home_of b)) (row_taking w.registry q e (row_in p.row b.block.rows)) r)
          (subst (λ row. MovesTo (state_of w) new (home_taking w.registry q (home_of own)) row r)
          (ap (row_from w.registry all (map seen given) off e) (dies ∙ ap (λ (b : BlockState). (row_in p.row b.rows).dying) (block_is block seen_block)) ∙ more_row_is)
          (subst (λ h. MovesTo (state_of w) new h (row_from w.registry all (map seen given) off e dying) r) more_home_is moves))
