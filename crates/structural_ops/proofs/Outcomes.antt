-- What operations give of a row that is found.
use Rattle.std.proofs.Common.{ℕ, ◌≡◌, ◌≢◌, ◌⊎◌, ◌∙◌, ◌&&◌, inr, Bool, true, false, not, cond, nat_eq, sym, ap, refl, subst, List, [], ◌∷◌, filter, Result, Ok, Err, Some, arith}
use Rattle.std.proofs.lemmas.Bool.{eq-eqb, ne_eqb, false≢true}
use Rattle.ent_types.specs.declared.entity.Entity.{Entity}
use Rattle.ent_types.specs.declared.skip.Skip.TheVariants as skip
use Rattle.ent_types.specs.declared.value.Value.{Value}
use Rattle.ent_types.specs.TypeLookups.{is_cleanup_at, is_shared_at}
use Rattle.ent_types.specs.TypeSets.{has_type, with_type, without_type}
use Rattle.ent_types.proofs.TypeSetLemmas.{has_type-without_type}
use Rattle.entity_table.specs.declared.table.Place.{Place}
use Rattle.entity_table.specs.Table.{place_of}
use Rattle.world_model.specs.Found.{Found}
use Rattle.world_model.specs.Part.{PartOf, with_typed}
use Rattle.world_model.specs.Row.{cell_of, cell_type}
use Rattle.world_model.specs.World.{capacity}
use Rattle.world_model.specs.Operations.{Add, Destroy, Done, Instantiate, On, Remove, Reply, SetShared, Skips, Keeps, Moves, Ends, apply, cells_kept, decide, ended, home_kept, home_with, home_with_shared, is_copied, kept, shared_set, sight, with_values}
use Rattle.world_laws.proofs.Meanings.{capacity_fits}
use Rattle.chunk_block.specs.Blocks.{row_in}
use Rattle.archetype_store.specs.Stores.{Numbered, OfNumber, StoreState, with_block_in}
use Rattle.world_places.specs.Placing.{home_of}
use Rattle.world_rows.specs.Reading.{found_at}
use Rattle.world_rows.specs.Types.{IsPart, cleanup_types, home_taking, row_kept, row_put, row_taking}
use Rattle.world_rows.proofs.Apart.{more_apart}
use Rattle.world_rows.proofs.Composed.{dying_set}
use Rattle.structural_ops.specs.Worlds.{Becomes, Gives, GivesAnswer, IsConsistent, MovesTo, WorldState, WritesIn, done, made, state_of}
use Rattle.structural_ops.specs.Worlds.{Makes as MakesRow}
use Rattle.structural_ops.specs.declared.fault.OpFault.{OpFault}
use Rattle.structural_ops.specs.declared.fault.OpFault.TheVariants as fault
use Rattle.structural_ops.specs.declared.tables.Tables.{Tables}
use Rattle.structural_ops.proofs.Decided.{outcome_gives, rewrite_gives, skip_gives, write_gives}
use Rattle.structural_ops.proofs.Decisions.{destroy_ends, destroy_stays, destroy_moves, remove_keeps, remove_ends, remove_moves, shared_lacks, shared_sets, add_shares, add_writes, add_moves, part_kept, home_same, cells_same}
use Rattle.structural_ops.proofs.Given.{copy_gives, moves_give, moves_or_large}
use Rattle.structural_ops.proofs.Numbering.{becomes_self}
use Rattle.structural_ops.proofs.Looked.{there, entity_there, found_there, lawful_there, of_block, of_number, room_there}
use Rattle.structural_ops.proofs.Written.{dies_here}

module _ (w : Tables) (is : IsConsistent w) (e : Entity) (p : Place) (at : place_of w.table.table e ≡ Some p) where
  abbrev own : Numbered
  own = (there w is e p at).block

  abbrev x : Found
  x = found_at p.row (there w is e p at).block

  -- a block has room for a row with some of the types
  pub room_part : (keeps : ℕ → Bool) → nat_eq (capacity w.registry (filter keeps own.block.types)) 0 ≡ false
  room_part keeps =
      ne_eqb (capacity w.registry (filter keeps own.block.types)) 0
      (λ none. let room = capacity_fits w.registry keeps own.block.types (room_there w is e p at) in omega (arith, none, room))

  module _ (keeps : ℕ → Bool) (ts : List ℕ) (are : ts ≡ filter keeps own.block.types) where
    pub part_is : ts ≢ own.block.types → OfNumber p.block (λ b. IsPart ts b.block.types) w.store.blocks
    part_is fewer =
        of_block w is e p at (λ b. IsPart ts b.block.types)
        (record { kept = are ∙ part_kept keeps own.block.types ∙ ap (λ us. filter (has_type us) own.block.types) (sym are); fewer = fewer })

    pub kept_gives : (new : WorldState) (dying : Bool) (r : Result (Unit {0}) OpFault)
        → OfNumber p.block (λ b. MovesTo (state_of w) new (home_kept (has_type ts) (home_of b)) (row_kept ts e dying (row_in p.row b.block.rows)) r) w.store.blocks
        → GivesAnswer (state_of w) new (apply (capacity w.registry) (state_of w).world e (kept (found_at p.row own) keeps dying)) (done r)
    kept_gives new dying r moves =
        moves_give (state_of w) new e (home_kept keeps (home_of own)) (cells_kept keeps x.row.cells) dying r (room_part keeps)
        (subst (λ h. MovesTo (state_of w) new h (record { entity = e; cells = cells_kept keeps x.row.cells; dying = dying }) r) (home_same w.registry x (lawful_there w is e p at) keeps)
        (subst (λ cs. MovesTo (state_of w) new (home_kept (has_type (filter keeps own.block.types)) (home_of own)) (record { entity = e; cells = cs; dying = dying }) r)
        (cells_same w.registry x (lawful_there w is e p at) keeps)
        (subst (λ us. MovesTo (state_of w) new (home_kept (has_type us) (home_of own)) (row_kept us e dying x.row) r) are
        (of_number w is e p at (λ b. MovesTo (state_of w) new (home_kept (has_type ts) (home_of b)) (row_kept ts e dying (row_in p.row b.block.rows)) r) moves))))

  -- ---- destroying

  module _ (types cleanup : List ℕ) (types_are : types ≡ own.block.types) (cleanup_are : cleanup ≡ cleanup_types w.registry types) where
    cleanup_own : cleanup ≡ cleanup_types w.registry own.block.types
    cleanup_own = cleanup_are ∙ ap (cleanup_types w.registry) types_are

    pub end_gives : (new : WorldState) → cleanup ≡ [] → Becomes (state_of w) new (ended e (state_of w).world) → Gives (state_of w) new (On e Destroy) (Ok Done)
    end_gives new none ends =
        outcome_gives (state_of w) e Destroy x (found_there w is e p at) Ends (destroy_ends (sight (capacity w.registry) (state_of w).world) x (sym cleanup_own ∙ none)) new (Ok Done) (refl, ends)

    module _ (some : cleanup ≢ []) where
      some_own : cleanup_types w.registry own.block.types ≢ []
      some_own none = some (cleanup_own ∙ none)

      pub dying_gives : (s : StoreState) → cleanup ≡ types → s ≡ with_block_in p.block (dying_set p.row true) w.store
          → Gives (state_of w) (state_of (record w { store = s })) (On e Destroy) (Ok Done)
      dying_gives s all dies =
          rewrite_gives (state_of w) e Destroy x (found_there w is e p at) (state_of (record w { store = s })) [] x.row.cells true
          (destroy_stays (sight (capacity w.registry) (state_of w).world) x some_own (sym cleanup_own ∙ all ∙ types_are)) (entity_there w is e p at) (dies_here w is e p at s dies)

      module _ (others : cleanup ≢ types) where
        others_own : cleanup_types w.registry own.block.types ≢ own.block.types
        others_own all = others (cleanup_own ∙ all ∙ sym types_are)

        pub cleanup_part : OfNumber p.block (λ b. IsPart cleanup b.block.types) w.store.blocks
        cleanup_part = part_is (is_cleanup_at w.registry) cleanup cleanup_own (λ all. others (all ∙ sym types_are))

        pub cleanup_gives : (new : WorldState) (r : Result (Unit {0}) OpFault)
            → OfNumber p.block (λ b. MovesTo (state_of w) new (home_kept (has_type cleanup) (home_of b)) (row_kept cleanup e true (row_in p.row b.block.rows)) r) w.store.blocks
            → Gives (state_of w) new (On e Destroy) (done r)
        cleanup_gives new r moves =
            outcome_gives (state_of w) e Destroy x (found_there w is e p at) (kept x (is_cleanup_at w.registry) true)
            (destroy_moves (sight (capacity w.registry) (state_of w).world) x some_own others_own) new (done r) (kept_gives (is_cleanup_at w.registry) cleanup cleanup_own new true r moves)

  -- ---- copying

  pub copy_made : (new : WorldState) (r : Result Entity OpFault) → MakesRow (state_of w) new (home_kept (is_copied w.registry) (home_of own)) (cells_kept (is_copied w.registry) x.row.cells) r
      → Gives (state_of w) new (On e Instantiate) (made r)
  copy_made new r makes =
      outcome_gives (state_of w) e Instantiate x (found_there w is e p at) (decide (sight (capacity w.registry) (state_of w).world) x Instantiate) refl new (made r)
      (copy_gives (state_of w) new e x r (room_part (is_copied w.registry)) makes)

  -- ---- removing

  module _ (t : ℕ) (types rest : List ℕ) (types_are : types ≡ own.block.types) (rest_are : rest ≡ without_type types t) where
    rest_own : rest ≡ without_type own.block.types t
    rest_own = rest_are ∙ ap (λ ts. without_type ts t) types_are

    module _ (has : has_type types t ≡ true) where
      has_own : has_type own.block.types t ≡ true
      has_own = ap (λ ts. has_type ts t) (sym types_are) ∙ has

      pub last_gives : (new : WorldState) → x.row.dying ≡ true → rest ≡ [] → Becomes (state_of w) new (ended e (state_of w).world) → Gives (state_of w) new (On e (Remove t)) (Ok Done)
      last_gives new dies none ends =
          outcome_gives (state_of w) e (Remove t) x (found_there w is e p at) Ends
          (remove_ends (sight (capacity w.registry) (state_of w).world) x t has_own dies (sym rest_own ∙ none)) new (Ok Done) (refl, ends)

      pub rest_part : OfNumber p.block (λ b. IsPart rest b.block.types) w.store.blocks
      rest_part =
          part_is (λ u. not (nat_eq u t)) rest rest_own
          (λ all. false≢true
          (sym (ap (λ b. not b && has_type own.block.types t) (eq-eqb t t refl)) ∙ sym (has_type-without_type own.block.types t t) ∙ ap (λ ts. has_type ts t) (sym rest_own ∙ all) ∙ has_own))

      pub rest_gives : (new : WorldState) (dying : Bool) (r : Result (Unit {0}) OpFault) → dying ≡ x.row.dying → (dying ≡ true → rest ≡ [] → ⊥)
          → OfNumber p.block (λ b. MovesTo (state_of w) new (home_kept (has_type rest) (home_of b)) (row_kept rest e dying (row_in p.row b.block.rows)) r) w.store.blocks
          → Gives (state_of w) new (On e (Remove t)) (done r)
      rest_gives new dying r dies stays moves =
          outcome_gives (state_of w) e (Remove t) x (found_there w is e p at) (kept x (λ u. not (nat_eq u t)) x.row.dying)
          (remove_moves (sight (capacity w.registry) (state_of w).world) x t has_own (λ is_dying none. stays (dies ∙ is_dying) (rest_own ∙ none))) new (done r)
          (subst (λ b. GivesAnswer (state_of w) new (apply (capacity w.registry) (state_of w).world e (kept x (λ u. not (nat_eq u t)) b)) (done r)) dies
          (kept_gives (λ u. not (nat_eq u t)) rest rest_own new dying r moves))

  pub absent_gives : (t : ℕ) → has_type own.block.types t ≡ false → Gives (state_of w) (state_of w) (On e (Remove t)) (Ok Done)
  absent_gives t lacks =
      outcome_gives (state_of w) e (Remove t) x (found_there w is e p at) Keeps (remove_keeps (sight (capacity w.registry) (state_of w).world) x t lacks) (state_of w) (Ok Done)
      (refl, becomes_self (state_of w))

  -- ---- a part of a type that is there

  module _ (q : PartOf Value) (has : has_type own.block.types q.type_id ≡ true) where
    pub has_there : OfNumber p.block (λ b. has_type b.block.types q.type_id ≡ true) w.store.blocks
    has_there = of_block w is e p at (λ b. has_type b.block.types q.type_id ≡ true) has

    module _ (new : WorldState) (r : Result Reply OpFault)
        (gives : OfNumber p.block (λ b. GivesAnswer (state_of w) new (apply (capacity w.registry) (state_of w).world e (shared_set (found_at p.row b) q)) r) w.store.blocks) where
      gives_own : GivesAnswer (state_of w) new (apply (capacity w.registry) (state_of w).world e (shared_set x q)) r
      gives_own = of_number w is e p at (λ b. GivesAnswer (state_of w) new (apply (capacity w.registry) (state_of w).world e (shared_set (found_at p.row b) q)) r) gives

      pub added_shared : is_shared_at w.registry q.type_id ≡ true → Gives (state_of w) new (On e (Add q)) r
      added_shared shared =
          outcome_gives (state_of w) e (Add q) x (found_there w is e p at) (shared_set x q) (add_shares (sight (capacity w.registry) (state_of w).world) x q has shared) new r gives_own

      pub set_gives : Gives (state_of w) new (On e (SetShared q)) r
      set_gives =
          outcome_gives (state_of w) e (SetShared q) x (found_there w is e p at) (shared_set x q) (shared_sets (sight (capacity w.registry) (state_of w).world) x q has) new r gives_own

    pub put_gives : (new : WorldState) → is_shared_at w.registry q.type_id ≡ false
        → OfNumber p.block (λ b. WritesIn (state_of w) new (q.type_id ∷ []) (row_put q (row_in p.row b.block.rows))) w.store.blocks → Gives (state_of w) new (On e (Add q)) (Ok Done)
    put_gives new unshared puts =
        write_gives (state_of w) e (Add q) x (found_there w is e p at) new q.type_id (with_values q.type_id (λ _. q.values) x.row.cells)
        (add_writes (sight (capacity w.registry) (state_of w).world) x q has unshared) (entity_there w is e p at)
        (of_number w is e p at (λ b. WritesIn (state_of w) new (q.type_id ∷ []) (row_put q (row_in p.row b.block.rows))) puts)

  -- ---- a part of a type that isn't there

  module _ (q : PartOf Value) (lacks : has_type own.block.types q.type_id ≡ false) where
    pub lacks_there : OfNumber p.block (λ b. (is_shared_at w.registry q.type_id ≡ true) ⊎ (has_type b.block.types q.type_id ≡ false)) w.store.blocks
    lacks_there = of_block w is e p at (λ b. (is_shared_at w.registry q.type_id ≡ true) ⊎ (has_type b.block.types q.type_id ≡ false)) (inr lacks)

    pub lacks_apart : OfNumber p.block (λ b. home_of b ≢ home_taking w.registry q (home_of b)) w.store.blocks
    lacks_apart = of_block w is e p at (λ b. home_of b ≢ home_taking w.registry q (home_of b)) (more_apart w.registry q (home_of own) lacks)

    pub lacks_gives : Gives (state_of w) (state_of w) (On e (SetShared q)) (Err (fault.Skip skip.NoComponent))
    lacks_gives =
        skip_gives (state_of w) e (SetShared q) x (found_there w is e p at) skip.NoComponent (shared_lacks (sight (capacity w.registry) (state_of w).world) x q lacks)

    pub more_gives : (new : WorldState) (r : Result (Unit {0}) OpFault)
        → OfNumber p.block (λ b. MovesTo (state_of w) new (home_taking w.registry q (home_of b)) (row_taking w.registry q e (row_in p.row b.block.rows)) r) w.store.blocks
        → Gives (state_of w) new (On e (Add q)) (done r)
    more_gives new r moves =
        by (is_shared_at w.registry q.type_id) refl
        (of_number w is e p at (λ b. MovesTo (state_of w) new (home_taking w.registry q (home_of b)) (row_taking w.registry q e (row_in p.row b.block.rows)) r) moves)
      where
        by : (b : Bool) → is_shared_at w.registry q.type_id ≡ b
            → MovesTo (state_of w) new (cond b (home_with_shared q (home_of own)) (home_with q.type_id (home_of own)))
            (record { entity = e; cells = cond b x.row.cells (with_typed cell_type (cell_of q) x.row.cells); dying = x.row.dying }) r
            → Gives (state_of w) new (On e (Add q)) (done r)
        by b shared moves =
            outcome_gives (state_of w) e (Add q) x (found_there w is e p at)
            (cond (nat_eq (capacity w.registry (with_type own.block.types q.type_id)) 0) (Skips skip.TooLarge)
            (Moves (cond b (home_with_shared q (home_of own)) (home_with q.type_id (home_of own))) (cond b x.row.cells (with_typed cell_type (cell_of q) x.row.cells)) x.row.dying))
            (add_moves (sight (capacity w.registry) (state_of w).world) x q b lacks shared) new (done r) (large b moves)
          where
            large : (b : Bool)
                → MovesTo (state_of w) new (cond b (home_with_shared q (home_of own)) (home_with q.type_id (home_of own)))
                (record { entity = e; cells = cond b x.row.cells (with_typed cell_type (cell_of q) x.row.cells); dying = x.row.dying }) r
                → GivesAnswer (state_of w) new (apply (capacity w.registry) (state_of w).world e
                (cond (nat_eq (capacity w.registry (with_type own.block.types q.type_id)) 0) (Skips skip.TooLarge)
                (Moves (cond b (home_with_shared q (home_of own)) (home_with q.type_id (home_of own))) (cond b x.row.cells (with_typed cell_type (cell_of q) x.row.cells)) x.row.dying))) (done r)
            large true m = moves_or_large (state_of w) new e (home_with_shared q (home_of own)) x.row.cells x.row.dying r m
            large false m = moves_or_large (state_of w) new e (home_with q.type_id (home_of own)) (with_typed cell_type (cell_of q) x.row.cells) x.row.dying r m
