-- Whether a row has some values of a shared type, and what it gives to set others.
use Rattle.std.proofs.Common.{◌≡◌, ◌≢◌, ◌∙◌, ◌&&◌, Bool, true, false, cond, nat_eq, sym, ap, ap₂, refl, subst, List, [], ◌∷◌, Result, Ok, Some, arith}
use Rattle.std.specs.Cmp.Lexicographic.{pointwise}
use Rattle.std.specs.List.{list_any}
use Rattle.std.specs.Option.{IsSome}
use Rattle.std.proofs.lemmas.Bool.{ne_eqb}
use Rattle.ent_types.specs.contracts.value.ValuePartialEq.TheImpl as value_eq
use Rattle.ent_types.specs.declared.entity.Entity.{Entity}
use Rattle.ent_types.specs.declared.value.Value.{Value}
use Rattle.ent_types.specs.declared.value.Value.TheVariants.{Int, Ref}
use Rattle.ent_types.specs.TypeLookups.{is_shared_at}
use Rattle.ent_types.specs.TypeSets.{has_type, with_type}
use Rattle.entity_table.specs.declared.table.Place.{Place}
use Rattle.entity_table.specs.Table.{place_of}
use Rattle.world_model.specs.Part.{PartOf, same_part, same_value, with_typed}
use Rattle.world_model.specs.Row.{cell_of, cell_type}
use Rattle.world_model.specs.Found.{Found, part_at}
use Rattle.world_model.specs.World.{capacity}
use Rattle.world_model.specs.Operations.{Outcome, Keeps, Moves, Done, apply, home_with, home_with_shared, shared_set}
use Rattle.world_laws.proofs.Types.{has_in, with_has}
use Rattle.chunk_block.specs.Blocks.{row_in}
use Rattle.archetype_store.specs.Stores.{Numbered, OfNumber}
use Rattle.world_places.specs.Placing.{home_of}
use Rattle.world_rows.specs.Reading.{found_at}
use Rattle.world_rows.specs.Types.{home_taking, row_taking}
use Rattle.world_rows.proofs.Apart.{same_shared, shared_apart}
use Rattle.world_rows.proofs.ByType.{shared_there}
use Rattle.world_rows.proofs.Reading.{shared_rising}
use Rattle.structural_ops.specs.Worlds.{GivesAnswer, IsConsistent, MovesTo, WorldState, done, state_of}
use Rattle.structural_ops.specs.declared.fault.OpFault.{OpFault}
use Rattle.structural_ops.specs.declared.tables.Tables.{Tables}
use Rattle.structural_ops.proofs.Given.{moves_give}
use Rattle.structural_ops.proofs.Looked.{there, lawful_there, of_block, of_number, room_there}
use Rattle.structural_ops.proofs.Numbering.{becomes_self}

-- the code compares values as the model does
same_values : (v u : Value) → value_eq.ghosts.eq v u ≡ same_value v u
same_values (Int x) (Int y) = refl
same_values (Int x) (Ref d) = refl
same_values (Ref e) (Int y) = refl
same_values (Ref e) (Ref d) = refl

compared : (vs us : List Value) → pointwise value_eq.ghosts.eq vs us ≡ pointwise same_value vs us
compared [] [] = refl
compared [] (u ∷ us) = refl
compared (v ∷ vs) [] = refl
compared (v ∷ vs) (u ∷ us) = ap₂ (λ a b. a && b) (same_values v u) (compared vs us)

module _ (w : Tables) (is : IsConsistent w) (e : Entity) (p : Place) (at : place_of w.table.table e ≡ Some p) (q : PartOf Value)
    (shared : is_shared_at w.registry q.type_id ≡ true) (has : OfNumber p.block (λ b. has_type b.block.types q.type_id ≡ true) w.store.blocks) where
  abbrev own : Numbered
  own = (there w is e p at).block

  abbrev x : Found
  x = found_at p.row (there w is e p at).block

  has_own : has_type own.block.types q.type_id ≡ true
  has_own = of_number w is e p at (λ b. has_type b.block.types q.type_id ≡ true) has

  pub values_there : OfNumber p.block (λ b. IsSome (part_at q.type_id b.shared)) w.store.blocks
  values_there =
      of_block w is e p at (λ b. IsSome (part_at q.type_id b.shared))
      (shared_there w.registry x (lawful_there w is e p at) q.type_id shared (has_in q.type_id own.block.types has_own))

  module _ (vs : List Value) (values : OfNumber p.block (λ b. part_at q.type_id b.shared ≡ Some vs) w.store.blocks) (r : Bool) (compares : r ≡ pointwise value_eq.ghosts.eq q.values vs) where
    any_is : list_any (same_part q) own.shared ≡ r
    any_is =
        same_shared q vs own.shared (shared_rising w.registry x (lawful_there w is e p at)) (of_number w is e p at (λ b. part_at q.type_id b.shared ≡ Some vs) values)
        ∙ sym (compares ∙ compared q.values vs)

    abbrev set_if : Bool → Outcome
    set_if b = cond b Keeps (Moves (home_with_shared q (home_of own)) x.row.cells x.row.dying)

    -- equal values change nothing
    pub set_same : r ≡ true
        → OfNumber p.block (λ b. GivesAnswer (state_of w) (state_of w) (apply (capacity w.registry) (state_of w).world e (shared_set (found_at p.row b) q)) (Ok Done)) w.store.blocks
    set_same equal =
        of_block w is e p at (λ b. GivesAnswer (state_of w) (state_of w) (apply (capacity w.registry) (state_of w).world e (shared_set (found_at p.row b) q)) (Ok Done))
        (subst (λ b. GivesAnswer (state_of w) (state_of w) (apply (capacity w.registry) (state_of w).world e (set_if b)) (Ok Done)) (sym (any_is ∙ equal)) (refl, becomes_self (state_of w)))

    -- others move the row
    module _ (differs : r ≡ false) where
      pub set_apart : OfNumber p.block (λ b. home_of b ≢ home_taking w.registry q (home_of b)) w.store.blocks
      set_apart = of_block w is e p at (λ b. home_of b ≢ home_taking w.registry q (home_of b)) (shared_apart w.registry q (home_of own) shared (any_is ∙ differs))

      fits : nat_eq (capacity w.registry (with_type own.block.types q.type_id)) 0 ≡ false
      fits =
          ap (λ ts. nat_eq (capacity w.registry ts) 0) (with_has q.type_id own.block.types (lawful_there w is e p at).home.types has_own)
          ∙ ne_eqb (capacity w.registry own.block.types) 0 (λ none. omega (arith, none, room_there w is e p at))

      pub set_other : (new : WorldState) (result : Result (Unit {0}) OpFault)
          → OfNumber p.block (λ b. MovesTo (state_of w) new (home_taking w.registry q (home_of b)) (row_taking w.registry q e (row_in p.row b.block.rows)) result) w.store.blocks
          → OfNumber p.block (λ b. GivesAnswer (state_of w) new (apply (capacity w.registry) (state_of w).world e (shared_set (found_at p.row b) q)) (done result)) w.store.blocks
      set_other new result moves =
          of_block w is e p at (λ b. GivesAnswer (state_of w) new (apply (capacity w.registry) (state_of w).world e (shared_set (found_at p.row b) q)) (done result))
          (subst (λ b. GivesAnswer (state_of w) new (apply (capacity w.registry) (state_of w).world e (set_if b)) (done result)) (sym (any_is ∙ differs))
          (moves_give (state_of w) new e (home_with_shared q (home_of own)) x.row.cells x.row.dying result fits
          (subst (λ b. MovesTo (state_of w) new (cond b (home_with_shared q (home_of own)) (home_with q.type_id (home_of own)))
          (record { entity = e; cells = cond b x.row.cells (with_typed cell_type (cell_of q) x.row.cells); dying = x.row.dying }) result) shared
          (of_number w is e p at (λ b. MovesTo (state_of w) new (home_taking w.registry q (home_of b)) (row_taking w.registry q e (row_in p.row b.block.rows)) result) moves))))
