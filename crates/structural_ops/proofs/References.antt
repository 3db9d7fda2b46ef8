-- The world after a reference was put into a row.
use Rattle.std.proofs.Common.{ℕ, ◌≡◌, ◌/◌, ◌<◌, ◌∙◌, Bool, true, false, cond, sym, ap, ap₂, refl, subst, List, [], ◌∷◌, length, map, Option, Some, None, option_map, Ok, arith}
use Rattle.std.specs.Prelude.{unwrap_or, option_and_then}
use Rattle.ent_types.specs.declared.entity.Entity.{Entity}
use Rattle.ent_types.specs.declared.value.Value.{Value}
use Rattle.ent_types.specs.TypeLookups.{fields_at, is_buffer_at, is_shared_at}
use Rattle.ent_types.specs.TypeSets.{has_type}
use Rattle.entity_table.specs.declared.table.Place.{Place}
use Rattle.entity_table.specs.Table.{place_of}
use Rattle.world_model.specs.Fits.{Fits, IsFitting}
use Rattle.world_model.specs.Found.{Found, cell_at, found}
use Rattle.world_model.specs.Members.{In}
use Rattle.world_model.specs.Operations.{Add, On, with_values as values_with, written}
use Rattle.world_model.specs.Part.{PartOf}
use Rattle.world_model.specs.Reads.{elements_of, types_of}
use Rattle.world_model.specs.Row.{Cell, Row}
use Rattle.world_model.specs.World.{World, capacity}
use Rattle.world_model.specs.Versions.{IsLawfulCode}
use Rattle.world_laws.proofs.NodeRows.{in_has}
use Rattle.world_laws.proofs.Types.{has_in}
use Rattle.chunk_block.specs.Blocks.{content_at}
use Rattle.world_places.specs.Placing.{world_blocks}
use Rattle.world_rows.specs.Reading.{found_at}
use Rattle.world_rows.proofs.ByType.{cell_lacks, cell_there}
use Rattle.world_rows.proofs.Changes.{values_alike}
use Rattle.world_rows.proofs.Fitting.{buffer_own}
use Rattle.structural_ops.specs.References.{with_row_values}
use Rattle.structural_ops.specs.Worlds.{IsConsistent, WorldState, WritesIn, state_of}
use Rattle.structural_ops.specs.declared.tables.Tables.{Tables}
use Rattle.structural_ops.proofs.After.{lawful_always}
use Rattle.structural_ops.proofs.Decided.{write_always}
use Rattle.structural_ops.proofs.Looked.{entity_there, found_there, lawful_there}
use Rattle.structural_ops.proofs.Written.{its, its_row}

-- who has a type is alive
pub lacks_none : (w : World) (e : Entity) (t : ℕ) → found e w.blocks ≡ None → has_type (unwrap_or (types_of w e) []) t ≡ true → ⊥
lacks_none w e t none has = let no_way : false ≡ true = sym (ap (λ (o : Option Found). has_type (unwrap_or (option_map (λ x. x.home.types) o) []) t) none) ∙ has in cc

-- and who has elements
pub counts_none : (w : World) (e : Entity) (t k : ℕ) → found e w.blocks ≡ None → k < unwrap_or (elements_of w e t) 0 → ⊥
counts_none w e t k none below =
    omega (
      arith,
      below,
      ap (λ (o : Option Found). unwrap_or (option_map (λ vs. length vs / length (fields_at w.registry t)) (option_map (λ (c : Cell). c.values) (option_and_then (λ x. cell_at t x.row.cells) o))) 0) none,
    )

module _ (w : Tables) (is : IsConsistent w) (e : Entity) (p : Place) (at : place_of w.table.table e ≡ Some p) where
  abbrev world : World
  world = (state_of w).world

  pub its_types : (t : ℕ) → has_type (unwrap_or (types_of (state_of w).world e) []) t ≡ true → has_type (its w is e p at).block.types t ≡ true
  its_types t has = sym (ap (λ (o : Option Found). has_type (unwrap_or (option_map (λ x. x.home.types) o) []) t) (found_there w is e p at)) ∙ has

  -- the same of elements
  module _ (t k : ℕ) (below : k < unwrap_or (elements_of (state_of w).world e t) 0) where
    found_below : k < unwrap_or (option_map (λ vs. length vs / length (fields_at w.registry t)) (option_map (λ (c : Cell). c.values) (cell_at t (its_row w is e p at).cells))) 0
    found_below =
        subst (λ (o : Option Found). k < unwrap_or (option_map (λ vs. length vs / length (fields_at w.registry t)) (option_map (λ (c : Cell). c.values) (option_and_then (λ x. cell_at t x.row.cells) o))) 0)
        (found_there w is e p at) below

    cell_below : (o : Option Cell) → cell_at t (its_row w is e p at).cells ≡ o
        → k < unwrap_or (option_map (λ vs. length vs / length (fields_at w.registry t)) (option_map (λ (c : Cell). c.values) o)) 0
    cell_below o same =
        subst (λ (o : Option Cell). k < unwrap_or (option_map (λ vs. length vs / length (fields_at w.registry t)) (option_map (λ (c : Cell). c.values) o)) 0) same found_below

    pub its_buffer : has_type (its w is e p at).block.types t ≡ true
    its_buffer = by (has_type (its w is e p at).block.types t) refl
      where
        by : (b : Bool) → has_type (its w is e p at).block.types t ≡ b → has_type (its w is e p at).block.types t ≡ true
        by true has = has
        by false lacks =
            absurd
            (omega (
              arith,
              cell_below None
                  (cell_lacks w.registry (found_at p.row (its w is e p at)) (lawful_there w is e p at) t (λ i. let no_way : true ≡ false = sym (in_has t (its w is e p at).block.types i) ∙ lacks in cc)),
            ))

    pub its_elements : is_buffer_at w.registry t ≡ true → k < length (content_at t (its_row w is e p at).cells).values / length (fields_at w.registry t)
    its_elements buffer =
        cell_below _ (cell_there w.registry (found_at p.row (its w is e p at)) (lawful_there w is e p at) t (has_in t (its w is e p at).block.types its_buffer) (buffer_own w.registry t buffer))

  module _ (t : ℕ) (h : List Value → List Value) (new : WorldState) (in_place : WritesIn (state_of w) new (t ∷ []) (record (its_row w is e p at) { cells = values_with t h (its_row w is e p at).cells })) where
    pub values_changed : new ≡ record (state_of w) { world = with_row_values t h (found e (world_blocks w.store.blocks)) (state_of w).world }
    values_changed =
        (λ i. record { world = in_place.world i; numbers = in_place.numbers i; archetypes = in_place.archetypes i })
        ∙ ap (λ (o : Option Found). record (state_of w) { world = with_row_values t h o world }) (sym (found_there w is e p at))

    -- the world is lawful where the new values fit, since adding them as a part makes the same world
    pub changed_lawful : has_type (its w is e p at).block.types t ≡ true → is_shared_at w.registry t ≡ false → Fits w.registry t (h (content_at t (its_row w is e p at).cells).values)
        → IsLawfulCode (capacity new.world.registry) new.world
    changed_lawful has own fits =
        lawful_always (state_of w) new (On e (Add part)) (Ok tt) (record { known = (lawful_there w is e p at).home.known t (has_in t (its w is e p at).block.types has); fit = fits }) is.lawful
        (write_always (state_of w) e (Add part) (found_at p.row (its w is e p at)) (found_there w is e p at) new t (values_with t (λ _. part.values) (its_row w is e p at).cells)
        (rw (has, own) refl) (entity_there w is e p at)
        (subst (λ (cells : List Cell). WritesIn (state_of w) new (t ∷ []) (record (its_row w is e p at) { cells = cells }))
        (sym (values_alike w.registry (found_at p.row (its w is e p at)) (lawful_there w is e p at) t h)) in_place))
      where
        part : PartOf Value
        part = record { type_id = t; values = h (content_at t (its_row w is e p at).cells).values }
