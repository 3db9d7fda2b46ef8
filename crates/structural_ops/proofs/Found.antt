-- What is seen of an entity is what the world has of it.
use Rattle.std.proofs.Common.{ℕ, ◌≡◌, ◌/◌, ◌∙◌, sym, ap, refl, subst, List, length, Option, Some, None, option_map}
use Rattle.std.specs.Option.{IfSome, MatchOption}
use Rattle.ent_types.specs.declared.entity.Entity.{Entity}
use Rattle.ent_types.specs.declared.value.Value.{Value}
use Rattle.entity_table.specs.declared.table.Place.{Place}
use Rattle.entity_table.specs.Table.{place_of}
use Rattle.world_model.specs.Found.{Found, found}
use Rattle.buffer_store.specs.Buffers.{buffer, count_of}
use Rattle.archetype_store.specs.Stores.{Numbered, OfNumber}
use Rattle.world_places.specs.Placing.{world_blocks}
use Rattle.world_places.proofs.Looking.{none_is}
use Rattle.world_rows.specs.Reading.{CanRead, found_at}
use Rattle.structural_ops.specs.Reads.{CanSee, values_seen}
use Rattle.structural_ops.specs.Worlds.{IsConsistent}
use Rattle.structural_ops.specs.declared.tables.Tables.{Tables}
use Rattle.structural_ops.proofs.Looked.{can_read, found_there, of_block, of_number, there}
use Rattle.structural_ops.proofs.Seen.{can_see}

module _ (w : Tables) (is : IsConsistent w) (e : Entity) (t : ℕ) where
  pub all_seen : IfSome (place_of w.table.table e) (λ p. OfNumber p.block (CanSee w.registry t p.row) w.store.blocks)
  all_seen = by (place_of w.table.table e) refl
    where
      by : (o : Option Place) → place_of w.table.table e ≡ o → IfSome o (λ p. OfNumber p.block (CanSee w.registry t p.row) w.store.blocks)
      by None at = tt
      by (Some p) at = of_block w is e p at (CanSee w.registry t p.row) (can_see w.registry t p.row (there w is e p at).block (can_read w is e p at))

  pub seen_found : {X : Type 0} (x : Option X) (f : Option (List Value) → Option X) (g : Option Found → Option X) → None ≡ g None
      → ((k : ℕ) (b : Numbered) → CanRead w.registry k b → f (values_seen w.registry t k b) ≡ g (Some (found_at k b)))
      → MatchOption (place_of w.table.table e) (x ≡ None) (λ p. OfNumber p.block (λ b. x ≡ f (values_seen w.registry t p.row b)) w.store.blocks)
      → x ≡ g (found e (world_blocks w.store.blocks))
  seen_found {X} x f g none some seen = by (place_of w.table.table e) refl seen
    where
      by : (o : Option Place) → place_of w.table.table e ≡ o → MatchOption o (x ≡ None) (λ p. OfNumber p.block (λ b. x ≡ f (values_seen w.registry t p.row b)) w.store.blocks)
          → x ≡ g (found e (world_blocks w.store.blocks))
      by None at is_none = is_none ∙ none ∙ sym (ap g (none_is is.agrees.placed e at))
      by (Some p) at holds =
          of_number w is e p at (λ b. x ≡ f (values_seen w.registry t p.row b)) holds
          ∙ some p.row (there w is e p at).block (can_read w is e p at)
          ∙ sym (ap g (found_there w is e p at))

-- how many elements there are
pub counted_are : (width : ℕ) (o : Option (List Value)) → option_map count_of (option_map (buffer width) o) ≡ option_map (λ vs. length vs / width) o
counted_are width None = refl
counted_are width (Some vs) = refl
