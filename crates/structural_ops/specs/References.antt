-- References that are put into rows, one at a time.
use Rattle.std.specs.Prelude.{ℕ, ◌≡◌, ◌+◌, ◌*◌, ◌<◌, true, false, List, [], ◌∷◌, length, slice_set, unwrap_or, Option, Some, None}
use Rattle.ent_types.specs.declared.entity.Entity.{Entity}
use Rattle.ent_types.specs.declared.kinds.FieldKind.TheVariants.{Ref as RefKind}
use Rattle.ent_types.specs.declared.value.Value.{Value}
use Rattle.ent_types.specs.declared.value.Value.TheVariants.{Ref}
use Rattle.ent_types.specs.TypeLookups.{fields_at, field_kind_at, is_buffer_at, is_shared_at}
use Rattle.ent_types.specs.TypeSets.{has_type}
use Rattle.world_model.specs.Found.{Found, found}
use Rattle.world_model.specs.Operations.{with_values, written}
use Rattle.world_model.specs.Reads.{elements_of, types_of}
use Rattle.world_model.specs.World.{World}

-- the entity has a reference in a field of a type of its own
pub record HasReference (w : World) (e : Entity) (t field : ℕ) : Type 0 where
  pub there : has_type (unwrap_or (types_of w e) []) t ≡ true
  pub own : is_shared_at w.registry t ≡ false
  pub plain : is_buffer_at w.registry t ≡ false
  pub kind : field_kind_at w.registry t field ≡ RefKind

-- it has a reference in a field of an element
pub record HasElementReference (w : World) (e : Entity) (t k field : ℕ) : Type 0 where
  pub there : k < unwrap_or (elements_of w e t) 0
  pub buffer : is_buffer_at w.registry t ≡ true
  pub kind : field_kind_at w.registry t field ≡ RefKind

-- The world with the values that a row has of a type changed, and the type marked. Nothing changes where there is no row.
abbrev pub with_row_values : ℕ → (List Value → List Value) → Option Found → World → World
with_row_values t change None w = w
with_row_values t change (Some x) w = written (t ∷ []) (record (x.row) { cells = with_values t change x.row.cells }) w

abbrev pub with_reference : Entity → ℕ → ℕ → Entity → World → World
with_reference e t field to w = with_row_values t (λ values. slice_set values field (Ref to)) (found e w.blocks) w

abbrev pub with_element_reference : Entity → ℕ → ℕ → ℕ → Entity → World → World
with_element_reference e t k field to w =
    with_row_values t (λ values. slice_set values (k * length (fields_at w.registry t) + field) (Ref to)) (found e w.blocks) w
