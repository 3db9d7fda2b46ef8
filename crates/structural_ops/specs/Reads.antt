-- What is read of one type in one row, by its block alone.
use Rattle.std.specs.Prelude.{ℕ, ◌≡◌, ◌+◌, ◌*◌, ◌<◌, Bool, true, false, if◌then◌else◌, nat_lt, List, length, slice_get, Option, Some, None, option_and_then}
use Rattle.std.specs.Option.{IsSome}
use Rattle.ent_types.specs.declared.type_info.TypeInfo.{TypeInfo}
use Rattle.ent_types.specs.declared.value.Value.{Value}
use Rattle.ent_types.specs.TypeLookups.{fields_at, is_shared_at}
use Rattle.ent_types.specs.TypeSets.{has_type}
use Rattle.world_model.specs.Fits.{Fits, IsKnown}
use Rattle.world_model.specs.Found.{part_at}
use Rattle.chunk_block.specs.Blocks.{OfType, content_at, row_in, shape_of}
use Rattle.archetype_store.specs.Stores.{Numbered}

-- the values of a type, the row's own or its block's; none where it lacks the type
abbrev pub values_seen : List TypeInfo → ℕ → ℕ → Numbered → Option (List Value)
values_seen registry t k b =
    if has_type b.block.types t
    then (if is_shared_at registry t then part_at t b.shared else Some (content_at t (row_in k b.block.rows).cells).values)
    else None

-- one of them
abbrev pub field_seen : ℕ → Option (List Value) → Option Value
field_seen field values = option_and_then (λ vs. slice_get vs field) values

-- the value of a field of an element
abbrev pub element_seen : List TypeInfo → ℕ → ℕ → ℕ → Option (List Value) → Option Value
element_seen registry t k field values =
    if nat_lt field (length (fields_at registry t)) then option_and_then (λ vs. slice_get vs (k * length (fields_at registry t) + field)) values else None

-- The block has the row, and what it has of the type can be read: it isn't lent and fits. Other types may be lent.
pub record CanSee (registry : List TypeInfo) (t k : ℕ) (b : Numbered) : Type 0 where
  pub there : k < length b.block.rows
  pub known : has_type b.block.types t ≡ true → IsKnown registry t
  pub shared : has_type b.block.types t ≡ true → is_shared_at registry t ≡ true → IsSome (part_at t b.shared)
  pub own : has_type b.block.types t ≡ true → is_shared_at registry t ≡ false → OfType t (λ shape. shape_of registry t ≡ shape) b.block.columns
  pub fit : has_type b.block.types t ≡ true → is_shared_at registry t ≡ false → Fits registry t (content_at t (row_in k b.block.rows).cells).values
