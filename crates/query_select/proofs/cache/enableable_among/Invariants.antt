use Rattle.std.proofs.Common.{◌≡◌, ℕ, ◌<◌, ◌&&◌, ◌||◌}
use Rattle.ent_types.specs.declared.limits.TheConstants.{MOST_TYPES}
use Rattle.ent_types.specs.TypeLookups.{is_enableable_at}
use Rattle.ent_types.specs.TypeSets.{has_type}
use Rattle.world_model.specs.Members.{In}
use Rattle.query_select.proofs.cache.enableable_among.Given as goal

-- the types so far, and those that are left
abbrev pub invariant-loop-ty : goal.invariant-loop-ty
invariant-loop-ty l =
    ((t : ℕ) → In t l.ty-iterator → t < MOST_TYPES)
    × ((t : ℕ) → (has_type l.enableable t || (has_type l.ty-iterator t && is_enableable_at l.registry t)) ≡ (has_type l.types t && is_enableable_at l.registry t))
