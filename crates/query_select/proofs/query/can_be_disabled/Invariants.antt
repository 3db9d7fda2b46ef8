use Rattle.std.proofs.Common.{◌≡◌, ℕ, ◌<◌, ◌&&◌, not}
use Rattle.std.specs.List.{list_any}
use Rattle.ent_types.specs.declared.limits.TheConstants.{MOST_TYPES}
use Rattle.ent_types.specs.TypeSets.{has_type}
use Rattle.world_model.specs.Members.{In}
use Rattle.query_select.proofs.query.can_be_disabled.Given as goal

-- the types that are left
abbrev pub invariant-loop-ty : goal.invariant-loop-ty
invariant-loop-ty l =
    ((t : ℕ) → In t l.ty-iterator → t < MOST_TYPES)
    × (list_any (λ t. has_type l.types t && not (has_type l.enableable t)) l.ty-iterator ≡ list_any (λ t. has_type l.types t && not (has_type l.enableable t)) l.some)
