use Rattle.std.proofs.Common.{◌≡◌, ℕ, ◌<◌, ◌&&◌, not}
use Rattle.std.specs.List.{list_any}
use Rattle.ent_types.specs.declared.limits.TheConstants.{MOST_TYPES}
use Rattle.enable_bits.specs.Masks.{has, IsMask}
use Rattle.world_model.specs.Members.{In}
use Rattle.query_select.specs.Rows.{is_on_in}
use Rattle.query_select.proofs.query.without_any_on.Given as goal

-- the tests of the types that are left
abbrev pub invariant-loop-ty : goal.invariant-loop-ty
invariant-loop-ty l =
    IsMask l.left × (((t : ℕ) → In t l.ty-iterator → t < MOST_TYPES)
    × ((k : ℕ) → k < 128 → (has l.left k && not (list_any (is_on_in l.block k) l.ty-iterator)) ≡ (has l.initial.left k && not (list_any (is_on_in l.block k) l.types))))
