use Rattle.std.proofs.Common.{◌≡◌, ℕ, ◌<◌, ◌&&◌, not}
use Rattle.std.specs.List.{list_all}
use Rattle.enable_bits.specs.Masks.{has, IsMask}
use Rattle.query_select.specs.Rows.{is_off_in}
use Rattle.query_select.proofs.query.without_disabled.Given as goal

-- the tests of the types that are left
abbrev pub invariant-loop-ty : goal.invariant-loop-ty
invariant-loop-ty l =
    IsMask l.left × ((k : ℕ) → k < 128 → (has l.left k && list_all (λ t. not (is_off_in l.block k t)) l.ty-iterator) ≡ (has l.initial.left k && list_all (λ t. not (is_off_in l.block k t)) l.types))
