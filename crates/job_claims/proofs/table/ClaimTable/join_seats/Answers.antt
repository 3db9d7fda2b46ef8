use Rattle.std.proofs.Common.{◌∙◌, sym, ap, arith}
use Rattle.job_claims.proofs.Allowed.{move_allowed, join_allowed}
use Rattle.job_claims.proofs.table.ClaimTable.join_seats.Goals as goal

pub split_seat-whole-requires : goal.split_seat-whole-requires
split_seat-whole-requires g c = (
  ap (λ h. h.table) c.from.view_is ∙ c.requires.own.1 ∙ sym c.self.view_is,
  omega (arith, c.self.invariant.0),
  move_allowed c.from.inside.seat.id c.from.inside.seat.me.0,
)

pub join_seat-requires : goal.join_seat-requires
join_seat-requires g c = (
  ap (λ h. h.table) c.into.view_is ∙ c.requires.own.0 ∙ sym c.self.view_is,
  c.split_seat-whole.ensures.3 ∙ ap (λ h. h.table) c.from.view_is ∙ c.requires.own.1 ∙ sym c.self.view_is,
  ap (λ m. m.1) c.split_seat-whole.ensures.4,
  omega (arith, c.self.invariant.0),
  join_allowed c.into.inside.seat.id c.split_seat-whole.result.id c.into.inside.seat.me.0 c.split_seat-whole.result.me.0 c.into.invariant.1,
)
