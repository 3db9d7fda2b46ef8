use Rattle.std.proofs.Common.{◌<◌, ◌∙◌, sym, ap, subst, arith}
use Rattle.job_claims.proofs.Allowed.{split_allowed}
use Rattle.job_claims.proofs.table.ClaimTable.split.Goals as goal

pub split_seat-requires : goal.split_seat-requires
split_seat-requires g c = (
  ap (λ h. h.table) c.seat.view_is ∙ c.requires.own ∙ sym c.self.view_is,
  omega (arith, c.self.invariant.0),
  split_allowed c.seat.inside.seat.id c.seat.inside.seat.me.0 (subst (λ h. 1 < h.view.weight) (sym c.seat.view_is) c.requires.room),
)
