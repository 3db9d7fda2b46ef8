use Rattle.std.proofs.Common.{◌<◌, ◌∙◌, sym, ap, subst, Some}
use Rattle.job_claims.proofs.Allowed.{found_piece}
use Rattle.job_claims.proofs.table.ClaimTable.draw.Goals as goal

pub exchange-piece-requires : goal.exchange-piece-requires
exchange-piece-requires g c =
    let left = subst (λ n. c.take_number-number.result < n) (c.slot_count.ensures ∙ ap (λ z. z.slots) c.self.view_is) c.if-number-slot_count.false in
    let found = found_piece c.args.self.now.slots c.take_number-number.result c.seat.inside.seat.me c.take_number-number.new.seat.me left c.take_number-number.ensures.number in (
      c.take_number-number.ensures.own ∙ ap (λ h. h.table) c.seat.view_is ∙ c.requires ∙ sym c.self.view_is,
      (Some found.piece, found.slot),
    )
