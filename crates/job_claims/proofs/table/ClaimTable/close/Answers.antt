use Rattle.std.proofs.Common.{◌∙◌, ap, subst, length}
use Rattle.job_claims.specs.Rule.{IsEachOnce}
use Rattle.job_claims.proofs.Steps.{complete}
use Rattle.job_claims.proofs.table.ClaimTable.close.Goals as goal

pub returns : goal.returns
returns g c =
    let seen = c.close_with.ensures.values.2.1 in
    subst (λ h. IsEachOnce (length h.view.pieces) h.view.mine) c.seat.view_is
    (complete _ _ _ _ c.seat.inside.seat.id c.seat.inside.seat.me.0 seen.0.1 seen.1
    (ap (λ h. h.view.weight) c.seat.view_is ∙ c.requires.joined)
    (ap (λ h. h.view.ended) c.seat.view_is ∙ c.requires.ended))
