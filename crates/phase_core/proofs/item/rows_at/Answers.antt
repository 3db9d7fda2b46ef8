use Rattle.std.proofs.Common.{◌∙◌, sym, ap}
use Rattle.phase_core.proofs.Lookups.{rows_of-map}
use Rattle.phase_core.proofs.item.rows_at.Goals as goal

pub returns : goal.returns
returns g c =
    c.rows.ensures
    ∙ ap (λ x. (g.I.ItemWork.work x).rows) c.index-items-k.is
    ∙ sym (rows_of-map g.I.ItemWork.work c.args.items.now c.args.k c.index-items-k.result c.requires)
