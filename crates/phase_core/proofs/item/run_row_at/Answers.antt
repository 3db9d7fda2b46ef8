use Rattle.std.proofs.Common.{◌<◌, ◌∙◌, subst}
use Rattle.std.proofs.Math.Seq.{map-set_same}
use Rattle.phase_core.proofs.Lookups.{rows_of-map, ran_of-map, map-set_row, on_ok, on_err}
use Rattle.phase_core.proofs.item.run_row_at.Goals as goal

pub run_row-requires-clause-left : goal.run_row-requires-clause-left
run_row-requires-clause-left g c = subst (λ n. c.args.row < n) (rows_of-map g.I.ItemWork.work c.args.items.now c.args.k c.index-items-k.result c.requires.there) c.requires.left

pub run_row-requires-clause-next : goal.run_row-requires-clause-next
run_row-requires-clause-next g c = c.requires.next ∙ ran_of-map g.I.ItemWork.work c.args.items.now c.args.k c.index-items-k.result c.requires.there

pub returns : goal.returns
returns g c = record {
  ok = on_ok c.run_row.result (λ e. map-set_row g.I.ItemWork.work c.args.items.now c.args.k c.run_row.new.self c.index-items-k.result c.requires.there e) c.run_row.ensures.ok;
  err = on_err c.run_row.result (λ e. map-set_same g.I.ItemWork.work c.args.items.now c.args.k c.run_row.new.self c.index-items-k.result e) c.run_row.ensures.err;
}
