use Rattle.std.proofs.Common.{sym, subst}
use Rattle.world_model.specs.Members.{In}
use Rattle.expr_trees.specs.declared.tree.ValueExpr.{ValueExpr}
use Rattle.run_laws.specs.Runnable.{Sources, ValueReads}
use Rattle.expr_eval.specs.Rows.{others_of}
use Rattle.command_texts.proofs.Parts.{all_at, value_more}
use Rattle.command_texts.proofs.commands.part.Goals as goal

pub value-requires : goal.value-requires
value-requires g c =
    let from : Sources = record { own = g.R.RowReader.has_field c.args.row.now; others = g.L.Lookup.can_read c.args.others.now } in
    let reads = subst (λ texts. (v : ValueExpr) → In v texts → ValueReads from v) (sym c.as_slice-given-items.ensures) c.requires in
    all_at (ValueReads from) c.as_slice-given-items.result.now reads c.loop-at.at c.given-item.result c.loop-at-test.true c.given-item.is

pub loop-at-preserved : goal.loop-at-preserved
loop-at-preserved g c =
    value_more c.args.registry.now (g.R.RowReader.own_row c.args.row.now) (others_of (g.L.Lookup.found c.args.others.now)) c.args.place c.args.text.now.ty.0
    c.args.text.now.values c.as_slice-given-items.result.now c.loop-at.values c.push.new.self c.loop-at.at c.given-item.result c.kind_at-kind.result c.value.result
    c.as_slice-given-items.ensures c.loop-at-test.true c.given-item.is c.in_ok-push.ensures.ok c.kind_at-kind.ensures c.value.ensures.value c.value.ensures.own c.loop-at.invariant
