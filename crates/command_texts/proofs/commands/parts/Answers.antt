use Rattle.expr_eval.specs.Rows.{others_of}
use Rattle.run_laws.specs.Runnable.{PartReads}
use Rattle.command_texts.proofs.Parts.{all_at, part_more}
use Rattle.command_texts.proofs.commands.parts.Goals as goal

pub part-requires : goal.part-requires
part-requires g c =
    all_at (PartReads (record { own = g.R.RowReader.has_field c.args.row.now; others = g.L.Lookup.can_read c.args.others.now })) c.args.texts.now c.requires
    c.loop-text.text-index c.text-item.result c.loop-text-test.true c.text-item.is

pub loop-text-preserved : goal.loop-text-preserved
loop-text-preserved g c =
    part_more c.args.registry.now (g.R.RowReader.own_row c.args.row.now) (others_of (g.L.Lookup.found c.args.others.now)) c.args.place
    c.args.texts.now c.loop-text.made c.push.new.self c.loop-text.text-index c.text-item.result c.in_ok-part.field-0
    c.loop-text-test.true c.text-item.is c.in_ok-push.ensures.ok c.in_ok-part.ensures.value c.in_ok-part.ensures.own c.loop-text.invariant
