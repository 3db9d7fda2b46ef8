use Rattle.std.proofs.Common.{◌∙◌, arith}
use Rattle.std.proofs.lemmas.List.{take_rest}
use Rattle.ent_io.proofs.Appends.{appends_more, prefix_of_piece}
use Rattle.ent_io.proofs.writing.write_whole.Goals as goal

pub loop-written-preserved : goal.loop-written-preserved
loop-written-preserved g c = record {
  within = omega (arith, c.in-Ok.ensures.answer.0);
  text = appends_more _ _ _ c.args.piece.now c.loop-written.written c.in-Ok.taken c.loop-written.invariant.text (rw take_rest at c.in-Ok.ensures.answer.2);
  faults = c.in-Ok.ensures.causes ∙ c.loop-written.invariant.faults;
}

pub returns-in-Err-clause-text : goal.returns-in-Err-clause-text
returns-in-Err-clause-text g c = prefix_of_piece c.args.piece.now c.loop-written.written _ _ (c.in-Err.ensures.answer ∙ c.loop-written.invariant.text)
