use Rattle.std.proofs.Common.{◌+◌, ◌∙◌, drop, get_or}
use Rattle.std.proofs.lemmas.List.{get_or_default}
use Rattle.ent_io.proofs.Appends.{leaves_rest, prefix_left_within}
use Rattle.ent_io.proofs.Exits.{exit_writes}
use Rattle.frame_run.proofs.EventLoop.{next_skip, skips_text}
use Rattle.frame_run.proofs.events.write_skips.Goals as goal

pub returns-in_err-write_note-clause-text : goal.returns-in_err-write_note-clause-text
returns-in_err-write_note-clause-text g c =
    let ns = c.args.notes.now in
    let i = c.loop-note.note-index in
    exit_writes _ _ _ _ c.from_residual.ensures.0
    (prefix_left_within (skips_text c.args.frame c.args.number ns) (skips_text c.args.frame c.args.number (drop i ns)) _ (skips_text c.args.frame c.args.number (drop (i + 1) ns))
    (g.W.Sink.text c.args.out.now) (g.W.Sink.text c.loop-note.out) (g.W.Sink.text c.write_note.new.out) c.loop-note.invariant.text
    (next_skip c.args.frame c.args.number ns i (get_or ns i _) c.loop-note-test.true (get_or_default ns i _ _ c.loop-note-test.true)) c.in_err-write_note.ensures.text)

pub loop-note-preserved : goal.loop-note-preserved
loop-note-preserved g c =
    let ns = c.args.notes.now in
    let i = c.loop-note.note-index in
    record {
      text = leaves_rest (skips_text c.args.frame c.args.number ns) (skips_text c.args.frame c.args.number (drop i ns)) _ (skips_text c.args.frame c.args.number (drop (i + 1) ns))
          (g.W.Sink.text c.args.out.now) (g.W.Sink.text c.loop-note.out) (g.W.Sink.text c.write_note.new.out) c.loop-note.invariant.text
          (next_skip c.args.frame c.args.number ns i (get_or ns i _) c.loop-note-test.true (get_or_default ns i _ _ c.loop-note-test.true)) c.in_ok-write_note.ensures.text;
      faults = c.in_ok-write_note.ensures.causes ∙ c.loop-note.invariant.faults;
    }
