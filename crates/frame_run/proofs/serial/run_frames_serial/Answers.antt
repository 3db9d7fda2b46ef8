use Rattle.std.proofs.Common.{◌≡◌, ◌∙◌, ap, sym, subst}
use Rattle.ent_io.specs.End.{status_of}
use Rattle.ent_io.specs.Text.{AppendsPrefix, appended}
use Rattle.system_version.specs.Versions.{version_of}
use Rattle.run_model.specs.Outcome.{outcome}
use Rattle.frame_run.specs.Doing.{run_text}
use Rattle.frame_run.specs.Ending.{end_text}
use Rattle.frame_run.proofs.Closing.{ends_early}
use Rattle.frame_run.proofs.Whole.{whole_status, whole_text}
use Rattle.frame_run.proofs.serial.run_frames_serial.Goals as goal

pub returns-in-Ok-clause-run : goal.returns-in-Ok-clause-run
returns-in-Ok-clause-run g c = λ files.
    let s = c.args.scenario.now in
    let v = version_of s.first_system_version in
    let turned = c.versions_stand_for_moments_in_a_scenario.ensures c.args.trace files s c.requires.runnable.first_system_version c.requires.ordered c.requires.runnable.frames c.requires.runnable.few_systems in (
      sym (whole_status s c.requires.simple c.args.trace files v turned),
      c.in-Ok.ensures.text
          ∙ ap (appended (g.W.Sink.text c.args.out.now))
          (ap (run_text s c.args.trace) (c.as_slice.ensures ∙ c.requires.plan) ∙ sym (whole_text s c.requires.simple c.args.trace files v turned (λ w. c.lines_show_no_version.ensures v s.frames w))),
    )

pub returns-in-Err-clause-run : goal.returns-in-Err-clause-run
returns-in-Err-clause-run g c = λ files.
    let s = c.args.scenario.now in
    let v = version_of s.first_system_version in
    let turned = c.versions_stand_for_moments_in_a_scenario.ensures c.args.trace files s c.requires.runnable.first_system_version c.requires.ordered c.requires.runnable.frames c.requires.runnable.few_systems in
    let whole = ap (run_text s c.args.trace) (c.as_slice.ensures ∙ c.requires.plan) ∙ sym (whole_text s c.requires.simple c.args.trace files v turned (λ w. c.lines_show_no_version.ensures v s.frames w)) in
    ends_early s.frames (outcome c.args.trace files s) c.in-Err.end.cause c.from-in-Err.result (g.W.Sink.text c.args.out.now) (g.W.Sink.text c.write_run.new.out)
    (subst (λ e. c.from-in-Err.result ≡ status_of e) c.from.ensures c.from-in-Err.ensures)
    (subst (λ text. AppendsPrefix text (g.W.Sink.text c.args.out.now) (g.W.Sink.text c.write_run.new.out)) whole c.in-Err.ensures.text)
