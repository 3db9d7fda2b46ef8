use Rattle.std.proofs.Common.{◌≡◌, ◌∙◌, ap, sym, subst, refl}
use Rattle.ent_io.proofs.Appends.{appends_both, prefix_none, prefix_within}
use Rattle.ent_io.proofs.Exits.{exit_writes}
use Rattle.ent_io.specs.End.{TextCause}
use Rattle.ent_io.specs.Text.{appended}
use Rattle.run_model.specs.Tasks.{tasks_of}
use Rattle.world_model.specs.Members.{In}
use Rattle.world_text.specs.Lines.{world_text}
use Rattle.frame_run.specs.Doing.{run_text, stage_after, text_of}
use Rattle.frame_run.specs.Runners.{AreRunnersOf, stage_of}
use Rattle.frame_run.specs.Stages.{no_files}
use Rattle.frame_run.proofs.Closing.{last_part, parts_of_run, parts_reached, prefix_of_part, ready_first, stage_first}
use Rattle.frame_run.proofs.StepTasks.{run_cause}
use Rattle.frame_run.proofs.serial.write_run.Goals as goal

pub runners_of-requires : goal.runners_of-requires
runners_of-requires g c = λ y i. c.requires.runnable.systems y (subst (In y) c.as_slice.ensures i)

pub returns-in_err-runners-clause-text : goal.returns-in_err-runners-clause-text
returns-in_err-runners-clause-text g c = exit_writes _ _ _ _ c.from_residual-in_err-runners.ensures.0 (prefix_none _ _ _ refl)

pub run_frames-requires-clause-ready : goal.run_frames-requires-clause-ready
run_frames-requires-clause-ready g c =
    let s = c.args.scenario.now in
    ready_first s c.in_ok-world.world c.in_ok-runners.runners.items c.deref_mut.result.now c.deref_mut.ensures.value c.in_ok-world.ensures
    (λ archetypes. subst (λ ss. AreRunnersOf s.registry archetypes ss c.in_ok-runners.runners.items) c.as_slice.ensures (c.in_ok-runners.ensures.runners archetypes))

pub returns-in_err-world-2-clause-text : goal.returns-in_err-world-2-clause-text
returns-in_err-world-2-clause-text g c =
    let s = c.args.scenario.now in
    let first = stage_of c.in_ok-world.world c.deref_mut.result.now in
    let begun = stage_first s c.in_ok-world.world c.in_ok-runners.runners.items c.deref_mut.result.now c.deref_mut.ensures.value c.in_ok-world.ensures
    (λ archetypes. subst (λ ss. AreRunnersOf s.registry archetypes ss c.in_ok-runners.runners.items) c.as_slice.ensures (c.in_ok-runners.ensures.runners archetypes)) c.in_ok-runners.ensures.never in
    exit_writes _ _ _ _ c.from_residual-in_err-world-2.ensures.0
    (prefix_of_part (run_text s c.args.trace c.args.steps.now) (text_of s c.args.trace (tasks_of no_files s c.args.steps.now) first) (world_text s.frames (stage_after s c.args.trace (tasks_of no_files s c.args.steps.now) first).world)
    (g.W.Sink.text c.args.out.now) (g.W.Sink.text c.run_frames.new.out) (parts_of_run s c.args.trace c.args.steps.now first begun) c.in_err-world-2.ensures.text)

pub returns-in_err-write_world-clause-text : goal.returns-in_err-write_world-clause-text
returns-in_err-write_world-clause-text g c =
    let s = c.args.scenario.now in
    let first = stage_of c.in_ok-world.world c.deref_mut.result.now in
    let begun = stage_first s c.in_ok-world.world c.in_ok-runners.runners.items c.deref_mut.result.now c.deref_mut.ensures.value c.in_ok-world.ensures
    (λ archetypes. subst (λ ss. AreRunnersOf s.registry archetypes ss c.in_ok-runners.runners.items) c.as_slice.ensures (c.in_ok-runners.ensures.runners archetypes)) c.in_ok-runners.ensures.never in
    exit_writes _ _ _ _ c.from_residual-in_err-write_world.ensures.0
    (prefix_within (run_text s c.args.trace c.args.steps.now) (text_of s c.args.trace (tasks_of no_files s c.args.steps.now) first) (world_text s.frames c.in_ok-world-2.world.world) _
    (g.W.Sink.text c.args.out.now) (g.W.Sink.text c.run_frames.new.out) (g.W.Sink.text c.write_world.new.out)
    (last_part _ _ _ (parts_reached s c.args.trace c.args.steps.now first begun (stage_of c.in_ok-world-2.world c.run_frames.new.runners) c.in_ok-world-2.ensures.stage)) c.in_ok-world-2.ensures.text c.in_err-write_world.ensures.text)

pub returns-in_err-write_world-clause-causes : goal.returns-in_err-write_world-clause-causes
returns-in_err-write_world-clause-causes g c =
    run_cause _ _ _ _ c.from_residual-in_err-write_world.ensures.1 (subst (λ n. TextCause c.in_err-write_world.field-0.0 n (g.W.Sink.faults c.write_world.new.out)) c.in_ok-world-2.ensures.causes c.in_err-write_world.ensures.causes)

pub returns-clause-text : goal.returns-clause-text
returns-clause-text g c =
    let s = c.args.scenario.now in
    let first = stage_of c.in_ok-world.world c.deref_mut.result.now in
    let begun = stage_first s c.in_ok-world.world c.in_ok-runners.runners.items c.deref_mut.result.now c.deref_mut.ensures.value c.in_ok-world.ensures
    (λ archetypes. subst (λ ss. AreRunnersOf s.registry archetypes ss c.in_ok-runners.runners.items) c.as_slice.ensures (c.in_ok-runners.ensures.runners archetypes)) c.in_ok-runners.ensures.never in
    appends_both (g.W.Sink.text c.args.out.now) (g.W.Sink.text c.run_frames.new.out) (g.W.Sink.text c.write_world.new.out) (text_of s c.args.trace (tasks_of no_files s c.args.steps.now) first) (world_text s.frames c.in_ok-world-2.world.world)
    c.in_ok-world-2.ensures.text c.in_ok-write_world.ensures.text
    ∙ ap (appended (g.W.Sink.text c.args.out.now)) (sym (parts_reached s c.args.trace c.args.steps.now first begun (stage_of c.in_ok-world-2.world c.run_frames.new.runners) c.in_ok-world-2.ensures.stage))
