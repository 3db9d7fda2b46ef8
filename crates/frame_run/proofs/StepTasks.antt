-- The task of a step of the plan, and what the run of a system makes of the stage.
use Rattle.std.proofs.Common.{◌<◌, get_or, Result, Ok, Err, ◌≡◌, ℕ, ◌+◌, nat_eq, Bool, true, false, if◌then◌else◌, List, [], ◌∷◌, ◌++◌, map, length, Option, Some, None, refl, sym, ap, ap₂, ◌∙◌, subst, slice_get, arith}
use Rattle.std.specs.Prelude.{IsErrAnd, slice_set, unwrap_or, ◌==◌}
use Rattle.std.proofs.lemmas.List.{append-nil}
use Rattle.std.proofs.lemmas.Option.{slice_get-get_or}
use Rattle.ent_io.specs.End.{TextCause}
use Rattle.ent_io.specs.declared.end.TextEnd.{TextEnd}
use Rattle.ent_types.specs.declared.type_info.TypeInfo.{TypeInfo}
use Rattle.run_laws.proofs.RunLawful.{run_registry}
use Rattle.frame_run.specs.declared.ends.RunEnd.{RunEnd}
use Rattle.frame_run.specs.Ending.{RunCauses}
use Rattle.system_version.specs.Versions.{next_version}
use Rattle.system_version.specs.declared.version.TheConstants.{LAST_VERSION}
use Rattle.world_model.specs.World.{World, capacity}
use Rattle.scenario_record.specs.declared.plan.Step.TheVariants.{Run}
use Rattle.scenario_record.specs.declared.record.Scenario.{Scenario}
use Rattle.scenario_record.specs.declared.record.SystemEntry.{SystemEntry}
use Rattle.run_model.specs.declared.lines.TraceLine.TheVariants.{Run as RunLine}
use Rattle.run_model.specs.Clock.{versions}
use Rattle.run_model.specs.Run.{RunResult, run}
use Rattle.run_model.specs.Tasks.{Runs, Task, runs_in, run_step}
use Rattle.run_model.specs.Frames.{last_run as last_in}
use Rattle.structural_ops.specs.Worlds.{WorldState}
use Rattle.query_select.specs.Entries.{last_run}
use Rattle.phase_run.specs.After.{ran, world_after}
use Rattle.world_text.specs.Lines.{lines_text, trace_text}
use Rattle.frame_run.specs.declared.runner.Runner.{Runner}
use Rattle.frame_run.specs.Doing.{stage_after, task_in, tasks_of_step, text_of}
use Rattle.frame_run.specs.Runners.{AreRunnersOf, IsReady, IsRunnerOf, stage_of}
use Rattle.frame_run.specs.Stages.{Stage, no_files, run_of, with_ran}
use Rattle.frame_run.proofs.Courses.{nothing_recorded}
use Rattle.frame_run.proofs.Found.{at_place, last_of, map_found, map_set, runner_put}

module _ (s : Scenario) (frame n : ℕ) where
  pub no_task : slice_get s.system n ≡ None → tasks_of_step s frame (Run n) ≡ []
  no_task none = ap (λ (o : Option SystemEntry). map (task_in frame) (run_step no_files s frame n o)) none

  pub task_if : (y : SystemEntry) (b : Bool) → slice_get s.system n ≡ Some y → runs_in frame y ≡ b
      → tasks_of_step s frame (Run n) ≡ map (task_in frame) (if b then Runs n y ∷ [] else [])
  task_if y b there runs =
      ap (λ (o : Option SystemEntry). map (task_in frame) (run_step no_files s frame n o)) there
      ∙ ap (λ (c : Bool). map (task_in frame) (if c then Runs n y ∷ [] else [])) runs

-- no version is 0
later_is_some : (version : ℕ) → last_run (next_version version) ≡ Some (next_version version)
later_is_some version = positive (next_version version) (by (version == LAST_VERSION))
  where
    by : (b : Bool) → nat_eq (if b then 1 else version + 1) 0 ≡ false
    by true = refl
    by false = grind arith

    positive : (n : ℕ) → nat_eq n 0 ≡ false → last_run n ≡ Some n
    positive n above = rw above refl

ran_moment : (y : SystemEntry) (last : Option ℕ) (frame : ℕ) (w : World) → (run versions y last frame w).world.moment ≡ next_version w.moment
unfolding run
ran_moment y last frame w = refl

module _ (s : Scenario) (trace : Bool) (frame n : ℕ) (y : SystemEntry) (w : WorldState) (rs : List Runner) (r : Runner) (there : slice_get rs n ≡ Some r) where
  abbrev here : List Task
  here = task_in frame (Runs n y) ∷ []

  last_is : last_in versions (capacity s.registry) trace (map last_of rs) n ≡ last_of r
  last_is = ap (λ o. unwrap_or o None) (map_found last_of rs n r there)

  run_is : run_of versions (capacity s.registry) trace frame n y (stage_of w rs) ≡ ran y r.last.0 frame w
  run_is = ap (λ last. run versions y last frame w.world) last_is

  -- the world after the run, and the version of the run in the place of the last one
  pub stage_ran : (u : WorldState) (q : Runner) → u ≡ world_after y r.last.0 frame w → q.last.0 ≡ u.world.moment
      → stage_of u (slice_set rs n q) ≡ stage_after s trace here (stage_of w rs)
  stage_ran u q is last =
      ap₂ (λ (x : World) (ls : List (Option ℕ)). (let g : Stage = record { world = x; lasts = ls } in g)) world lasts
      ∙ sym (ap (with_ran versions (capacity s.registry) trace n (stage_of w rs)) run_is)
    where
      world : u.world ≡ (ran y r.last.0 frame w).world
      world = ap (λ (x : WorldState). x.world) is

      moment : last_of q ≡ Some (ran y r.last.0 frame w).world.moment
      moment =
          let same : q.last.0 ≡ next_version w.world.moment = last ∙ (ap (λ (x : World). x.moment) world ∙ ran_moment y (last_of r) frame w.world) in
          ap last_run same ∙ (later_is_some w.world.moment ∙ ap (λ m. Some m) (sym (ran_moment y (last_of r) frame w.world)))

      lasts : map last_of (slice_set rs n q) ≡ slice_set (map last_of rs) n (Some (ran y r.last.0 frame w).world.moment)
      lasts = map_set last_of rs n q ∙ ap (slice_set (map last_of rs) n) moment

  -- the line of the run, if the run traces
  line_traced : trace ≡ true → y.command ≡ [] → (u : WorldState) (visits passing : ℕ) → u ≡ world_after y r.last.0 frame w
      → visits ≡ (ran y r.last.0 frame w).visits → passing ≡ (ran y r.last.0 frame w).passing
      → trace_text (RunLine frame y.name u.world.moment visits passing 0) ≡ text_of s trace here (stage_of w rs)
  line_traced traces none u visits passing is visited passed =
      ap (λ (x : WorldState). trace_text (RunLine frame y.name x.world.moment visits passing 0)) is
      ∙ (ap₂ (λ v p. trace_text (RunLine frame y.name (ran y r.last.0 frame w).world.moment v p 0)) visited passed
      ∙ (ap (λ k. trace_text (RunLine frame y.name (ran y r.last.0 frame w).world.moment (ran y r.last.0 frame w).visits (ran y r.last.0 frame w).passing k)) (sym (ap length (nothing_recorded versions y none (last_of r) frame w.world)))
      ∙ (sym (ap (λ (x : RunResult). trace_text (RunLine frame y.name x.world.moment x.visits x.passing (length x.entries))) run_is)
      ∙ (sym (append-nil _)
      ∙ rw traces refl))))

  pub line_ran : y.command ≡ [] → (u : WorldState) (visits passing : ℕ) → u ≡ world_after y r.last.0 frame w
      → visits ≡ (ran y r.last.0 frame w).visits → passing ≡ (ran y r.last.0 frame w).passing
      → (if trace then trace_text (RunLine frame y.name u.world.moment visits passing 0) else []) ≡ text_of s trace here (stage_of w rs)
  line_ran none u visits passing is visited passed = by trace refl
    where
      by : (b : Bool) → trace ≡ b → (if b then trace_text (RunLine frame y.name u.world.moment visits passing 0) else []) ≡ text_of s trace here (stage_of w rs)
      by true traces = line_traced traces none u visits passing is visited passed
      by false quiet = rw quiet refl

-- what an error says of the counts
pub run_cause : {T : Type 0} (r : Result T RunEnd) (e : TextEnd) (before now : ℕ) → IsErrAnd r (λ end. end.cause ≡ e) → TextCause e before now → RunCauses r before now
run_cause (Ok value) e before now is cause = absurd is
run_cause (Err end) e before now is cause = subst (λ x. TextCause x before now) (sym is) cause

-- ---- what is at hand when a system runs

module _ (s : Scenario) (n : ℕ) (y : SystemEntry) (given : List SystemEntry) (same : given ≡ s.system) (below : n < length given) where
  pub system_at : y ≡ get_or given n y → slice_get s.system n ≡ Some y
  system_at is = subst (λ (ss : List SystemEntry). slice_get ss n ≡ Some y) same (at_place given n y below is)

  pub runner_at : (rs : List Runner) (d : Runner) → length rs ≡ length s.system → slice_get rs n ≡ Some (get_or rs n d)
  runner_at rs d count = slice_get-get_or rs n d (let long = ap (λ (ss : List SystemEntry). length ss) same in omega (arith, count, long, below))

-- the runners after the run of a system
pub ready_after : (s : Scenario) (frame n : ℕ) (y : SystemEntry) (w u : WorldState) (rs : List Runner) (last : ℕ) (q : Runner) → IsReady s w rs → slice_get s.system n ≡ Some y
    → u ≡ world_after y last frame w → IsRunnerOf w.world.registry w.archetypes y q → IsReady s u (slice_set rs n q)
ready_after s frame n y w u rs last q h at is runner = record {
  registry = ap (λ (x : WorldState). x.world.registry) is ∙ (run_registry versions y (last_run last) frame w.world ∙ h.registry);
  runners = subst (λ (archetypes : List (List ℕ)). AreRunnersOf s.registry archetypes s.system (slice_set rs n q)) (sym (ap (λ (x : WorldState). x.archetypes) is))
      (runner_put s.registry w.archetypes s.system rs n y q h.runners at (subst (λ (r : List TypeInfo). IsRunnerOf r w.archetypes y q) h.registry runner));
}

-- the next version changes no type and no archetype
pub ready_raised : (s : Scenario) (w u : WorldState) (rs : List Runner) → u ≡ record w { world = record (w.world) { moment = next_version w.world.moment } } → IsReady s w rs → IsReady s u rs
ready_raised s w u rs is h = subst (λ (x : WorldState). IsReady s x rs) (sym is) (record { registry = h.registry; runners = h.runners })
