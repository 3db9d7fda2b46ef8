-- What the program writes and the status it ends with, for any words and files.
use Rattle.std.specs.Prelude.{ℕ, ◌==◌, if◌then◌else◌, List, Bool, true, Option, None, Some, Result, Ok, Err}
use Rattle.ent_io.specs.Files.{Files}
use Rattle.ent_io.specs.Store.{whole_of}
use Rattle.ent_io.specs.declared.end.Status.{Status}
use Rattle.ent_io.specs.declared.end.Status.TheVariants as statuses
use Rattle.ent_types.specs.declared.limits.TheConstants.{LONGEST_SCENARIO}
use Rattle.world_model.specs.World.{capacity}
use Rattle.scenario_record.specs.declared.record.Scenario.{Scenario}
use Rattle.scenario_read.specs.ReadScenario.{scenario_of}
use Rattle.scenario_check.specs.Planned.{checked}
use Rattle.scenario_check.specs.Built.{is_built}
use Rattle.run_model.specs.Frames.{End}
use Rattle.run_model.specs.Outcome.{first_moment, outcome as end_of_run}
use Rattle.run_model.specs.Tasks.{spawned}
use Rattle.world_text.specs.Layout.{layout_text}
use Rattle.frame_run.specs.Ending.{end_status, end_text}
use Rattle.frame_run.specs.Stages.{no_files}
use Rattle.entsim_commands.specs.ErrorLines.{refusal_line, words_line}
use Rattle.entsim_commands.specs.CheckLine.{ok_line}
use Rattle.entsim_commands.specs.declared.checked.Checked.{Checked}
use Rattle.entsim_commands.specs.declared.stop.Refusal.{Refusal}
use Rattle.entsim_commands.specs.declared.stop.Refusal.TheVariants.{Missing, Faulty, NotBuilt}
use Rattle.entsim_commands.specs.Words.{Command, run, check, layout, plan, dump, make, bench, command_of}

-- a text and a status
pub record Outcome : Type 0 where
  pub text : List ℕ
  pub status : Status

-- a text to its end
abbrev pub whole : List ℕ → Outcome
whole text = record { text = text; status = statuses.Done }

-- the line of a refusal
abbrev pub refused : Refusal → Outcome
refused refusal = record { text = refusal_line refusal; status = statuses.Refused }

-- ---- the scenario of a file

-- a refusal, or first the one and then the other with what it gave
abbrev pub and_then : {A B : Type 0} → (A → Result B Refusal) → Result A Refusal → Result B Refusal
and_then f (Ok x) = f x
and_then f (Err refusal) = Err refusal

-- what is refused for another cause
abbrev pub refused_as : {A E : Type 0} → (E → Refusal) → Result A E → Result A Refusal
refused_as refusal (Ok x) = Ok x
refused_as refusal (Err e) = Err (refusal e)

-- the bytes of a scenario's file: at most 1 MiB
abbrev pub bytes_in : Option (List ℕ) → Result (List ℕ) Refusal
bytes_in file = refused_as Missing (whole_of LONGEST_SCENARIO file)

-- the scenario that the bytes are
abbrev pub read_from : List ℕ → Result Scenario Refusal
read_from bytes = refused_as Faulty (scenario_of bytes)

-- the scenario with its plan, if it passes its checks
abbrev pub checked_of : Scenario → Result Checked Refusal
checked_of s = and_then (λ plan. Ok (record { scenario = s; plan = plan })) (refused_as Faulty (checked s))

-- the scenario of a file with its plan
abbrev pub scenario_in : Option (List ℕ) → Result Checked Refusal
scenario_in file = and_then checked_of (and_then read_from (bytes_in file))

-- ---- what comes of a scenario that passes its checks

-- the lines of its run with their status
abbrev pub ended : ℕ → End → Outcome
ended frames end = record { text = end_text frames end; status = end_status end }

-- What a form that is built comes to. Another one is refused.
unfoldable pub if_built : Scenario → Outcome → Outcome
if_built s o = if is_built s then o else refused NotBuilt

-- The run, by the definition of runs. No event of a form that is built loads a scene, so no scene file is read.
abbrev pub run_end : Bool → Scenario → End
run_end trace s = end_of_run trace no_files s

abbrev pub run_outcome : Bool → Checked → Outcome
run_outcome trace c = if_built c.scenario (ended c.scenario.frames (run_end trace c.scenario))

-- the blocks after the spawns
abbrev pub layout_after_spawns : Scenario → List ℕ
layout_after_spawns s = layout_text (spawned (capacity s.registry) s first_moment)

abbrev pub layout_outcome : Checked → Outcome
layout_outcome c = if_built c.scenario (whole (layout_after_spawns c.scenario))

abbrev pub check_outcome : Checked → Outcome
check_outcome c = whole (ok_line c.scenario)

-- ---- commands

-- what comes of a scenario, or the line of its refusal
abbrev pub unless_refused : (Checked → Outcome) → Result Checked Refusal → Outcome
unless_refused further (Ok c) = further c
unless_refused further (Err refusal) = refused refusal

-- one worker, as where none are named
abbrev pub is_alone : Option ℕ → Bool
is_alone None = true
is_alone (Some n) = n == 1

-- The outcome of a command. The run of a file with one worker, its check and its layout are built. What isn't is refused
-- before anything is read.
abbrev pub command_outcome : Files → Command → Outcome
command_outcome files (run file workers trace) = if is_alone workers then unless_refused (run_outcome trace) (scenario_in (files file)) else refused NotBuilt
command_outcome files (check file) = unless_refused check_outcome (scenario_in (files file))
command_outcome files (layout file) = unless_refused layout_outcome (scenario_in (files file))
command_outcome files (plan file) = refused NotBuilt
command_outcome files (dump scenario scene) = refused NotBuilt
command_outcome files (make number scene) = refused NotBuilt
command_outcome files (bench number workers) = refused NotBuilt

-- words that are no command
abbrev pub bad_words : Outcome
bad_words = record { text = words_line; status = statuses.BadWords }

abbrev pub words_outcome : Files → Option Command → Outcome
words_outcome files None = bad_words
words_outcome files (Some command) = command_outcome files command

-- the outcome of the words after the program's name, and the files that it finds
abbrev pub outcome : List (List ℕ) → Files → Outcome
outcome words files = words_outcome files (command_of words)
