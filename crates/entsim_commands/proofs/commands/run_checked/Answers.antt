use Rattle.std.proofs.Common.{sym, ◌∙◌}
use Rattle.frame_run.proofs.Whole.{whole_status}
use Rattle.frame_run.specs.Stages.{no_files}
use Rattle.run_laws.proofs.RunVersions.{run_turned}
use Rattle.system_version.specs.Versions.{version_of}
use Rattle.entsim_commands.proofs.Built.{built_is_simple}
use Rattle.entsim_commands.proofs.Ends.{ends_built, ends_unbuilt, run_ends, run_unshared}
use Rattle.entsim_commands.proofs.commands.run_checked.Goals as goal

pub returns-then-not-is_built-clause-headline : goal.returns-then-not-is_built-clause-headline
returns-then-not-is_built-clause-headline g c =
    ends_unbuilt _ _ _ _ _ (sym c.is_built.ensures ∙ c.if-not-is_built.true) c.refuse.ensures.headline

pub run_frames_serial-requires-clause-simple : goal.run_frames_serial-requires-clause-simple
run_frames_serial-requires-clause-simple g c = built_is_simple _ (sym c.is_built.ensures ∙ c.if-not-is_built.false)

pub returns-clause-headline : goal.returns-clause-headline
returns-clause-headline g c =
    ends_built _ _ _ _ _ (sym c.is_built.ensures ∙ c.if-not-is_built.false) (run_ends _ _ _ _ _ (c.run_frames_serial.ensures.run no_files))

pub returns-clause-words : goal.returns-clause-words
returns-clause-words g c =
    let s = c.args.checked.now.scenario in
    let run = c.requires.runnable in
    run_unshared _ _ _ _ _
    (whole_status s (built_is_simple _ (sym c.is_built.ensures ∙ c.if-not-is_built.false)) c.args.trace no_files (version_of s.first_system_version)
    (run_turned c.args.trace no_files s run.first_system_version c.requires.ordered run.frames run.few_systems)) (c.run_frames_serial.ensures.run no_files)
