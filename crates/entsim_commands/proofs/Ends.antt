-- How a command ends, by the form of the scenario and by the end of its run.
use Rattle.std.proofs.Common.{◌≡◌, ℕ, List, true, false, Option, ◌∙◌}
use Rattle.ent_io.specs.declared.end.Status.{Status}
use Rattle.ent_io.specs.declared.end.Status.TheVariants.{Done, BadWords, Refused, KeyShared, ReadFault, WriteFault, Memory}
use Rattle.run_model.specs.Frames.{End}
use Rattle.scenario_record.specs.declared.record.Scenario.{Scenario}
use Rattle.scenario_check.specs.Built.{is_built}
use Rattle.frame_run.specs.Ending.{EndsAs, end_status}
use Rattle.entsim_commands.specs.declared.stop.Refusal.TheVariants.{NotBuilt}
use Rattle.entsim_commands.specs.Headline.{Ends, OfCommand}
use Rattle.entsim_commands.specs.Outcome.{Outcome, ended, if_built, refused}

-- ---- by the form of the scenario

pub ends_built : (s : Scenario) (o : Outcome) (status : Status) (old new : Option (List ℕ)) → is_built s ≡ true → Ends o status old new → Ends (if_built s o) status old new
unfolding if_built
ends_built s o status old new is ends = rw is ends

pub ends_unbuilt : (s : Scenario) (o : Outcome) (status : Status) (old new : Option (List ℕ)) → is_built s ≡ false → Ends (refused NotBuilt) status old new → Ends (if_built s o) status old new
unfolding if_built
ends_unbuilt s o status old new is ends = rw is ends

-- ---- a run

pub run_ends : (frames : ℕ) (end : End) (status : Status) (old new : Option (List ℕ)) → EndsAs frames end status old new → Ends (ended frames end) status old new
run_ends frames end Done old new h = h
run_ends frames end BadWords old new h = absurd h
run_ends frames end Refused old new h = absurd h
run_ends frames end KeyShared old new h = h
run_ends frames end ReadFault old new h = h
run_ends frames end WriteFault old new h = h
run_ends frames end Memory old new h = h

-- a run that finishes shares no key
pub run_unshared : (frames : ℕ) (end : End) (status : Status) (old new : Option (List ℕ)) → end_status end ≡ Done → EndsAs frames end status old new → OfCommand status
run_unshared frames end Done old new done h = tt
run_unshared frames end BadWords old new done h = h
run_unshared frames end Refused old new done h = tt
run_unshared frames end KeyShared old new done h = let differ : KeyShared ≡ Done = h.0 ∙ done in absurd (cc)
run_unshared frames end ReadFault old new done h = tt
run_unshared frames end WriteFault old new done h = tt
run_unshared frames end Memory old new done h = tt
