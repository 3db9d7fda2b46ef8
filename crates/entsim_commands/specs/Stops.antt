-- Why a command has no scenario to work on, and what it ends with then.
use Rattle.std.specs.Prelude.{◌≡◌, ℕ, Result, Ok, Err}
use Rattle.ent_io.specs.Count.{Rises}
use Rattle.ent_io.specs.declared.reading.ReadEnd.{ReadEnd}
use Rattle.ent_io.specs.declared.reading.ReadEnd.TheVariants.{Absent as NotThere, Fault, TooLong as OverLong, Memory as ReadMemory}
use Rattle.ent_io.specs.declared.reading.Missing.TheVariants.{Absent, TooLong}
use Rattle.scenario_record.specs.declared.fault.ScenarioFault.{ScenarioFault}
use Rattle.scenario_record.specs.declared.fault.ScenarioFault.TheVariants.{Bad, Memory as ScenarioMemory}
use Rattle.entsim_commands.specs.Outcome.{Outcome, refused}
use Rattle.entsim_commands.specs.declared.stop.Refusal.{Refusal}
use Rattle.entsim_commands.specs.declared.stop.Refusal.TheVariants.{Missing, Faulty}
use Rattle.entsim_commands.specs.declared.stop.Stop.{Stop}
use Rattle.entsim_commands.specs.declared.stop.Stop.TheVariants.{Refused, ReadFault, Memory}

-- a read of the scenario's file that gave no bytes
abbrev pub stop_of_read : ReadEnd → Stop
stop_of_read NotThere = Refused (Missing Absent)
stop_of_read Fault = ReadFault
stop_of_read OverLong = Refused (Missing TooLong)
stop_of_read ReadMemory = Memory

-- a scenario that wasn't read or didn't pass
abbrev pub stop_of_scenario : ScenarioFault → Stop
stop_of_scenario (Bad fault) = Refused (Faulty fault)
stop_of_scenario ScenarioMemory = Memory

-- what should be given, or the refusal that is due
abbrev pub IsDue : {A : Type 0} → Result A Refusal → Stop → Type 0
IsDue wanted (Refused refusal) = wanted ≡ Err refusal
IsDue wanted ReadFault = Unit {0}
IsDue wanted Memory = Unit {0}

abbrev pub Answers : {A : Type 0} → Result A Refusal → Result A Stop → Type 0
Answers wanted (Ok value) = wanted ≡ Ok value
Answers wanted (Err stop) = IsDue wanted stop

-- a refusal that is due comes to its line
abbrev pub ComesTo : Stop → Outcome → Type 0
ComesTo (Refused refusal) o = o ≡ refused refusal
ComesTo ReadFault o = Unit {0}
ComesTo Memory o = Unit {0}

-- the count of the store rises at ReadFault, and stays elsewhere
abbrev pub StopCause : Stop → ℕ → ℕ → Type 0
StopCause (Refused refusal) before now = now ≡ before
StopCause ReadFault before now = Rises before now
StopCause Memory before now = now ≡ before

abbrev pub StopCauses : {T : Type 0} → Result T Stop → ℕ → ℕ → Type 0
StopCauses (Ok value) before now = now ≡ before
StopCauses (Err stop) before now = StopCause stop before now
