-- The lines of refusals.
use Rattle.std.specs.Prelude.{ℕ, List, [], ◌++◌, codes, Option, None, Some}
use Rattle.std.specs.Fmt.{decimal}
use Rattle.ent_io.specs.declared.reading.Missing.{Missing}
use Rattle.ent_io.specs.declared.reading.Missing.TheVariants.{Absent, TooLong as OverLong}
use Rattle.scenario_record.specs.declared.fault.Cause.{Cause}
use Rattle.scenario_record.specs.declared.fault.Cause.TheVariants.{NotToml, NotBuilt}
use Rattle.scenario_record.specs.declared.fault.BadScenario.{BadScenario}
use Rattle.scenario_record.specs.Faults.{cause_name}
use Rattle.entsim_commands.specs.declared.stop.Refusal.{Refusal}
use Rattle.entsim_commands.specs.declared.stop.Refusal.TheVariants.{Missing as MissingFile, Faulty, NotBuilt as UnbuiltForm}

-- words that are no command
unfoldable pub words_line : List ℕ
words_line = codes "error words\n"

-- a scenario's file that can't be had
unfoldable pub missing_line : Missing → List ℕ
missing_line Absent = codes "error scenario cause=Absent\n"
missing_line OverLong = codes "error scenario cause=TooLong\n"

-- ` at=N`, where the fault is at a token of a text
abbrev pub at_text : Option ℕ → List ℕ
at_text None = []
at_text (Some n) = codes " at=" ++ decimal n

-- the place of a fault; a fault of the whole file has none
abbrev pub key_text : Cause → List ℕ → Option ℕ → List ℕ
key_text NotToml key at = []
key_text NotBuilt key at = []
key_text _ key at = codes " key=" ++ (key ++ at_text at)

-- a scenario at fault
unfoldable pub fault_line : BadScenario → List ℕ
fault_line fault = codes "error scenario cause=" ++ (cause_name fault.cause ++ (key_text fault.cause fault.key fault.at ++ codes "\n"))

-- a command, or a form of scenario, that isn't built yet
unfoldable pub unbuilt_line : List ℕ
unbuilt_line = codes "error scenario cause=NotBuilt\n"

-- the line of a refusal
abbrev pub refusal_line : Refusal → List ℕ
refusal_line (MissingFile missing) = missing_line missing
refusal_line (Faulty fault) = fault_line fault
refusal_line UnbuiltForm = unbuilt_line
