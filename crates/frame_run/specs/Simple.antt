-- Which scenarios can be run: no system records commands, and each event is an operation.
use Rattle.std.specs.Prelude.{◌≡◌, []}
use Rattle.world_model.specs.Members.{In}
use Rattle.scenario_record.specs.declared.record.EventAct.{EventAct}
use Rattle.scenario_record.specs.declared.record.EventAct.TheVariants.{Operate, Load, Unload}
use Rattle.scenario_record.specs.declared.record.EventEntry.{EventEntry}
use Rattle.scenario_record.specs.declared.record.Scenario.{Scenario}
use Rattle.scenario_record.specs.declared.record.SystemEntry.{SystemEntry}

abbrev pub IsOperation : EventAct → Type 0
IsOperation (Operate act) = Unit {0}
IsOperation (Load file label delay) = ⊥
IsOperation (Unload label) = ⊥

pub record IsSimple (s : Scenario) : Type 0 where
  pub commands : (y : SystemEntry) → In y s.system → y.command ≡ []
  pub events : (e : EventEntry) → In e s.event → IsOperation e.act
