-- Which scenarios are of a form that is run.
use Rattle.std.specs.Prelude.{Bool, true, false, not, ◌&&◌, ◌==◌, length}
use Rattle.std.specs.List.{list_all}
use Rattle.scenario_record.specs.declared.record.EventAct.{EventAct}
use Rattle.scenario_record.specs.declared.record.EventAct.TheVariants.{Operate, Load, Unload}
use Rattle.scenario_record.specs.declared.record.Scenario.{Scenario}
use Rattle.scenario_record.specs.declared.record.SystemEntry.{SystemEntry}

-- whether a system records no command
abbrev pub is_built_system : SystemEntry → Bool
is_built_system y = length y.command == 0

-- whether an event is a structural change
abbrev pub is_built_act : EventAct → Bool
is_built_act (Operate change) = true
is_built_act (Load file label delay) = false
is_built_act (Unload label) = false

unfoldable pub is_built : Scenario → Bool
is_built s = not s.unbuilt && (list_all is_built_system s.system && list_all (λ e. is_built_act e.act) s.event)
