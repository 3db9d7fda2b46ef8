-- What the checks need of a scenario that was read.
use Rattle.std.specs.Prelude.{◌≤◌, length}
use Rattle.ent_types.specs.declared.limits.TheConstants.{MOST_GROUPS, MOST_SYSTEMS}
use Rattle.scenario_record.specs.declared.record.Scenario.{Scenario}

-- what is needed of a scenario: each scenario that is read has it
pub record IsRead (s : Scenario) : Type 0 where
  pub groups : length s.group ≤ MOST_GROUPS
  pub systems : length s.system ≤ MOST_SYSTEMS
