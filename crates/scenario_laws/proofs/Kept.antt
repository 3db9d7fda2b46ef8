-- What each scenario that was read keeps.
use Rattle.std.proofs.Common.{ℕ, ◌≡◌, List, Ok}
use Rattle.ent_types.specs.Registries.{IsLawfulRegistry}
use Rattle.scenario_record.specs.declared.record.Scenario.{Scenario}
use Rattle.scenario_read.specs.ReadScenario.{scenario_of}
use Rattle.scenario_check.specs.Read.{IsRead}
use Rattle.read_laws.proofs.Scenarios.{is_lawful_scenario}

pub can_be_checked : (bytes : List ℕ) (s : Scenario) → scenario_of bytes ≡ Ok s → IsRead s
can_be_checked bytes s is = let lawful = is_lawful_scenario bytes s is in record { groups = lawful.group_few; systems = lawful.system_few }

pub has_lawful_registry : (bytes : List ℕ) (s : Scenario) → scenario_of bytes ≡ Ok s → IsLawfulRegistry s.registry
has_lawful_registry bytes s is = (is_lawful_scenario bytes s is).registry
