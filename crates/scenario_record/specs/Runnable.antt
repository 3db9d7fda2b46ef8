-- What the run of a scenario needs of it: each scenario that is read, checked and of a form that is run has it.
use Rattle.std.specs.Prelude.{◌≡◌, ◌≤◌, length, sum_by}
use Rattle.ent_types.specs.declared.limits.TheConstants.{MOST_FRAMES, MOST_SYSTEMS, MOST_ENTITIES}
use Rattle.scenario_record.specs.declared.record.Scenario.{Scenario}

pub record IsRunnable (s : Scenario) : Type 0 where
  pub frames : s.frames ≤ MOST_FRAMES
  pub systems : length s.system ≤ MOST_SYSTEMS
  pub entities : sum_by (λ p. p.count) s.spawn ≤ MOST_ENTITIES
  pub first : s.first_entity_version ≡ 1
