-- What each system keeps from run to run, and the stage of a run that a world and they make.
use Rattle.std.specs.Prelude.{◌≡◌, ℕ, List, length, map, slice_get, Some}
use Rattle.ent_types.specs.declared.type_info.TypeInfo.{TypeInfo}
use Rattle.world_model.specs.Members.{In}
use Rattle.scenario_record.specs.declared.record.Scenario.{Scenario}
use Rattle.scenario_record.specs.declared.record.SystemEntry.{SystemEntry}
use Rattle.structural_ops.specs.Worlds.{WorldState}
use Rattle.query_select.specs.Caches.{IsCacheOf}
use Rattle.query_select.specs.Entries.{last_run, unfiltered}
use Rattle.phase_run.specs.Queries.{IsQueryOf}
use Rattle.frame_run.specs.declared.runner.Runner.{Runner}
use Rattle.frame_run.specs.Stages.{Stage}

-- its query is the system's, and its cache was used with this query and these archetypes alone
pub record IsRunnerOf (registry : List TypeInfo) (archetypes : List (List ℕ)) (s : SystemEntry) (r : Runner) : Type 0 where
  pub query : IsQueryOf s r.query
  pub cache : IsCacheOf registry (unfiltered r.query.query) archetypes r.cache

-- one for each system, in order
pub record AreRunnersOf (registry : List TypeInfo) (archetypes : List (List ℕ)) (ss : List SystemEntry) (rs : List Runner) : Type 0 where
  pub count : length rs ≡ length ss
  pub each : (n : ℕ) (s : SystemEntry) (r : Runner) → slice_get ss n ≡ Some s → slice_get rs n ≡ Some r → IsRunnerOf registry archetypes s r

abbrev pub never_ran : List Runner → Type 0
never_ran rs = (r : Runner) → In r rs → r.last.0 ≡ 0

-- the world and the runners are those of the scenario
pub record IsReady (s : Scenario) (w : WorldState) (rs : List Runner) : Type 0 where
  pub registry : w.world.registry ≡ s.registry
  pub runners : AreRunnersOf s.registry w.archetypes s.system rs

abbrev pub stage_of : WorldState → List Runner → Stage
stage_of w rs = record { world = w.world; lasts = map (λ r. last_run r.last.0) rs }
