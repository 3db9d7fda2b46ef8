-- A layout shows no version, so the code's world after the spawns has the layout of the defined one.
use Rattle.std.proofs.Common.{◌≡◌, ℕ, ◌+◌, false, List, [], ◌∷◌, ◌++◌, length, map, refl, ap, ap₂, ◌∙◌, arith}
use Rattle.std.proofs.lemmas.List.{length-map}
use Rattle.ent_types.specs.declared.type_info.TypeInfo.{TypeInfo}
use Rattle.system_version.specs.Versions.{version_of}
use Rattle.world_model.specs.World.{Block, World, capacity, empty_world}
use Rattle.world_model.specs.Versions.{block_versions, world_versions}
use Rattle.scenario_record.specs.declared.record.Scenario.{Scenario}
use Rattle.run_model.specs.Frames.{End, Finished, AtSharedKey, end_of_run}
use Rattle.run_model.specs.Outcome.{first_moment, outcome}
use Rattle.run_model.specs.Steps.{IsOrdered, children_of}
use Rattle.run_model.specs.Tasks.{spawned}
use Rattle.run_laws.specs.Runnable.{IsRunnable}
use Rattle.run_laws.proofs.RunVersions.{run_turned}
use Rattle.world_text.specs.Layout.{block_line, block_lines, layout_line, layout_text}
use Rattle.frame_run.specs.Stages.{no_files}
use Rattle.entsim_commands.specs.Outcome.{layout_after_spawns}

module _ (version : ℕ → ℕ) where
  lines_unchanged : (registry : List TypeInfo) (k : ℕ) (bs : List Block) → block_lines registry k (map (block_versions version) bs) ≡ block_lines registry k bs
  lines_unchanged registry k [] = refl
  lines_unchanged registry k (b ∷ bs) = ap (λ (rest : List ℕ). block_line registry k b.home.types (length b.rows) ++ rest) (lines_unchanged registry (k + 1) bs)

  layout_unchanged : (w : World) → layout_text (world_versions version w) ≡ layout_text w
  unfolding layout_text
  layout_unchanged w =
      ap₂ (λ (n : ℕ) (rest : List ℕ). layout_line n ++ rest) (length-map w.blocks (block_versions version)) (lines_unchanged w.registry 0 w.blocks)

-- ---- the world after the spawns, which is the one of a run of no frames

abbrev without_frames : Scenario → Scenario
without_frames s = record s { frames = 0 }

still_ordered : (s : Scenario) → IsOrdered s → IsOrdered (without_frames s)
unfolding children_of
still_ordered s ordered = record { forest = ordered.forest; acyclic = ordered.acyclic }

-- the world at the end of a run
abbrev last_world : End → World
last_world (Finished lines w) = w
last_world (AtSharedKey lines) = empty_world [] 1 1

spawned_turned : (s : Scenario) → IsRunnable s → IsOrdered s
    → spawned (capacity s.registry) s s.first_system_version ≡ world_versions (version_of s.first_system_version) (spawned (capacity s.registry) s first_moment)
unfolding spawned end_of_run outcome
spawned_turned s runnable ordered =
    ap last_world (run_turned false no_files (without_frames s) runnable.first_system_version (still_ordered s ordered) (omega arith) runnable.few_systems)

pub layout_of_spawned : (s : Scenario) → IsRunnable s → IsOrdered s → (code : World) → code ≡ spawned (capacity s.registry) s s.first_system_version
    → layout_text code ≡ layout_after_spawns s
layout_of_spawned s runnable ordered code is =
    ap layout_text (is ∙ spawned_turned s runnable ordered) ∙ layout_unchanged (version_of s.first_system_version) (spawned (capacity s.registry) s first_moment)
