-- Worked cases of whole frames and runs, each by computing.
use Rattle.std.proofs.Common.{◌≡◌, ℕ, Bool, true, false, List, [], ◌∷◌, length, map, refl}
use Rattle.std.specs.Prelude.{codes, replicate}
use Rattle.ent_types.specs.declared.kinds.Kind.TheVariants.{Plain}
use Rattle.ent_types.specs.declared.kinds.FieldKind.TheVariants.{I64}
use Rattle.ent_types.specs.declared.point.Point.TheVariants.{BeginInitialization, EndInitialization, BeginSimulation, EndSimulation, BeginPresentation}
use Rattle.ent_types.specs.declared.type_info.TypeInfo.{TypeInfo}
use Rattle.ent_types.specs.Types.{column_size}
use Rattle.chunk_layout.specs.Capacity.{capacity_of, greatest_up_to}
use Rattle.world_model.specs.World.{Block}
use Rattle.world_model.specs.Found.{Found}
use Rattle.world_model.specs.Enter.{enter}
use Rattle.world_model.specs.Operations.{operate}
use Rattle.system_version.specs.Versions.{version_of}
use Rattle.expr_trees.specs.declared.tree.PartExpr.{PartExpr}
use Rattle.scenario_record.specs.declared.plan.Step.{Step}
use Rattle.scenario_record.specs.declared.plan.Step.TheVariants.{Events, Play, Run}
use Rattle.scenario_record.specs.declared.record.GroupEntry.{GroupEntry}
use Rattle.scenario_record.specs.declared.record.Scenario.{Scenario}
use Rattle.scenario_record.specs.declared.record.SpawnEntry.{SpawnEntry}
use Rattle.scenario_record.specs.declared.record.SystemEntry.{SystemEntry}
use Rattle.system_order.specs.Child.{members, precedes}
use Rattle.system_order.specs.Order.{spliced}
use Rattle.system_order.specs.Place.{places}
use Rattle.run_model.specs.declared.lines.TraceLine.TheVariants.{Run as RunLine}
use Rattle.run_model.specs.Query.{matches, passes}
use Rattle.run_model.specs.LawfulQuery.{with_bits}
use Rattle.run_model.specs.Loads.{SceneFile, Absent}
use Rattle.run_model.specs.Run.{run}
use Rattle.run_model.specs.Tasks.{spawned}
use Rattle.run_model.specs.Steps.{group_number, children_of, steps_of}
use Rattle.run_model.specs.Frames.{End, Finished, AtSharedKey, Traced, course_after, end_of_run}
use Rattle.run_model.specs.FrameParts.{EventsPart, PointPart, PhasePart, frame_parts}
use Rattle.run_model.specs.Outcome.{outcome}
use Rattle.run_laws.proofs.Examples.{registry, asks, points_home}

-- ---- scenarios

abbrev scenario : List GroupEntry → List SystemEntry → Scenario
scenario groups systems = record {
  frames = 1;
  first_system_version = 1;
  first_entity_version = 1;
  registry = registry;
  spawn = [];
  group = groups;
  system = systems;
  event = [];
  placed = true;
  unbuilt = false;
}

-- a system of a group, by its name
abbrev system_of : List ℕ → List ℕ → SystemEntry
system_of name group = record (asks (5 ∷ []) [] [] [] []) { name = name; group = group }

abbrev group_of : List ℕ → List ℕ → GroupEntry
group_of name parent = record { name = name; parent = parent; before = []; after = []; first = false; last = false }

-- ---- the steps of a frame

each_root_has_its_systems : steps_of (scenario [] (
    system_of (codes "A") (codes "Presentation") ∷ system_of (codes "B") (codes "Initialization") ∷ system_of (codes "C") (codes "Simulation") ∷ []))
    ≡ Events ∷ Play BeginInitialization ∷ Run 1 ∷ Play EndInitialization ∷ Play BeginSimulation ∷ Run 2 ∷ Play EndSimulation ∷ Play BeginPresentation ∷ Run 0 ∷ []
unfolding steps_of children_of group_number spliced members places precedes
each_root_has_its_systems = refl

-- a group gives way to its systems, at its own place
groups_give_way : steps_of (scenario (group_of (codes "G") (codes "Simulation") ∷ []) (
    record (system_of (codes "A") (codes "Simulation")) { after = codes "G" ∷ [] } ∷ system_of (codes "B") (codes "G") ∷ []))
    ≡ Events ∷ Play BeginInitialization ∷ Play EndInitialization ∷ Play BeginSimulation ∷ Run 1 ∷ Run 0 ∷ Play EndSimulation ∷ Play BeginPresentation ∷ []
unfolding steps_of children_of group_number spliced members places precedes
groups_give_way = refl

marks_and_names_order : steps_of (scenario [] (
    record (system_of (codes "A") (codes "Simulation")) { last = true } ∷ system_of (codes "B") (codes "Simulation")
    ∷ record (system_of (codes "C") (codes "Simulation")) { before = codes "B" ∷ [] } ∷ record (system_of (codes "D") (codes "Simulation")) { first = true } ∷ []))
    ≡ Events ∷ Play BeginInitialization ∷ Play EndInitialization ∷ Play BeginSimulation ∷ Run 3 ∷ Run 2 ∷ Run 1 ∷ Run 0 ∷ Play EndSimulation ∷ Play BeginPresentation ∷ []
unfolding steps_of children_of group_number spliced members places precedes
marks_and_names_order = refl

-- ---- the parts of a frame

-- three systems that don't conflict, of which the second runs in every second frame
abbrev three : Scenario
three = scenario [] (asks (5 ∷ []) [] [] [] [] ∷ record (asks (5 ∷ []) [] [] [] []) { every = 2 } ∷ asks (5 ∷ []) [] [] [] [] ∷ [])

abbrev some_steps : List Step
some_steps = Events ∷ Run 0 ∷ Run 1 ∷ Play EndSimulation ∷ Run 2 ∷ []

-- a point ends a phase
no_phase_crosses_a_point : frame_parts three 1 some_steps ≡ EventsPart ∷ PhasePart (0 ∷ 1 ∷ []) ∷ PointPart EndSimulation ∷ PhasePart (2 ∷ []) ∷ []
unfolding frame_parts
no_phase_crosses_a_point = refl

-- a system that doesn't run is in no phase
what_doesnt_run_is_in_no_phase : frame_parts three 2 some_steps ≡ EventsPart ∷ PhasePart (0 ∷ []) ∷ PointPart EndSimulation ∷ PhasePart (2 ∷ []) ∷ []
unfolding frame_parts
what_doesnt_run_is_in_no_phase = refl

-- nor does it separate its neighbours, though it conflicts with both
abbrev two_and_a_writer : Scenario
two_and_a_writer = scenario [] (points_home ∷ record points_home { every = 2 } ∷ asks (5 ∷ []) [] [] [] [] ∷ [])

what_doesnt_run_ends_no_phase : frame_parts two_and_a_writer 2 (Run 0 ∷ Run 1 ∷ Run 2 ∷ []) ≡ PhasePart (0 ∷ 2 ∷ []) ∷ []
unfolding frame_parts
what_doesnt_run_ends_no_phase = refl

what_conflicts_begins_a_phase : frame_parts two_and_a_writer 1 (Run 0 ∷ Run 1 ∷ Run 2 ∷ []) ≡ PhasePart (0 ∷ []) ∷ PhasePart (1 ∷ 2 ∷ []) ∷ []
unfolding frame_parts
what_conflicts_begins_a_phase = refl

-- ---- a run

abbrev no_files : List ℕ → SceneFile
no_files name = Absent

abbrev rows_of : ℕ → List PartExpr → SpawnEntry
rows_of count parts = record { count = count; parts = parts; disabled = [] }

-- one row without types, which is made at moment 1 with the first entity version
the_spawns_are_at_the_first_moment : outcome false no_files (record (scenario [] []) { frames = 0; first_entity_version = 7; spawn = rows_of 1 [] ∷ [] })
    ≡ Finished [] (record {
      registry = registry;
      blocks = record {
        home = record { types = []; shared = [] };
        marks = [];
        rows = record { entity = record { index = 0; version = 7 }; cells = []; dying = false } ∷ [];
        order = 1;
      } ∷ [];
      free = [];
      made = 1;
      first_entity_version = 7;
      moment = 1;
    })
unfolding outcome end_of_run spawned operate enter capacity_of greatest_up_to column_size steps_of
the_spawns_are_at_the_first_moment = refl

-- the events have moment 2, the three points before the systems moments 3 to 5, and so the system has moment 6
the_first_system_has_moment_6 : outcome true no_files (scenario [] (system_of (codes "A") (codes "Simulation") ∷ []))
    ≡ Finished (Traced (RunLine 1 (codes "A") 6 0 0 0) ∷ [])
    (record { registry = registry; blocks = []; free = []; made = 0; first_entity_version = 1; moment = 8 })
unfolding outcome end_of_run spawned operate enter course_after run version_of steps_of children_of group_number spliced members places precedes
the_first_system_has_moment_6 = refl

-- the line has the version of that moment
versions_begin_with_the_first : outcome true no_files (record (scenario [] (system_of (codes "A") (codes "Simulation") ∷ [])) { first_system_version = 5 })
    ≡ Finished (Traced (RunLine 1 (codes "A") 10 0 0 0) ∷ [])
    (record { registry = registry; blocks = []; free = []; made = 0; first_entity_version = 1; moment = 8 })
unfolding outcome end_of_run spawned operate enter course_after run version_of steps_of children_of group_number spliced members places precedes
versions_begin_with_the_first = refl

-- ---- capacity: a row with a type of 512 bytes takes 520, and a block has room for 31 of them

abbrev wide : TypeInfo
wide = record { name = codes "Wide"; kind = Plain; fields = replicate 64 (record { name = []; kind = I64 }); enableable = false }

abbrev wide_rows : ℕ → Scenario
wide_rows count = record (scenario [] []) {
  frames = 0;
  registry = wide ∷ [];
  spawn = rows_of count ((let p : PartExpr = record { ty = record { 0 = 0 }; values = [] } in p) ∷ []) ∷ [];
}

abbrev rows_by_block : End → List ℕ
rows_by_block (Finished lines w) = map (λ (b : Block). length b.rows) w.blocks
rows_by_block (AtSharedKey lines) = []

blocks_have_their_capacity : rows_by_block (outcome false no_files (wide_rows 32)) ≡ 31 ∷ 1 ∷ []
unfolding outcome end_of_run spawned operate enter capacity_of greatest_up_to column_size steps_of
blocks_have_their_capacity = refl

-- ---- queries that aren't lawful

-- a type in two lists: its types pass, and no choice of what is disabled lets a row match
abbrev two_lists : SystemEntry
two_lists = asks (4 ∷ []) [] (4 ∷ []) [] []

abbrev act_row : Found
act_row = record { home = record { types = 4 ∷ []; shared = [] }; row = record { entity = record { index = 0; version = 1 }; cells = record { type_id = 4; values = []; off = false } ∷ []; dying = false } }

types_of_two_lists_pass : passes registry two_lists (4 ∷ []) ≡ true
types_of_two_lists_pass = refl

no_row_is_in_two_lists : (off : ℕ → Bool) → matches registry two_lists (with_bits registry off act_row) ≡ false
no_row_is_in_two_lists off = by (off 4)
  where
    by : (b : Bool) → matches registry two_lists (with_bits registry (λ t. b) act_row) ≡ false
    by true = refl
    by false = refl
