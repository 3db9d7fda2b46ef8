-- Worked cases of scenes that arrive and are unloaded, each by computing.
use Rattle.std.proofs.Common.{◌≡◌, ℕ, pos, Bool, true, false, List, [], ◌∷◌, Some, None, refl}
use Rattle.ent_types.specs.declared.entity.Entity.{Entity}
use Rattle.ent_types.specs.declared.kinds.Kind.{Kind}
use Rattle.ent_types.specs.declared.kinds.Kind.TheVariants.{Plain, Tag, Shared, Cleanup}
use Rattle.ent_types.specs.declared.kinds.FieldKind.TheVariants.{I32, I64, Ref as RefKind}
use Rattle.ent_types.specs.declared.type_info.FieldInfo.{FieldInfo}
use Rattle.ent_types.specs.declared.type_info.TypeInfo.{TypeInfo}
use Rattle.ent_types.specs.declared.value.Value.TheVariants.{Int, Ref}
use Rattle.ent_types.specs.Fitting.{null_entity}
use Rattle.world_model.specs.Part.{PartOf}
use Rattle.ent_types.specs.declared.value.Value.{Value}
use Rattle.world_model.specs.Row.{Cell, Row}
use Rattle.world_model.specs.World.{Block, World}
use Rattle.world_model.specs.Enter.{enter}
use Rattle.world_model.specs.Leave.{leave}
use Rattle.world_model.specs.Operations.{operate}
use Rattle.world_model.specs.Scenes.{Node, built, moved}
use Rattle.run_model.specs.declared.lines.NoteLine.TheVariants.{SceneArrived, SceneTooLong, SceneFull, Unloaded as UnloadedLine, UnloadCancelled, UnloadNone, ScenePending}
use Rattle.run_model.specs.Loads.{SceneFile, Absent, TooLong, Spelled, Load, LoadState, Requested, Arrived, Refused, Unloaded, SceneState, due_arrived, unloaded, pending_lines}

abbrev a_type : Kind → List FieldInfo → TypeInfo
a_type kind fields = record { name = []; kind = kind; fields = fields; enableable = false }

-- types: 0 Disabled, 1 Prefab, 2 SceneTag, 3 a cleanup type, 4 a reference
abbrev registry : List TypeInfo
registry =
    a_type Tag [] ∷ a_type Tag [] ∷ a_type Shared (record { name = []; kind = I64 } ∷ []) ∷ a_type Cleanup (record { name = []; kind = I32 } ∷ [])
    ∷ a_type Plain (record { name = []; kind = RefKind } ∷ []) ∷ []

abbrev e : ℕ → ℕ → Entity
e index version = record { index = index; version = version }

abbrev tag : ℕ → PartOf Value
tag load = record { type_id = 2; values = Int (pos load) ∷ [] }

abbrev clean : Cell
clean = record { type_id = 3; values = Int (pos 7) ∷ []; off = false }

abbrev link : Entity → Cell
link to = record { type_id = 4; values = Ref to ∷ []; off = false }

abbrev row : Entity → Cell → Row
row entity c = record { entity = entity; cells = c ∷ []; dying = false }

abbrev block : ℕ → ℕ → ℕ → List Row → Block
block t load moment rows = record {
  home = record { types = 2 ∷ t ∷ []; shared = tag load ∷ [] };
  marks = record { type_id = 2; moment = moment } ∷ record { type_id = t; moment = moment } ∷ [];
  rows = rows;
  order = moment;
}

-- at moment 5
abbrev world : List Block → List Entity → ℕ → World
world blocks free made = record { registry = registry; blocks = blocks; free = free; made = made; first_entity_version = 1; moment = 5 }

abbrev load : ℕ → ℕ → SceneFile → LoadState → Load
load name due file state = record { name = name ∷ []; due = due; file = file; state = state }

abbrev many : List ℕ → ℕ
many types = 128

-- ---- unloaded

-- the loads 65 and 66 arrived as the first and the second; of the second there are a copy and a row with a cleanup type
abbrev both : World
both = world (block 4 1 2 (row (e 0 1) (link null_entity) ∷ []) ∷ block 4 2 3 (row (e 1 1) (link null_entity) ∷ row (e 2 1) (link null_entity) ∷ []) ∷ block 3 2 3 (row (e 3 1) clean ∷ []) ∷ []) [] 4

-- The rows with the second load's tag are destroyed in block order. The line counts them all, also the one that stays dying.
unloads_its_own : unloaded many 9 (66 ∷ []) (record { world = both; loads = load 65 1 Absent Arrived ∷ load 66 2 Absent Arrived ∷ []; lines = [] })
    ≡ record {
      world = world
          (block 4 1 2 (row (e 0 1) (link null_entity) ∷ [])
          ∷ record {
            home = record { types = 3 ∷ []; shared = [] };
            marks = record { type_id = 3; moment = 5 } ∷ [];
            rows = record { entity = e 3 1; cells = clean ∷ []; dying = true } ∷ [];
            order = 5;
          }
          ∷ [])
          (e 2 2 ∷ e 1 2 ∷ []) 4;
      loads = load 65 1 Absent Arrived ∷ load 66 2 Absent Unloaded ∷ [];
      lines = UnloadedLine (66 ∷ []) 9 3 ∷ [];
    }
unfolding operate enter leave
unloads_its_own = refl

-- what was unloaded isn't there any more
unloads_once : unloaded many 9 (66 ∷ []) (record { world = both; loads = load 65 1 Absent Arrived ∷ load 66 2 Absent Unloaded ∷ []; lines = [] })
    ≡ record { world = both; loads = load 65 1 Absent Arrived ∷ load 66 2 Absent Unloaded ∷ []; lines = UnloadNone (66 ∷ []) 9 ∷ [] }
unloads_once = refl

-- a load that isn't due is cancelled, also if its file would be refused, and pending, whatever its file is
cancels_any_file : (unloaded many 9 (66 ∷ []) (record { world = both; loads = load 66 12 TooLong Requested ∷ []; lines = [] })).lines ≡ UnloadCancelled (66 ∷ []) 9 ∷ []
cancels_any_file = refl

any_file_is_pending : pending_lines (load 65 12 Absent Requested ∷ load 66 12 TooLong Requested ∷ load 67 12 (Spelled []) Requested ∷ load 68 12 (Spelled []) Unloaded ∷ [])
    ≡ ScenePending (65 ∷ []) ∷ ScenePending (66 ∷ []) ∷ ScenePending (67 ∷ []) ∷ []
any_file_is_pending = refl

-- ---- arriving

-- a node that names itself, and one that isn't in the file
abbrev lone : SceneFile
lone = Spelled (record { entity = e 5 1; parts = record { type_id = 4; values = Ref (e 5 1) ∷ [] } ∷ []; disabled = [] } ∷ [])

abbrev stranger : SceneFile
stranger = Spelled (record { entity = e 5 1; parts = record { type_id = 4; values = Ref (e 5 2) ∷ [] } ∷ []; disabled = [] } ∷ [])

-- Two loads are due: they arrive in order of request, each with its number. The third isn't due.
arrive_in_order : due_arrived many 3 (record { world = world [] (e 4 2 ∷ []) 6; loads = load 65 3 lone Requested ∷ load 66 2 stranger Requested ∷ load 67 4 lone Requested ∷ []; lines = [] })
    ≡ record {
      world = world (block 4 1 5 (row (e 4 2) (link (e 4 2)) ∷ []) ∷ block 4 2 5 (row (e 6 1) (link null_entity) ∷ []) ∷ []) [] 7;
      loads = load 65 3 lone Arrived ∷ load 66 2 stranger Arrived ∷ load 67 4 lone Requested ∷ [];
      lines = SceneArrived (65 ∷ []) 3 1 ∷ SceneArrived (66 ∷ []) 3 1 ∷ [];
    }
unfolding built moved operate enter
arrive_in_order = refl

-- a scene without room is refused whole, and takes no id
refused_whole : due_arrived many 3 (record { world = world [] [] 4194304; loads = load 65 3 lone Requested ∷ []; lines = [] })
    ≡ record { world = world [] [] 4194304; loads = load 65 3 lone Refused ∷ []; lines = SceneFull (65 ∷ []) 3 ∷ [] }
unfolding built operate enter
refused_whole = refl

refused_as_too_long : (due_arrived many 3 (record { world = both; loads = load 65 3 TooLong Requested ∷ []; lines = [] })).lines ≡ SceneTooLong (65 ∷ []) 3 ∷ []
refused_as_too_long = refl
