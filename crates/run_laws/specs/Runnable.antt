-- What the run of a scenario asks of it: each scenario that was read and passed its checks has it.
use Rattle.std.specs.Prelude.{◌≡◌, ℕ, ◌≤◌, ◌<◌, Bool, true, false, not, ◌&&◌, nat_eq, nat_lt, List, [], ◌∷◌, length, map, sum_by}
use Rattle.ent_types.specs.declared.entity.TypeId.{TypeId}
use Rattle.ent_types.specs.declared.limits.TheConstants.{MOST_FRAMES, MOST_SYSTEMS, MOST_SPAWNS, MOST_EVENTS, MOST_ENTITIES, MOST_COMMANDS}
use Rattle.ent_types.specs.declared.type_info.TypeInfo.{TypeInfo}
use Rattle.ent_types.specs.Registries.{IsLawfulRegistry}
use Rattle.ent_types.specs.TypeLookups.{field_kind_at, has_column_at, is_buffer_at, is_enableable_at}
use Rattle.ent_types.specs.TypeSets.{has_type}
use Rattle.system_version.specs.Versions.{IsVersion}
use Rattle.world_model.specs.Fits.{IsKnown}
use Rattle.world_model.specs.Members.{In, AreDistinct}
use Rattle.world_model.specs.Part.{PartOf, part_type, by_type}
use Rattle.world_model.specs.World.{capacity}
use Rattle.expr_eval.specs.Conditions.{reads, ref_reads}
use Rattle.expr_trees.specs.declared.tree.Assign.{Assign}
use Rattle.expr_trees.specs.declared.tree.Switch.{Switch}
use Rattle.expr_trees.specs.declared.tree.Expr.{Expr}
use Rattle.expr_trees.specs.declared.tree.RefExpr.{RefExpr}
use Rattle.expr_trees.specs.declared.tree.ValueExpr.{ValueExpr}
use Rattle.expr_trees.specs.declared.tree.ValueExpr.TheVariants as values
use Rattle.expr_trees.specs.declared.tree.PartExpr.{PartExpr}
use Rattle.expr_trees.specs.declared.tree.CommandText.{CommandText}
use Rattle.expr_trees.specs.declared.tree.CommandText.TheVariants as texts
use Rattle.scenario_record.specs.declared.record.CommandEntry.{CommandEntry}
use Rattle.scenario_record.specs.declared.record.EventAct.{EventAct}
use Rattle.scenario_record.specs.declared.record.EventAct.TheVariants.{Operate, Load, Unload}
use Rattle.scenario_record.specs.declared.record.EventEntry.{EventEntry}
use Rattle.scenario_record.specs.declared.record.Scenario.{Scenario}
use Rattle.scenario_record.specs.declared.record.SpawnEntry.{SpawnEntry}
use Rattle.scenario_record.specs.declared.record.SystemEntry.{SystemEntry}
use Rattle.scenario_record.specs.Lawful.{is_bound}
use Rattle.scenario_record.specs.TextNames.{has_field}
use Rattle.run_model.specs.Job.{writes}
use Rattle.run_model.specs.LawfulQuery.{IsLawfulQuery, IsLawfulFilter}
use Rattle.run_laws.specs.Suits.{SystemSuits, PartSuits, CommandSuits, IsOfKind}

-- ---- what texts read

-- the own fields that a text may read, and the types that it may look up
pub record Sources : Type 0 where
  pub own : TypeId → ℕ → Bool
  pub others : TypeId → Bool

-- the texts of a spawn or an event have no row and look nothing up
abbrev pub no_sources : Sources
no_sources = record { own = λ ty i. false; others = λ ty. false }

-- A system reads fields of the types that each of its rows has, and looks up types that it doesn't write. Neither is a dynamic
-- buffer.
abbrev pub sources_of : List TypeInfo → SystemEntry → Sources
sources_of registry s = record {
  own = λ ty i. is_bound s ty.0 && has_field registry ty i;
  others = λ ty. not (has_type (writes s) ty.0) && not (is_buffer_at registry ty.0);
}

abbrev pub ExprReads : Sources → Expr → Type 0
ExprReads from e = reads from.own from.others e ≡ true

abbrev pub RefReads : Sources → RefExpr → Type 0
RefReads from r = ref_reads from.own r ≡ true

abbrev pub ValueReads : Sources → ValueExpr → Type 0
ValueReads from (values.Int e) = ExprReads from e
ValueReads from (values.Ref r) = RefReads from r

abbrev pub PartReads : Sources → PartExpr → Type 0
PartReads from p = (v : ValueExpr) → In v p.values → ValueReads from v

abbrev pub CommandReads : Sources → CommandText → Type 0
CommandReads from (texts.Create name parts) = (p : PartExpr) → In p parts → PartReads from p
CommandReads from (texts.Destroy r) = RefReads from r
CommandReads from (texts.Add r p) = RefReads from r × PartReads from p
CommandReads from (texts.Set r p) = RefReads from r × PartReads from p
CommandReads from (texts.SetShared r p) = RefReads from r × PartReads from p
CommandReads from (texts.Remove r ty) = RefReads from r
CommandReads from (texts.Enable r ty) = RefReads from r
CommandReads from (texts.Disable r ty) = RefReads from r
CommandReads from (texts.Instantiate name r) = RefReads from r

-- ---- systems

-- a value of its field's kind for a field of a bound plain or cleanup type
pub record AssignRuns (registry : List TypeInfo) (s : SystemEntry) (a : Assign) : Type 0 where
  pub bound : is_bound s a.ty.0 ≡ true
  pub column : has_column_at registry a.ty.0 ≡ true
  pub field : has_field registry a.ty a.field ≡ true
  pub kind : IsOfKind (field_kind_at registry a.ty.0 a.field) a.value

-- a bound enableable type
pub record SwitchRuns (registry : List TypeInfo) (s : SystemEntry) (w : Switch) : Type 0 where
  pub bound : is_bound s w.ty.0 ≡ true
  pub known : IsKnown registry w.ty.0
  pub enableable : is_enableable_at registry w.ty.0 ≡ true

-- each text of a system reads from these sources alone
pub record SystemReads (from : Sources) (s : SystemEntry) : Type 0 where
  pub assigns : (a : Assign) → In a s.set → ValueReads from a.value
  pub switches : (w : Switch) → In w s.enable → ExprReads from w.value
  pub when : (c : CommandEntry) → In c s.command → ExprReads from c.when
  pub key : (c : CommandEntry) → In c s.command → ExprReads from c.key
  pub acts : (c : CommandEntry) → In c s.command → CommandReads from c.act

pub record SystemRuns (registry : List TypeInfo) (s : SystemEntry) : Type 0 where
  pub every : 1 ≤ s.every
  pub query : IsLawfulQuery registry s
  pub filter : IsLawfulFilter registry s
  pub assigns : (a : Assign) → In a s.set → AssignRuns registry s a
  pub switches : (w : Switch) → In w s.enable → SwitchRuns registry s w
  pub few_commands : length s.command ≤ MOST_COMMANDS
  pub reads : SystemReads (sources_of registry s) s
  pub suits : SystemSuits registry s

-- ---- spawns and events

abbrev pub as_part : PartExpr → PartOf ValueExpr
as_part p = record { type_id = p.ty.0; values = p.values }

-- the types of new rows, by rising type
abbrev pub types_of_parts : List PartExpr → List ℕ
types_of_parts parts = map part_type (by_type (map as_part parts))

-- rows that fit into a block, of which enableable types may be disabled
pub record SpawnRuns (registry : List TypeInfo) (p : SpawnEntry) : Type 0 where
  pub parts : (q : PartExpr) → In q p.parts → PartSuits registry q
  pub once : AreDistinct (map (λ q. q.ty.0) p.parts)
  pub reads : (q : PartExpr) → In q p.parts → PartReads no_sources q
  pub room : nat_eq (capacity registry (types_of_parts p.parts)) 0 ≡ false
  pub disabled : (t : ℕ) → In t p.disabled → IsKnown registry t

-- an operation of an event
pub record OperationRuns (registry : List TypeInfo) (c : CommandText) : Type 0 where
  pub suits : CommandSuits registry c
  pub reads : CommandReads no_sources c

abbrev pub ActRuns : List TypeInfo → EventAct → Type 0
ActRuns registry (Operate c) = OperationRuns registry c
ActRuns registry (Load file label delay) = Unit {0}
ActRuns registry (Unload label) = Unit {0}

-- ---- the whole

pub record IsRunnable (s : Scenario) : Type 0 where
  pub frames : s.frames ≤ MOST_FRAMES
  pub first_system_version : IsVersion s.first_system_version
  pub first_entity_version : IsVersion s.first_entity_version
  pub registry : IsLawfulRegistry s.registry
  pub few_spawns : length s.spawn ≤ MOST_SPAWNS
  pub spawns : (p : SpawnEntry) → In p s.spawn → SpawnRuns s.registry p
  pub entities : sum_by (λ p. p.count) s.spawn ≤ MOST_ENTITIES
  pub few_systems : length s.system ≤ MOST_SYSTEMS
  pub systems : (y : SystemEntry) → In y s.system → SystemRuns s.registry y
  pub few_events : length s.event ≤ MOST_EVENTS
  pub events : (e : EventEntry) → In e s.event → ActRuns s.registry e.act
