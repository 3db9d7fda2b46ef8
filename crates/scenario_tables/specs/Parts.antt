-- The parts of what is read, under names that the laws above can use.
use Rattle.std.specs.Prelude.{ℕ, List}
use Rattle.scenario_record.specs.declared.record.EventEntry.{EventEntry}
use Rattle.scenario_record.specs.declared.record.GroupEntry.{GroupEntry}
use Rattle.scenario_record.specs.declared.record.SystemEntry.{SystemEntry}
use Rattle.scenario_tables.specs.declared.type_lists.Allowed.{Allowed as OfAllowed}
use Rattle.scenario_tables.specs.declared.type_lists.Allowed.TheVariants as allowed
use Rattle.scenario_tables.specs.declared.type_lists.Named.{Named as OfNamed}
use Rattle.scenario_tables.specs.declared.groups.Placement.{Placement as OfPlacement}
use Rattle.scenario_tables.specs.declared.queries.Clauses.{Clauses as OfClauses}
use Rattle.scenario_tables.specs.declared.queries.Filters.{Filters as OfFilters}
use Rattle.scenario_tables.specs.declared.systems.Acts.{Acts as OfActs}
use Rattle.scenario_tables.specs.declared.events.SceneKeys.{SceneKeys as OfSceneKeys}

abbrev pub Allowed : Type 0
Allowed = OfAllowed

abbrev pub any_type : Allowed
any_type = allowed.AnyType

abbrev pub spawned : Allowed
spawned = allowed.Spawned

abbrev pub enableable : Allowed
enableable = allowed.Enableable

abbrev pub unshared_of : List ℕ → Allowed
unshared_of types = allowed.UnsharedOf types

abbrev pub shared_of : List ℕ → Allowed
shared_of types = allowed.SharedOf types

abbrev pub enableable_of : List ℕ → Allowed
enableable_of types = allowed.EnableableOf types

abbrev pub Named : Type 0
Named = OfNamed

abbrev pub Placement : Type 0
Placement = OfPlacement

abbrev pub Clauses : Type 0
Clauses = OfClauses

abbrev pub Filters : Type 0
Filters = OfFilters

abbrev pub Acts : Type 0
Acts = OfActs

-- which system it is, and when it runs
pub record Heading : Type 0 where
  pub name : List ℕ
  pub group : List ℕ
  pub placement : Placement
  pub every : ℕ

-- the query of a system, and its acts
pub record Body : Type 0 where
  pub clauses : Clauses
  pub filters : Filters
  pub acts : Acts

abbrev pub SceneKeys : Type 0
SceneKeys = OfSceneKeys

-- the numbers at the top
pub record Numbers : Type 0 where
  pub frames : ℕ
  pub first_system_version : ℕ
  pub first_entity_version : ℕ

-- the groups, the systems and the events
pub record Schedule : Type 0 where
  pub group : List GroupEntry
  pub system : List SystemEntry
  pub event : List EventEntry
