-- What holds of each scenario that is read: limits, known types, and texts that name only what their place has.
use Rattle.std.specs.Prelude.{ℕ, zero, suc, ◌≡◌, ◌≤◌, Bool, true, false, not, ◌&&◌, ◌||◌, ◌==◌, nat_lt, List, [], ◌∷◌, ◌++◌, length, map, codes, Option, Some, None, is_some, All}
use Rattle.std.specs.List.{list_any, list_all}
use Rattle.ent_types.specs.declared.limits.TheConstants.{MOST_FRAMES, MOST_SPAWNS, MOST_GROUPS, MOST_SYSTEMS, MOST_EVENTS, MOST_ENTITIES, MOST_ORDER_NAMES, MOST_CHANGED, MOST_SHARED_FILTERS, MOST_ASSIGNS, MOST_SWITCHES, MOST_COMMANDS, LONGEST_FILE_NAME}
use Rattle.ent_types.specs.declared.point.Point.{Point}
use Rattle.ent_types.specs.declared.point.Point.TheVariants.{BeginInitialization, EndInitialization, BeginSimulation, EndSimulation, BeginPresentation}
use Rattle.ent_types.specs.declared.type_info.TypeInfo.{TypeInfo}
use Rattle.ent_types.specs.declared.value.Part.{Part}
use Rattle.ent_types.specs.Fitting.{fits_fields}
use Rattle.ent_types.specs.Names.{is_name}
use Rattle.ent_types.specs.Registries.{IsLawfulRegistry}
use Rattle.ent_types.specs.Types.{same_name}
use Rattle.ent_types.specs.TypeLookups.{fields_at, is_shared_at, is_enableable_at}
use Rattle.ent_types.specs.TypeSets.{has_type}
use Rattle.system_version.specs.Versions.{IsVersion}
use Rattle.expr_trees.specs.declared.tree.CommandText.{CommandText}
use Rattle.expr_trees.specs.declared.tree.CommandText.TheVariants.{Create, Destroy, Add, Set, SetShared, Remove, Enable, Disable, Instantiate}
use Rattle.scenario_record.specs.declared.record.Scenario.{Scenario}
use Rattle.scenario_record.specs.declared.record.SpawnEntry.{SpawnEntry}
use Rattle.scenario_record.specs.declared.record.GroupEntry.{GroupEntry}
use Rattle.scenario_record.specs.declared.record.SystemEntry.{SystemEntry}
use Rattle.scenario_record.specs.declared.record.CommandEntry.{CommandEntry}
use Rattle.scenario_record.specs.declared.record.EventEntry.{EventEntry}
use Rattle.scenario_record.specs.declared.record.EventAct.{EventAct}
use Rattle.scenario_record.specs.declared.record.EventAct.TheVariants.{Operate, Load, Unload}
use Rattle.scenario_record.specs.TextNames.{are_once, expr_fits, command_fits, new_parts_fit, assign_fits, switch_fits, none_made, names_of_a_system, names_of_a_spawn, names_of_an_event}

-- ---- names that commands make

abbrev pub name_made : CommandText → Option (List ℕ)
name_made (Create name parts) = Some name
name_made (Destroy r) = None
name_made (Add r p) = None
name_made (Set r p) = None
name_made (SetShared r p) = None
name_made (Remove r ty) = None
name_made (Enable r ty) = None
name_made (Disable r ty) = None
name_made (Instantiate name r) = Some name

-- the place of a point in a frame
abbrev pub point_place : Point → ℕ
point_place BeginInitialization = 0
point_place EndInitialization = 1
point_place BeginSimulation = 2
point_place EndSimulation = 3
point_place BeginPresentation = 4

abbrev pub same_point : Point → Point → Bool
same_point p q = point_place p == point_place q

-- whether the command with this number makes something, and is played at this point
abbrev pub is_made : Point → List CommandEntry → ℕ → Bool
is_made point [] n = false
is_made point (c ∷ cs) zero = same_point c.buffer point && is_some (name_made c.act)
is_made point (c ∷ cs) (suc n) = is_made point cs n

abbrev pub is_name_of : List ℕ → Option (List ℕ) → Bool
is_name_of name None = false
is_name_of name (Some made) = same_name name made

-- a name that a command makes is neither `null` nor `self`, and no earlier command makes it
abbrev pub is_new_name : List CommandEntry → Option (List ℕ) → Bool
is_new_name earlier None = true
is_new_name earlier (Some name) =
    is_name name && not (same_name name (codes "null")
    || (same_name name (codes "self") || list_any (λ c. is_name_of name (name_made c.act)) earlier))

-- ---- spawns

pub record IsLawfulSpawn (registry : List TypeInfo) (p : SpawnEntry) : Type 0 where
  pub some : 1 ≤ p.count
  pub few : p.count ≤ MOST_ENTITIES
  pub parts : new_parts_fit registry names_of_a_spawn none_made p.parts ≡ true
  -- enableable types of the parts
  pub disabled : list_all (λ t. has_type (map (λ q. q.ty.0) p.parts) t && is_enableable_at registry t) p.disabled ≡ true

-- ---- the order of systems

abbrev pub are_names : List (List ℕ) → Bool
are_names names = list_all is_name names

-- names of siblings, and at most one of the two marks
pub record IsLawfulPlacement (before after : List (List ℕ)) (first last : Bool) : Type 0 where
  pub before_few : length before ≤ MOST_ORDER_NAMES
  pub before_names : are_names before ≡ true
  pub after_few : length after ≤ MOST_ORDER_NAMES
  pub after_names : are_names after ≡ true
  pub marks : (first && last) ≡ false

pub record IsLawfulGroup (g : GroupEntry) : Type 0 where
  pub name : is_name g.name ≡ true
  pub parent : is_name g.parent ≡ true
  pub placement : IsLawfulPlacement g.before g.after g.first g.last

-- ---- systems

-- the types of the five clauses
abbrev pub clause_types : SystemEntry → List ℕ
clause_types s = (((s.all ++ s.any) ++ s.none) ++ s.disabled) ++ s.absent

-- whether each row that the system visits has the type
abbrev pub is_bound : SystemEntry → ℕ → Bool
is_bound s t = has_type s.all t || has_type s.disabled t

-- one value for each field of a shared type of `all`
abbrev pub shared_filter_fits : List TypeInfo → List ℕ → Part → Bool
shared_filter_fits registry all p =
    (has_type all p.ty.0 && is_shared_at registry p.ty.0) && fits_fields (fields_at registry p.ty.0) p.values

-- a command after those before it
pub record IsLawfulCommand (registry : List TypeInfo) (bound : ℕ → Bool) (earlier : List CommandEntry) (c : CommandEntry) : Type 0 where
  pub when : expr_fits (names_of_a_system registry bound) c.when ≡ true
  pub key : expr_fits (names_of_a_system registry bound) c.key ≡ true
  -- a name in it is one that an earlier command of the same buffer makes
  pub act : command_fits registry (names_of_a_system registry bound) (is_made c.buffer earlier) c.act ≡ true
  pub new : is_new_name earlier (name_made c.act) ≡ true

abbrev pub AreLawfulCommands : List TypeInfo → (ℕ → Bool) → List CommandEntry → List CommandEntry → Type 0
AreLawfulCommands registry bound earlier [] = Unit {0}
AreLawfulCommands registry bound earlier (c ∷ cs) =
    IsLawfulCommand registry bound earlier c × AreLawfulCommands registry bound (earlier ++ c ∷ []) cs

pub record IsLawfulSystem (registry : List TypeInfo) (s : SystemEntry) : Type 0 where
  pub name : is_name s.name ≡ true
  pub group : is_name s.group ≡ true
  pub placement : IsLawfulPlacement s.before s.after s.first s.last
  pub every_some : 1 ≤ s.every
  pub every_few : s.every ≤ MOST_FRAMES
  -- the types of the clauses
  pub known : list_all (λ t. nat_lt t (length registry)) (clause_types s) ≡ true
  pub once : are_once (clause_types s) ≡ true
  pub disabled : list_all (is_enableable_at registry) s.disabled ≡ true
  -- the filters
  pub changed_few : length s.changed ≤ MOST_CHANGED
  pub changed : list_all (λ t. has_type s.all t && not (is_shared_at registry t)) s.changed ≡ true
  pub shared_few : length s.shared ≤ MOST_SHARED_FILTERS
  pub shared : list_all (shared_filter_fits registry s.all) s.shared ≡ true
  pub shared_once : are_once (map (λ p. p.ty.0) s.shared) ≡ true
  -- what is done with each row
  pub set_few : length s.set ≤ MOST_ASSIGNS
  pub set : list_all (assign_fits registry (is_bound s)) s.set ≡ true
  pub enable_few : length s.enable ≤ MOST_SWITCHES
  pub enable : list_all (switch_fits registry (is_bound s)) s.enable ≡ true
  pub command_few : length s.command ≤ MOST_COMMANDS
  pub command : AreLawfulCommands registry (is_bound s) [] s.command

-- ---- events

pub record IsLawfulLoad (file name : List ℕ) (frames : ℕ) : Type 0 where
  pub some : 1 ≤ length file
  pub few : length file ≤ LONGEST_FILE_NAME
  pub label : is_name name ≡ true
  pub delay : frames ≤ MOST_FRAMES

pub record IsLawfulOperation (registry : List TypeInfo) (c : CommandText) : Type 0 where
  pub fits : command_fits registry names_of_an_event none_made c ≡ true
  pub new : is_new_name [] (name_made c) ≡ true

abbrev pub IsLawfulAct : List TypeInfo → EventAct → Type 0
IsLawfulAct registry (Operate c) = IsLawfulOperation registry c
IsLawfulAct registry (Load file label delay) = IsLawfulLoad file label delay
IsLawfulAct registry (Unload label) = is_name label ≡ true

pub record IsLawfulEvent (registry : List TypeInfo) (e : EventEntry) : Type 0 where
  pub some : 1 ≤ e.frame
  pub few : e.frame ≤ MOST_FRAMES
  pub act : IsLawfulAct registry e.act

-- ---- the whole

pub record IsLawfulScenario (s : Scenario) : Type 0 where
  pub frames : s.frames ≤ MOST_FRAMES
  pub first_system_version : IsVersion s.first_system_version
  pub first_entity_version : IsVersion s.first_entity_version
  pub registry : IsLawfulRegistry s.registry
  pub spawn_few : length s.spawn ≤ MOST_SPAWNS
  pub spawn : All (IsLawfulSpawn s.registry) s.spawn
  pub group_few : length s.group ≤ MOST_GROUPS
  pub group : All IsLawfulGroup s.group
  pub system_few : length s.system ≤ MOST_SYSTEMS
  pub system : All (IsLawfulSystem s.registry) s.system
  pub event_few : length s.event ≤ MOST_EVENTS
  pub event : All (IsLawfulEvent s.registry) s.event
