-- What a scenario that was read is checked for, in order. A test gives its first fault, or none.
use Rattle.std.specs.Prelude.{ℕ, ◌+◌, Bool, false, not, ◌&&◌, ◌==◌, nat_lt, if◌then◌else◌, List, [], ◌∷◌, ◌++◌, map, codes, Option, None, Some, find}
use Rattle.std.specs.List.{list_any}
use Rattle.std.specs.Option.{option_map, option_map_or}
use Rattle.ent_types.specs.declared.limits.TheConstants.{MOST_ENTITIES}
use Rattle.ent_types.specs.declared.type_info.TypeInfo.{TypeInfo}
use Rattle.ent_types.specs.Registries.{type_at}
use Rattle.ent_types.specs.Types.{same_name, column_size}
use Rattle.ent_types.specs.TypeSets.{meets}
use Rattle.chunk_layout.specs.Capacity.{capacity_of}
use Rattle.scenario_record.specs.declared.fault.Cause.{Cause}
use Rattle.scenario_record.specs.declared.fault.Cause.TheVariants.{DuplicateName, UnknownName, NotSibling, TooLarge, TooManyEntities, LookupOfWritten}
use Rattle.scenario_record.specs.declared.fault.BadScenario.{BadScenario}
use Rattle.scenario_record.specs.declared.record.Scenario.{Scenario}
use Rattle.scenario_record.specs.declared.record.SpawnEntry.{SpawnEntry}
use Rattle.scenario_record.specs.declared.record.GroupEntry.{GroupEntry}
use Rattle.scenario_record.specs.declared.record.SystemEntry.{SystemEntry}
use Rattle.scenario_record.specs.declared.record.EventEntry.{EventEntry}
use Rattle.scenario_record.specs.declared.record.EventAct.{EventAct}
use Rattle.scenario_record.specs.declared.record.EventAct.TheVariants.{Operate, Load, Unload}
use Rattle.scenario_record.specs.Faults.{bad, below_key, below_place}
use Rattle.scenario_record.specs.Readings.{fault_if}
use Rattle.scenario_faults.specs.declared.siblings.Sibling.{Sibling}
use Rattle.scenario_faults.specs.Found.{set_of}
use Rattle.scenario_faults.specs.Touched.{written, looked_up_by}

-- ---- faults and their places

-- the fault of the element at a place of a list under a key
abbrev pub at_element : List ℕ → ℕ → BadScenario → BadScenario
at_element key i f = below_key key (below_place i f)

-- the same of a key of that element
abbrev pub at_key_of : List ℕ → ℕ → List ℕ → BadScenario → BadScenario
at_key_of key i inner f = at_element key i (below_key inner f)

-- the fault of the element that was found, if one was
abbrev pub fault_at : List ℕ → List ℕ → Cause → Option ℕ → Option BadScenario
fault_at key inner cause None = None
fault_at key inner cause (Some i) = Some (at_key_of key i inner (bad cause))

-- the first fault of several tests
abbrev pub first_of : List (Option BadScenario) → Option BadScenario
first_of [] = None
first_of (Some f ∷ later) = Some f
first_of (None ∷ later) = first_of later

-- ---- names

abbrev pub root_groups : List (List ℕ)
root_groups = codes "Initialization" ∷ codes "Simulation" ∷ codes "Presentation" ∷ []

-- the place of the first name that is taken, by one of these or by an earlier name of the list
abbrev pub repeated_from : List (List ℕ) → ℕ → List (List ℕ) → Option ℕ
repeated_from taken i [] = None
repeated_from taken i (n ∷ ns) = if list_any (same_name n) taken then Some i else repeated_from (n ∷ taken) (i + 1) ns

abbrev pub group_names : Scenario → List (List ℕ)
group_names s = map (λ g. g.name) s.group

abbrev pub system_names : Scenario → List (List ℕ)
system_names s = map (λ y. y.name) s.system

-- group names, then system names, are distinct from each other and from the roots
unfoldable pub names_fault : Scenario → Option BadScenario
names_fault s =
    first_of (
    fault_at (codes "group") (codes "name") DuplicateName (repeated_from root_groups 0 (group_names s)) ∷
    fault_at (codes "system") (codes "name") DuplicateName (repeated_from (root_groups ++ group_names s) 0 (system_names s)) ∷
    [])

-- ---- parents

-- the first group whose parent is neither a root nor an earlier group
abbrev pub orphan_from : List (List ℕ) → ℕ → List GroupEntry → Option ℕ
orphan_from known i [] = None
orphan_from known i (g ∷ gs) = if list_any (same_name g.parent) known then orphan_from (g.name ∷ known) (i + 1) gs else Some i

-- the first system whose group is neither a root nor declared
abbrev pub stray_from : List (List ℕ) → ℕ → List SystemEntry → Option ℕ
stray_from known i [] = None
stray_from known i (y ∷ ys) = if list_any (same_name y.group) known then stray_from known (i + 1) ys else Some i

unfoldable pub parents_fault : Scenario → Option BadScenario
parents_fault s =
    first_of (
    fault_at (codes "group") (codes "parent") UnknownName (orphan_from root_groups 0 s.group) ∷
    fault_at (codes "system") (codes "group") UnknownName (stray_from (root_groups ++ group_names s) 0 s.system) ∷
    [])

-- ---- siblings

-- the children of groups: the groups, then the systems
abbrev pub group_sibling : GroupEntry → Sibling
group_sibling g = record { name = g.name; parent = g.parent }

abbrev pub system_sibling : SystemEntry → Sibling
system_sibling y = record { name = y.name; parent = y.group }

abbrev pub siblings_of : Scenario → List Sibling
siblings_of s = map group_sibling s.group ++ map system_sibling s.system

-- what is wrong with a name that a child orders itself by: no child has it, or one that isn't another child of the group
abbrev pub cause_between : Sibling → Option Sibling → Option Cause
cause_between child None = Some UnknownName
cause_between child (Some other) =
    if same_name child.parent other.parent && not (same_name child.name other.name) then None else Some NotSibling

abbrev pub cause_of_name : List Sibling → Sibling → List ℕ → Option Cause
cause_of_name all child n = cause_between child (find (λ other. same_name n other.name) all)

abbrev pub or_next : List ℕ → ℕ → Option Cause → Option BadScenario → Option BadScenario
or_next inner j None later = later
or_next inner j (Some cause) later = Some (at_element inner j (bad cause))

-- the first fault of the names under `before` or `after`
abbrev pub order_fault_from : List Sibling → Sibling → List ℕ → ℕ → List (List ℕ) → Option BadScenario
order_fault_from all child inner j [] = None
order_fault_from all child inner j (n ∷ ns) =
    or_next inner j (cause_of_name all child n) (order_fault_from all child inner (j + 1) ns)

abbrev pub order_fault : List Sibling → Sibling → List (List ℕ) → List (List ℕ) → Option BadScenario
order_fault all child before after =
    first_of (order_fault_from all child (codes "before") 0 before ∷ order_fault_from all child (codes "after") 0 after ∷ [])

-- a test of each element of a list under a key, in order
abbrev pub each_fault_from : {A : Type 0} → List ℕ → (A → Option BadScenario) → ℕ → List A → Option BadScenario
each_fault_from key test i [] = None
each_fault_from key test i (x ∷ xs) = first_of (option_map (at_element key i) (test x) ∷ each_fault_from key test (i + 1) xs ∷ [])

unfoldable pub siblings_fault : Scenario → Option BadScenario
siblings_fault s =
    first_of (
    each_fault_from (codes "group") (λ g. order_fault (siblings_of s) (group_sibling g) g.before g.after) 0 s.group ∷
    each_fault_from (codes "system") (λ y. order_fault (siblings_of s) (system_sibling y) y.before y.after) 0 s.system ∷
    [])

-- ---- spawns

-- the bytes that a row takes in the column of each type of a spawn
abbrev pub sizes_of : List TypeInfo → SpawnEntry → List ℕ
sizes_of registry p = map (λ part. column_size (type_at registry part.ty.0)) p.parts

abbrev pub spawn_fault : List TypeInfo → SpawnEntry → Option BadScenario
spawn_fault registry p = fault_if (capacity_of (sizes_of registry p) == 0) TooLarge

-- the first spawn with which the rows so far are too many
abbrev pub crowded_from : ℕ → ℕ → List SpawnEntry → Option BadScenario
crowded_from made i [] = None
crowded_from made i (p ∷ ps) =
    if nat_lt MOST_ENTITIES (made + p.count) then Some (at_element (codes "spawn") i (bad TooManyEntities))
    else crowded_from (made + p.count) (i + 1) ps

unfoldable pub spawns_fault : Scenario → Option BadScenario
spawns_fault s = first_of (each_fault_from (codes "spawn") (spawn_fault s.registry) 0 s.spawn ∷ crowded_from 0 0 s.spawn ∷ [])

-- ---- lookups

-- the system looks up a type that it writes
unfoldable pub lookup_fault : SystemEntry → Option BadScenario
lookup_fault y = fault_if (meets (set_of (looked_up_by y)) (set_of (written y))) LookupOfWritten

unfoldable pub lookups_fault : Scenario → Option BadScenario
lookups_fault s = each_fault_from (codes "system") lookup_fault 0 s.system

-- ---- events

abbrev pub label_of : EventAct → Option (List ℕ)
label_of (Operate c) = None
label_of (Load file label delay) = Some label
label_of (Unload n) = None

abbrev pub is_labelled : List ℕ → EventEntry → Bool
is_labelled n e = option_map_or (same_name n) (label_of e.act) false

-- a load's name is that of no earlier load, and what is unloaded is the name of some load
abbrev pub event_fault : List EventEntry → List EventEntry → EventAct → Option BadScenario
event_fault all earlier (Operate c) = None
event_fault all earlier (Load file label delay) =
    if list_any (is_labelled label) earlier then Some (below_key (codes "as") (bad DuplicateName)) else None
event_fault all earlier (Unload n) =
    if list_any (is_labelled n) all then None else Some (below_key (codes "unload") (bad UnknownName))

abbrev pub event_fault_from : List EventEntry → List EventEntry → ℕ → List EventEntry → Option BadScenario
event_fault_from all earlier i [] = None
event_fault_from all earlier i (e ∷ es) =
    first_of (option_map (at_element (codes "event") i) (event_fault all earlier e.act) ∷ event_fault_from all (e ∷ earlier) (i + 1) es ∷ [])

unfoldable pub events_fault : Scenario → Option BadScenario
events_fault s = event_fault_from s.event [] 0 s.event

-- ---- all of them

abbrev pub first_fault : Scenario → Option BadScenario
first_fault s =
    first_of (
    names_fault s ∷
    parents_fault s ∷
    siblings_fault s ∷
    spawns_fault s ∷
    lookups_fault s ∷
    events_fault s ∷
    [])
