-- The steps of a frame of a scenario: its systems in the order of their groups, between the points.
use Rattle.std.specs.Prelude.{◌≡◌, ℕ, ◌+◌, ◌-◌, Bool, true, false, if◌then◌else◌, List, [], ◌∷◌, ◌++◌, length, map, position, unwrap_or, codes, Option, None, option_map}
use Rattle.std.specs.List.{filter_map}
use Rattle.ent_types.specs.declared.point.Point.TheVariants.{BeginInitialization, EndInitialization, BeginSimulation, EndSimulation, BeginPresentation}
use Rattle.ent_types.specs.Types.{same_name}
use Rattle.scenario_record.specs.declared.plan.Step.{Step}
use Rattle.scenario_record.specs.declared.plan.Step.TheVariants.{Events, Play, Run}
use Rattle.scenario_record.specs.declared.record.GroupEntry.{GroupEntry}
use Rattle.scenario_record.specs.declared.record.Scenario.{Scenario}
use Rattle.scenario_record.specs.declared.record.SystemEntry.{SystemEntry}
use Rattle.world_model.specs.Members.{In}
use Rattle.system_order.specs.declared.child.Band.{Band}
use Rattle.system_order.specs.declared.child.Band.TheVariants.{First, Middle, Last}
use Rattle.system_order.specs.declared.child.Child.{Child}
use Rattle.system_order.specs.Order.{first_cycle}
use Rattle.system_order.specs.Roots.{systems_below, IsForest}

-- ---- the children of groups: the three roots, then the declared groups, then the systems

-- the roots, by their numbers among the children
abbrev pub root_names : List (List ℕ)
root_names = codes "Initialization" ∷ codes "Simulation" ∷ codes "Presentation" ∷ []

-- The number of the group with a name. A name that no group has reads as Simulation, which is the default.
unfoldable pub group_number : List GroupEntry → List ℕ → ℕ
group_number groups name = unwrap_or (position (same_name name) (root_names ++ map (λ g. g.name) groups)) 1

-- the number of the group or system with a name, if there is one; a root has no siblings
abbrev pub child_named : Scenario → List ℕ → Option ℕ
child_named s name =
    option_map (λ place. 3 + place) (position (same_name name) (map (λ g. g.name) s.group ++ map (λ y. y.name) s.system))

-- the numbers of the siblings that a child names
abbrev pub children_named : Scenario → List (List ℕ) → List ℕ
children_named s names = filter_map (child_named s) names

-- the band of a child, by its marks
abbrev pub band_of : Bool → Bool → Band
band_of first last = if first then First else if last then Last else Middle

abbrev pub root : Child
root = record { parent = 0; is_group = true; band = Middle; before = []; after = [] }

abbrev pub child_in : Scenario → Bool → List ℕ → Bool → Bool → List (List ℕ) → List (List ℕ) → Child
child_in s is_group parent first last before after = record {
  parent = group_number s.group parent;
  is_group = is_group;
  band = band_of first last;
  before = children_named s before;
  after = children_named s after;
}

abbrev pub group_child : Scenario → GroupEntry → Child
group_child s g = child_in s true g.parent g.first g.last g.before g.after

abbrev pub system_child : Scenario → SystemEntry → Child
system_child s y = child_in s false y.group y.first y.last y.before y.after

unfoldable pub children_of : Scenario → List Child
children_of s = root ∷ root ∷ root ∷ (map (group_child s) s.group ++ map (system_child s) s.system)

-- the number of the first system among the children
abbrev pub first_system : Scenario → ℕ
first_system s = 3 + length s.group

-- The groups of a scenario can be ordered: the parent of each is a root or an earlier group, and no child precedes itself
-- through a chain of its siblings.
pub record IsOrdered (s : Scenario) : Type 0 where
  pub forest : IsForest (children_of s)
  pub acyclic : first_cycle (children_of s) ≡ None

-- ---- steps

-- the numbers of the systems below a root, in their order
abbrev pub numbers_below : Scenario → ℕ → List ℕ
numbers_below s number = map (λ child. child - first_system s) (systems_below (children_of s) number)

abbrev pub runs_below : Scenario → ℕ → List Step
runs_below s number = map (λ n. Run n) (numbers_below s number)

-- The steps of a frame: the events, the two points around the systems of Initialization, the two points around those of
-- Simulation, and the point before those of Presentation.
unfoldable pub steps_of : Scenario → List Step
steps_of s =
    Events ∷ Play BeginInitialization ∷ (runs_below s 0 ++ (Play EndInitialization ∷
    Play BeginSimulation ∷ (runs_below s 1 ++ (Play EndSimulation ∷
    Play BeginPresentation ∷ runs_below s 2))))

-- ---- scenarios without groups

-- a system that no key places: a child of Simulation, among its siblings in declared order
pub record IsUnplaced (y : SystemEntry) : Type 0 where
  pub group : y.group ≡ codes "Simulation"
  pub before : y.before ≡ []
  pub after : y.after ≡ []
  pub first : y.first ≡ false
  pub last : y.last ≡ false

-- all systems are those of Simulation, in declared order
pub record AreUnplaced (s : Scenario) : Type 0 where
  pub groups : s.group ≡ []
  pub systems : (y : SystemEntry) → In y s.system → IsUnplaced y
