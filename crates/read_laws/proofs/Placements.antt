-- The names and the places of groups and systems, as they are read.
use Rattle.std.proofs.Common.{ℕ, ◌≡◌, ◌≤◌, List, [], ◌∷◌, true, false, Ok, length, refl, subst, arith}
use Rattle.std.specs.Prelude.{codes}
use Rattle.toml.specs.Data.{Data, Members}
use Rattle.ent_types.specs.declared.limits.TheConstants.{MOST_FRAMES, MOST_ORDER_NAMES}
use Rattle.ent_types.specs.Names.{is_name}
use Rattle.scenario_record.specs.declared.fault.Cause.TheVariants.{BadShape}
use Rattle.scenario_record.specs.declared.record.GroupEntry.{GroupEntry}
use Rattle.scenario_record.specs.Lawful.{are_names, IsLawfulPlacement, IsLawfulGroup}
use Rattle.scenario_tables.specs.ReadKeys.{known_table, required, optional, number, truth, name, names}
use Rattle.scenario_tables.specs.ReadGroups.{placement, in_two_bands, default_group, group}
use Rattle.scenario_tables.specs.ReadSystems.{heading}
use Rattle.scenario_tables.specs.Parts.{Placement, Heading}
use Rattle.read_laws.proofs.Inversions.{then_ok, ok_same, fault_ok, number_ok, required_found, optional_ok, optional_each_ok, optional_up_to_ok}
use Rattle.read_laws.proofs.Lists.{all_from_each}
use Rattle.read_laws.proofs.TypeLists.{name_ok}

-- ---- names and places

pub record ArePlaceNames (b : List (List ℕ)) : Type 0 where
  pub few : length b ≤ MOST_ORDER_NAMES
  pub lawful : are_names b ≡ true

place_names : (key : List ℕ) (ms : Members) (b : List (List ℕ)) → optional key [] names ms ≡ Ok b → ArePlaceNames b
place_names key ms b is = record {
  few = optional_up_to_ok key MOST_ORDER_NAMES name ms b is;
  lawful = all_from_each is_name b (optional_each_ok (λ n. is_name n ≡ true) key MOST_ORDER_NAMES name ms b name_ok is);
}

pub record IsPlaced (p : Placement) : Type 0 where
  pub before : ArePlaceNames p.before
  pub after : ArePlaceNames p.after

placement_ok : (ms : Members) (p : Placement) → placement ms ≡ Ok p → IsPlaced p
placement_ok ms p is =
    let b = then_ok _ (optional (codes "before") [] names ms) p is in
    let a = then_ok _ (optional (codes "after") [] names ms) p b.2 in
    let f = then_ok _ (optional (codes "first") false truth ms) p a.2 in
    let l = then_ok _ (optional (codes "last") false truth ms) p f.2 in
    subst IsPlaced (ok_same _ p l.2) (record {
      before = place_names (codes "before") ms b.0 b.1;
      after = place_names (codes "after") ms a.0 a.1;
    })

pub lawful_placement : (p : Placement) → IsPlaced p → in_two_bands p ≡ false → IsLawfulPlacement p.before p.after p.first p.last
lawful_placement p h marks = record {
  before_few = h.before.few;
  before_names = h.before.lawful;
  after_few = h.after.few;
  after_names = h.after.lawful;
  marks = marks;
}

required_name : (key : List ℕ) (ms : Members) (n : List ℕ) → required key name ms ≡ Ok n → is_name n ≡ true
required_name key ms n is = let found = required_found key name ms n is in name_ok found.0 n found.1

group_name : (key : List ℕ) (ms : Members) (n : List ℕ) → optional key default_group name ms ≡ Ok n → is_name n ≡ true
group_name key ms n is = optional_ok (λ k. is_name k ≡ true) key default_group name ms n refl (λ d got. name_ok d n got) is

-- ---- groups

pub group_ok : (d : Data) (g : GroupEntry) → group d ≡ Ok g → IsLawfulGroup g
unfolding group
group_ok d g is =
    let ms = then_ok _ (known_table (codes "name" ∷ codes "parent" ∷ codes "before" ∷ codes "after" ∷ codes "first" ∷ codes "last" ∷ []) d) g is in
    let n = then_ok _ (required (codes "name") name ms.0) g ms.2 in
    let parent = then_ok _ (optional (codes "parent") default_group name ms.0) g n.2 in
    let p = then_ok _ (placement ms.0) g parent.2 in
    let bands = fault_ok (in_two_bands p.0) BadShape _ g p.2 in
    subst IsLawfulGroup (ok_same _ g bands.1) (record {
      name = required_name (codes "name") ms.0 n.0 n.1;
      parent = group_name (codes "parent") ms.0 parent.0 parent.1;
      placement = lawful_placement p.0 (placement_ok ms.0 p.0 p.1) bands.0;
    })

-- ---- the heading of a system

pub record IsLawfulHeading (h : Heading) : Type 0 where
  pub name : is_name h.name ≡ true
  pub group : is_name h.group ≡ true
  pub placement : IsPlaced h.placement
  pub every : (1 ≤ h.every) × (h.every ≤ MOST_FRAMES)

pub heading_ok : (ms : Members) (h : Heading) → heading ms ≡ Ok h → IsLawfulHeading h
heading_ok ms h is =
    let n = then_ok _ (required (codes "name") name ms) h is in
    let g = then_ok _ (optional (codes "group") default_group name ms) h n.2 in
    let p = then_ok _ (placement ms) h g.2 in
    let e = then_ok _ (optional (codes "every") 1 (number 1 MOST_FRAMES) ms) h p.2 in
    subst IsLawfulHeading (ok_same _ h e.2) (record {
      name = required_name (codes "name") ms n.0 n.1;
      group = group_name (codes "group") ms g.0 g.1;
      placement = placement_ok ms p.0 p.1;
      every = optional_ok (λ k. (1 ≤ k) × (k ≤ MOST_FRAMES)) (codes "every") 1 (number 1 MOST_FRAMES) ms e.0 (omega arith, omega arith)
          (λ d got. number_ok 1 MOST_FRAMES d e.0 got) e.1;
    })
