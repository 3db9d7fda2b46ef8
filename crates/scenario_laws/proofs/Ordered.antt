-- The groups of a scenario that passes its checks can be ordered, and its plan has their order.
use Rattle.std.proofs.Common.{ℕ, ◌≡◌, ◌+◌, ◌-◌, ◌<◌, ◌≤◌, zero, suc, List, [], ◌∷◌, ◌++◌, Bool, true, false, cond, ◌||◌, Option, None, Some, Ok, Err, length, map, position, get_or, refl, sym, ap, ◌∙◌, subst, append-nil, append_assoc, if◌then◌else◌, inl, inr, arith}
use Rattle.std.specs.Prelude.{codes, unwrap_or}
use Rattle.std.specs.Option.{option_map}
use Rattle.std.specs.List.{list_any, position_from}
use Rattle.std.proofs.lemmas.Bool.{cases_lt}
use Rattle.std.proofs.lemmas.Iterator.Adapters.{position_from-zero}
use Rattle.std.proofs.lemmas.List.{length-append}
use Rattle.std.proofs.lemmas.List.Folds.{list_any-append}
use Rattle.ent_types.specs.Types.{same_name}
use Rattle.world_laws.proofs.Members.{length_map}
use Rattle.scenario_record.specs.declared.fault.BadScenario.{BadScenario}
use Rattle.scenario_record.specs.declared.fault.Cause.TheVariants.{Cycle, NotBuilt, UnknownName}
use Rattle.scenario_record.specs.declared.plan.Plan.{Plan}
use Rattle.scenario_record.specs.declared.record.GroupEntry.{GroupEntry}
use Rattle.scenario_record.specs.declared.record.Scenario.{Scenario}
use Rattle.scenario_record.specs.declared.record.SystemEntry.{SystemEntry}
use Rattle.scenario_record.specs.Faults.{bad}
use Rattle.scenario_record.specs.Readings.{Reading, unless}
use Rattle.scenario_faults.specs.Checks.{fault_at, root_groups, group_names, orphan_from, stray_from, names_fault, parents_fault, first_fault}
use Rattle.scenario_faults.proofs.FaultLemmas.{neither_of, none_at}
use Rattle.system_order.specs.declared.child.Child.{Child}
use Rattle.system_order.specs.Child.{child_at, no_child}
use Rattle.system_order.specs.Order.{first_cycle}
use Rattle.system_order.specs.Roots.{IsForest}
use Rattle.run_model.specs.Steps.{root_names, group_number, group_child, system_child, children_of, first_system, IsOrdered}
use Rattle.run_laws.proofs.Moments.{groups_first, length_children, length_steps}
use Rattle.scenario_check.specs.Planned.{at_child, cycle_fault, plan_of, ordered, planned, checked}
use Rattle.read_laws.proofs.Inversions.{whole_ok}
use Rattle.scenario_laws.proofs.Faults.{passed_ok, no_fault}

-- ---- the place of a name that is among the first names

module _ (p : List ℕ → Bool) where
  from_within : (n i : ℕ) (xs ys : List (List ℕ)) → i + length xs ≤ n → list_any p xs ≡ true → unwrap_or (position_from p i (xs ++ ys)) 1 < n
  from_within n i [] ys few is = absurd cc
  from_within n i (x ∷ xs) ys few is = by (p x) is (from_within n (i + 1) xs ys (omega (arith, few)))
    where
      by : (b : Bool) → (b || list_any p xs) ≡ true → (list_any p xs ≡ true → unwrap_or (position_from p (i + 1) (xs ++ ys)) 1 < n)
          → unwrap_or (cond b (Some i) (position_from p (i + 1) (xs ++ ys))) 1 < n
      by true is rest = omega (arith, few)
      by false is rest = rest is

  within : (xs ys : List (List ℕ)) → list_any p xs ≡ true → unwrap_or (position p (xs ++ ys)) 1 < length xs
  within xs ys is = subst (λ (o : Option ℕ). unwrap_or o 1 < length xs) (sym (position_from-zero p (xs ++ ys))) (from_within (length xs) 0 xs ys (omega arith) is)

-- ---- parents

-- each group has a parent among these names and those of the groups before it
abbrev HaveParents : List (List ℕ) → List GroupEntry → Type 0
HaveParents names [] = Unit {0}
HaveParents names (g ∷ gs) = (list_any (same_name g.parent) names ≡ true) × HaveParents (names ++ g.name ∷ []) gs

-- the names that are known so far, in another order
abbrev AreSame : List (List ℕ) → List (List ℕ) → Type 0
AreSame known names = (n : List ℕ) → list_any (same_name n) known ≡ list_any (same_name n) names

same_more : (known names : List (List ℕ)) (m : List ℕ) → AreSame known names → AreSame (m ∷ known) (names ++ m ∷ [])
same_more known names m same n =
    ap (λ b. same_name n m || b) (same n) ∙ (swap (same_name n m) (list_any (same_name n) names) ∙ sym (list_any-append (same_name n) names (m ∷ [])))
  where
    swap : (a b : Bool) → (a || b) ≡ (b || (a || false))
    swap true true = refl
    swap true false = refl
    swap false true = refl
    swap false false = refl

no_orphan : (known names : List (List ℕ)) (i : ℕ) (gs : List GroupEntry) → AreSame known names → orphan_from known i gs ≡ None → HaveParents names gs
no_orphan known names i [] same none = tt
no_orphan known names i (g ∷ gs) same none =
    by (list_any (same_name g.parent) known) (same g.parent) none (no_orphan (g.name ∷ known) (names ++ g.name ∷ []) (i + 1) gs (same_more known names g.name same))
  where
    by : (b : Bool) → b ≡ list_any (same_name g.parent) names → cond b (orphan_from (g.name ∷ known) (i + 1) gs) (Some i) ≡ None
        → (orphan_from (g.name ∷ known) (i + 1) gs ≡ None → HaveParents (names ++ g.name ∷ []) gs)
        → (list_any (same_name g.parent) names ≡ true) × HaveParents (names ++ g.name ∷ []) gs
    by true is none rest = (sym is, rest none)
    by false is none rest = absurd cc

-- each system has a group among these names
abbrev HaveGroups : List (List ℕ) → List SystemEntry → Type 0
HaveGroups names [] = Unit {0}
HaveGroups names (y ∷ ys) = (list_any (same_name y.group) names ≡ true) × HaveGroups names ys

no_stray : (names : List (List ℕ)) (i : ℕ) (ys : List SystemEntry) → stray_from names i ys ≡ None → HaveGroups names ys
no_stray names i [] none = tt
no_stray names i (y ∷ ys) none = by (list_any (same_name y.group) names) refl none (no_stray names (i + 1) ys)
  where
    by : (b : Bool) → list_any (same_name y.group) names ≡ b → cond b (stray_from names (i + 1) ys) (Some i) ≡ None
        → (stray_from names (i + 1) ys ≡ None → HaveGroups names ys) → (list_any (same_name y.group) names ≡ true) × HaveGroups names ys
    by true is none rest = (is, rest none)
    by false is none rest = absurd cc

module _ (s : Scenario) where
  -- the parent of a group is a root or an earlier group
  group_below : (first : List (List ℕ)) (gs : List GroupEntry) (cs : List Child) (k : ℕ) → root_names ++ group_names s ≡ first ++ map (λ g. g.name) gs
      → HaveParents first gs → k < length gs → (get_or (map (group_child s) gs ++ cs) k no_child).parent < length first + k
  unfolding group_number
  group_below first [] cs k is have h = absurd (omega (arith, h))
  group_below first (g ∷ gs) cs zero is have h =
      let low = within (same_name g.parent) first (map (λ (x : GroupEntry). x.name) (g ∷ gs)) have.0 in
      let here = ap (λ ns. unwrap_or (position (same_name g.parent) ns) 1) is in
      omega (arith, low, here)
  group_below first (g ∷ gs) cs (suc k) is have h =
      let low = group_below (first ++ g.name ∷ []) gs cs k (is ∙ sym (append_assoc first (g.name ∷ []) (map (λ (x : GroupEntry). x.name) gs))) have.1 (omega (arith, h)) in
      let longer = length-append first (g.name ∷ []) in
      omega (arith, low, longer)

  -- the group of a system is a root or a declared one
  system_below : (ys : List SystemEntry) (k : ℕ) → HaveGroups (root_names ++ group_names s) ys → k < length ys
      → (get_or (map (system_child s) ys) k no_child).parent < first_system s
  unfolding group_number
  system_below [] k have h = absurd (omega (arith, h))
  system_below (y ∷ ys) zero have h =
      let low = within (same_name y.group) (root_names ++ group_names s) [] have.0 in
      let here = ap (λ ns. unwrap_or (position (same_name y.group) ns) 1) (append-nil (root_names ++ group_names s)) in
      let count = length_map (λ (g : GroupEntry). g.name) s.group in
      omega (arith, low, here, count)
  system_below (y ∷ ys) (suc k) have h = system_below ys k have.1 (omega (arith, h))

  past_groups : (gs : List GroupEntry) (cs : List Child) (k : ℕ) → length gs ≤ k → get_or (map (group_child s) gs ++ cs) k no_child ≡ get_or cs (k - length gs) no_child
  past_groups [] cs k h = ap (λ n. get_or cs n no_child) (let e : k ≡ k - 0 = omega arith in e)
  past_groups (g ∷ gs) cs zero h = absurd (omega (arith, h))
  past_groups (g ∷ gs) cs (suc k) h =
      past_groups gs cs k (omega (arith, h)) ∙ ap (λ n. get_or cs n no_child) (let e : k - length gs ≡ suc k - length (g ∷ gs) = omega arith in e)

  module _ (groups : HaveParents root_names s.group) (systems : HaveGroups (root_names ++ group_names s) s.system) where
    record IsBelow (n : ℕ) : Type 0 where
      earlier : (child_at (children_of s) n).parent < n
      group : (child_at (children_of s) n).parent < first_system s

    parent_at : (k : ℕ) → suc (suc (suc k)) < length (children_of s) → IsBelow (suc (suc (suc k)))
    unfolding children_of
    parent_at k h =
        let systems_at = map (system_child s) s.system in
        let all = length_children s in
        let here : (child_at (children_of s) (suc (suc (suc k)))).parent ≡ (get_or (map (group_child s) s.group ++ systems_at) k no_child).parent = refl in
        elim (cases_lt k (length s.group)) [
          | inl early ↦
              let low = group_below root_names s.group systems_at k refl groups early in
              record { earlier = omega (arith, here, low); group = omega (arith, here, low, early) }
          | inr late ↦
              let low = system_below s.system (k - length s.group) systems (omega (arith, h, all, late)) in
              let is = ap (λ (c : Child). c.parent) (past_groups s.group systems_at k late) in
              record { earlier = omega (arith, here, low, is, late); group = omega (arith, here, low, is) }
        ]

    below : (n : ℕ) → 3 ≤ n → n < length (children_of s) → IsBelow n
    below zero low high = absurd (omega (arith, low))
    below (suc zero) low high = absurd (omega (arith, low))
    below (suc (suc zero)) low high = absurd (omega (arith, low))
    below (suc (suc (suc k))) low high = parent_at k high

    forest : IsForest (children_of s)
    forest = record {
      roots = λ n h. groups_first s n (omega (arith, h));
      earlier = λ n low high. (below n low high).earlier;
      groups = λ n low high. groups_first s (child_at (children_of s) n).parent (below n low high).group;
    }

-- ---- what passes

is_forest : (s : Scenario) → first_fault s ≡ None → IsForest (children_of s)
unfolding parents_fault
is_forest s none =
    let after_names = neither_of (names_fault s) _ none in
    let parents = (neither_of (parents_fault s) _ after_names.1).0 in
    let orphan = orphan_from root_groups 0 s.group in
    let stray = stray_from (root_groups ++ group_names s) 0 s.system in
    let both = neither_of (fault_at (codes "group") (codes "parent") UnknownName orphan) (fault_at (codes "system") (codes "group") UnknownName stray ∷ []) parents in
    let groups = none_at (codes "group") (codes "parent") UnknownName orphan both.0 in
    let systems = none_at (codes "system") (codes "group") UnknownName stray (neither_of (fault_at (codes "system") (codes "group") UnknownName stray) [] both.1).0 in
    forest s (no_orphan root_groups root_names 0 s.group (λ n. refl) groups) (no_stray (root_names ++ group_names s) 0 s.system systems)

passed_same : (first : Option BadScenario) (next : Reading Plan) (p : Plan) → unless first next ≡ Ok p → next ≡ Ok p
passed_same None next p is = is
passed_same (Some f) next p is = absurd cc

is_ordered_plan : (s : Scenario) (p : Plan) → checked s ≡ Ok p → ordered s ≡ Ok p
unfolding checked
is_ordered_plan s p is = by s.placed (passed_same (first_fault s) (planned s) p (whole_ok (unless (first_fault s) (planned s)) p is))
  where
    by : (b : Bool) → (if b then Err (bad NotBuilt) else ordered s) ≡ Ok p → ordered s ≡ Ok p
    by true is = absurd cc
    by false is = is

no_cycle : (s : Scenario) → cycle_fault s ≡ None → first_cycle (children_of s) ≡ None
unfolding cycle_fault
no_cycle s none = by (first_cycle (children_of s)) none
  where
    by : (o : Option ℕ) → option_map (λ child. at_child s child (bad Cycle)) o ≡ None → o ≡ None
    by None is = refl
    by (Some child) is = absurd cc

pub is_ordered : (s : Scenario) (p : Plan) → checked s ≡ Ok p → IsOrdered s
is_ordered s p is = record {
  forest = is_forest s (no_fault s p is);
  acyclic = no_cycle s (passed_ok (cycle_fault s) (Ok (plan_of s)) p (is_ordered_plan s p is));
}

pub is_planned : (s : Scenario) (p : Plan) → checked s ≡ Ok p → p ≡ plan_of s
is_planned s p is = let same : Ok (plan_of s) ≡ Ok p = passed_same (cycle_fault s) (Ok (plan_of s)) p (is_ordered_plan s p is) in cc

pub has_few_steps : (s : Scenario) (p : Plan) → checked s ≡ Ok p → length p.steps ≤ length s.system + 6
has_few_steps s p is =
    let few = length_steps s (is_ordered s p is) in
    subst (λ (q : Plan). length q.steps ≤ length s.system + 6) (sym (is_planned s p is)) (omega (arith, few))
