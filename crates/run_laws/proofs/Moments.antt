-- How many moments a run has, and that the steps of a frame have each system once.
use Rattle.std.proofs.Common.{◌≡◌, ℕ, ◌+◌, ◌*◌, ◌-◌, ◌<◌, ◌≤◌, zero, suc, inl, inr, Bool, true, false, not, ◌&&◌, if◌then◌else◌, List, [], ◌∷◌, ◌++◌, length, map, take, Option, Some, None, get_or, refl, sym, ap, ◌∙◌, subst, slice_get, arith}
use Rattle.std.specs.List.{flat_map, range_with_len}
use Rattle.std.proofs.lemmas.Bool.{and_parts, cases_eq, cases_lt, eqb-true, ltb-true}
use Rattle.std.proofs.lemmas.List.{length-append}
use Rattle.std.proofs.lemmas.List.FromFn.{length-range_with_len}
use Rattle.ent_types.specs.declared.point.Point.TheVariants.{EndInitialization, BeginSimulation, EndSimulation, BeginPresentation}
use Rattle.system_version.specs.Versions.{IsMoment}
use Rattle.world_model.specs.Members.{In, AreDistinct}
use Rattle.world_model.specs.World.{capacity}
use Rattle.world_laws.proofs.Members.{in_map, length_map}
use Rattle.scenario_record.specs.declared.plan.Step.{Step}
use Rattle.scenario_record.specs.declared.plan.Step.TheVariants.{Events, Play, Run}
use Rattle.scenario_record.specs.declared.record.GroupEntry.{GroupEntry}
use Rattle.scenario_record.specs.declared.record.Scenario.{Scenario}
use Rattle.scenario_record.specs.declared.record.SystemEntry.{SystemEntry}
use Rattle.system_order.specs.declared.child.Child.{Child}
use Rattle.system_order.specs.Child.{child_at, no_child}
use Rattle.system_order.specs.Roots.{systems_below, systems_by_root, is_system_below, root_of}
use Rattle.system_order.proofs.ByRoot.{once_below_its_root}
use Rattle.system_order.proofs.Tallies.{same_yes, same_no, tally, tally-append, count_is_tally}
use Rattle.run_model.specs.Clock.{moments}
use Rattle.run_model.specs.Loads.{SceneFile}
use Rattle.run_model.specs.Tasks.{Task, FrameStep, Runs, runs_in, run_step, frame_steps_of, frame_tasks, tasks_of}
use Rattle.run_model.specs.Frames.{Line, State, Course, Goes, Stops, started, course_after, course_after_all}
use Rattle.run_model.specs.Steps.{children_of, group_child, system_child, first_system, numbers_below, runs_below, steps_of, IsOrdered}
use Rattle.run_model.specs.FrameParts.{system_numbers}
use Rattle.run_model.specs.Outcome.{first_moment, tasks_of_run, course_of_first}
use Rattle.run_laws.specs.Lawful.{OnGoes}
use Rattle.run_laws.proofs.Steady.{IsAfter, task_steady, spawned_moment}

-- ---- numbers that are in a list at most once

in_tally : (n : ℕ) (xs : List ℕ) → In n xs → 1 ≤ tally n xs
in_tally n [] i = absurd i
in_tally n (x ∷ xs) (inl e) = let a = same_yes x n (sym e) in omega (arith, a)
in_tally n (x ∷ xs) (inr i) = let a = in_tally n xs i in omega (arith, a)

-- how often the numbers below a bound are in a list
abbrev total : ℕ → List ℕ → ℕ
total zero xs = 0
total (suc n) xs = tally n xs + total n xs

total_nil : (k : ℕ) → total k [] ≡ 0
total_nil zero = refl
total_nil (suc k) = let a = total_nil k in omega (arith, a)

total_past : (k y : ℕ) (ys : List ℕ) → k ≤ y → total k (y ∷ ys) ≡ total k ys
total_past zero y ys h = refl
total_past (suc k) y ys h =
    let a = same_no y k (λ e. omega (arith, e, h)) in
    let b = total_past k y ys (omega (arith, h)) in
    omega (arith, a, b)

total_within : (k y : ℕ) (ys : List ℕ) → y < k → total k (y ∷ ys) ≡ 1 + total k ys
total_within zero y ys h = absurd (omega (arith, h))
total_within (suc k) y ys h =
    elim (cases_eq y k) [
      | inl e ↦ omega (arith, same_yes y k e, total_past k y ys (omega (arith, e)))
      | inr apart ↦ omega (arith, same_no y k apart, total_within k y ys (omega (arith, h, apart)))
    ]

length_total : (k : ℕ) (xs : List ℕ) → ((n : ℕ) → In n xs → n < k) → length xs ≡ total k xs
length_total k [] h = sym (total_nil k)
length_total k (x ∷ xs) h =
    omega (arith, total_within k x xs (h x (inl refl)), length_total k xs (λ n i. h n (inr i)))

total_none : (k : ℕ) (xs : List ℕ) → ((n : ℕ) → n < k → tally n xs ≡ 0) → total k xs ≡ 0
total_none zero xs h = refl
total_none (suc k) xs h = omega (arith, h k (omega arith), total_none k xs (λ n l. h n (omega (arith, l))))

total_few : (first k : ℕ) (xs : List ℕ) → ((n : ℕ) → n < first → tally n xs ≡ 0) → ((n : ℕ) → tally n xs ≤ 1) → first ≤ k → total k xs + first ≤ k
total_few first zero xs none once h = omega (arith, h)
total_few first (suc k) xs none once h =
    elim (cases_lt k first) [
      | inl below ↦ omega (arith, h, below, total_none (suc k) xs (λ n l. none n (omega (arith, l, below))))
      | inr past ↦ omega (arith, once k, total_few first k xs none once (omega (arith, past)))
    ]

-- less a number that is at most each of them, they stay distinct
distinct_less : (first : ℕ) (xs : List ℕ) → ((n : ℕ) → tally n xs ≤ 1) → ((n : ℕ) → In n xs → first ≤ n) → AreDistinct (map (λ x. x - first) xs)
distinct_less first [] once above = tt
distinct_less first (x ∷ xs) once above = (
  (λ i. let (y, j, e) = in_map (λ z. z - first) (x - first) xs i in
      let low = above x (inl refl) in
      let high = above y (inr j) in
      let is : y ≡ x = omega (arith, e, low, high) in
      let two = in_tally x xs (subst (λ z. In z xs) is j) in
      let one = once x in
      let own = same_yes x x refl in
      absurd (omega (arith, two, one, own))),
  distinct_less first xs (λ n. let a = once n in omega (arith, a)) (λ n i. above n (inr i)),
)

-- ---- the systems below the roots

module _ (s : Scenario) where
  -- the roots and the declared groups come first
  group_at : (gs : List GroupEntry) (cs : List Child) (k : ℕ) → k < length gs → (get_or (map (group_child s) gs ++ cs) k no_child).is_group ≡ true
  group_at [] cs k h = absurd (omega (arith, h))
  group_at (g ∷ gs) cs zero h = refl
  group_at (g ∷ gs) cs (suc k) h = group_at gs cs k (omega (arith, h))

  pub groups_first : (n : ℕ) → n < first_system s → (child_at (children_of s) n).is_group ≡ true
  unfolding children_of
  groups_first zero h = refl
  groups_first (suc zero) h = refl
  groups_first (suc (suc zero)) h = refl
  groups_first (suc (suc (suc k))) h = group_at s.group (map (system_child s) s.system) k (omega (arith, h))

  pub length_children : length (children_of s) ≡ first_system s + length s.system
  unfolding children_of
  length_children =
      let a = length-append (map (group_child s) s.group) (map (system_child s) s.system) in
      let b = length_map (group_child s) s.group in
      let c = length_map (system_child s) s.system in
      omega (arith, a, b, c)

module _ (s : Scenario) (ordered : IsOrdered s) where
  abbrev children : List Child
  children = children_of s

  record IsPlaced (root n : ℕ) : Type 0 where
    within : n < length children
    above : first_system s ≤ n
    below : root_of children n ≡ root

  placed_is : (root n : ℕ) → is_system_below children root n ≡ true → IsPlaced root n
  placed_is root n h =
      let outer = and_parts _ _ h in
      let inner = and_parts _ _ outer.0 in
      record {
        within = ltb-true n (length children) inner.0;
        above = elim (cases_lt n (first_system s)) [
          | inl below ↦ (let g : not true ≡ true = sym (ap not (groups_first s n below)) ∙ inner.1 in absurd (cc))
          | inr past ↦ past
        ];
        below = eqb-true (root_of children n) root outer.1;
      }

  abbrev below : ℕ → List ℕ
  below root = systems_below children root

  once_below : (root n : ℕ) → root < 3 → tally n (below root) ≡ (if is_system_below children root n then 1 else 0)
  once_below root n h = sym (count_is_tally n (below root)) ∙ once_below_its_root children ordered.forest ordered.acyclic root n h

  -- a number is below at most one root
  one_root : (n : ℕ) (a b c : Bool) → (a ≡ true → root_of children n ≡ 0) → (b ≡ true → root_of children n ≡ 1) → (c ≡ true → root_of children n ≡ 2)
      → (if a then 1 else 0) + (if b then 1 else 0) + (if c then 1 else 0) ≤ 1
  one_root n true true c x y z = absurd (let p = x refl in let q = y refl in omega (arith, p, q))
  one_root n true false true x y z = absurd (let p = x refl in let q = z refl in omega (arith, p, q))
  one_root n true false false x y z = omega arith
  one_root n false true true x y z = absurd (let p = y refl in let q = z refl in omega (arith, p, q))
  one_root n false true false x y z = omega arith
  one_root n false false true x y z = omega arith
  one_root n false false false x y z = omega arith

  all_below : (n : ℕ) → tally n (systems_by_root children) ≡ tally n (below 0) + tally n (below 1) + tally n (below 2)
  all_below n = tally-append n (below 0 ++ below 1) (below 2) ∙ ap (λ m. m + tally n (below 2)) (tally-append n (below 0) (below 1))

  at_most_once : (n : ℕ) → tally n (systems_by_root children) ≤ 1
  at_most_once n =
      let sum = all_below n in
      let a = once_below 0 n (omega arith) in
      let b = once_below 1 n (omega arith) in
      let c = once_below 2 n (omega arith) in
      let one = one_root n (is_system_below children 0 n) (is_system_below children 1 n) (is_system_below children 2 n)
      (λ h. (placed_is 0 n h).below) (λ h. (placed_is 1 n h).below) (λ h. (placed_is 2 n h).below) in
      omega (arith, sum, a, b, c, one)

  -- a number that is no system isn't there
  no_system : (n : ℕ) → ((root : ℕ) → IsPlaced root n → ⊥) → tally n (systems_by_root children) ≡ 0
  no_system n none =
      let sum = all_below n in
      let a = zero_at 0 (omega arith) in
      let b = zero_at 1 (omega arith) in
      let c = zero_at 2 (omega arith) in
      omega (arith, sum, a, b, c)
    where
      by : (root : ℕ) (b : Bool) → is_system_below children root n ≡ b → (let count : ℕ = if b then 1 else 0 in count) ≡ 0
      by root true e = absurd (none root (placed_is root n e))
      by root false e = refl

      zero_at : (root : ℕ) → root < 3 → tally n (below root) ≡ 0
      zero_at root h = once_below root n h ∙ by root (is_system_below children root n) refl

  none_early : (n : ℕ) → n < first_system s → tally n (systems_by_root children) ≡ 0
  none_early n h = no_system n (λ root p. let a = p.above in absurd (omega (arith, a, h)))

  member_above : (n : ℕ) → In n (systems_by_root children) → first_system s ≤ n
  member_above n i =
      elim (cases_lt n (first_system s)) [
        | inl early ↦ absurd (omega (arith, in_tally n (systems_by_root children) i, none_early n early))
        | inr past ↦ past
      ]

  member_within : (n : ℕ) → In n (systems_by_root children) → n < length children
  member_within n i =
      elim (cases_lt n (length children)) [
        | inl within ↦ within
        | inr past ↦ absurd (omega (arith, in_tally n (systems_by_root children) i, no_system n (λ root p. let a = p.within in absurd (omega (arith, a, past)))))
      ]

  few_below : length (systems_by_root children) ≤ length s.system
  few_below =
      let all = length_total (length children) (systems_by_root children) member_within in
      let l = length_children s in
      let few = total_few (first_system s) (length children) (systems_by_root children) none_early at_most_once (omega (arith, l)) in
      omega (arith, all, l, few)

  -- ---- the steps

  abbrev less : ℕ → ℕ
  less child = child - first_system s

  run_numbers : (ns : List ℕ) (steps : List Step) → system_numbers (map (λ n. Run n) ns ++ steps) ≡ ns ++ system_numbers steps
  run_numbers [] steps = refl
  run_numbers (n ∷ ns) steps = ap (λ ms. n ∷ ms) (run_numbers ns steps)

  last_numbers : (ns : List ℕ) → system_numbers (map (λ n. Run n) ns) ≡ ns
  last_numbers [] = refl
  last_numbers (n ∷ ns) = ap (λ ms. n ∷ ms) (last_numbers ns)

  map_more : (xs ys : List ℕ) → map less (xs ++ ys) ≡ map less xs ++ map less ys
  map_more [] ys = refl
  map_more (x ∷ xs) ys = ap (λ zs. less x ∷ zs) (map_more xs ys)

  numbers_of_steps : system_numbers (steps_of s) ≡ map less (below 0) ++ (map less (below 1) ++ map less (below 2))
  unfolding steps_of
  numbers_of_steps =
      run_numbers (numbers_below s 0) _
      ∙ ap (λ ns. numbers_below s 0 ++ ns) (run_numbers (numbers_below s 1) _ ∙ ap (λ ns. numbers_below s 1 ++ ns) (last_numbers (numbers_below s 2)))

  numbers_are : map less (systems_by_root children) ≡ map less (below 0) ++ (map less (below 1) ++ map less (below 2))
  numbers_are =
      map_more (below 0 ++ below 1) (below 2)
      ∙ (ap (λ xs. xs ++ map less (below 2)) (map_more (below 0) (below 1)) ∙ assoc (map less (below 0)) (map less (below 1)) (map less (below 2)))
    where
      assoc : (xs ys zs : List ℕ) → (xs ++ ys) ++ zs ≡ xs ++ (ys ++ zs)
      assoc [] ys zs = refl
      assoc (x ∷ xs) ys zs = ap (λ us. x ∷ us) (assoc xs ys zs)

  -- the steps of a frame have no system twice
  pub steps_are_distinct : AreDistinct (system_numbers (steps_of s))
  steps_are_distinct =
      subst AreDistinct (numbers_are ∙ sym numbers_of_steps) (distinct_less (first_system s) (systems_by_root children) at_most_once member_above)

  length_runs : (root : ℕ) → length (runs_below s root) ≡ length (below root)
  length_runs root = length_map (λ n. Run n) (numbers_below s root) ∙ length_map less (below root)

  pub length_steps : length (steps_of s) ≤ 6 + length s.system
  unfolding steps_of
  length_steps =
      let a = length_runs 0 in
      let b = length_runs 1 in
      let c = length_runs 2 in
      let two = length-append (below 0) (below 1) in
      let three = length-append (below 0 ++ below 1) (below 2) in
      let few = few_below in
      let last : List Step = Play EndSimulation ∷ Play BeginPresentation ∷ runs_below s 2 in
      let middle : List Step = Play EndInitialization ∷ Play BeginSimulation ∷ (runs_below s 1 ++ last) in
      let inner = length-append (runs_below s 1) last in
      let outer = length-append (runs_below s 0) middle in
      omega (arith, a, b, c, two, three, few, inner, outer)

-- ---- tasks

module _ (files : List ℕ → SceneFile) (s : Scenario) where
  one_or_none : (d : FrameStep) (b : Bool) → length (if b then d ∷ [] else []) ≤ 1
  one_or_none d true = omega arith
  one_or_none d false = omega arith

  one_step : (frame : ℕ) (step : Step) → length (frame_steps_of files s frame step) ≤ 1
  one_step frame Events = omega arith
  one_step frame (Play point) = omega arith
  one_step frame (Run n) = at (slice_get s.system n)
    where
      at : (o : Option SystemEntry) → length (run_step files s frame n o) ≤ 1
      at None = omega arith
      at (Some y) = one_or_none (Runs n y) (runs_in frame y)

  few_steps : (frame : ℕ) (steps : List Step) → length (flat_map (frame_steps_of files s frame) steps) ≤ length steps
  few_steps frame [] = omega arith
  few_steps frame (x ∷ xs) =
      let a = one_step frame x in
      let b = few_steps frame xs in
      let c = length-append (frame_steps_of files s frame x) (flat_map (frame_steps_of files s frame) xs) in
      omega (arith, a, b, c)

  few_tasks : (frame : ℕ) (steps : List Step) → length (frame_tasks files s frame steps) ≤ length steps
  few_tasks frame steps =
      let a = few_steps frame steps in
      let b = length_map (λ d. (let t : Task = record { frame = frame; step = d } in t)) (flat_map (frame_steps_of files s frame) steps) in
      omega (arith, a, b)

  few_in_frames : (steps : List Step) → length steps ≤ 262 → (frames : List ℕ) → length (flat_map (λ frame. frame_tasks files s frame steps) frames) ≤ 262 * length frames
  few_in_frames steps few [] = omega arith
  few_in_frames steps few (f ∷ fs) =
      let a = few_tasks f steps in
      let b = few_in_frames steps few fs in
      let c = length-append (frame_tasks files s f steps) (flat_map (λ frame. frame_tasks files s frame steps) fs) in
      omega (arith, a, b, c, few)

  few_in_run : (steps : List Step) → length steps ≤ 262 → s.frames ≤ 100000 → length (tasks_of files s steps) ≤ 26200000
  few_in_run steps few frames =
      let a = few_in_frames steps few (range_with_len 1 s.frames) in
      let b = length-range_with_len 1 s.frames in
      omega (arith, a, b, frames)

-- ---- moments

take_few : {A : Type 0} (n : ℕ) (xs : List A) → length (take n xs) ≤ length xs
take_few zero xs = omega arith
take_few (suc n) [] = omega arith
take_few (suc n) (x ∷ xs) = let a = take_few n xs in omega (arith, a)

module _ (first : ℕ) (capacity : List ℕ → ℕ) (trace : Bool) where
  abbrev after : List Task → Course → Course
  after tasks course = course_after_all (moments first) capacity trace tasks course

  -- each task raises the moment once
  raised_each : (ts : List Task) (st : State) → OnGoes (λ (u : State). u.world.moment ≡ st.world.moment + length ts) (after ts (Goes st))
  raised_each [] st = omega arith
  raised_each (t ∷ ts) st = on (course_after (moments first) capacity trace st t) (task_steady capacity (moments first) trace st t) (raised_each ts)
    where
      stopped : (us : List Task) (lines : List Line) → OnGoes (λ (u : State). u.world.moment ≡ st.world.moment + suc (length ts)) (after us (Stops lines))
      stopped [] lines = tt
      stopped (u ∷ us) lines = tt

      further : (next : State) (course : Course) → next.world.moment ≡ st.world.moment + 1
          → OnGoes (λ (u : State). u.world.moment ≡ next.world.moment + length ts) course → OnGoes (λ (u : State). u.world.moment ≡ st.world.moment + suc (length ts)) course
      further next (Goes u) e k = omega (arith, e, k)
      further next (Stops lines) e k = tt

      on : (course : Course) → IsAfter capacity (moments first) trace (record (st.world) { moment = st.world.moment + 1 }) course
          → ((next : State) → OnGoes (λ (u : State). u.world.moment ≡ next.world.moment + length ts) (after ts (Goes next)))
          → OnGoes (λ (u : State). u.world.moment ≡ st.world.moment + suc (length ts)) (after ts course)
      on (Goes next) k rest = further next (after ts (Goes next)) k.moment (rest next)
      on (Stops lines) k rest = stopped ts lines

-- how many tasks a run has
pub few_tasks_in_run : (files : List ℕ → SceneFile) (s : Scenario) → IsOrdered s → s.frames ≤ 100000 → length s.system ≤ 256 → length (tasks_of_run files s) ≤ 26200000
few_tasks_in_run files s ordered frames systems =
    let a = length_steps s ordered in few_in_run files s (steps_of s) (omega (arith, a, systems)) frames

-- each moment of a run is a moment that versions can stand for
pub run_has_moments : (trace : Bool) (files : List ℕ → SceneFile) (s : Scenario) → IsOrdered s → s.frames ≤ 100000 → length s.system ≤ 256 → (n : ℕ)
    → OnGoes (λ (st : State). IsMoment st.world.moment) (course_of_first trace files s n)
run_has_moments trace files s ordered frames systems n =
    on (course_of_first trace files s n)
    (raised_each s.first_system_version (capacity s.registry) trace (take n (tasks_of_run files s)) (started (capacity s.registry) s first_moment))
  where
    few : length (take n (tasks_of_run files s)) ≤ 26200000
    few =
        let b = few_tasks_in_run files s ordered frames systems in
        let c = take_few n (tasks_of_run files s) in
        omega (arith, b, c)

    on : (course : Course) → OnGoes (λ (u : State). u.world.moment ≡ (started (capacity s.registry) s first_moment).world.moment + length (take n (tasks_of_run files s))) course
        → OnGoes (λ (st : State). IsMoment st.world.moment) course
    on (Goes u) e =
        let begin = spawned_moment (capacity s.registry) s first_moment in
        record { from_one = omega (arith, e, begin, few); within = omega (arith, e, begin, few) }
    on (Stops lines) e = tt
