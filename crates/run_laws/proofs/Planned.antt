-- Where no key places a system, the steps of a frame are those of all systems in declared order, in Simulation.
use Rattle.std.proofs.Common.{◌≡◌, ℕ, ◌+◌, ◌-◌, ◌<◌, ◌≤◌, zero, suc, inl, inr, eqb, Bool, true, false, cond, not, List, [], ◌∷◌, ◌++◌, length, map, Option, Some, None, get_or, refl, ap, ap₂, ◌∙◌, arith}
use Rattle.std.specs.Prelude.{codes, nat_lt, replicate, slice_index}
use Rattle.std.specs.List.{filter, flat_map, position, position_or_len, prefix_len, range_with_len, remove}
use Rattle.std.specs.Option.{option_map_or}
use Rattle.std.proofs.lemmas.Bool.{lt-ltb}
use Rattle.std.proofs.lemmas.List.Sums.{sum_by-cons}
use Rattle.ent_types.specs.declared.point.Point.TheVariants.{BeginInitialization, EndInitialization, BeginSimulation, EndSimulation, BeginPresentation}
use Rattle.world_model.specs.Members.{In}
use Rattle.scenario_record.specs.declared.plan.Step.TheVariants.{Events, Play, Run}
use Rattle.scenario_record.specs.declared.record.Scenario.{Scenario}
use Rattle.scenario_record.specs.declared.record.SystemEntry.{SystemEntry}
use Rattle.system_order.specs.declared.child.Band.{Band}
use Rattle.system_order.specs.declared.child.Band.TheVariants.{Middle}
use Rattle.system_order.specs.declared.child.Child.{Child}
use Rattle.system_order.specs.Child.{child_at, members, no_child, precedes}
use Rattle.system_order.specs.Order.{opened, placed_in, spliced}
use Rattle.system_order.specs.Place.{blockers_of, places}
use Rattle.system_order.specs.Roots.{systems_below}
use Rattle.run_model.specs.Steps.{group_number, children_named, band_of, root, group_child, system_child, children_of, first_system, numbers_below, steps_of, IsUnplaced, AreUnplaced}

-- ---- lists

filter_all : (p : ℕ → Bool) (xs : List ℕ) → ((x : ℕ) → In x xs → p x ≡ true) → filter p xs ≡ xs
filter_all p [] h = refl
filter_all p (x ∷ xs) h =
    ap (λ b. cond b (x ∷ filter p xs) (filter p xs)) (h x (inl refl)) ∙ ap (λ ys. x ∷ ys) (filter_all p xs (λ y i. h y (inr i)))

filter_none : (p : ℕ → Bool) (xs : List ℕ) → ((x : ℕ) → In x xs → p x ≡ false) → filter p xs ≡ []
filter_none p [] h = refl
filter_none p (x ∷ xs) h =
    ap (λ b. cond b (x ∷ filter p xs) (filter p xs)) (h x (inl refl)) ∙ filter_none p xs (λ y i. h y (inr i))

in_range : (a n x : ℕ) → In x (range_with_len a n) → (a ≤ x) × (x < a + n)
in_range a zero x i = absurd i
in_range a (suc n) x (inl e) = (omega (arith, e), omega (arith, e))
in_range a (suc n) x (inr i) = let r = in_range (a + 1) n x i in (omega (arith, r.0), omega (arith, r.1))

-- ---- children that no key places

abbrev plain : Child
plain = record { parent = 1; is_group = false; band = Middle; before = []; after = [] }

abbrev plain_children : ℕ → List Child
plain_children n = root ∷ root ∷ root ∷ replicate n plain

abbrev Simple : Child → Type 0
Simple c = (c.band ≡ Middle) × (c.before ≡ []) × (c.after ≡ [])

simple_at : (n : ℕ) (k : ℕ) → Simple (get_or (replicate n plain) k no_child)
simple_at zero zero = (refl, refl, refl)
simple_at zero (suc k) = (refl, refl, refl)
simple_at (suc n) zero = (refl, refl, refl)
simple_at (suc n) (suc k) = simple_at n k

child_simple : (n : ℕ) (k : ℕ) → Simple (child_at (plain_children n) k)
child_simple n zero = (refl, refl, refl)
child_simple n (suc zero) = (refl, refl, refl)
child_simple n (suc (suc zero)) = (refl, refl, refl)
child_simple n (suc (suc (suc k))) = simple_at n k

plain_at : (n k : ℕ) → k < n → get_or (replicate n plain) k no_child ≡ plain
plain_at zero k h = absurd (omega (arith, h))
plain_at (suc n) zero h = refl
plain_at (suc n) (suc k) h = plain_at n k (omega (arith, h))

child_plain : (n x : ℕ) → 3 ≤ x → x < 3 + n → child_at (plain_children n) x ≡ plain
child_plain n zero low high = absurd (omega (arith, low))
child_plain n (suc zero) low high = absurd (omega (arith, low))
child_plain n (suc (suc zero)) low high = absurd (omega (arith, low))
child_plain n (suc (suc (suc k))) low high = plain_at n k (omega (arith, high))

length_plain : (n : ℕ) → length (replicate n plain) ≡ n
length_plain zero = refl
length_plain (suc n) = ap suc (length_plain n)

-- no child precedes another
none_precedes : (n a b : ℕ) → precedes (plain_children n) a b ≡ false
unfolding precedes
none_precedes n a b =
    let x = child_simple n a in
    let y = child_simple n b in
    rw (x.0, x.1, y.0, y.2) refl

-- ---- without predecessors the places are the declared ones

no_blockers : (before : ℕ → ℕ → Bool) → ((a b : ℕ) → before a b ≡ false) → (rest : List ℕ) (x : ℕ) → blockers_of before rest x ≡ 0
no_blockers before none [] x = refl
no_blockers before none (y ∷ ys) x =
    sum_by-cons (λ z. cond (before z x) 1 0) y ys ∙ ap₂ (λ b m. cond b 1 0 + m) (none y x) (no_blockers before none ys x)

first_passes : (p : ℕ → Bool) (x : ℕ) (xs : List ℕ) → p x ≡ true → position p (x ∷ xs) ≡ Some 0
first_passes p x xs h =
    let is_first : position_or_len p (x ∷ xs) ≡ 0 = ap (λ b. cond b (1 + prefix_len (λ y. not (p y)) xs) 0) (ap not h) in
    ap (λ k. cond (nat_lt k (length (x ∷ xs))) (Some k) None) is_first
    ∙ ap (λ b. cond b (Some 0) None) (lt-ltb 0 (length (x ∷ xs)) (omega arith))

places_stay : (before : ℕ → ℕ → Bool) → ((a b : ℕ) → before a b ≡ false) → (xs : List ℕ) → places before (length xs) xs ≡ xs
unfolding places
places_stay before none [] = refl
places_stay before none (x ∷ xs) =
    ap (λ (o : Option ℕ). option_map_or (λ at. slice_index (x ∷ xs) at ∷ places before (length xs) (remove (x ∷ xs) at)) o [])
    (first_passes (λ sibling. eqb (blockers_of before (x ∷ xs) sibling) 0) x xs (ap (λ m. eqb m 0) (no_blockers before none (x ∷ xs) x)))
    ∙ ap (λ ys. x ∷ ys) (places_stay before none xs)

-- ---- rows of systems stay

module _ (n : ℕ) where
  abbrev children : List Child
  children = plain_children n

  opened_alone : (xs : List ℕ) → ((x : ℕ) → In x xs → (3 ≤ x) × (x < 3 + n)) → flat_map (opened children) xs ≡ xs
  opened_alone [] h = refl
  opened_alone (x ∷ xs) h =
      ap (λ (c : Child). cond c.is_group (placed_in children x) (x ∷ []) ++ flat_map (opened children) xs) (child_plain n x (h x (inl refl)).0 (h x (inl refl)).1)
      ∙ ap (λ ys. x ∷ ys) (opened_alone xs (λ y i. h y (inr i)))

  spliced_alone : (levels : ℕ) (xs : List ℕ) → ((x : ℕ) → In x xs → (3 ≤ x) × (x < 3 + n)) → spliced children levels xs ≡ xs
  unfolding spliced
  spliced_alone zero xs h = refl
  spliced_alone (suc levels) xs h = ap (spliced children levels) (opened_alone xs h) ∙ spliced_alone levels xs h

  how_many : length children - 3 ≡ n
  how_many = let l = length_plain n in omega (arith, l)

  parent_of : (x : ℕ) → In x (range_with_len 3 n) → (child_at children x).parent ≡ 1
  parent_of x i = let r = in_range 3 n x i in ap (λ (c : Child). c.parent) (child_plain n x r.0 r.1)

  members_of_simulation : members children 1 ≡ range_with_len 3 n
  unfolding members
  members_of_simulation =
      ap (λ m. filter (λ x. eqb (child_at children x).parent 1) (range_with_len 3 m)) how_many
      ∙ filter_all (λ x. eqb (child_at children x).parent 1) (range_with_len 3 n) (λ x i. ap (λ p. eqb p 1) (parent_of x i))

  members_of_another : (number : ℕ) → eqb 1 number ≡ false → members children number ≡ []
  unfolding members
  members_of_another number other =
      ap (λ m. filter (λ x. eqb (child_at children x).parent number) (range_with_len 3 m)) how_many
      ∙ filter_none (λ x. eqb (child_at children x).parent number) (range_with_len 3 n) (λ x i. ap (λ p. eqb p number) (parent_of x i) ∙ other)

  placed_as_declared : (number : ℕ) (xs : List ℕ) → members children number ≡ xs → places (precedes children) (length (members children number)) (members children number) ≡ xs
  placed_as_declared number xs is = ap (λ ys. places (precedes children) (length ys) ys) is ∙ places_stay (precedes children) (none_precedes n) xs

  below_root : (number : ℕ) (xs : List ℕ) → opened children number ≡ places (precedes children) (length (members children number)) (members children number)
      → members children number ≡ xs → ((x : ℕ) → In x xs → (3 ≤ x) × (x < 3 + n)) → systems_below children number ≡ xs
  unfolding spliced
  below_root number xs is_root is within =
      ap (λ row. spliced children (suc (suc (length (replicate n plain)))) (row ++ [])) (is_root ∙ placed_as_declared number xs is)
      ∙ (ap (spliced children (suc (suc (length (replicate n plain))))) (no_more xs) ∙ spliced_alone (suc (suc (length (replicate n plain)))) xs within)
    where
      no_more : (ys : List ℕ) → ys ++ [] ≡ ys
      no_more [] = refl
      no_more (y ∷ ys) = ap (λ zs. y ∷ zs) (no_more ys)

  below_simulation : systems_below children 1 ≡ range_with_len 3 n
  below_simulation = below_root 1 (range_with_len 3 n) refl members_of_simulation (in_range 3 n)

  below_initialization : systems_below children 0 ≡ []
  below_initialization = below_root 0 [] refl (members_of_another 0 refl) (λ x i. absurd i)

  below_presentation : systems_below children 2 ≡ []
  below_presentation = below_root 2 [] refl (members_of_another 2 refl) (λ x i. absurd i)

-- ---- the steps

from_zero : (a n : ℕ) → map (λ child. child - 3) (range_with_len (3 + a) n) ≡ range_with_len a n
from_zero a zero = refl
from_zero a (suc n) =
    let here : (3 + a) - 3 ≡ a = omega arith in
    let next : (3 + a) + 1 ≡ 3 + (a + 1) = omega arith in
    ap₂ (λ x xs. x ∷ xs) here (ap (λ m. map (λ child. child - 3) (range_with_len m n)) next ∙ from_zero (a + 1) n)

in_simulation : group_number [] (codes "Simulation") ≡ 1
unfolding group_number
in_simulation = refl

module _ (s : Scenario) (unplaced : AreUnplaced s) where
  child_is : (y : SystemEntry) → IsUnplaced y → system_child s y ≡ plain
  child_is y h =
      ap₂ (λ (p : ℕ) (x : Band × List ℕ × List ℕ). (let c : Child = record { parent = p; is_group = false; band = x.0; before = x.1; after = x.2 } in c))
      (ap₂ group_number unplaced.groups h.group ∙ in_simulation)
      (ap₂ (λ b (x : List ℕ × List ℕ). (b, x.0, x.1)) (ap₂ band_of h.first h.last)
      (ap₂ (λ xs ys. (xs, ys)) (ap (children_named s) h.before) (ap (children_named s) h.after)))

  systems_are : (ys : List SystemEntry) → ((y : SystemEntry) → In y ys → IsUnplaced y) → map (system_child s) ys ≡ replicate (length ys) plain
  systems_are [] h = refl
  systems_are (y ∷ ys) h = ap₂ (λ (c : Child) cs. c ∷ cs) (child_is y (h y (inl refl))) (systems_are ys (λ z i. h z (inr i)))

  children_are : children_of s ≡ plain_children (length s.system)
  unfolding children_of
  children_are =
      ap (λ gs. root ∷ root ∷ root ∷ (map (group_child s) gs ++ map (system_child s) s.system)) unplaced.groups
      ∙ ap (λ cs. root ∷ root ∷ root ∷ cs) (systems_are s.system unplaced.systems)

  first_is : first_system s ≡ 3
  first_is = ap (λ gs. 3 + length gs) unplaced.groups

  numbers_are : (number : ℕ) (xs : List ℕ) → systems_below (plain_children (length s.system)) number ≡ xs → numbers_below s number ≡ map (λ child. child - 3) xs
  numbers_are number xs is =
      ap₂ (λ (m : ℕ) ys. map (λ child. child - m) ys) first_is (ap (λ cs. systems_below cs number) children_are ∙ is)

  pub planned_steps : steps_of s ≡ Events ∷ Play BeginInitialization ∷ Play EndInitialization ∷
      Play BeginSimulation ∷ (map (λ n. Run n) (range_with_len 0 (length s.system)) ++ (Play EndSimulation ∷ Play BeginPresentation ∷ []))
  unfolding steps_of
  planned_steps =
      let a = numbers_are 0 [] (below_initialization (length s.system)) in
      let b = numbers_are 1 (range_with_len 3 (length s.system)) (below_simulation (length s.system)) ∙ from_zero 0 (length s.system) in
      let c = numbers_are 2 [] (below_presentation (length s.system)) in
      ap₂ (λ xs (yz : List ℕ × List ℕ). Events ∷ Play BeginInitialization ∷ (map (λ n. Run n) xs ++ (Play EndInitialization ∷
      Play BeginSimulation ∷ (map (λ n. Run n) yz.0 ++ (Play EndSimulation ∷
      Play BeginPresentation ∷ map (λ n. Run n) yz.1))))) a (ap₂ (λ ys zs. (ys, zs)) b c)
