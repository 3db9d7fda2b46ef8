-- The systems below a root have each system below it once.
use Rattle.std.proofs.Common.{◌≡◌, ℕ, ◌+◌, ◌-◌, ◌<◌, ◌≤◌, suc, zero, eqb, ltb, ◌&&◌, not, Bool, cond, true, false, inl, inr, List, [], ◌∷◌, ◌++◌, length, Option, Some, None, Result, Ok, Err, count_by, get_or, ap, ◌∙◌, sym, subst, refl, arith}
use Rattle.std.specs.List.{filter, flat_map, range_with_len}
use Rattle.std.specs.Option.{option_map_or, option_or}
use Rattle.std.proofs.lemmas.Bool.{cases_Bool, cases_eq, cases_lt, cond_both, cond-false, cond-true, false≢true, lt-ltb, le-ltb}
use Rattle.std.proofs.lemmas.List.{get_or_past}
use Rattle.std.proofs.lemmas.List.Concat.{flat_map-append}
use Rattle.std.proofs.lemmas.List.FromFn.{get_or-range_with_len, length-range_with_len}
use Rattle.std.proofs.lemmas.List.Sorted.{sum_by-IsPermutation}
use Rattle.system_order.specs.Chain.{earliest_on_cycle}
use Rattle.system_order.specs.Child.{child_at, members, no_child, precedes}
use Rattle.system_order.specs.Order.{cycle_in, first_cycle, first_some, opened, order_of, placed_in, spliced}
use Rattle.system_order.specs.Place.{places}
use Rattle.system_order.specs.Roots.{IsForest, is_system_below, root_of, root_within, systems_below, systems_by_root, times}
use Rattle.system_order.specs.declared.child.Child.{Child}
use Rattle.system_order.proofs.Full.{acyclic_places}
use Rattle.system_order.proofs.Tallies.{count_is_tally, same, same_no, same_yes, same-sym, tally, tally-append, tally-filter, tally_below, tally_past, tally_within}

-- ---- rows, one after another

pub spliced-append : (children : List Child) (levels : ℕ) (xs ys : List ℕ) → spliced children levels (xs ++ ys) ≡ spliced children levels xs ++ spliced children levels ys
unfolding spliced
spliced-append children zero xs ys = refl
spliced-append children (suc levels) xs ys =
    ap (spliced children levels) (flat_map-append (opened children) xs ys) ∙ spliced-append children levels (flat_map (opened children) xs) (flat_map (opened children) ys)

-- what the three roots give way to
pub roots_apart : (children : List Child) → spliced children (length children) (0 ∷ 1 ∷ 2 ∷ []) ≡ systems_by_root children
roots_apart children =
    let levels = length children in
    spliced-append children levels (0 ∷ 1 ∷ []) (2 ∷ [])
    ∙ ap (λ (row : List ℕ). row ++ spliced children levels (2 ∷ [])) (spliced-append children levels (0 ∷ []) (1 ∷ []))

-- without a cycle the order is that of the systems below the roots
pub order_by_roots : (children : List Child) → first_cycle children ≡ None → order_of children ≡ Ok (systems_by_root children)
unfolding order_of
order_by_roots children acyclic =
    ap (λ (fault : Option ℕ). option_map_or (λ child. Err child) fault (Ok (spliced children (length children) (0 ∷ 1 ∷ 2 ∷ [])))) acyclic
    ∙ ap (λ (row : List ℕ). Ok row) (roots_apart children)

-- the outermost level is opened last, too
spliced_outer : (children : List Child) (levels : ℕ) (row : List ℕ) → spliced children (suc levels) row ≡ flat_map (opened children) (spliced children levels row)
unfolding spliced
spliced_outer children zero row = refl
spliced_outer children (suc levels) row = spliced_outer children levels (flat_map (opened children) row)

-- ---- one group

first_none : (f : ℕ → Option ℕ) (xs : List ℕ) (i : ℕ) → i < length xs → first_some f xs ≡ None → f (get_or xs i 0) ≡ None
first_none f [] i within none = absurd (omega (arith, within))
first_none f (x ∷ xs) zero within none = first_part (f x) (first_some f xs) none
  where
    first_part : (o p : Option ℕ) → option_or o p ≡ None → o ≡ None
    first_part None p h = refl
    first_part (Some y) p h = cc
first_none f (x ∷ xs) (suc i) within none = first_none f xs i (omega (arith, within)) (rest_part (f x) (first_some f xs) none)
  where
    rest_part : (o p : Option ℕ) → option_or o p ≡ None → p ≡ None
    rest_part None p h = h
    rest_part (Some y) p h = cc

group_within : (children : List Child) (group : ℕ) → (child_at children group).is_group ≡ true → group < length children
group_within children group is =
    elim (cases_lt group (length children)) [
      | inl within ↦ within
      | inr past ↦ absurd (false≢true (sym (ap (λ (c : Child). c.is_group) (get_or_past children group no_child past)) ∙ is))
    ]

past_no_group : (children : List Child) (number : ℕ) → length children ≤ number → (child_at children number).is_group ≡ false
past_no_group children number past = ap (λ (c : Child). c.is_group) (get_or_past children number no_child past)

group_has_no_cycle : (children : List Child) (group : ℕ) → first_cycle children ≡ None → (child_at children group).is_group ≡ true → earliest_on_cycle (precedes children) (members children group) ≡ None
group_has_no_cycle children group acyclic is =
    let within = group_within children group is in
    let here : cycle_in children group ≡ None =
    ap (cycle_in children) (sym (get_or-range_with_len 0 (length children) group 0 within ∙ omega arith))
    ∙ first_none (cycle_in children) (range_with_len 0 (length children)) group (omega (arith, within, length-range_with_len 0 (length children))) acyclic in
    sym (cond-true (child_at children group).is_group (earliest_on_cycle (precedes children) (members children group)) None is) ∙ here

-- a group's children in their places are its children, each once
placed_tally : (children : List Child) (group x : ℕ) → first_cycle children ≡ None → (child_at children group).is_group ≡ true → tally x (placed_in children group) ≡ tally x (members children group)
placed_tally children group x acyclic is =
    let siblings = members children group in
    let order = places (precedes children) (length siblings) siblings in
    ap (tally x) (cond-true (child_at children group).is_group order [] is)
    ∙ sym (count_is_tally x order)
    ∙ sum_by-IsPermutation (λ y. same y x) siblings order (acyclic_places (precedes children) siblings (group_has_no_cycle children group acyclic is))
    ∙ count_is_tally x siblings

members_tally : (children : List Child) (group x : ℕ) → tally x (members children group) ≡ cond (eqb (child_at children x).parent group) (tally x (range_with_len 3 (length children - 3))) 0
unfolding members
members_tally children group x = tally-filter (λ n. eqb (child_at children n).parent group) x (range_with_len 3 (length children - 3))

no_member : (b : Bool) (n : ℕ) → n ≡ 0 → cond b n 0 ≡ 0
no_member true n h = h
no_member false n h = refl

one_member : (b : Bool) (n : ℕ) → n ≡ 1 → cond b n 0 ≡ cond b 1 0
one_member true n h = h
one_member false n h = refl

-- ---- one level

own : (children : List Child) (x n : ℕ) → ℕ
own children x n = cond (child_at children x).is_group 0 n

own_group : (children : List Child) (x n : ℕ) → (child_at children x).is_group ≡ true → own children x n ≡ 0
unfolding own
own_group children x n is = cond-true (child_at children x).is_group 0 n is

own_system : (children : List Child) (x n : ℕ) → (child_at children x).is_group ≡ false → own children x n ≡ n
unfolding own
own_system children x n is = cond-false (child_at children x).is_group 0 n is

own_none : (children : List Child) (x n : ℕ) → n ≡ 0 → own children x n ≡ 0
unfolding own
own_none children x n none = elim (child_at children x).is_group as (λ b. cond b 0 n ≡ 0) [ true ↦ refl | false ↦ none ]

own-plus : (children : List Child) (x m n : ℕ) → own children x (m + n) ≡ own children x m + own children x n
unfolding own
own-plus children x m n = elim (child_at children x).is_group as (λ b. cond b 0 (m + n) ≡ cond b 0 m + cond b 0 n) [ true ↦ refl | false ↦ refl ]

-- two numbers of which one is a group and the other isn't
kinds_differ : (children : List Child) (y x : ℕ) → (child_at children y).is_group ≡ true → (child_at children x).is_group ≡ false → same y x ≡ 0
kinds_differ children y x group system =
    same_no y x (λ e. false≢true (sym system ∙ ap (λ n. (child_at children n).is_group) (sym e) ∙ group))

-- a group that isn't x, or is x and gives way
own_of_group : (children : List Child) (y x : ℕ) → (child_at children y).is_group ≡ true → own children x (same y x) ≡ 0
own_of_group children y x is =
    elim (cases_Bool (child_at children x).is_group) [
      | inl group ↦ own_group children x (same y x) group
      | inr system ↦ own_none children x (same y x) (kinds_differ children y x is system)
    ]

own_of_system : (children : List Child) (y x : ℕ) → (child_at children y).is_group ≡ false → own children x (same y x) ≡ same y x
own_of_system children y x is =
    elim (cases_Bool (child_at children x).is_group) [
      | inl group ↦ own_group children x (same y x) group ∙ sym (same-sym y x ∙ kinds_differ children x y group is)
      | inr system ↦ own_system children x (same y x) system
    ]

single : (y x : ℕ) → tally x (y ∷ []) ≡ same y x
single y x = omega arith

module _ (children : List Child) (acyclic : first_cycle children ≡ None) where
  -- a child that has a parent
  opened_child : IsForest children → (y x : ℕ) → 3 ≤ x → x < length children → tally x (opened children y) ≡ own children x (same y x) + same y (child_at children x).parent
  opened_child forest y x low high =
      let parent = (child_at children x).parent in
      cond_both (child_at children y).is_group (placed_in children y) (y ∷ []) (λ row. tally x row ≡ own children x (same y x) + same y parent)
      (λ is.
      placed_tally children y x acyclic is
      ∙ members_tally children y x
      ∙ one_member (eqb parent y) _ (tally_within x 3 (length children - 3) low (omega (arith, low, high)))
      ∙ same-sym parent y
      ∙ omega (arith, own_of_group children y x is))
      (λ is.
      let apart : same y parent ≡ 0 = same-sym y parent ∙ kinds_differ children parent y (forest.groups x low high) is in
      single y x ∙ sym (own_of_system children y x is) ∙ omega (arith, apart))

  -- a root, or a number of no child
  opened_other : (y x : ℕ) → tally x (range_with_len 3 (length children - 3)) ≡ 0 → tally x (opened children y) ≡ own children x (same y x)
  opened_other y x none =
      cond_both (child_at children y).is_group (placed_in children y) (y ∷ []) (λ row. tally x row ≡ own children x (same y x))
      (λ is.
      placed_tally children y x acyclic is
      ∙ members_tally children y x
      ∙ no_member (eqb (child_at children x).parent y) _ none
      ∙ sym (own_of_group children y x is))
      (λ is. single y x ∙ sym (own_of_system children y x is))

  row_child : IsForest children → (row : List ℕ) (x : ℕ) → 3 ≤ x → x < length children → tally x (flat_map (opened children) row) ≡ own children x (tally x row) + tally (child_at children x).parent row
  row_child forest [] x low high = sym (own_none children x 0 refl) ∙ omega arith
  row_child forest (y ∷ ys) x low high =
      tally-append x (opened children y) (flat_map (opened children) ys)
      ∙ omega (arith, opened_child forest y x low high, row_child forest ys x low high, own-plus children x (same y x) (tally x ys))

  row_other : (row : List ℕ) (x : ℕ) → tally x (range_with_len 3 (length children - 3)) ≡ 0 → tally x (flat_map (opened children) row) ≡ own children x (tally x row)
  row_other [] x none = sym (own_none children x 0 refl)
  row_other (y ∷ ys) x none =
      tally-append x (opened children y) (flat_map (opened children) ys)
      ∙ omega (arith, opened_other y x none, row_other ys x none, own-plus children x (same y x) (tally x ys))

-- ---- parents

-- 1 if a root is n parents over a child
abbrev depth_at : List Child → ℕ → ℕ → ℕ → ℕ
depth_at children root zero x = same root x
depth_at children root (suc n) x = cond (ltb x 3) 0 (depth_at children root n (child_at children x).parent)

-- how often a root is fewer parents over a child
abbrev reached : List Child → ℕ → ℕ → ℕ → ℕ
reached children root zero x = 0
reached children root (suc n) x = reached children root n x + depth_at children root n x

parent_below : (children : List Child) → IsForest children → (x : ℕ) → 3 ≤ x → (child_at children x).parent < x
parent_below children forest x low =
    elim (cases_lt x (length children)) [
      | inl within ↦ forest.earlier x low within
      | inr past ↦ omega (arith, low, ap (λ (c : Child). c.parent) (get_or_past children x no_child past))
    ]

at_root : (children : List Child) (root n x : ℕ) → x < 3 → depth_at children root (suc n) x ≡ 0
at_root children root n x low = cond-true (ltb x 3) 0 _ (lt-ltb x 3 low)

over_child : (children : List Child) (root n x : ℕ) → 3 ≤ x → depth_at children root (suc n) x ≡ depth_at children root n (child_at children x).parent
over_child children root n x low = cond-false (ltb x 3) 0 _ (le-ltb x 3 low)

-- a child has fewer parents than its number
depth_ends : (children : List Child) → IsForest children → (root n x : ℕ) → x < n → depth_at children root n x ≡ 0
depth_ends children forest root zero x h = absurd (omega (arith, h))
depth_ends children forest root (suc n) x h =
    elim (cases_lt x 3) [
      | inl low ↦ at_root children root n x low
      | inr high ↦
          let lower = parent_below children forest x high in
          over_child children root n x high ∙ depth_ends children forest root n (child_at children x).parent (omega (arith, h, lower))
    ]

reached_root : (children : List Child) (root n x : ℕ) → x < 3 → reached children root (suc n) x ≡ same root x
reached_root children root zero x low = omega arith
reached_root children root (suc n) x low = omega (arith, reached_root children root n x low, at_root children root n x low)

reached_child : (children : List Child) (root n x : ℕ) → root < 3 → 3 ≤ x → reached children root (suc n) x ≡ reached children root n (child_at children x).parent
reached_child children root zero x low high = omega (arith, same_no root x (λ e. omega (arith, e, low, high)))
reached_child children root (suc n) x low high = omega (arith, reached_child children root n x low high, over_child children root n x high)

root_within_more : (children : List Child) → IsForest children → (m n x : ℕ) → x ≤ m → x ≤ n → root_within children m x ≡ root_within children n x
root_within_more children forest zero zero x low high = refl
root_within_more children forest zero (suc n) x low high = sym (cond-true (ltb x 3) x _ (lt-ltb x 3 (omega (arith, low))))
root_within_more children forest (suc m) zero x low high = cond-true (ltb x 3) x _ (lt-ltb x 3 (omega (arith, high)))
root_within_more children forest (suc m) (suc n) x low high =
    elim (cases_lt x 3) [
      | inl root ↦ cond-true (ltb x 3) x _ (lt-ltb x 3 root) ∙ sym (cond-true (ltb x 3) x _ (lt-ltb x 3 root))
      | inr child ↦
          let lower = parent_below children forest x child in
          cond-false (ltb x 3) x _ (le-ltb x 3 child)
          ∙ root_within_more children forest m n (child_at children x).parent (omega (arith, lower, low)) (omega (arith, lower, high))
          ∙ sym (cond-false (ltb x 3) x _ (le-ltb x 3 child))
    ]

root_of_root : (children : List Child) → IsForest children → (x : ℕ) → x < 3 → root_of children x ≡ x
root_of_root children forest x low =
    root_within_more children forest x (suc x) x (omega arith) (omega arith) ∙ cond-true (ltb x 3) x _ (lt-ltb x 3 low)

root_of_child : (children : List Child) → IsForest children → (x : ℕ) → 3 ≤ x → root_of children x ≡ root_of children (child_at children x).parent
root_of_child children forest x child =
    let parent = (child_at children x).parent in
    let lower = parent_below children forest x child in
    root_within_more children forest x (suc x) x (omega arith) (omega arith)
    ∙ cond-false (ltb x 3) x _ (le-ltb x 3 child)
    ∙ root_within_more children forest x parent parent (omega (arith, lower)) (omega arith)

reached_is : (children : List Child) → IsForest children → (root n x : ℕ) → root < 3 → x < n → reached children root n x ≡ same (root_of children x) root
reached_is children forest root zero x low h = absurd (omega (arith, h))
reached_is children forest root (suc n) x low h =
    elim (cases_lt x 3) [
      | inl first ↦ reached_root children root n x first ∙ same-sym root x ∙ ap (λ r. same r root) (sym (root_of_root children forest x first))
      | inr child ↦
          let lower = parent_below children forest x child in
          reached_child children root n x low child
          ∙ reached_is children forest root n (child_at children x).parent low (omega (arith, h, lower))
          ∙ ap (λ r. same r root) (sym (root_of_child children forest x child))
    ]

-- ---- all levels

row_out : (children : List Child) (root x : ℕ) → tally x (spliced children zero (root ∷ [])) ≡ same root x
unfolding spliced
row_out children root x = single root x

module _ (children : List Child) (acyclic : first_cycle children ≡ None) (forest : IsForest children) (root : ℕ) (low : root < 3) where
  level_child : (n x : ℕ) → 3 ≤ x → x < length children → tally x (spliced children (suc n) (root ∷ [])) ≡ own children x (tally x (spliced children n (root ∷ []))) + tally (child_at children x).parent (spliced children n (root ∷ []))
  level_child n x child within =
      ap (tally x) (spliced_outer children n (root ∷ [])) ∙ row_child children acyclic forest (spliced children n (root ∷ [])) x child within

  level_other : (n x : ℕ) → tally x (range_with_len 3 (length children - 3)) ≡ 0 → tally x (spliced children (suc n) (root ∷ [])) ≡ own children x (tally x (spliced children n (root ∷ [])))
  level_other n x none = ap (tally x) (spliced_outer children n (root ∷ [])) ∙ row_other children acyclic (spliced children n (root ∷ [])) x none

  -- a group is in the row that has come to its depth
  groups_in : (n x : ℕ) → (child_at children x).is_group ≡ true → tally x (spliced children n (root ∷ [])) ≡ depth_at children root n x
  groups_in zero x is = row_out children root x
  groups_in (suc n) x is =
      elim (cases_lt x 3) [
        | inl first ↦
            level_other n x (tally_below x 3 (length children - 3) first) ∙ own_group children x _ is ∙ sym (at_root children root n x first)
        | inr child ↦
            let within = group_within children x is in
            level_child n x child within
            ∙ ap (λ k. k + tally (child_at children x).parent (spliced children n (root ∷ []))) (own_group children x _ is)
            ∙ omega (arith, groups_in n (child_at children x).parent (forest.groups x child within), over_child children root n x child)
      ]

  -- a system stays in the row once its parent has given way
  systems_in : (n x : ℕ) → 3 ≤ x → x < length children → (child_at children x).is_group ≡ false → tally x (spliced children n (root ∷ [])) ≡ reached children root n (child_at children x).parent
  systems_in zero x child within is = row_out children root x ∙ same_no root x (λ e. omega (arith, e, low, child))
  systems_in (suc n) x child within is =
      level_child n x child within
      ∙ ap (λ k. k + tally (child_at children x).parent (spliced children n (root ∷ []))) (own_system children x _ is ∙ systems_in n x child within is)
      ∙ ap (λ k. reached children root n (child_at children x).parent + k) (groups_in n (child_at children x).parent (forest.groups x child within))

  none_past : (n x : ℕ) → length children ≤ x → 3 ≤ length children → tally x (spliced children n (root ∷ [])) ≡ 0
  none_past zero x past few = row_out children root x ∙ same_no root x (λ e. omega (arith, e, low, past, few))
  none_past (suc n) x past few =
      level_other n x (tally_past x 3 (length children - 3) (omega (arith, past, few))) ∙ own_none children x _ (none_past n x past few)

  -- how often a number is below the root
  tally_below_root : (x : ℕ) → tally x (systems_below children root) ≡ cond (is_system_below children root x) 1 0
  tally_below_root x =
      let few : 3 ≤ length children = omega (arith, group_within children 2 (forest.roots 2 (omega arith))) in
      let n = length children in
      elim (cases_lt x n) [
        | inr past ↦
            none_past n x past few ∙ sym (cond-false (is_system_below children root x) 1 0 (ap (λ b. b && not (child_at children x).is_group && eqb (root_of children x) root) (le-ltb x n past)))
        | inl within ↦ elim (cases_Bool (child_at children x).is_group) [
          | inl is ↦
              groups_in n x is ∙ depth_ends children forest root n x within
              ∙ sym (cond-false (is_system_below children root x) 1 0 (group_fails (ltb x n) (child_at children x).is_group (eqb (root_of children x) root) is))
          | inr is ↦
              let child : 3 ≤ x = elim (cases_lt x 3) [
                | inl first ↦ absurd (false≢true (sym is ∙ forest.roots x first))
                | inr child ↦ child
              ] in
              let lower = parent_below children forest x child in
              systems_in n x child within is
              ∙ reached_is children forest root n (child_at children x).parent low (omega (arith, lower, within))
              ∙ ap (λ r. same r root) (sym (root_of_child children forest x child))
              ∙ ap (λ b. cond b 1 0) (sym (system_test (ltb x n) (child_at children x).is_group (eqb (root_of children x) root) (lt-ltb x n within) is))
        ]
      ]
    where
      group_fails : (a g r : Bool) → g ≡ true → (a && not g && r) ≡ false
      group_fails true true r h = refl
      group_fails false true r h = refl
      group_fails a false r h = cc

      system_test : (a g r : Bool) → a ≡ true → g ≡ false → (a && not g && r) ≡ r
      system_test true false r ha hg = refl
      system_test false g r ha hg = cc
      system_test a true r ha hg = cc

-- each system is once below its root, and nothing else is there
pub once_below_its_root : (children : List Child) → IsForest children → first_cycle children ≡ None → (root number : ℕ) → root < 3 → times number (systems_below children root) ≡ cond (is_system_below children root number) 1 0
once_below_its_root children forest acyclic root number low =
    count_is_tally number (systems_below children root) ∙ tally_below_root children acyclic forest root low number
