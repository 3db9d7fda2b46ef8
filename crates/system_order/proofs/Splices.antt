-- Rows whose groups have given way to their children.
use Rattle.std.proofs.Common.{◌≡◌, ℕ, ◌+◌, ◌<◌, suc, zero, true, false, List, [], ◌∷◌, ◌++◌, length, get_or, take, map, ap, ◌∙◌, sym, refl, arith}
use Rattle.std.specs.List.{flat_map, list_any, range_with_len}
use Rattle.std.specs.Prelude.{None}
use Rattle.std.proofs.lemmas.Bool.{cond-false, cond-true, or_parts}
use Rattle.std.proofs.lemmas.List.{map_more}
use Rattle.std.proofs.lemmas.List.FromFn.{get_or-map-range_with_len, get_or-range_with_len, length-range_with_len}
use Rattle.system_order.specs.Child.{child_at}
use Rattle.system_order.specs.Order.{cycle_in, first_some, opened, placed_in, spliced, IsCycleOf, IsFirstCycle}
use Rattle.system_order.specs.declared.child.Child.{Child}
use Rattle.system_order.specs.declared.splice.OrderFault.{OrderFault}
use Rattle.system_order.specs.declared.splice.OrderFault.TheVariants.{Cycle, Memory}
use Rattle.system_order.proofs.Rows.{first_some_here, first_some_past}

-- the numbers from 0 on stand at their own places
number_at : (count i : ℕ) → i < count → get_or (range_with_len 0 count) i 0 ≡ i
number_at count i within = get_or-range_with_len 0 count i 0 within ∙ omega arith

-- a row without groups stays as it is
opened_systems : (children : List Child) (row : List ℕ) → list_any (λ number. (child_at children number).is_group) row ≡ false → flat_map (opened children) row ≡ row
opened_systems children [] none = refl
opened_systems children (x ∷ xs) none =
    let parts = or_parts (child_at children x).is_group (list_any (λ number. (child_at children number).is_group) xs) none in
    ap (λ front. front ++ flat_map (opened children) xs) (cond-false (child_at children x).is_group (placed_in children x) (x ∷ []) parts.0)
    ∙ ap (λ rest. x ∷ rest) (opened_systems children xs parts.1)

pub spliced_systems : (children : List Child) (levels : ℕ) (row : List ℕ) → list_any (λ number. (child_at children number).is_group) row ≡ false → spliced children levels row ≡ row
unfolding spliced
spliced_systems children zero row none = refl
spliced_systems children (suc levels) row none =
    ap (spliced children levels) (opened_systems children row none) ∙ spliced_systems children levels row none

-- one level less
pub spliced_level : (children : List Child) (levels : ℕ) (row : List ℕ) → spliced children (suc levels) row ≡ spliced children levels (flat_map (opened children) row)
unfolding spliced
spliced_level children levels row = refl

-- no level is left
pub spliced_out : (children : List Child) (levels : ℕ) (row : List ℕ) → levels ≡ 0 → spliced children levels row ≡ row
unfolding spliced
spliced_out children levels row out = ap (λ (n : ℕ). spliced children n row) out

-- the children in their places of one number more
pub orders_more : (children : List Child) (number : ℕ) → number < length children → map (placed_in children) (take (number + 1) (range_with_len 0 (length children))) ≡ map (placed_in children) (take number (range_with_len 0 (length children))) ++ placed_in children number ∷ []
orders_more children number within =
    map_more (placed_in children) (range_with_len 0 (length children)) number 0 (omega (arith, within, length-range_with_len 0 (length children)))
    ∙ ap (λ (n : ℕ). map (placed_in children) (take number (range_with_len 0 (length children))) ++ placed_in children n ∷ []) (number_at (length children) number within)

-- no cycle at one number more
pub cycles_more : (children : List Child) (number : ℕ) → number < length children → first_some (cycle_in children) (take number (range_with_len 0 (length children))) ≡ None → cycle_in children number ≡ None → first_some (cycle_in children) (take (number + 1) (range_with_len 0 (length children))) ≡ None
cycles_more children number within none here =
    first_some_past (cycle_in children) (range_with_len 0 (length children)) number (omega (arith, within, length-range_with_len 0 (length children))) none
    (ap (cycle_in children) (number_at (length children) number within) ∙ here)

-- the cycle of a number is the first one where none comes before it
pub cycle_first : (children : List Child) (number : ℕ) (fault : OrderFault) → number < length children → first_some (cycle_in children) (take number (range_with_len 0 (length children))) ≡ None → IsCycleOf children number fault → IsFirstCycle children fault
cycle_first children number (Cycle child) within none here =
    first_some_here (cycle_in children) (range_with_len 0 (length children)) number child (omega (arith, within, length-range_with_len 0 (length children))) none
    (ap (cycle_in children) (number_at (length children) number within) ∙ here)
cycle_first children number Memory within none here = tt

-- what stands for a group in a list of all orders
pub order_at : (children : List Child) (orders : List (List ℕ)) (number : ℕ) (d : List ℕ) → orders ≡ map (placed_in children) (range_with_len 0 (length children)) → number < length children → (child_at children number).is_group ≡ true → get_or orders number d ≡ opened children number
order_at children orders number d are within is_group =
    ap (λ (os : List (List ℕ)). get_or os number d) are
    ∙ get_or-map-range_with_len (placed_in children) 0 (length children) number number d within (omega arith)
    ∙ sym (cond-true (child_at children number).is_group (placed_in children number) (number ∷ []) is_group)
