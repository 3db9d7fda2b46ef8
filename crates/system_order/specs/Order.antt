-- The order of all systems.
use Rattle.std.specs.Prelude.{ℕ, zero, suc, if◌then◌else◌, List, [], ◌∷◌, Option, None, Some, Result, Ok, Err, length, ◌≡◌}
use Rattle.std.specs.Option.{option_map_or, option_or}
use Rattle.std.specs.List.{flat_map, range_with_len}
use Rattle.system_order.specs.Child.{child_at, members, precedes}
use Rattle.system_order.specs.Place.{places}
use Rattle.system_order.specs.Chain.{earliest_on_cycle}
use Rattle.system_order.specs.declared.child.Child.{Child}
use Rattle.system_order.specs.declared.splice.OrderFault.{OrderFault}
use Rattle.system_order.specs.declared.splice.OrderFault.TheVariants.{Cycle, Memory}

-- the children of a group in their places; a system has none
abbrev pub placed_in : List Child → ℕ → List ℕ
placed_in children number =
    if (child_at children number).is_group
    then (let siblings = members children number in places (precedes children) (length siblings) siblings)
    else []

-- the earliest declared child of a group that precedes itself through a chain
abbrev pub cycle_in : List Child → ℕ → Option ℕ
cycle_in children number =
    if (child_at children number).is_group
    then earliest_on_cycle (precedes children) (members children number)
    else None

-- the first value that a function has on a list
abbrev pub first_some : (ℕ → Option ℕ) → List ℕ → Option ℕ
first_some f [] = None
first_some f (x ∷ xs) = option_or (f x) (first_some f xs)

-- the cycle of the first group that has one: the roots come first, then the other groups in declared order
abbrev pub first_cycle : List Child → Option ℕ
first_cycle children = first_some (cycle_in children) (range_with_len 0 (length children))

-- the children of a group in their places; a system alone
abbrev pub opened : List Child → ℕ → List ℕ
opened children number = if (child_at children number).is_group then placed_in children number else number ∷ []

-- a row whose groups give way to their children, and these to theirs, down to a number of levels
unfoldable pub spliced : List Child → ℕ → List ℕ → List ℕ
spliced children zero row = row
spliced children (suc levels) row = spliced children levels (flat_map (opened children) row)

-- The order of all systems, or the child that precedes itself. The roots are opened down to the last level, since there
-- are no more levels than children
unfoldable pub order_of : List Child → Result (List ℕ) ℕ
order_of children =
    option_map_or (λ child. Err child) (first_cycle children) (Ok (spliced children (length children) (0 ∷ 1 ∷ 2 ∷ [])))

-- the fault that the order has, or no memory
abbrev pub IsFaultOf : List Child → OrderFault → Type 0
IsFaultOf children (Cycle child) = order_of children ≡ Err child
IsFaultOf children Memory = Unit {0}

-- the fault that one group has, or no memory
abbrev pub IsCycleOf : List Child → ℕ → OrderFault → Type 0
IsCycleOf children number (Cycle child) = cycle_in children number ≡ Some child
IsCycleOf children number Memory = Unit {0}

-- the fault that the first group with a cycle has, or no memory
abbrev pub IsFirstCycle : List Child → OrderFault → Type 0
IsFirstCycle children (Cycle child) = first_cycle children ≡ Some child
IsFirstCycle children Memory = Unit {0}
