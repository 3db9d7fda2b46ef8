-- The systems below each root, and how often each is there.
use Rattle.std.specs.Prelude.{◌≡◌, ℕ, zero, suc, ◌<◌, ◌≤◌, ◌&&◌, ◌==◌, nat_lt, not, true, if◌then◌else◌, Bool, List, [], ◌∷◌, ◌++◌, length, count_by}
use Rattle.system_order.specs.Child.{child_at}
use Rattle.system_order.specs.Order.{spliced}
use Rattle.system_order.specs.declared.child.Child.{Child}

-- the systems below a group, in their order
abbrev pub systems_below : List Child → ℕ → List ℕ
systems_below children group = spliced children (length children) (group ∷ [])

-- the systems below the three roots, one root after the other
abbrev pub systems_by_root : List Child → List ℕ
systems_by_root children = systems_below children 0 ++ systems_below children 1 ++ systems_below children 2

-- Children that stand in one another: the first three are the roots, which are groups, and the parent of each later
-- child is an earlier group
pub record IsForest (children : List Child) : Type 0 where
  pub roots : (number : ℕ) → number < 3 → (child_at children number).is_group ≡ true
  pub earlier : (number : ℕ) → 3 ≤ number → number < length children → (child_at children number).parent < number
  pub groups : (number : ℕ) → 3 ≤ number → number < length children → (child_at children (child_at children number).parent).is_group ≡ true

-- the root over a child, at most n parents up
abbrev pub root_within : List Child → ℕ → ℕ → ℕ
root_within children zero number = number
root_within children (suc parents) number = if nat_lt number 3 then number else root_within children parents (child_at children number).parent

-- the root over a child, which has no more parents than its number, since they are earlier
abbrev pub root_of : List Child → ℕ → ℕ
root_of children number = root_within children number number

-- the child is a system, and below this root
abbrev pub is_system_below : List Child → ℕ → ℕ → Bool
is_system_below children root number = nat_lt number (length children) && not (child_at children number).is_group && root_of children number == root

abbrev pub times : ℕ → List ℕ → ℕ
times number xs = count_by (λ other. other == number) xs
