-- The children of a group, and which of two siblings precedes the other.
use Rattle.std.specs.Prelude.{ℕ, ◌-◌, ◌==◌, nat_lt, Bool, false, ◌||◌, List, [], length, slice_index_or}
use Rattle.std.specs.List.{filter, list_any, range_with_len}
use Rattle.system_order.specs.declared.child.Band.{Band}
use Rattle.system_order.specs.declared.child.Band.TheVariants.{First, Middle, Last}
use Rattle.system_order.specs.declared.child.Child.{Child}

-- the band's place among the bands
abbrev pub rank_of : Band → ℕ
rank_of First = 0
rank_of Middle = 1
rank_of Last = 2

-- the child that a number of no child reads as
abbrev pub no_child : Child
no_child = record { parent = 0; is_group = false; band = Middle; before = []; after = [] }

-- the child with a number
abbrev pub child_at : List Child → ℕ → Child
child_at children number = slice_index_or children number no_child

-- the first of two siblings has the lower band, is named in the other's `after`, or names it in its `before`
unfoldable pub precedes : List Child → ℕ → ℕ → Bool
precedes children first second =
    let one = child_at children first in
    let other = child_at children second in
    nat_lt (rank_of one.band) (rank_of other.band)
    || list_any (λ name. name == first) other.after
    || list_any (λ name. name == second) one.before

-- the children of a group, in declared order; the first three children are the roots, which have no parent
unfoldable pub members : List Child → ℕ → List ℕ
members children group = filter (λ number. (child_at children number).parent == group) (range_with_len 3 (length children - 3))
