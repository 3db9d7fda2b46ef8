-- The places of siblings, by any relation `before` of which of two precedes the other.
use Rattle.std.specs.Prelude.{ℕ, suc, zero, ◌-◌, ◌==◌, if◌then◌else◌, Bool, List, [], ◌∷◌, slice_index, remove, position, count_by, map}
use Rattle.std.specs.Option.{option_map_or}
use Rattle.system_order.specs.declared.place.Waiting.{Waiting}

-- how many of the rest precede a sibling
abbrev pub blockers_of : (ℕ → ℕ → Bool) → List ℕ → ℕ → ℕ
blockers_of before rest sibling = count_by (λ other. before other sibling) rest

-- The rest are those that have no place yet, in declared order. Each place has the earliest of the rest that none of
-- the rest precedes, so all its predecessors are in earlier places. At most `room` of the rest get a place
unfoldable pub places : (ℕ → ℕ → Bool) → ℕ → List ℕ → List ℕ
places before zero rest = []
places before (suc room) rest =
    option_map_or (λ at. slice_index rest at ∷ places before room (remove rest at)) (position (λ sibling. blockers_of before rest sibling == 0) rest) []

-- the rest, each with the number of its blockers
abbrev pub waiting_list : (ℕ → ℕ → Bool) → List ℕ → List Waiting
waiting_list before rest = map (λ sibling. record { child = sibling; blockers = blockers_of before rest sibling }) rest

-- a waiting sibling after another one has got its place
abbrev pub released : (ℕ → ℕ → Bool) → ℕ → Waiting → Waiting
released before placed waiting = record { child = waiting.child; blockers = if before placed waiting.child then waiting.blockers - 1 else waiting.blockers }
