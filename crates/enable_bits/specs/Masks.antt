-- A mask is a finite set of places below 128, seen as the list of these places in rising order.
use Rattle.std.specs.Prelude.{◌≡◌, ℕ, ◌-◌, ◌≤◌, ◌<◌, Bool, true, false, List, Option, filter, find, nat_eq, nat_le, if◌then◌else◌, ◌==◌}
use Rattle.std.specs.List.{list_any, range_with_len}

-- those of the n places from start on that pass
unfoldable pub places_between : ℕ → ℕ → (ℕ → Bool) → List ℕ
places_between start n test = filter test (range_with_len start n)

-- the mask of the places below 128 that pass
unfoldable pub places_where : (ℕ → Bool) → List ℕ
places_where test = places_between 0 128 test

-- the mask has this place
abbrev pub has : List ℕ → ℕ → Bool
has mask place = list_any (nat_eq place) mask

-- the list has rising places below 128, each once
abbrev pub IsMask : List ℕ → Type 0
IsMask mask = mask ≡ places_where (has mask)

-- the mask with this place set or cleared
abbrev pub with_place : List ℕ → ℕ → Bool → List ℕ
with_place mask place on = places_where (λ other. if other == place then on else has mask other)

-- the mask of len rows after the last row has gone to this place: the place has the bit of the last, which is clear
abbrev pub swapped_back : List ℕ → ℕ → ℕ → List ℕ
swapped_back mask place len = with_place (with_place mask place (has mask (len - 1))) (len - 1) false

-- the first place of the mask at or past this one
abbrev pub first_from : List ℕ → ℕ → Option ℕ
first_from mask place = find (nat_le place) mask

-- the mask has no place at or past this one
abbrev pub HasNoneFrom : List ℕ → ℕ → Type 0
HasNoneFrom mask place = (other : ℕ) → place ≤ other → has mask other ≡ false

-- the least place of the mask at or past this one
pub record IsNextFrom (mask : List ℕ) (place next : ℕ) : Type 0 where
  pub past : place ≤ next
  pub there : has mask next ≡ true
  pub least : (other : ℕ) → place ≤ other → other < next → has mask other ≡ false
