-- The homes of a store: which blocks of an archetype with the same shared values have room.
use Rattle.std.specs.Prelude.{ℕ, ◌≡◌, ◌≢◌, if◌then◌else◌, ◌<◌, ◌≤◌, ◌+◌, Bool, false, not, ◌&&◌, ◌||◌, nat_eq, nat_lt, List, [], ◌∷◌, length, map, Option, Some, None, option_map, slice_index_or, count_by}
use Rattle.std.specs.List.{list_any}
use Rattle.std.specs.Vec.{vec_capacity}
use Rattle.world_model.specs.Members.{IsRising}
use Rattle.archetype_store.specs.declared.numbers.TheConstants.{MOST_NUMBERS}
use Rattle.archetype_store.specs.declared.homes.HomeKey.{HomeKey}
use Rattle.archetype_store.specs.declared.homes.Home.{Home}
use Rattle.archetype_store.specs.declared.slots.Held.{Held}
use Rattle.archetype_store.specs.Holding.{ids_of}
use Rattle.archetype_store.specs.Slots.{slot_at}

-- ---- ranks

abbrev pub has_rank : ℕ → List ℕ → Bool
has_rank r ranks = list_any (nat_eq r) ranks

-- rising ranks with one more
pub record TakesRank (old new : List ℕ) (rank : ℕ) : Type 0 where
  pub has : (r : ℕ) → has_rank r new ≡ (nat_eq r rank || has_rank r old)
  pub rising : IsRising new
  pub count : length new ≡ length old + 1

-- rising ranks with one less
pub record LosesRank (old new : List ℕ) (rank : ℕ) : Type 0 where
  pub has : (r : ℕ) → has_rank r new ≡ (not (nat_eq r rank) && has_rank r old)
  pub rising : IsRising new
  pub count : length new + 1 ≡ length old

-- ---- homes

-- the ranks of the blocks of a home that have room, the count of its full blocks, and how many ranks have room
pub record HomeState : Type 0 where
  pub ranks : List ℕ
  pub full : ℕ
  pub room : ℕ

abbrev pub home_state : Home → HomeState
home_state h = record { ranks = h.ranks.items; full = h.full; room = vec_capacity h.ranks }

abbrev pub homes_of : List Home → List HomeState
homes_of homes = map home_state homes

abbrev pub no_home : HomeState
no_home = record { ranks = []; full = 0; room = 0 }

abbrev pub home_at : List HomeState → ℕ → HomeState
home_at homes h = slice_index_or homes h no_home

-- A block of the home has room now or has none, as it had or had none before.
pub record NotesRoom (old new : HomeState) (rank : ℕ) (was is : Bool) : Type 0 where
  pub here : has_rank rank new.ranks ≡ is
  pub stay : (r : ℕ) → r ≢ rank → has_rank r new.ranks ≡ has_rank r old.ranks
  pub rising : IsRising new.ranks
  pub full : new.full + (if was then 0 else 1) ≡ old.full + (if is then 0 else 1)
  pub room : length new.ranks + new.full ≤ new.room

-- the number at the first of some ranks
abbrev pub number_at_first : List (Option ℕ) → List ℕ → Option ℕ
number_at_first order [] = None
number_at_first order (r ∷ rs) = slot_at order r

-- the number of the first block with room of a home
abbrev pub first_number : List HomeState → List (Option ℕ) → Option ℕ → Option ℕ
first_number homes order None = None
first_number homes order (Some h) = number_at_first order (home_at homes h).ranks

-- what a home knows of a block
pub record Lodger : Type 0 where
  pub archetype : ℕ
  pub ids : List ℕ
  pub home : ℕ
  -- the block has room for a row
  pub roomy : Bool

abbrev pub lodger : Held → Lodger
lodger h = record { archetype = h.archetype; ids = ids_of h.shared.items; home = h.home; roomy = nat_lt (length h.block.rows) h.block.capacity }

abbrev pub lodgers : List (Option Held) → List (Option Lodger)
lodgers slots = map (option_map lodger) slots

abbrev pub key_of : Lodger → HomeKey
key_of x = record { archetype = x.archetype; ids = x.ids }

-- a block of the home that has room, and one that has none
abbrev pub is_roomy : ℕ → Option Lodger → Bool
is_roomy h None = false
is_roomy h (Some x) = nat_eq x.home h && x.roomy

abbrev pub is_crowded : ℕ → Option Lodger → Bool
is_crowded h None = false
is_crowded h (Some x) = nat_eq x.home h && not x.roomy

-- the block at a place of the order has room
abbrev pub is_roomy_at : List (Option Lodger) → ℕ → Option ℕ → Bool
is_roomy_at slots h None = false
is_roomy_at slots h (Some n) = is_roomy h (slot_at slots n)

-- each key finds a home that is there
abbrev pub AreKnown : List HomeState → (HomeKey → Option ℕ) → Type 0
AreKnown homes found = (key : HomeKey) (h : ℕ) → found key ≡ Some h → h < length homes

abbrev pub AreFew : List HomeState → Type 0
AreFew homes = (h : ℕ) → (home_at homes h).full ≤ MOST_NUMBERS

-- the home of a key, which has room for a block more
pub record IsHomeFor (homes : List HomeState) (found : HomeKey → Option ℕ) (key : HomeKey) (h : ℕ) : Type 0 where
  pub below : h < length homes
  pub is : found key ≡ Some h
  pub room : length (home_at homes h).ranks + (home_at homes h).full < (home_at homes h).room

-- what always holds of the homes of some blocks
pub record AreHomes (homes : List HomeState) (found : HomeKey → Option ℕ) (slots : List (Option Lodger)) (order : List (Option ℕ)) : Type 0 where
  pub known : AreKnown homes found
  pub once : (k l : HomeKey) (h : ℕ) → found k ≡ Some h → found l ≡ Some h → k ≡ l
  pub keys : (n : ℕ) (x : Lodger) → slot_at slots n ≡ Some x → found (key_of x) ≡ Some x.home
  pub ranks : (h : ℕ) → h < length homes → (r : ℕ) → has_rank r (home_at homes h).ranks ≡ is_roomy_at slots h (slot_at order r)
  pub rising : (h : ℕ) → h < length homes → IsRising (home_at homes h).ranks
  pub full : (h : ℕ) → h < length homes → (home_at homes h).full ≡ count_by (is_crowded h) slots
  pub room : (h : ℕ) → h < length homes → length (home_at homes h).ranks + (home_at homes h).full ≤ (home_at homes h).room
