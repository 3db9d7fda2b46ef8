-- The order in which the entries of a buffer are played, and when a buffer can't be played.
use Rattle.std.specs.Prelude.{ℕ, ℤ, Bool, ◌&&◌, ◌||◌, nat_eq, nat_lt, int_lt, if◌then◌else◌, List, [], ◌∷◌, map, filter, flat_map, Option, Some, None}
use Rattle.std.specs.Ordering.{int_eq}
use Rattle.run_model.specs.Run.{Entry}

-- by key, then item, then the row's place, then number
abbrev pub before : Entry → Entry → Bool
before x y = int_lt x.command.key y.command.key || (int_eq x.command.key y.command.key
    && (nat_lt x.item y.item || (nat_eq x.item y.item
    && (nat_lt x.place y.place || (nat_eq x.place y.place && nat_lt x.command.number y.command.number)))))

abbrev pub insert_by : {X : Type 0} → (X → X → Bool) → X → List X → List X
insert_by lt x [] = x ∷ []
insert_by lt x (y ∷ ys) = if lt y x then y ∷ insert_by lt x ys else x ∷ y ∷ ys

abbrev pub sorted_by : {X : Type 0} → (X → X → Bool) → List X → List X
sorted_by lt [] = []
sorted_by lt (x ∷ xs) = insert_by lt x (sorted_by lt xs)

-- playback order
unfoldable pub arranged : List Entry → List Entry
arranged entries = sorted_by before entries

-- a key that comes from two items, the first of them the lower one
pub record SharedKey : Type 0 where
  pub key : ℤ
  pub first_item : ℕ
  pub second_item : ℕ

-- two entries with one key, of which the first has the lower item
abbrev pub share_key : Entry → Entry → Bool
share_key x y = int_eq x.command.key y.command.key && nat_lt x.item y.item

abbrev pub shared_by : Entry → Entry → SharedKey
shared_by x y = record { key = x.command.key; first_item = x.item; second_item = y.item }

abbrev pub shared_keys : List Entry → List SharedKey
shared_keys entries = flat_map (λ x. map (shared_by x) (filter (share_key x) entries)) entries

abbrev pub shared_before : SharedKey → SharedKey → Bool
shared_before a b = int_lt a.key b.key || (int_eq a.key b.key
    && (nat_lt a.first_item b.first_item || (nat_eq a.first_item b.first_item && nat_lt a.second_item b.second_item)))

abbrev pub first_of : {X : Type 0} → List X → Option X
first_of [] = None
first_of (x ∷ xs) = Some x

-- The least key that comes from two items, with its two least items. Where there is one, the buffer can't be played.
unfoldable pub shared_key : List Entry → Option SharedKey
shared_key entries = first_of (sorted_by shared_before (shared_keys entries))

-- The first two neighbours with one key and two items. In playback order they have the least shared key and its two least
-- items.
abbrev pub neighbours_from : Entry → List Entry → Option SharedKey
neighbours_from x [] = None
neighbours_from x (y ∷ ys) = if share_key x y then Some (shared_by x y) else neighbours_from y ys

abbrev pub shared_neighbours : List Entry → Option SharedKey
shared_neighbours [] = None
shared_neighbours (x ∷ xs) = neighbours_from x xs
