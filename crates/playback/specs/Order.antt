-- The order in which the entries of some chains are played.
use Rattle.std.specs.Prelude.{◌≡◌, ℤ, ℕ, Bool, ◌&&◌, ◌||◌, nat_eq, nat_lt, int_lt, List, flat_map, Some, None, Result, Ok, Err}
use Rattle.std.specs.Ordering.{int_eq}
use Rattle.std.specs.List.Sorted.{IsPermutation, IsSortedBy}
use Rattle.ent_types.specs.declared.point.Point.{Point}
use Rattle.world_model.specs.Members.{In}
use Rattle.run_model.specs.Buffers.{SharedKey, shared_key}
use Rattle.command_record.specs.declared.chain.Entry.{Entry}
use Rattle.command_record.specs.Chains.{ChainState}
use Rattle.command_record.specs.Entries.{entries_at}
use Rattle.playback.specs.declared.order.ArrangeEnd.{ArrangeEnd}
use Rattle.playback.specs.declared.order.ArrangeEnd.TheVariants.{KeyShared, Memory}

-- by key, then item, then row, then number
abbrev pub plays_before : Entry → Entry → Bool
plays_before x y = int_lt x.key y.key || (int_eq x.key y.key
    && (nat_lt x.item y.item || (nat_eq x.item y.item
    && (nat_lt x.row y.row || (nat_eq x.row y.row && nat_lt x.number y.number)))))

-- what all chains recorded
abbrev pub all_entries : List ChainState → List Entry
all_entries chains = flat_map (λ c. c.entries) chains

-- no two entries agree in item, row and number
abbrev pub AreApart : List Entry → Type 0
AreApart es = (x y : Entry) → In x es → In y es → x.item ≡ y.item → x.row ≡ y.row → x.number ≡ y.number → x ≡ y

-- the same entries in playback order
pub record AreArranged (es fs : List Entry) : Type 0 where
  pub same : IsPermutation es fs
  pub sorted : IsSortedBy plays_before fs

abbrev pub shared_at : ℤ → ℕ → ℕ → SharedKey
shared_at key first second = record { key = key; first_item = first; second_item = second }

-- Either no key comes from two items, and the entries are in order; or the least such key is told, with its two least items.
abbrev pub Arranges : List Entry → Result (List Entry) ArrangeEnd → Type 0
Arranges es (Ok fs) = AreArranged es fs × ((point : Point) → shared_key (entries_at point es) ≡ None)
Arranges es (Err (KeyShared key first second)) = (point : Point) → shared_key (entries_at point es) ≡ Some (shared_at key first second)
Arranges es (Err Memory) = Unit {0}
