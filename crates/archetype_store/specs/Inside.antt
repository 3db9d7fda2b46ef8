-- A store as it is kept: a slot for each number, the numbers in block order, and the interned values.
use Rattle.std.specs.Prelude.{ℕ, ◌≡◌, ◌<◌, ◌≤◌, ◌+◌, nat_eq, List, [], ◌∷◌, length, map, Option, Some, None, option_map, option_and_then, slice_index_or, count_by, is_some, unwrap_or}
use Rattle.std.specs.List.{filter_map}
use Rattle.std.specs.Option.{IsSome}
use Rattle.std.specs.Vec.{vec_capacity}
use Rattle.ent_types.specs.declared.type_info.TypeInfo.{TypeInfo}
use Rattle.world_model.specs.World.{capacity}
use Rattle.block_columns.specs.declared.shape.TypeShape.{TypeShape}
use Rattle.chunk_block.specs.Blocks.{BlockState, new_types}
use Rattle.shared_values.specs.declared.table.Slot.{Slot as Interned}
use Rattle.archetype_store.specs.declared.numbers.TheConstants.{MOST_NUMBERS}
use Rattle.archetype_store.specs.declared.shared_parts.SharedPart.{SharedPart}
use Rattle.archetype_store.specs.declared.slots.Held.{Held}
use Rattle.archetype_store.specs.declared.store.ArchetypeStore.TheInside.{Inside}
use Rattle.archetype_store.specs.Holding.{AreTyped, parts_of, ids_of, Backs}
use Rattle.archetype_store.specs.HomeKeys.{same_home}
use Rattle.archetype_store.specs.Homes.{AreHomes, homes_of, lodgers}
use Rattle.std.specs.HashMap.{get}
use Rattle.std.specs.Cmp.Lexicographic.{pointwise}
use Rattle.archetype_store.specs.Slots.{slot_at, AreFree, AreOrdered, ArePlaced, numbers_of, of_slots}
use Rattle.archetype_store.specs.Stores.{Numbered, StoreState, types_at, shared_types}

-- ---- what contracts see

-- the block of a slot as contracts see it
abbrev pub numbered : List Interned → ℕ → Held → Numbered
numbered table n h = record { number = n; archetype = h.archetype; shared = parts_of table h.shared.items; block = h.block }

-- the block of the number at a place of the order; none where the place is empty
abbrev pub numbered_at : List (Option Held) → List Interned → Option ℕ → Option Numbered
numbered_at slots table at = option_and_then (λ n. option_map (numbered table n) (slot_at slots n)) at

abbrev pub blocks_in : List (Option Held) → List Interned → List (Option ℕ) → List Numbered
blocks_in slots table order = filter_map (numbered_at slots table) order

-- the places of the order that are taken
abbrev pub ranks_from : ℕ → List (Option ℕ) → List ℕ
ranks_from k [] = []
ranks_from k (None ∷ os) = ranks_from (k + 1) os
ranks_from k (Some n ∷ os) = k ∷ ranks_from (k + 1) os

abbrev pub view_of : Inside → StoreState
view_of s = record {
  registry = s.registry;
  archetypes = s.archetypes.items;
  blocks = blocks_in s.slots.items s.shared s.order.items;
  ranks = ranks_from 0 s.order.items;
}

-- ---- what always holds

-- what calls that write into a block leave as it is
pub record Beside : Type 0 where
  pub archetype : ℕ
  pub shared : List SharedPart
  pub rank : ℕ
  pub types : List ℕ
  pub capacity : ℕ
  pub shapes : List TypeShape

abbrev pub beside : Held → Beside
beside h = record {
  archetype = h.archetype;
  shared = h.shared.items;
  rank = h.rank;
  types = h.block.types;
  capacity = h.block.capacity;
  shapes = map (λ x. x.shape) h.block.columns;
}

abbrev pub kept : List (Option Held) → List (Option Beside)
kept slots = map (option_map beside) slots

-- the ids that the blocks hold
abbrev pub all_ids : List (Option Beside) → List ℕ
all_ids slots = of_slots (λ x. ids_of x.shared) slots

-- a block is of its archetype
pub record IsOfArchetype (registry : List TypeInfo) (archetypes : List (List ℕ)) (x : Beside) : Type 0 where
  pub there : x.archetype < length archetypes
  pub types : x.types ≡ types_at archetypes x.archetype
  pub capacity : x.capacity ≡ capacity registry (types_at archetypes x.archetype)
  pub shapes : x.shapes ≡ map (λ t. t.shape) (new_types registry (types_at archetypes x.archetype))
  pub shared : map (λ p. p.ty.0) x.shared ≡ shared_types registry (types_at archetypes x.archetype)

abbrev pub AreOfArchetypes : List TypeInfo → List (List ℕ) → List (Option Beside) → Type 0
AreOfArchetypes registry archetypes slots = (n : ℕ) (x : Beside) → slot_at slots n ≡ Some x → IsOfArchetype registry archetypes x

-- the numbers of the blocks of an archetype, in block order
abbrev pub members_of : List (Option Beside) → ℕ → List (Option ℕ) → List ℕ
members_of slots a order = numbers_of (λ x. nat_eq x.archetype a) slots order

abbrev pub members_at : List (List ℕ) → ℕ → List ℕ
members_at members a = slice_index_or members a []

pub record IsOrderly (registry : Option (List TypeInfo)) (archetypes members : List (List ℕ)) (slots : List (Option Beside)) (free : List ℕ) (room : ℕ)
    (order : List (Option ℕ)) (table : List Interned) : Type 0 where
  pub are_free : AreFree slots free
  pub counted : length free + count_by is_some slots ≡ length slots
  pub free_room : length slots ≤ room
  pub few : length slots ≤ MOST_NUMBERS
  pub ordered : AreOrdered (λ x. x.rank) slots order
  pub placed : ArePlaced (λ x. x.rank) slots order
  pub order_counted : count_by is_some order ≡ count_by is_some slots
  pub of_archetypes : AreOfArchetypes (unwrap_or registry []) archetypes slots
  pub members_there : length members ≡ length archetypes
  pub members_are : (a : ℕ) → a < length archetypes → members_at members a ≡ members_of slots a order
  pub backs : Backs table (all_ids slots)
  pub registered : registry ≡ None → archetypes ≡ []
  pub most : length archetypes ≤ MOST_NUMBERS
  -- a block of each archetype has room for a row
  pub fit : (a : ℕ) → a < length archetypes → 0 < capacity (unwrap_or registry []) (types_at archetypes a)

-- the types of an archetype find its id, and other types find none
pub record AreFound (archetypes : List (List ℕ)) (found : List ℕ → Option ℕ) : Type 0 where
  pub known : (types : List ℕ) (a : ℕ) → found types ≡ Some a → (a < length archetypes) × (types_at archetypes a ≡ types)
  pub all : (a : ℕ) → a < length archetypes → found (types_at archetypes a) ≡ Some a

-- the ids of each block have the types of their parts
abbrev pub AreAllTyped : List Interned → List (Option Beside) → Type 0
AreAllTyped table slots = (n : ℕ) (x : Beside) → slot_at slots n ≡ Some x → AreTyped table x.shared

abbrev pub IsConsistent : Inside → Type 0
IsConsistent s =
    IsOrderly s.registry s.archetypes.items (map (λ v. v.items) s.members.items) (kept s.slots.items) s.free.items (vec_capacity s.free) s.order.items s.shared
    × (AreAllTyped s.shared (kept s.slots.items)
    × (AreHomes (homes_of s.homes.items) (get same_home s.found) (lodgers s.slots.items) s.order.items × AreFound s.archetypes.items (get (pointwise nat_eq) s.by_types)))

-- each of the numbers has a block
abbrev pub AreUsed : List (Option Held) → List ℕ → Type 0
AreUsed slots [] = Unit {0}
AreUsed slots (n ∷ ns) = IsSome (slot_at slots n) × AreUsed slots ns

-- ---- the places of numbers among those of an archetype

abbrev pub number_at : List ℕ → ℕ → ℕ
number_at numbers k = slice_index_or numbers k 0

-- the rank of a block; 0 where there is none
abbrev pub rank_at : List (Option Held) → ℕ → ℕ
rank_at slots n = unwrap_or (option_map (λ (h : Held). h.rank) (slot_at slots n)) 0

-- ---- the walk over the blocks

-- what a slot has of the walk
abbrev pub walked_slot : ℕ → Option Held → Option (ℕ × BlockState)
walked_slot n slot = option_map (λ (h : Held). (n, h.block)) slot

abbrev pub walked_at : List (Option Held) → Option ℕ → Option (ℕ × BlockState)
walked_at slots at = option_and_then (λ n. walked_slot n (slot_at slots n)) at

-- the blocks of numbers, with their numbers
abbrev pub walked : List (Option Held) → List (Option ℕ) → List (ℕ × BlockState)
walked slots order = filter_map (walked_at slots) order
