-- What contracts see of a store: its blocks in block order, each with its number and its shared values.
use Rattle.std.specs.Prelude.{ℕ, ◌≡◌, ◌⊎◌, ◌<◌, ◌≤◌, Bool, true, false, not, ◌&&◌, if◌then◌else◌, nat_eq, nat_lt, List, [], ◌∷◌, ◌++◌, length, map, filter, Option, Some, None, option_map, slice_get, slice_index_or, unwrap_or}
use Rattle.std.specs.Bool.{MatchBool}
use Rattle.std.specs.List.{list_any, swap_remove}
use Rattle.std.specs.Cmp.Lexicographic.{pointwise}
use Rattle.ent_types.specs.declared.entity.Entity.{Entity}
use Rattle.ent_types.specs.declared.value.Value.{Value}
use Rattle.ent_types.specs.declared.type_info.TypeInfo.{TypeInfo}
use Rattle.ent_types.specs.TypeLookups.{is_shared_at}
use Rattle.world_model.specs.Members.{In, IsRising, AreDistinct}
use Rattle.world_model.specs.Part.{PartOf, part_type, same_part}
use Rattle.world_model.specs.World.{capacity}
use Rattle.block_columns.specs.declared.shape.TypeShape.{TypeShape}
use Rattle.chunk_block.specs.Blocks.{BlockState, BlockType, new_block, new_types, no_row}
use Rattle.archetype_store.specs.declared.numbers.TheConstants.{MOST_NUMBERS}

-- a block of a store
pub record Numbered : Type 0 where
  pub number : ℕ
  pub archetype : ℕ
  -- the values of its shared types, by rising type
  pub shared : List (PartOf Value)
  pub block : BlockState

-- A store. It has a registry from the first archetype on. `archetypes` has the types of each archetype by its id, `blocks` the
-- blocks in block order. `ranks` has a number for each block; they rise in block order.
pub record StoreState : Type 0 where
  pub registry : Option (List TypeInfo)
  pub archetypes : List (List ℕ)
  pub blocks : List Numbered
  pub ranks : List ℕ

abbrev pub types_at : List (List ℕ) → ℕ → List ℕ
types_at archetypes a = slice_index_or archetypes a []

abbrev pub registry_of : StoreState → List TypeInfo
registry_of s = unwrap_or s.registry []

-- ---- one block by its number

-- the store has a block of this number, of which this holds
abbrev pub OfNumber : ℕ → (Numbered → Type 0) → List Numbered → Type 0
OfNumber n P [] = ⊥
OfNumber n P (b ∷ bs) = MatchBool (nat_eq b.number n) (P b) (OfNumber n P bs)

abbrev pub OfBlock : ℕ → (BlockState → Type 0) → List Numbered → Type 0
OfBlock n P blocks = OfNumber n (λ b. P b.block) blocks

-- the blocks with the block of a number changed
abbrev pub with_block : ℕ → (BlockState → BlockState) → List Numbered → List Numbered
with_block n f blocks = map (λ (b : Numbered). if nat_eq b.number n then record b { block = f b.block } else b) blocks

-- the same in a store
abbrev pub with_block_in : ℕ → (BlockState → BlockState) → StoreState → StoreState
with_block_in n f s = record s { blocks = with_block n f s.blocks }

-- ---- entering

-- a row of this archetype and these shared values can enter the block
abbrev pub has_room : ℕ → List (PartOf Value) → Numbered → Bool
has_room a shared b = nat_eq b.archetype a && (nat_lt (length b.block.rows) b.block.capacity && pointwise same_part shared b.shared)

-- no block has room
abbrev pub is_full : ℕ → List (PartOf Value) → List Numbered → Bool
is_full a shared blocks = not (list_any (has_room a shared) blocks)

-- a new block without rows
abbrev pub new_numbered : StoreState → ℕ → List (PartOf Value) → ℕ → Numbered
new_numbered s a shared n = record {
  number = n;
  archetype = a;
  shared = shared;
  block = new_block (registry_of s) (types_at s.archetypes a) (capacity (registry_of s) (types_at s.archetypes a));
}

-- the first block with room has this number
abbrev pub IsFirstWithRoom : ℕ → List (PartOf Value) → ℕ → List Numbered → Type 0
IsFirstWithRoom a shared n [] = ⊥
IsFirstWithRoom a shared n (b ∷ bs) = MatchBool (has_room a shared b) (b.number ≡ n) (IsFirstWithRoom a shared n bs)

-- the store has the same registry and archetypes, and these blocks
pub record HasBlocks (old new : StoreState) (bs : List Numbered) : Type 0 where
  pub registry : new.registry ≡ old.registry
  pub archetypes : new.archetypes ≡ old.archetypes
  pub blocks : new.blocks ≡ bs

-- a new block is the last, and no other block has its number
pub record Adds (old new : StoreState) (a : ℕ) (shared : List (PartOf Value)) (n : ℕ) : Type 0 where
  pub blocks : HasBlocks old new (old.blocks ++ new_numbered old a shared n ∷ [])
  pub new_number : list_any (λ b. nat_eq b.number n) old.blocks ≡ false
  pub room : 0 < capacity (registry_of old) (types_at old.archetypes a)

-- What `place_for` leaves: the store as it was if a block has room; else a new block is added.
pub record Opens (old new : StoreState) (a : ℕ) (shared : List (PartOf Value)) (n : ℕ) : Type 0 where
  pub found : is_full a shared old.blocks ≡ false → new ≡ old
  pub added : is_full a shared old.blocks ≡ true → Adds old new a shared n
  pub first : IsFirstWithRoom a shared n new.blocks

-- ---- leaving

-- the block without a row; its last row takes the place
abbrev pub without_row : ℕ → BlockState → BlockState
without_row row b = record b { rows = swap_remove b.rows row no_row }

-- the entity that takes the place of a row that leaves: that of the last row; none if the row is the last
abbrev pub moved_into : ℕ → BlockState → Option Entity
moved_into row b = option_map (λ r. r.entity) (slice_get (without_row row b).rows row)

-- a block of a number that has no row any more
abbrev pub is_emptied : ℕ → Numbered → Bool
is_emptied n b = nat_eq b.number n && nat_eq (length b.block.rows) 0

-- the blocks after a row left the block of a number: that block goes if it was its last row
abbrev pub left : ℕ → ℕ → List Numbered → List Numbered
left n row blocks = filter (λ b. not (is_emptied n b)) (with_block n (without_row row) blocks)

-- the blocks without the block of a number
abbrev pub without_block : ℕ → List Numbered → List Numbered
without_block n blocks = filter (λ (b : Numbered). not (nat_eq b.number n)) blocks

-- ---- reading

-- the numbers of the blocks of an archetype, in block order
abbrev pub numbers_in : ℕ → List Numbered → List ℕ
numbers_in a blocks = map (λ (b : Numbered). b.number) (filter (λ (b : Numbered). nat_eq b.archetype a) blocks)

-- the rank at the place of the block of a number; 0 where there is none
abbrev pub rank_of : ℕ → List Numbered → List ℕ → ℕ
rank_of n [] ranks = 0
rank_of n (b ∷ bs) [] = 0
rank_of n (b ∷ bs) (r ∷ rs) = if nat_eq b.number n then r else rank_of n bs rs

-- the blocks with their numbers
abbrev pub numbered_blocks : List Numbered → List (ℕ × BlockState)
numbered_blocks blocks = map (λ (b : Numbered). (b.number, b.block)) blocks

-- ---- archetypes

-- no archetype has these types
abbrev pub LacksTypes : List ℕ → List (List ℕ) → Type 0
LacksTypes types archetypes = (a : ℕ) → a < length archetypes → types_at archetypes a ≡ types → ⊥

-- the archetypes are as they were, or have one more, whose types no other has
abbrev pub StayOrGrow : List ℕ → List (List ℕ) → List (List ℕ) → Type 0
StayOrGrow types old new = (new ≡ old) ⊎ (LacksTypes types old × (new ≡ old ++ types ∷ []))

-- what `archetype_of` leaves: the archetype with these types is there, and the blocks are as they were
pub record Finds (old new : StoreState) (registry : List TypeInfo) (types : List ℕ) (a : ℕ) : Type 0 where
  pub there : a < length new.archetypes
  pub types_are : types_at new.archetypes a ≡ types
  pub archetypes : StayOrGrow types old.archetypes new.archetypes
  pub registry_is : new.registry ≡ Some registry
  pub blocks : new.blocks ≡ old.blocks
  pub ranks : new.ranks ≡ old.ranks
  pub fit : 0 < capacity registry types

-- ---- what always holds

-- the shared types among some types
abbrev pub shared_types : List TypeInfo → List ℕ → List ℕ
shared_types registry types = filter (is_shared_at registry) types

-- no two archetypes have the same types
abbrev pub AreApart : List (List ℕ) → Type 0
AreApart archetypes = (a b : ℕ) → a < length archetypes → b < length archetypes → types_at archetypes a ≡ types_at archetypes b → a ≡ b

abbrev pub shape_list : List BlockType → List TypeShape
shape_list columns = map (λ (x : BlockType). x.shape) columns

-- a block is of its archetype
pub record IsOfStore (s : StoreState) (b : Numbered) : Type 0 where
  pub there : b.archetype < length s.archetypes
  pub types : b.block.types ≡ types_at s.archetypes b.archetype
  pub capacity : b.block.capacity ≡ capacity (registry_of s) b.block.types
  pub shapes : shape_list b.block.columns ≡ shape_list (new_types (registry_of s) b.block.types)
  pub shared : map part_type b.shared ≡ shared_types (registry_of s) b.block.types

-- what always holds of a store
pub record IsStore (s : StoreState) : Type 0 where
  pub numbers : AreDistinct (map (λ (b : Numbered). b.number) s.blocks)
  pub blocks : (b : Numbered) → In b s.blocks → IsOfStore s b
  pub apart : AreApart s.archetypes
  -- a block of each archetype has room for a row
  pub fit : (a : ℕ) → a < length s.archetypes → 0 < capacity (registry_of s) (types_at s.archetypes a)
  pub ranked : length s.ranks ≡ length s.blocks
  pub rising : IsRising s.ranks
  pub few : length s.blocks ≤ MOST_NUMBERS
  pub registered : s.registry ≡ None → s.archetypes ≡ []
