-- The blocks of another store, one after another, after those of a store.
use Rattle.std.specs.Prelude.{ℕ, ◌≡◌, ◌⊎◌, ◌+◌, ◌<◌, slice_set, List, [], ◌∷◌, ◌++◌, length, map, Option, Some, None, IfSome}
use Rattle.ent_types.specs.declared.type_info.TypeInfo.{TypeInfo}
use Rattle.world_model.specs.Members.{In, AreDistinct}
use Rattle.chunk_block.specs.Blocks.{BlockState}
use Rattle.archetype_store.specs.Stores.{Numbered, StoreState, shape_list, types_at, with_block_in}
use Rattle.archetype_store.specs.declared.slots.Held.{Held}
use Rattle.archetype_store.specs.Slots.{slot_at}

-- one block for each block of another store and each number
abbrev pub Each : (Numbered → ℕ → Numbered → Type 0) → List Numbered → List ℕ → List Numbered → Type 0
Each R [] [] [] = Unit {0}
Each R [] [] (c ∷ cs) = ⊥
Each R [] (n ∷ ns) cs = ⊥
Each R (b ∷ bs) [] cs = ⊥
Each R (b ∷ bs) (n ∷ ns) [] = ⊥
Each R (b ∷ bs) (n ∷ ns) (c ∷ cs) = R b n c × Each R bs ns cs

-- the block has a number, and the archetype and the shared values that stand for those of a block of another store
pub record IsLike (archetypes : List (List ℕ)) (b : Numbered) (n : ℕ) (c : Numbered) : Type 0 where
  pub number : c.number ≡ n
  pub there : c.archetype < length archetypes
  pub types : types_at archetypes c.archetype ≡ b.block.types
  pub shared : c.shared ≡ b.shared

-- it is that block
pub record IsMoved (archetypes : List (List ℕ)) (b : Numbered) (n : ℕ) (c : Numbered) : Type 0 where
  pub like : IsLike archetypes b n c
  pub block : c.block ≡ b.block

-- one block may take the place of the other
pub record IsOneKind (b c : BlockState) : Type 0 where
  pub types : b.types ≡ c.types
  pub capacity : b.capacity ≡ c.capacity
  pub shapes : shape_list b.columns ≡ shape_list c.columns

-- it has room for that block, and no row yet
pub record IsHollow (archetypes : List (List ℕ)) (b : Numbered) (n : ℕ) (c : Numbered) : Type 0 where
  pub like : IsLike archetypes b n c
  pub kind : IsOneKind c.block b.block
  pub room : length c.block.rows < c.block.capacity

-- a block was added that has room for a block of another store
pub record AddsHollow (old new : StoreState) (b : Numbered) (n : ℕ) : Type 0 where
  pub added : Numbered
  pub blocks : new.blocks ≡ old.blocks ++ added ∷ []
  pub hollow : IsHollow new.archetypes b n added

-- both have the same registry, if both have one
abbrev pub Agree : StoreState → StoreState → Type 0
Agree s t = IfSome s.registry (λ r. IfSome t.registry (λ q. q ≡ r))

-- archetypes were made, and the registry of another store may have come with them
pub record Grows (known : Option (List TypeInfo)) (old new : StoreState) : Type 0 where
  pub more : List (List ℕ)
  pub archetypes : new.archetypes ≡ old.archetypes ++ more
  pub registry : (new.registry ≡ old.registry) ⊎ (new.registry ≡ known)

-- blocks were added at the end, one for each block of a list
pub record Extends (R : List (List ℕ) → Numbered → ℕ → Numbered → Type 0) (bs : List Numbered) (ns : List ℕ) (old : List Numbered) (new : StoreState) : Type 0 where
  pub added : List Numbered
  pub blocks : new.blocks ≡ old ++ added
  pub each : Each (R new.archetypes) bs ns added

-- what is added for a place of another store's block order: nothing, or a block, whose number is noted
pub record CopiesOne (blocks : List Numbered) (old new : StoreState) (ns ns' : List ℕ) (k : ℕ) : Type 0 where
  pub number : ℕ
  pub numbers : ns' ≡ ns ++ number ∷ []
  pub adds : (b : Numbered) → In b blocks → b.number ≡ k → AddsHollow old new b number

abbrev pub CopiesAt : List Numbered → StoreState → StoreState → List ℕ → List ℕ → Option ℕ → Type 0
CopiesAt blocks old new ns ns' None = (new.blocks ≡ old.blocks) × (ns' ≡ ns)
CopiesAt blocks old new ns ns' (Some k) = CopiesOne blocks old new ns ns' k

-- the last blocks are without rows, and have these numbers
pub record EndsHollow (ns : List ℕ) (old : List Numbered) (new : StoreState) : Type 0 where
  pub like : List Numbered
  pub extends : Extends IsHollow like ns old new

pub record HasHollows (ns : List ℕ) (new : StoreState) : Type 0 where
  pub old : List Numbered
  pub ends : EndsHollow ns old new

-- the last blocks are without rows, and have room for the blocks of a list
pub record AwaitsBlocks (bs : List Numbered) (ns : List ℕ) (new : StoreState) : Type 0 where
  pub old : List Numbered
  pub extends : Extends IsHollow bs ns old new

-- what is taken at a place of another store's block order: nothing, or its block
pub record TakesOne (old new : StoreState) (slots slots' : List (Option Held)) (m n : ℕ) : Type 0 where
  pub held : Held
  pub there : slot_at slots m ≡ Some held
  pub slots_are : slots' ≡ slice_set slots m None
  pub store : new ≡ with_block_in n (λ _. held.block) old

abbrev pub TakesAt : StoreState → StoreState → List (Option Held) → List (Option Held) → Option ℕ → ℕ → ℕ → ℕ → Type 0
TakesAt old new slots slots' None n done done' = (new ≡ old) × ((slots' ≡ slots) × (done' ≡ done))
TakesAt old new slots slots' (Some m) n done done' = TakesOne old new slots slots' m n × (done' ≡ done + 1)

-- What `attach` leaves: the blocks of the other store are the last, in their order. No two blocks have one number.
pub record Attaches (old new other : StoreState) (ns : List ℕ) : Type 0 where
  pub grows : Grows other.registry old new
  pub blocks : Extends IsMoved other.blocks ns old.blocks new
  pub distinct : AreDistinct (map (λ (b : Numbered). b.number) new.blocks)
