-- Blocks of a world by their numbers are blocks of the store by their numbers.
use Rattle.std.proofs.Common.{◌≡◌, ℕ, ◌<◌, inl, inr, Bool, true, false, nat_eq, List, [], ◌∷◌, ◌++◌, length, map, Option, Some, None, refl, sym, ap, ap₂, ◌∙◌, subst, arith}
use Rattle.std.specs.Prelude.{unwrap_or}
use Rattle.std.specs.Bool.{MatchBool}
use Rattle.std.specs.Option.{IfSome}
use Rattle.ent_types.specs.declared.type_info.TypeInfo.{TypeInfo}
use Rattle.world_model.specs.Members.{In}
use Rattle.world_model.specs.Row.{Row}
use Rattle.world_model.specs.World.{Home, Block, World, capacity}
use Rattle.world_model.specs.Found.{Found, placed_in, placed}
use Rattle.world_model.specs.Versions.{block_versions}
use Rattle.chunk_block.specs.Blocks.{BlockState}
use Rattle.archetype_store.specs.Stores.{Numbered, StoreState, IsStore, OfNumber, OfBlock, registry_of, with_block}
use Rattle.world_places.specs.Placing.{world_block, world_blocks, numbers_of}
use Rattle.world_places.proofs.Numbers.{change, of_in, of_member}
use Rattle.structural_ops.specs.Worlds.{Agrees, IsConsistent, state_of}
use Rattle.structural_ops.specs.Numbered.{OfNumbered, HasBlock, by_number, whole_block, IsStoreOf}
use Rattle.structural_ops.specs.declared.tables.Tables.{Tables}

-- ---- one block

module _ (n : ℕ) (P : Block → Type 0) where
  abbrev InStore : Numbered → Type 0
  InStore b = P (world_block b)

  pub of_numbered : (bs : List Numbered) → OfNumbered n P (numbers_of bs) (world_blocks bs) → OfNumber n InStore bs
  of_numbered [] is = absurd is
  of_numbered (b ∷ bs) is = by (nat_eq b.number n) is (of_numbered bs)
    where
      by : (t : Bool) → MatchBool t (P (world_block b)) (OfNumbered n P (numbers_of bs) (world_blocks bs))
          → (OfNumbered n P (numbers_of bs) (world_blocks bs) → OfNumber n InStore bs) → MatchBool t (P (world_block b)) (OfNumber n InStore bs)
      by true h rest = h
      by false h rest = rest h

  pub to_numbered : (bs : List Numbered) → OfNumber n InStore bs → OfNumbered n P (numbers_of bs) (world_blocks bs)
  to_numbered [] is = absurd is
  to_numbered (b ∷ bs) is = by (nat_eq b.number n) is (to_numbered bs)
    where
      by : (t : Bool) → MatchBool t (P (world_block b)) (OfNumber n InStore bs)
          → (OfNumber n InStore bs → OfNumbered n P (numbers_of bs) (world_blocks bs)) → MatchBool t (P (world_block b)) (OfNumbered n P (numbers_of bs) (world_blocks bs))
      by true h rest = h
      by false h rest = rest h

-- ---- all blocks

-- a change of one block of the store is the change of the blocks of the world that has its number
pub block_by_number : (n : ℕ) (g : BlockState → BlockState) (f : ℕ → Block → Block) → ((b : Numbered) → world_block (change n g b) ≡ f b.number (world_block b))
    → (bs : List Numbered) → world_blocks (with_block n g bs) ≡ by_number f (numbers_of bs) (world_blocks bs)
block_by_number n g f same [] = refl
block_by_number n g f same (b ∷ bs) = ap₂ (λ (c : Block) (cs : List Block). c ∷ cs) (same b) (block_by_number n g f same bs)

-- the same of a change of each block
pub each_by_number : (g : Numbered → Numbered) (f : ℕ → Block → Block) → ((b : Numbered) → world_block (g b) ≡ f b.number (world_block b))
    → (bs : List Numbered) → world_blocks (map g bs) ≡ by_number f (numbers_of bs) (world_blocks bs)
each_by_number g f same [] = refl
each_by_number g f same (b ∷ bs) = ap₂ (λ (c : Block) (cs : List Block). c ∷ cs) (same b) (each_by_number g f same bs)

pub by_number_versions : (v : ℕ → ℕ) (f g : ℕ → Block → Block) → ((m : ℕ) (b : Block) → f m (block_versions v b) ≡ block_versions v (g m b))
    → (ns : List ℕ) (bs : List Block) → by_number f ns (map (block_versions v) bs) ≡ map (block_versions v) (by_number g ns bs)
by_number_versions v f g same [] bs = refl
by_number_versions v f g same (n ∷ ns) [] = refl
by_number_versions v f g same (n ∷ ns) (b ∷ bs) = ap₂ (λ (c : Block) (cs : List Block). c ∷ cs) (same n b) (by_number_versions v f g same ns bs)

pub by_number_each : (P : Block → Type 0) (f : ℕ → Block → Block) → ((m : ℕ) (b : Block) → P b → P (f m b))
    → (ns : List ℕ) (bs : List Block) → ((b : Block) → In b bs → P b) → (c : Block) → In c (by_number f ns bs) → P c
by_number_each P f keeps [] bs all c i = all c i
by_number_each P f keeps (n ∷ ns) [] all c i = absurd i
by_number_each P f keeps (n ∷ ns) (b ∷ bs) all c (inl is) = subst P (sym is) (keeps n b (all b (inl refl)))
by_number_each P f keeps (n ∷ ns) (b ∷ bs) all c (inr i) = by_number_each P f keeps ns bs (λ d j. all d (inr j)) c i

-- a change that keeps homes and rows
pub by_number_placed : (f : ℕ → Block → Block) → ((m : ℕ) (b : Block) → (f m b).home ≡ b.home) → ((m : ℕ) (b : Block) → (f m b).rows ≡ b.rows)
    → (ns : List ℕ) (bs : List Block) → placed (by_number f ns bs) ≡ placed bs
by_number_placed f home rows [] bs = refl
by_number_placed f home rows (n ∷ ns) [] = refl
by_number_placed f home rows (n ∷ ns) (b ∷ bs) =
    ap₂ (λ (xs : List Found) (ys : List Found). xs ++ ys) (ap₂ (λ (h : Home) (rs : List Row). placed_in h rs) (home n b) (rows n b)) (by_number_placed f home rows ns bs)

-- ---- what is seen

-- a store with blocks has the registry of its world
module _ (registry : List TypeInfo) (s : StoreState) (registered : IfSome s.registry (λ r. r ≡ registry)) (store : IsStore s) where
  registry_is : (b : Numbered) → In b s.blocks → registry_of s ≡ registry
  registry_is b i = by s.registry registered store.registered
    where
      none : (xs : List (List ℕ)) (k : ℕ) → k < length xs → xs ≡ [] → ⊥
      none xs k below empty = let never : k < 0 = subst (λ (ys : List (List ℕ)). k < length ys) empty below in absurd (omega arith)

      by : (r : Option (List TypeInfo)) → IfSome r (λ r. r ≡ registry) → (r ≡ None → s.archetypes ≡ []) → unwrap_or r [] ≡ registry
      by None same empty = absurd (none s.archetypes b.archetype (store.blocks b i).there (empty refl))
      by (Some r) same empty = same

  pub capacity_is : (b : Numbered) → In b s.blocks → b.block.capacity ≡ capacity registry b.block.types
  capacity_is b i = (store.blocks b i).capacity ∙ ap (λ r. capacity r b.block.types) (registry_is b i)

module _ (w : Tables) (is : IsConsistent w) (store : IsStore w.store) where
  pub block_is_whole : (b : Numbered) → In b w.store.blocks → b.block ≡ whole_block w.registry (world_block b)
  block_is_whole b i =
      ap₂ (λ columns cap. record (b.block) { columns = columns; capacity = cap }) (is.agrees.placed.whole b i) (capacity_is w.registry w.store is.agrees.registered store b i)

  pub is_store_of : IsStoreOf (state_of w) w.store
  is_store_of = record { blocks = refl; numbers = refl; archetypes = refl; whole = block_is_whole; registered = is.agrees.registered }

  -- a block that is got by its number
  pub block_seen : (n : ℕ) (b : BlockState) → OfBlock n (λ c. b ≡ c) w.store.blocks → HasBlock n (λ c. b ≡ whole_block w.registry c) (state_of w)
  block_seen n b got =
      let (c, i, number, same) = of_member n (λ c. b ≡ c.block) w.store.blocks got in
      to_numbered n (λ c. b ≡ whole_block w.registry c) w.store.blocks
      (of_in n (λ c. b ≡ whole_block w.registry (world_block c)) w.store.blocks is.agrees.placed.numbers c i number (same ∙ block_is_whole c i))
