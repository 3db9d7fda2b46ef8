-- What is lent of a store by a plan, which is a list of numbers of blocks with types.
use Rattle.std.specs.Prelude.{ℕ, ◌≡◌, false, if◌then◌else◌, nat_eq, List, [], ◌∷◌, ◌++◌}
use Rattle.ent_types.specs.TypeSets.{meets}
use Rattle.world_model.specs.Members.{In}
use Rattle.chunk_block.specs.Blocks.{BlockState, BlockType, LoanState, AreHeld}
use Rattle.archetype_store.specs.Stores.{Numbered, StoreState, OfBlock, with_block_in}
use Rattle.block_laws.specs.Lending.{after_lending, lent_pieces}

-- entries of one block name no common type
abbrev pub AreApart : List (ℕ × List ℕ) → Type 0
AreApart [] = Unit {0}
AreApart (e ∷ es) = ((f : ℕ × List ℕ) → In f es → e.0 ≡ f.0 → meets e.1 f.1 ≡ false) × AreApart es

-- the types that a plan lends of the block of a number
abbrev pub planned : List (ℕ × List ℕ) → ℕ → List ℕ
planned [] n = []
planned (e ∷ es) n = if nat_eq n e.0 then e.1 ++ planned es n else planned es n

-- the loan that an entry gets of a block
abbrev pub loan_from : ℕ × List ℕ → BlockState → LoanState
loan_from e b = record { number = e.0; types = e.1; pieces = lent_pieces e.1 b }

-- the loan that an entry gets of the block that it names
abbrev pub loan_in : ℕ × List ℕ → List Numbered → LoanState
loan_in e [] = record { number = e.0; types = e.1; pieces = [] }
loan_in e (b ∷ bs) = if nat_eq b.number e.0 then loan_from e b.block else loan_in e bs

-- ---- one entry after another

abbrev pub after_lends : List (ℕ × List ℕ) → StoreState → StoreState
after_lends [] s = s
after_lends (e ∷ es) s = after_lends es (with_block_in e.0 (after_lending e.1) s)

abbrev pub loans_from : List (ℕ × List ℕ) → StoreState → List LoanState
loans_from [] s = []
loans_from (e ∷ es) s = loan_in e s.blocks ∷ loans_from es (with_block_in e.0 (after_lending e.1) s)

abbrev pub CanLend : List (ℕ × List ℕ) → StoreState → Type 0
CanLend [] s = Unit {0}
CanLend (e ∷ es) s = OfBlock e.0 (λ b. AreHeld e.1 b.columns) s.blocks × CanLend es (with_block_in e.0 (after_lending e.1) s)

-- ---- all at once

-- a block of which these types are lent, by its number
abbrev pub lent_by : (ℕ → List ℕ) → Numbered → Numbered
lent_by types b = record b { block = after_lending (types b.number) b.block }

-- the types that are lent
abbrev pub lent_types : List BlockType → List ℕ
lent_types [] = []
lent_types (x ∷ xs) = if x.lent then x.shape.ty.0 ∷ lent_types xs else lent_types xs
