-- What is known of the block of a number.
use Rattle.std.proofs.Common.{◌≡◌, ℕ, ◌<◌, ◌≤◌, Bool, true, false, nat_eq, List, [], ◌∷◌, length, ap, arith}
use Rattle.std.specs.Bool.{MatchBool}
use Rattle.chunk_block.specs.Blocks.{BlockState, IsWhole}
use Rattle.archetype_store.specs.Stores.{Numbered, OfBlock}
use Rattle.archetype_store.proofs.Left.{of-each}

pub of-both : (n : ℕ) (P Q : BlockState → Type 0) (bs : List Numbered) → OfBlock n P bs → OfBlock n Q bs → OfBlock n (λ b. P b × Q b) bs
of-both n P Q [] p q = absurd p
of-both n P Q (b ∷ bs) p q = by (nat_eq b.number n) p q (λ x y. of-both n P Q bs x y)
  where
    by : (t : Bool) → MatchBool t (P b.block) (OfBlock n P bs) → MatchBool t (Q b.block) (OfBlock n Q bs) → (OfBlock n P bs → OfBlock n Q bs → OfBlock n (λ b. P b × Q b) bs)
        → MatchBool t (P b.block × Q b.block) (OfBlock n (λ b. P b × Q b) bs)
    by true x y rest = (x, y)
    by false x y rest = rest x y

pub is-there : (n : ℕ) (bs : List Numbered) → OfBlock n (λ b. IsWhole b.columns) bs → OfBlock n (λ b. Unit {0}) bs
is-there n bs whole = of-each n (λ b. IsWhole b.columns) (λ b. Unit {0}) bs whole (λ b _. tt)

-- a row below the count that was read is there
pub row-there : (n row : ℕ) (block : BlockState) (bs : List Numbered) → OfBlock n (λ b. block ≡ b) bs → row < length block.rows → OfBlock n (λ b. row < length b.rows) bs
row-there n row block bs is below = of-each n (λ b. block ≡ b) (λ b. row < length b.rows) bs is (λ b same. omega (arith, below, ap (λ (x : BlockState). length x.rows) same))
