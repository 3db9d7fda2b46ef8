-- Blocks that are changed by their numbers, and the block of a number among them.
use Rattle.std.proofs.Common.{ℕ, ◌≡◌, ◌∙◌, inl, inr, Bool, true, false, cond, nat_eq, refl, sym, ap, ap₂, subst, List, [], ◌∷◌, length, arith}
use Rattle.std.specs.Prelude.{⊤}
use Rattle.std.specs.Bool.{MatchBool}
use Rattle.std.proofs.lemmas.Bool.{eq-eqb, eqb-true, ne_eqb}
use Rattle.world_model.specs.Members.{In, AreDistinct}
use Rattle.world_model.specs.World.{Block}
use Rattle.structural_ops.specs.Freezing.{block_at}
use Rattle.structural_ops.specs.Numbered.{OfNumbered, by_number}

-- ---- changes

pub by_number_twice : (f g : ℕ → Block → Block) (ns : List ℕ) (bs : List Block) → by_number f ns (by_number g ns bs) ≡ by_number (λ m b. f m (g m b)) ns bs
by_number_twice f g [] bs = refl
by_number_twice f g (n ∷ ns) [] = refl
by_number_twice f g (n ∷ ns) (b ∷ bs) = ap (λ (cs : List Block). f n (g n b) ∷ cs) (by_number_twice f g ns bs)

pub by_number_same : (f g : ℕ → Block → Block) → ((m : ℕ) (b : Block) → f m b ≡ g m b) → (ns : List ℕ) (bs : List Block) → by_number f ns bs ≡ by_number g ns bs
by_number_same f g same [] bs = refl
by_number_same f g same (n ∷ ns) [] = refl
by_number_same f g same (n ∷ ns) (b ∷ bs) = ap₂ (λ (c : Block) (cs : List Block). c ∷ cs) (same n b) (by_number_same f g same ns bs)

pub by_number_none : (f : ℕ → Block → Block) → ((m : ℕ) (b : Block) → f m b ≡ b) → (ns : List ℕ) (bs : List Block) → by_number f ns bs ≡ bs
by_number_none f same [] bs = refl
by_number_none f same (n ∷ ns) [] = refl
by_number_none f same (n ∷ ns) (b ∷ bs) = ap₂ (λ (c : Block) (cs : List Block). c ∷ cs) (same n b) (by_number_none f same ns bs)

pub by_number_length : (f : ℕ → Block → Block) (ns : List ℕ) (bs : List Block) → length (by_number f ns bs) ≡ length bs
by_number_length f [] bs = refl
by_number_length f (n ∷ ns) [] = refl
by_number_length f (n ∷ ns) (b ∷ bs) = let rest = by_number_length f ns bs in omega (arith, rest)

-- ---- one block

pub there_more : (n : ℕ) (P Q : Block → Type 0) → ((b : Block) → P b → Q b) → (ns : List ℕ) (bs : List Block) → OfNumbered n P ns bs → OfNumbered n Q ns bs
there_more n P Q more [] bs is = is
there_more n P Q more (m ∷ ms) [] is = is
there_more n P Q more (m ∷ ms) (b ∷ bs) is = by (nat_eq m n) is (there_more n P Q more ms bs)
  where
    by : (t : Bool) → MatchBool t (P b) (OfNumbered n P ms bs) → (OfNumbered n P ms bs → OfNumbered n Q ms bs) → MatchBool t (Q b) (OfNumbered n Q ms bs)
    by true h rest = more b h
    by false h rest = rest h

module _ (n : ℕ) (f : ℕ → Block → Block) where
  pub there_changed : (ns : List ℕ) (bs : List Block) → OfNumbered n (λ _. ⊤) ns bs → OfNumbered n (λ _. ⊤) ns (by_number f ns bs)
  there_changed [] bs is = is
  there_changed (m ∷ ms) [] is = is
  there_changed (m ∷ ms) (b ∷ bs) is = by (nat_eq m n) is (there_changed ms bs)
    where
      by : (t : Bool) → MatchBool t ⊤ (OfNumbered n (λ _. ⊤) ms bs) → (OfNumbered n (λ _. ⊤) ms bs → OfNumbered n (λ _. ⊤) ms (by_number f ms bs))
          → MatchBool t ⊤ (OfNumbered n (λ _. ⊤) ms (by_number f ms bs))
      by true h rest = tt
      by false h rest = rest h

  pub block_changed : (ns : List ℕ) (bs : List Block) → OfNumbered n (λ _. ⊤) ns bs → block_at n ns (by_number f ns bs) ≡ f n (block_at n ns bs)
  block_changed [] bs is = absurd is
  block_changed (m ∷ ms) [] is = absurd is
  block_changed (m ∷ ms) (b ∷ bs) is = by (nat_eq m n) refl is (block_changed ms bs)
    where
      by : (t : Bool) → nat_eq m n ≡ t → MatchBool t ⊤ (OfNumbered n (λ _. ⊤) ms bs) → (OfNumbered n (λ _. ⊤) ms bs → block_at n ms (by_number f ms bs) ≡ f n (block_at n ms bs))
          → cond t (f m b) (block_at n ms (by_number f ms bs)) ≡ f n (cond t b (block_at n ms bs))
      by true same h rest = ap (λ k. f k b) (eqb-true m n same)
      by false other h rest = rest h

-- ---- each block is found by its number

-- these are the blocks of the numbers, one for one
abbrev pub AreAt : (ℕ → Block) → List ℕ → List Block → Type 0
AreAt at [] [] = Unit {0}
AreAt at [] (b ∷ bs) = ⊥
AreAt at (n ∷ ns) [] = ⊥
AreAt at (n ∷ ns) (b ∷ bs) = (at n ≡ b) × AreAt at ns bs

are_at_same : (at to : ℕ → Block) (ns : List ℕ) (bs : List Block) → ((m : ℕ) → In m ns → to m ≡ at m) → AreAt at ns bs → AreAt to ns bs
are_at_same at to [] [] same are = tt
are_at_same at to [] (b ∷ bs) same are = are
are_at_same at to (n ∷ ns) [] same are = are
are_at_same at to (n ∷ ns) (b ∷ bs) same are = (same n (inl refl) ∙ are.0, are_at_same at to ns bs (λ m i. same m (inr i)) are.1)

pub are_at : (ns : List ℕ) (bs : List Block) → AreDistinct ns → length ns ≡ length bs → AreAt (λ n. block_at n ns bs) ns bs
are_at [] [] distinct long = tt
are_at [] (b ∷ bs) distinct long = absurd (omega (arith, long))
are_at (n ∷ ns) [] distinct long = absurd (omega (arith, long))
are_at (n ∷ ns) (b ∷ bs) distinct long = (
  ap (λ t. cond t b (block_at n ns bs)) (eq-eqb n n refl),
  are_at_same (λ m. block_at m ns bs) (λ m. block_at m (n ∷ ns) (b ∷ bs)) ns bs
      (λ m i. ap (λ t. cond t b (block_at m ns bs)) (ne_eqb n m (λ same. distinct.0 (subst (λ k. In k ns) (sym same) i))))
      (are_at ns bs distinct.1 (omega arith)),
)
