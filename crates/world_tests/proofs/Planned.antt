-- Plans over the blocks of a world, and loans that come back in the opposite order.
use Rattle.std.proofs.Common.{ℕ, ◌≡◌, ◌+◌, ◌≤◌, ◌∙◌, ◌⊎◌, inl, inr, Bool, true, false, nat_eq, refl, sym, ap, ap₂, subst, List, [], ◌∷◌, ◌++◌, map, length, arith}
use Rattle.std.specs.Prelude.{⊤}
use Rattle.std.specs.Bool.{MatchBool}
use Rattle.std.specs.List.Sorted.{IsPermutation}
use Rattle.std.proofs.lemmas.Bool.{eqb-false}
use Rattle.std.proofs.lemmas.List.{length-append}
use Rattle.std.proofs.lemmas.List.Sorted.{IsPermutation-append_comm}
use Rattle.ent_types.specs.TypeSets.{meets}
use Rattle.world_model.specs.Members.{In}
use Rattle.world_model.specs.World.{Block}
use Rattle.world_laws.proofs.Members.{in_map}
use Rattle.chunk_block.specs.Blocks.{BlockState, LoanState}
use Rattle.archetype_store.specs.Stores.{Numbered, OfNumber, StoreState, numbered_blocks}
use Rattle.world_places.specs.Placing.{numbers_of, world_blocks}
use Rattle.structural_ops.specs.Freezing.{IsPlan}
use Rattle.structural_ops.specs.Numbered.{HasBlock, IsStoreOf, OfNumbered}
use Rattle.structural_ops.specs.Worlds.{WorldState}
use Rattle.structural_ops.proofs.Numbered.{to_numbered}

-- ---- blocks of a walk

there_of : (n : ℕ) (x : BlockState) (bs : List Numbered) → In (n, x) (numbered_blocks bs) → OfNumber n (λ _. ⊤) bs
there_of n x [] i = absurd i
there_of n x (b ∷ bs) i = by (nat_eq b.number n) refl i (there_of n x bs)
  where
    by : (t : Bool) → nat_eq b.number n ≡ t → In (n, x) (numbered_blocks (b ∷ bs)) → (In (n, x) (numbered_blocks bs) → OfNumber n (λ _. ⊤) bs) → MatchBool t ⊤ (OfNumber n (λ _. ⊤) bs)
    by true is i rest = tt
    by false is (inl same) rest = absurd (eqb-false b.number n is (ap (λ (y : ℕ × BlockState). y.0) (sym same)))
    by false is (inr i) rest = rest i

-- a block that a walk gives is there
pub walked_there : (w : WorldState) (s : StoreState) → IsStoreOf w s → (n : ℕ) (x : BlockState) → In (n, x) (numbered_blocks s.blocks) → HasBlock n (λ _. ⊤) w
walked_there w s of n x i =
    subst (λ (bs : List Block). OfNumbered n (λ _. ⊤) w.numbers bs) of.blocks
    (subst (λ ns. OfNumbered n (λ _. ⊤) ns (world_blocks s.blocks)) of.numbers (to_numbered n (λ _. ⊤) s.blocks (there_of n x s.blocks i)))

-- ---- a plan of two blocks

pub two_planned : (w : WorldState) (n m : ℕ) (ts us : List ℕ) (plan : List (ℕ × List ℕ)) → plan ≡ (n, ts) ∷ (m, us) ∷ [] → HasBlock n (λ _. ⊤) w → HasBlock m (λ _. ⊤) w → (n ≡ m → ⊥) → IsPlan plan w
two_planned w n m ts us plan is first second apart =
    subst (λ (p : List (ℕ × List ℕ)). IsPlan p w) (sym is) (record { there = there; apart = (λ f i same. differ f i same, ((λ f i same. absurd i), tt)) })
  where
    there : (e : ℕ × List ℕ) → In e ((n, ts) ∷ (m, us) ∷ []) → HasBlock e.0 (λ _. ⊤) w
    there e (inl same) = subst (λ k. HasBlock k (λ _. ⊤) w) (ap (λ (x : ℕ × List ℕ). x.0) (sym same)) first
    there e (inr (inl same)) = subst (λ k. HasBlock k (λ _. ⊤) w) (ap (λ (x : ℕ × List ℕ). x.0) (sym same)) second
    there e (inr (inr i)) = absurd i

    differ : (f : ℕ × List ℕ) → In f ((m, us) ∷ []) → n ≡ f.0 → meets ts f.1 ≡ false
    differ f (inl same) number = absurd (apart (number ∙ ap (λ (x : ℕ × List ℕ). x.0) same))
    differ f (inr i) number = absurd i

-- ---- two loans

-- the last loan before the one before it
pub turned_about : (all rest mid : List LoanState) (a b : LoanState) → length all ≡ 2 → all ≡ mid ++ b ∷ [] → mid ≡ rest ++ a ∷ [] → IsPermutation all ((rest ++ b ∷ []) ++ a ∷ [])
turned_about all rest mid a b two is was = by rest refl
  where
    none : (rs : List LoanState) → rest ≡ rs → length rs ≡ 0
    none rs same =
        omega
        (arith, two, ap length is, length-append mid (b ∷ []), ap length was, length-append rest (a ∷ []), ap length same)

    by : (rs : List LoanState) → rest ≡ rs → IsPermutation all ((rest ++ b ∷ []) ++ a ∷ [])
    by [] same =
        subst (λ xs. IsPermutation xs ((rest ++ b ∷ []) ++ a ∷ [])) (sym (is ∙ ap (λ xs. xs ++ b ∷ []) (was ∙ ap (λ xs. xs ++ a ∷ []) same)))
        (subst (λ xs. IsPermutation (a ∷ b ∷ []) ((xs ++ b ∷ []) ++ a ∷ [])) (sym same) (IsPermutation-append_comm (a ∷ []) (b ∷ [])))
    by (r ∷ rs) same = absurd (let never : length (r ∷ rs) ≡ 0 = none (r ∷ rs) same in omega (arith, never))
