-- What holds of the block of a number.
use Rattle.std.proofs.Common.{◌≡◌, ℕ, ◌+◌, ◌<◌, Bool, true, false, ◌&&◌, cond, nat_eq, List, [], ◌∷◌, ◌++◌, Some, map, length, get_or, drop, refl, sym, ap, ap₂, ◌∙◌, subst, suc, inl, inr, add-one, drop-cons}
use Rattle.std.specs.Bool.{MatchBool}
use Rattle.std.specs.List.{list_all, list_any, flat_map}
use Rattle.std.proofs.lemmas.Bool.{and_left, eq-eqb, ne_eqb}
use Rattle.ent_types.specs.declared.value.Part.{Part}
use Rattle.world_model.specs.Members.{In, AreDistinct}
use Rattle.world_model.specs.Part.{part_of, same_part}
use Rattle.world_laws.proofs.Members.{map_in}
use Rattle.chunk_block.specs.Blocks.{BlockState}
use Rattle.archetype_store.specs.Stores.{Numbered, OfNumber}
use Rattle.world_places.specs.Placing.{numbers_of}
use Rattle.world_places.proofs.Numbers.{of_both, of_member, of_more}
use Rattle.query_select.specs.Visits.{block_at, of_found}

-- what is seen of the block has what the block has
pub of_seen : (n : ℕ) (blocks : List Numbered) (now : BlockState) (P : Numbered → Type 0) (Q : BlockState → Type 0) → ((b : Numbered) → P b → Q b.block)
    → OfNumber n P blocks → OfNumber n (λ b. now ≡ b.block) blocks → Q now
of_seen n blocks now P Q has of seen =
    let at = of_member n (λ b. Q now) blocks (of_both n P (λ b. now ≡ b.block) (λ b. Q now) blocks (λ b p e. subst Q (sym e) (has b p)) of seen) in at.3

abbrev pub have_parts : List Part → Numbered → Bool
have_parts parts b = list_all (λ (p : Part). list_any (same_part (part_of p)) b.shared) parts

module _ (n : ℕ) (blocks : List Numbered) (parts : List Part) where
  -- the parts that are left decide
  abbrev pub Decide : ℕ → Type 0
  Decide i = OfNumber n (λ b. have_parts (drop i parts) b ≡ have_parts parts b) blocks

  pub decide_first : (P : Numbered → Type 0) → OfNumber n P blocks → Decide 0
  decide_first P of = of_more n P (λ b. have_parts (drop 0 parts) b ≡ have_parts parts b) blocks (λ b p. refl) of

  module _ (i : ℕ) (p : Part) (below : i < length parts) (is : p ≡ get_or parts i p) (r : Bool) (of : OfNumber n (λ b. r ≡ list_any (same_part (part_of p)) b.shared) blocks) (left : Decide i) where
    next : (b : Numbered) → r ≡ list_any (same_part (part_of p)) b.shared → have_parts (drop i parts) b ≡ (r && have_parts (drop (i + 1) parts) b)
    next b e =
        ap (λ ps. have_parts ps b) (drop-cons parts i p below) ∙ ap (λ q. list_any (same_part (part_of q)) b.shared && have_parts (drop (suc i) parts) b) (sym is)
        ∙ ap (λ t. t && have_parts (drop (suc i) parts) b) (sym e) ∙ ap (λ j. r && have_parts (drop j parts) b) (sym (add-one i))

    pub decide_next : r ≡ true → Decide (i + 1)
    decide_next has =
        of_both n (λ b. r ≡ list_any (same_part (part_of p)) b.shared) (λ b. have_parts (drop i parts) b ≡ have_parts parts b) (λ b. have_parts (drop (i + 1) parts) b ≡ have_parts parts b) blocks
        (λ b e d. sym (next b e ∙ ap (λ t. t && have_parts (drop (i + 1) parts) b) has) ∙ d) of left

    pub decide_lacking : r ≡ false → OfNumber n (λ b. false ≡ have_parts parts b) blocks
    decide_lacking lacks =
        of_both n (λ b. r ≡ list_any (same_part (part_of p)) b.shared) (λ b. have_parts (drop i parts) b ≡ have_parts parts b) (λ b. false ≡ have_parts parts b) blocks
        (λ b e d. sym (next b e ∙ and_left r (have_parts (drop (i + 1) parts) b) lacks) ∙ d) of left

  pub decide_all : (i : ℕ) → drop i parts ≡ [] → Decide i → OfNumber n (λ b. true ≡ have_parts parts b) blocks
  decide_all i none left =
      of_more n (λ b. have_parts (drop i parts) b ≡ have_parts parts b) (λ b. true ≡ have_parts parts b) blocks (λ b d. sym (ap (λ ps. have_parts ps b) none) ∙ d) left

-- ---- lists by numbers

-- what is given for the block of a number
pub of_at_number : {X : Type 0} (n : ℕ) (f : Numbered → List X) (xs : List X) (blocks : List Numbered) → OfNumber n (λ b. xs ≡ f b) blocks → xs ≡ of_found f (block_at n blocks)
of_at_number n f xs [] of = absurd of
of_at_number {X} n f xs (b ∷ bs) of = by (nat_eq b.number n) of (of_at_number n f xs bs)
  where
    by : (t : Bool) → MatchBool t (xs ≡ f b) (OfNumber n (λ c. xs ≡ f c) bs) → (OfNumber n (λ c. xs ≡ f c) bs → xs ≡ of_found f (block_at n bs))
        → xs ≡ of_found f (cond t (Some b) (block_at n bs))
    by true is rest = is
    by false of rest = rest of

-- a block is found by its number
pub found_by_number : (blocks : List Numbered) → AreDistinct (numbers_of blocks) → (b : Numbered) → In b blocks → block_at b.number blocks ≡ Some b
found_by_number [] distinct b i = absurd i
found_by_number (c ∷ cs) distinct b (inl e) = ap (λ t. cond t (Some c) (block_at b.number cs)) (eq-eqb c.number b.number (ap (λ (d : Numbered). d.number) (sym e))) ∙ ap Some (sym e)
found_by_number (c ∷ cs) distinct b (inr i) =
    ap (λ t. cond t (Some c) (block_at b.number cs)) (ne_eqb c.number b.number (λ e. distinct.0 (subst (λ n. In n (numbers_of cs)) (sym e) (map_in (λ (d : Numbered). d.number) b cs i))))
    ∙ found_by_number cs distinct.1 b i

-- what is given for the numbers of some blocks is what is given for the blocks
pub by_numbers : {X : Type 0} (blocks : List Numbered) → AreDistinct (numbers_of blocks) → (f : ℕ → Numbered → List X) (bs : List Numbered) → ((b : Numbered) → In b bs → In b blocks)
    → flat_map (λ n. of_found (f n) (block_at n blocks)) (map (λ (b : Numbered). b.number) bs) ≡ flat_map (λ (b : Numbered). f b.number b) bs
by_numbers blocks distinct f [] there = refl
by_numbers blocks distinct f (b ∷ bs) there =
    ap₂ (λ xs ys. xs ++ ys) (ap (of_found (f b.number)) (found_by_number blocks distinct b (there b (inl refl)))) (by_numbers blocks distinct f bs (λ c i. there c (inr i)))
