-- A block that lost its last row goes.
use Rattle.std.proofs.Common.{◌≡◌, ◌≢◌, ℕ, inl, inr, Bool, true, false, not, cond, nat_eq, ◌&&◌, List, [], ◌∷◌, length, map, filter, refl, sym, ap, ◌∙◌, subst}
use Rattle.std.specs.Bool.{MatchBool}
use Rattle.std.proofs.lemmas.Bool.{cases_eq, eq-eqb, ne_eqb}
use Rattle.world_model.specs.Members.{In, AreDistinct}
use Rattle.chunk_block.specs.Blocks.{BlockState}
use Rattle.archetype_store.specs.Stores.{Numbered, OfBlock, OfNumber, is_emptied, without_block}

abbrev keep : ℕ → Numbered → Bool
keep n b = not (is_emptied n b)

abbrev numbers : List Numbered → List ℕ
numbers bs = map (λ (b : Numbered). b.number) bs

-- where no block has the number nothing goes
none-emptied : (n : ℕ) (bs : List Numbered) → (In n (numbers bs) → ⊥) → filter (λ b. not (is_emptied n b)) bs ≡ bs
none-emptied n [] lacks = refl
none-emptied n (b ∷ bs) lacks =
    let apart : b.number ≢ n = λ e. lacks (inl (sym e)) in
    ap (λ t. cond (not (t && nat_eq (length b.block.rows) 0)) (b ∷ filter (keep n) bs) (filter (keep n) bs)) (ne_eqb b.number n apart)
    ∙ ap (λ cs. b ∷ cs) (none-emptied n bs (λ there. lacks (inr there)))

none-without : (n : ℕ) (bs : List Numbered) → (In n (numbers bs) → ⊥) → without_block n bs ≡ bs
none-without n [] lacks = refl
none-without n (b ∷ bs) lacks =
    let apart : b.number ≢ n = λ e. lacks (inl (sym e)) in
    ap (λ t. cond (not t) (b ∷ without_block n bs) (without_block n bs)) (ne_eqb b.number n apart) ∙ ap (λ cs. b ∷ cs) (none-without n bs (λ there. lacks (inr there)))

-- the block of the number goes if it has no row
pub emptied-goes : (n : ℕ) (bs : List Numbered) → AreDistinct (map (λ (b : Numbered). b.number) bs) → OfBlock n (λ b. length b.rows ≡ 0) bs → filter (λ b. not (is_emptied n b)) bs ≡ without_block n bs
emptied-goes n [] distinct is = refl
emptied-goes n (b ∷ bs) distinct is =
    elim (cases_eq b.number n) [
      | inl same ↦
          let number : nat_eq b.number n ≡ true = eq-eqb b.number n same in
          let empty : length b.block.rows ≡ 0 = subst (λ t. MatchBool t (length b.block.rows ≡ 0) (OfBlock n (λ b. length b.rows ≡ 0) bs)) number is in
          let lacks : In n (numbers bs) → ⊥ = λ there. distinct.0 (subst (λ k. In k (numbers bs)) (sym same) there) in
          ap (λ t. cond (not (t && nat_eq (length b.block.rows) 0)) (b ∷ filter (keep n) bs) (filter (keep n) bs)) number
          ∙ ap (λ t. cond (not t) (b ∷ filter (keep n) bs) (filter (keep n) bs)) (eq-eqb (length b.block.rows) 0 empty)
          ∙ none-emptied n bs lacks ∙ sym (none-without n bs lacks)
          ∙ sym (ap (λ t. cond (not t) (b ∷ without_block n bs) (without_block n bs)) number)
      | inr apart ↦
          let number : nat_eq b.number n ≡ false = ne_eqb b.number n apart in
          let rest : OfBlock n (λ b. length b.rows ≡ 0) bs = subst (λ t. MatchBool t (length b.block.rows ≡ 0) (OfBlock n (λ b. length b.rows ≡ 0) bs)) number is in
          ap (λ t. cond (not (t && nat_eq (length b.block.rows) 0)) (b ∷ filter (keep n) bs) (filter (keep n) bs)) number
          ∙ ap (λ cs. b ∷ cs) (emptied-goes n bs distinct.1 rest)
          ∙ sym (ap (λ t. cond (not t) (b ∷ without_block n bs) (without_block n bs)) number)
    ]

-- and stays if it has one
pub others-stay : (n : ℕ) (bs : List Numbered) → AreDistinct (map (λ (b : Numbered). b.number) bs) → OfBlock n (λ b. length b.rows ≢ 0) bs → filter (λ b. not (is_emptied n b)) bs ≡ bs
others-stay n [] distinct is = refl
others-stay n (b ∷ bs) distinct is =
    elim (cases_eq b.number n) [
      | inl same ↦
          let number : nat_eq b.number n ≡ true = eq-eqb b.number n same in
          let some : length b.block.rows ≢ 0 = subst (λ t. MatchBool t (length b.block.rows ≢ 0) (OfBlock n (λ b. length b.rows ≢ 0) bs)) number is in
          let lacks : In n (numbers bs) → ⊥ = λ there. distinct.0 (subst (λ k. In k (numbers bs)) (sym same) there) in
          ap (λ t. cond (not (t && nat_eq (length b.block.rows) 0)) (b ∷ filter (keep n) bs) (filter (keep n) bs)) number
          ∙ ap (λ t. cond (not t) (b ∷ filter (keep n) bs) (filter (keep n) bs)) (ne_eqb (length b.block.rows) 0 some)
          ∙ ap (λ cs. b ∷ cs) (none-emptied n bs lacks)
      | inr apart ↦
          let number : nat_eq b.number n ≡ false = ne_eqb b.number n apart in
          let rest : OfBlock n (λ b. length b.rows ≢ 0) bs = subst (λ t. MatchBool t (length b.block.rows ≢ 0) (OfBlock n (λ b. length b.rows ≢ 0) bs)) number is in
          ap (λ t. cond (not (t && nat_eq (length b.block.rows) 0)) (b ∷ filter (keep n) bs) (filter (keep n) bs)) number
          ∙ ap (λ cs. b ∷ cs) (others-stay n bs distinct.1 rest)
    ]

-- what holds of the block of a number
pub of-each : (n : ℕ) (P Q : BlockState → Type 0) (bs : List Numbered) → OfBlock n P bs → ((b : BlockState) → P b → Q b) → OfBlock n Q bs
of-each n P Q [] is so = absurd is
of-each n P Q (b ∷ bs) is so = by (nat_eq b.number n) is (λ rest. of-each n P Q bs rest so)
  where
    by : (t : Bool) → MatchBool t (P b.block) (OfBlock n P bs) → (OfBlock n P bs → OfBlock n Q bs) → MatchBool t (Q b.block) (OfBlock n Q bs)
    by true here rest = so b.block here
    by false there rest = rest there

-- and of a block that is among them
pub of-each-in : (n : ℕ) (P Q : Numbered → Type 0) (bs : List Numbered) → OfNumber n P bs → ((b : Numbered) → In b bs → P b → Q b) → OfNumber n Q bs
of-each-in n P Q [] is so = absurd is
of-each-in n P Q (b ∷ bs) is so = by (nat_eq b.number n) is (λ rest. of-each-in n P Q bs rest (λ c there. so c (inr there)))
  where
    by : (t : Bool) → MatchBool t (P b) (OfNumber n P bs) → (OfNumber n P bs → OfNumber n Q bs) → MatchBool t (Q b) (OfNumber n Q bs)
    by true here rest = so b (inl refl) here
    by false there rest = rest there
