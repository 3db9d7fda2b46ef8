-- How many pieces of a type the loans of a plan have.
use Rattle.std.proofs.Common.{◌≡◌, ℕ, ◌+◌, ◌<◌, ◌⊎◌, inl, inr, Bool, true, false, ◌||◌, ◌&&◌, cond, nat_eq, List, [], ◌∷◌, ◌++◌, map, sum_by, refl, sym, ap, ap₂, ◌∙◌, subst, arith}
use Rattle.std.specs.List.{flat_map}
use Rattle.std.proofs.lemmas.Bool.{eqb-true, ne_eqb}
use Rattle.std.proofs.lemmas.List.Sums.{sum_by-cons}
use Rattle.ent_types.specs.TypeSets.{has_type}
use Rattle.world_model.specs.Members.{In, IsRising, one_if, tally}
use Rattle.world_model.specs.Row.{Row}
use Rattle.block_columns.specs.Types.{TypeState}
use Rattle.chunk_block.specs.Blocks.{AreDistinct, BlockType, LoanState, column_types, content_at, lent_piece}
use Rattle.archetype_store.specs.Stores.{Numbered}
use Rattle.world_laws.proofs.Members.{in_append, tally_append}
use Rattle.world_loans.specs.Plans.{AreApart, planned, loan_from, loan_in}
use Rattle.world_loans.specs.Returns.{is_piece, pieces_in, pieces_of}
use Rattle.world_loans.proofs.Lent.{has_append, apart_has}

-- rising types are there once
pub rising_once : (ts : List ℕ) → IsRising ts → AreDistinct ts
rising_once [] rising = tt
rising_once (t ∷ ts) rising = (lacks ts rising.0, rising_once ts rising.1)
  where
    lacks : (us : List ℕ) → ((u : ℕ) → In u us → t < u) → has_type us t ≡ false
    lacks [] above = refl
    lacks (u ∷ us) above =
        ap₂ (λ a b. a || b) (ne_eqb u t (λ same. let more : t < u = above u (inl refl) in omega arith)) (lacks us (λ v i. above v (inr i)))

-- ---- one loan

and_false : (a : Bool) → (a && false) ≡ false
and_false true = refl
and_false false = refl

module _ (t : ℕ) (us : List ℕ) (cap : ℕ) (rows : List Row) where
  pub loan_count : (xs : List BlockType) → AreDistinct (column_types xs) → tally (is_piece t) (flat_map (lent_piece us cap rows) xs) ≡ one_if (has_type us t && has_type (column_types xs) t)
  loan_count [] distinct = ap one_if (sym (and_false (has_type us t)))
  loan_count (x ∷ xs) distinct =
      tally_append (is_piece t) (lent_piece us cap rows x) (flat_map (lent_piece us cap rows) xs)
      ∙ by (has_type us x.shape.ty.0) (nat_eq x.shape.ty.0 t) refl refl (loan_count xs distinct.1)
    where
      one : TypeState
      one = record { shape = x.shape; capacity = cap; cells = map (λ r. content_at x.shape.ty.0 r.cells) rows }

      rest_of : ℕ
      rest_of = tally (is_piece t) (flat_map (lent_piece us cap rows) xs)

      none_left : nat_eq x.shape.ty.0 t ≡ true → rest_of ≡ one_if (has_type us t && has_type (column_types xs) t) → rest_of ≡ 0
      none_left here rest =
          rest ∙ ap (λ b. one_if (has_type us t && b)) (subst (λ u. has_type (column_types xs) u ≡ false) (eqb-true x.shape.ty.0 t here) distinct.0) ∙ ap one_if (and_false (has_type us t))

      by : (a b : Bool) → has_type us x.shape.ty.0 ≡ a → nat_eq x.shape.ty.0 t ≡ b → rest_of ≡ one_if (has_type us t && has_type (column_types xs) t)
          → tally (is_piece t) (cond a (one ∷ []) []) + rest_of ≡ one_if (has_type us t && (b || has_type (column_types xs) t))
      by true true is here rest =
          ap₂ (λ (d : Bool) (n : ℕ). (one_if d + 0) + n) here (none_left here rest)
          ∙ ap (λ d. one_if (d && true)) (sym (ap (has_type us) (sym (eqb-true x.shape.ty.0 t here)) ∙ is))
      by true false is here rest = ap (λ (d : Bool). (one_if d + 0) + rest_of) here ∙ (let same : (0 + 0) + rest_of ≡ rest_of = omega arith in same) ∙ rest
      by false true is here rest =
          (let none = none_left here rest in let same : 0 + rest_of ≡ 0 = omega arith in same)
          ∙ ap (λ d. one_if (d && true)) (sym (ap (has_type us) (sym (eqb-true x.shape.ty.0 t here)) ∙ is))
      by false false is here rest = (let same : 0 + rest_of ≡ rest_of = omega arith in same) ∙ rest

-- ---- the loans of a plan

pub planned_lacks : (es : List (ℕ × List ℕ)) (n t : ℕ) → ((f : ℕ × List ℕ) → In f es → nat_eq n f.0 ≡ true → has_type f.1 t ≡ false) → has_type (planned es n) t ≡ false
planned_lacks [] n t lacks = refl
planned_lacks (e ∷ es) n t lacks = by (nat_eq n e.0) (lacks e (inl refl)) (planned_lacks es n t (λ f i. lacks f (inr i)))
  where
    by : (b : Bool) → (b ≡ true → has_type e.1 t ≡ false) → has_type (planned es n) t ≡ false → has_type (cond b (e.1 ++ planned es n) (planned es n)) t ≡ false
    by true h rest = has_append e.1 (planned es n) t ∙ ap₂ (λ a b. a || b) (h refl) rest
    by false h rest = rest

-- each type is planned once
pub planned_once : (n t : ℕ) (c : Bool) (es : List (ℕ × List ℕ)) → AreApart es
    → sum_by (λ (e : ℕ × List ℕ). cond (nat_eq n e.0) (one_if (has_type e.1 t && c)) 0) es ≡ one_if (has_type (planned es n) t && c)
planned_once n t c [] apart = refl
planned_once n t c (e ∷ es) apart =
    sum_by-cons (λ (f : ℕ × List ℕ). cond (nat_eq n f.0) (one_if (has_type f.1 t && c)) 0) e es ∙ by (nat_eq n e.0) (has_type e.1 t) refl refl (planned_once n t c es apart.1)
  where
    left : ℕ
    left = sum_by (λ (f : ℕ × List ℕ). cond (nat_eq n f.0) (one_if (has_type f.1 t && c)) 0) es

    by : (a b : Bool) → nat_eq n e.0 ≡ a → has_type e.1 t ≡ b → left ≡ one_if (has_type (planned es n) t && c)
        → cond a (one_if (has_type e.1 t && c)) 0 + left ≡ one_if (has_type (cond a (e.1 ++ planned es n) (planned es n)) t && c)
    by false b here is rest = (let same : 0 + left ≡ left = omega arith in same) ∙ rest
    by true true here is rest =
        let lacks : has_type (planned es n) t ≡ false =
        planned_lacks es n t (λ f i there. apart_has e.1 f.1 (apart.0 f i (sym (eqb-true n e.0 here) ∙ eqb-true n f.0 there)) t is) in
        let none : left ≡ 0 = rest ∙ ap (λ d. one_if (d && c)) lacks in
        ap₂ (λ (d : Bool) (m : ℕ). one_if (d && c) + m) is none
        ∙ (let same : one_if (true && c) + 0 ≡ one_if (true && c) = omega arith in same)
        ∙ ap (λ d. one_if (d && c)) (sym (has_append e.1 (planned es n) t ∙ ap (λ d. d || has_type (planned es n) t) is))
    by true false here is rest =
        ap (λ d. one_if (d && c) + left) is
        ∙ (let same : 0 + left ≡ left = omega arith in same)
        ∙ rest
        ∙ ap (λ d. one_if (d && c)) (sym (has_append e.1 (planned es n) t ∙ ap (λ d. d || has_type (planned es n) t) is))

-- the number of a loan, wherever its block is
pub loan_number : (e : ℕ × List ℕ) (bs : List Numbered) → (loan_in e bs).number ≡ e.0
loan_number e [] = refl
loan_number e (b ∷ bs) = by (nat_eq b.number e.0) (loan_number e bs)
  where
    by : (t : Bool) → (loan_in e bs).number ≡ e.0 → (cond t (loan_from e b.block) (loan_in e bs)).number ≡ e.0
    by true rest = refl
    by false rest = rest

-- the pieces that loans have of a block
pub pieces_tally : (n t : ℕ) (ls : List LoanState) → tally (is_piece t) (pieces_of ls n) ≡ sum_by (pieces_in n t) ls
pieces_tally n t [] = refl
pieces_tally n t (l ∷ ls) = by (nat_eq n l.number) (pieces_tally n t ls) ∙ sym (sum_by-cons (pieces_in n t) l ls)
  where
    by : (b : Bool) → tally (is_piece t) (pieces_of ls n) ≡ sum_by (pieces_in n t) ls
        → tally (is_piece t) (cond b (l.pieces ++ pieces_of ls n) (pieces_of ls n)) ≡ cond b (tally (is_piece t) l.pieces) 0 + sum_by (pieces_in n t) ls
    by true rest = tally_append (is_piece t) l.pieces (pieces_of ls n) ∙ ap (λ m. tally (is_piece t) l.pieces + m) rest
    by false rest = rest ∙ (let same : sum_by (pieces_in n t) ls ≡ 0 + sum_by (pieces_in n t) ls = omega arith in same)

-- a piece of a block is one of a loan of it
pub piece_of_loan : (n : ℕ) (ls : List LoanState) (p : TypeState) → In p (pieces_of ls n) → (l : LoanState) × In l ls × (l.number ≡ n) × In p l.pieces
piece_of_loan n [] p i = absurd i
piece_of_loan n (l ∷ ls) p i = by (nat_eq n l.number) refl i (λ j. piece_of_loan n ls p j)
  where
    more : ((m : LoanState) × In m ls × (m.number ≡ n) × In p m.pieces) → (m : LoanState) × In m (l ∷ ls) × (m.number ≡ n) × In p m.pieces
    more (m, j, number, has) = (m, inr j, number, has)

    by : (b : Bool) → nat_eq n l.number ≡ b → In p (cond b (l.pieces ++ pieces_of ls n) (pieces_of ls n)) → (In p (pieces_of ls n) → (m : LoanState) × In m ls × (m.number ≡ n) × In p m.pieces)
        → (m : LoanState) × In m (l ∷ ls) × (m.number ≡ n) × In p m.pieces
    by true is j rest = split (in_append p l.pieces (pieces_of ls n) j)
      where
        split : (In p l.pieces) ⊎ (In p (pieces_of ls n)) → (m : LoanState) × In m (l ∷ ls) × (m.number ≡ n) × In p m.pieces
        split (inl h) = (l, inl refl, sym (eqb-true n l.number is), h)
        split (inr h) = more (rest h)
    by false is j rest = more (rest j)
