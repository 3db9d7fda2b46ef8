-- Loans by the numbers of their blocks, and the loans that items have written.
use Rattle.std.proofs.Common.{ℕ, ◌≡◌, ◌∙◌, ◌+◌, ◌≤◌, inl, inr, Bool, true, false, ◌||◌, cond, nat_eq, refl, sym, ap, ap₂, subst, List, [], ◌∷◌, ◌++◌, map, sum_by, append-nil, arith}
use Rattle.std.proofs.lemmas.Bool.{eq-eqb, ne_eqb}
use Rattle.std.proofs.lemmas.List.Sums.{sum_by-cons}
use Rattle.ent_types.specs.TypeSets.{has_type}
use Rattle.world_model.specs.Members.{In, AreDistinct, one_if, tally}
use Rattle.world_laws.proofs.Members.{map_in}
use Rattle.block_columns.specs.Types.{TypeState}
use Rattle.block_columns.specs.declared.shape.TypeShape.{TypeShape}
use Rattle.block_laws.specs.Lending.{piece_types}
use Rattle.block_laws.proofs.Rows.{or_parts, itself}
use Rattle.chunk_block.specs.Blocks.{AreDistinct as AreOnce, IsLoanOf, LoanState}
use Rattle.world_loans.specs.Fitting.{AreFitting}
use Rattle.world_loans.specs.Returns.{is_piece, pieces_in, pieces_of}
use Rattle.structural_ops.specs.Freezing.{AreLoansOf, FrozenState, lent_block, lent_of}
use Rattle.structural_ops.specs.Numbered.{HasBlock}
use Rattle.scenario_record.specs.declared.record.SystemEntry.{SystemEntry}
use Rattle.query_select.specs.declared.visits.Visit.{Visit}
use Rattle.item_run.specs.Writing.{Rewrites}
use Rattle.phase_run.specs.Visited.{AreDone}
use Rattle.phase_run.proofs.Numbers.{there_more}

abbrev pub loan_number : LoanState → ℕ
loan_number l = l.number

-- ---- the pieces of a block

pieces_none : (ls : List LoanState) (n : ℕ) → (In n (map loan_number ls) → ⊥) → pieces_of ls n ≡ []
pieces_none [] n none = refl
pieces_none (l ∷ ls) n none =
    ap (λ t. cond t (l.pieces ++ pieces_of ls n) (pieces_of ls n)) (ne_eqb n l.number (λ same. none (inl same))) ∙ pieces_none ls n (λ i. none (inr i))

-- of loans of different blocks one has all pieces of its block
pub pieces_single : (ls : List LoanState) → AreDistinct (map loan_number ls) → (l : LoanState) → In l ls → pieces_of ls l.number ≡ l.pieces
pieces_single [] distinct l i = absurd i
pieces_single (k ∷ ks) distinct l (inl same) = subst (λ (m : LoanState). pieces_of (k ∷ ks) m.number ≡ m.pieces) (sym same) here
  where
    here : pieces_of (k ∷ ks) k.number ≡ k.pieces
    here =
        ap (λ t. cond t (k.pieces ++ pieces_of ks k.number) (pieces_of ks k.number)) (eq-eqb k.number k.number refl)
        ∙ ap (λ (ps : List TypeState). k.pieces ++ ps) (pieces_none ks k.number distinct.0)
        ∙ append-nil k.pieces
pieces_single (k ∷ ks) distinct l (inr i) =
    ap (λ t. cond t (k.pieces ++ pieces_of ks l.number) (pieces_of ks l.number))
    (ne_eqb l.number k.number (λ same. distinct.0 (subst (λ m. In m (map loan_number ks)) same (map_in loan_number l ks i))))
    ∙ pieces_single ks distinct.1 l i

-- a block of which there is no loan
pub pieces_elsewhere : (ls : List LoanState) (n : ℕ) → ((l : LoanState) → In l ls → l.number ≡ n → ⊥) → pieces_of ls n ≡ []
pieces_elsewhere [] n none = refl
pieces_elsewhere (l ∷ ls) n none =
    ap (λ t. cond t (l.pieces ++ pieces_of ls n) (pieces_of ls n)) (ne_eqb n l.number (λ same. none l (inl refl) (sym same)))
    ∙ pieces_elsewhere ls n (λ k i. none k (inr i))

-- ---- pieces by their types

pub no_piece : (t : ℕ) (ps : List TypeState) → has_type (piece_types ps) t ≡ false → tally (is_piece t) ps ≡ 0
no_piece t [] none = refl
no_piece t (p ∷ ps) none =
    let parts = or_parts (nat_eq p.shape.ty.0 t) (has_type (piece_types ps) t) none in
    let rest = no_piece t ps parts.1 in
    ap (λ b. one_if b + tally (is_piece t) ps) parts.0 ∙ (let both : 0 + tally (is_piece t) ps ≡ 0 = omega (arith, rest) in both)

some_piece : (t : ℕ) (ps : List TypeState) → has_type (piece_types ps) t ≡ true → 1 ≤ tally (is_piece t) ps
some_piece t [] has = absurd (cc has)
some_piece t (p ∷ ps) has = by (nat_eq p.shape.ty.0 t) has (some_piece t ps)
  where
    by : (b : Bool) → (b || has_type (piece_types ps) t) ≡ true → (has_type (piece_types ps) t ≡ true → 1 ≤ tally (is_piece t) ps) → 1 ≤ one_if b + tally (is_piece t) ps
    by true h rest = omega arith
    by false h rest = let more = rest h in omega (arith, more)

-- pieces of which at most one is of each type
pub pieces_once : (ps : List TypeState) → ((t : ℕ) → tally (is_piece t) ps ≤ 1) → AreOnce (piece_types ps)
pieces_once [] few = tt
pieces_once (p ∷ ps) few = (
  by (has_type (piece_types ps) p.shape.ty.0) refl,
  pieces_once ps (λ t. let all = few t in omega (arith, all)),
)
  where
    by : (b : Bool) → has_type (piece_types ps) p.shape.ty.0 ≡ b → b ≡ false
    by true has =
        let more = some_piece p.shape.ty.0 ps has in
        let all : one_if (nat_eq p.shape.ty.0 p.shape.ty.0) + tally (is_piece p.shape.ty.0) ps ≤ 1 = few p.shape.ty.0 in
        let both : 1 + tally (is_piece p.shape.ty.0) ps ≤ 1 = subst (λ b. one_if b + tally (is_piece p.shape.ty.0) ps ≤ 1) (itself p.shape.ty.0) all in
        absurd (omega (arith, more, both))
    by false has = refl

-- ---- loans that were written

abbrev piece_shape : TypeState → TypeShape
piece_shape x = x.shape

shapes_tally : (t : ℕ) (ps : List TypeState) → tally (is_piece t) ps ≡ tally (λ (x : TypeShape). nat_eq x.ty.0 t) (map piece_shape ps)
shapes_tally t [] = refl
shapes_tally t (p ∷ ps) = ap (λ n. one_if (nat_eq p.shape.ty.0 t) + n) (shapes_tally t ps)

pieces_kept : (n t : ℕ) (old new : LoanState) → Rewrites old new → pieces_in n t new ≡ pieces_in n t old
pieces_kept n t old new is =
    ap₂ (λ m k. cond (nat_eq n m) k 0) is.number
    (shapes_tally t new.pieces ∙ (ap (tally (λ (x : TypeShape). nat_eq x.ty.0 t)) is.shapes ∙ sym (shapes_tally t old.pieces)))

module _ (f : FrozenState) (s : SystemEntry) (frame : ℕ) where
  pub numbers_kept : (number : ℕ) (vs : List Visit) (ls ms : List LoanState) → AreDone f s frame number vs ls ms → map loan_number ms ≡ map loan_number ls
  numbers_kept number [] [] [] are = refl
  numbers_kept number [] [] (m ∷ ms) are = absurd are
  numbers_kept number [] (l ∷ ls) ms are = absurd are
  numbers_kept number (v ∷ vs) [] ms are = absurd are
  numbers_kept number (v ∷ vs) (l ∷ ls) [] are = absurd are
  numbers_kept number (v ∷ vs) (l ∷ ls) (m ∷ ms) are = ap₂ (λ (n : ℕ) (ns : List ℕ). n ∷ ns) are.0.loan.number (numbers_kept (number + 1) vs ls ms are.1)

  sums_kept : (n t number : ℕ) (vs : List Visit) (ls ms : List LoanState) → AreDone f s frame number vs ls ms → sum_by (pieces_in n t) ms ≡ sum_by (pieces_in n t) ls
  sums_kept n t number [] [] [] are = refl
  sums_kept n t number [] [] (m ∷ ms) are = absurd are
  sums_kept n t number [] (l ∷ ls) ms are = absurd are
  sums_kept n t number (v ∷ vs) [] ms are = absurd are
  sums_kept n t number (v ∷ vs) (l ∷ ls) [] are = absurd are
  sums_kept n t number (v ∷ vs) (l ∷ ls) (m ∷ ms) are =
      sum_by-cons (pieces_in n t) m ms
      ∙ ap₂ (λ (j k : ℕ). j + k) (pieces_kept n t l m are.0.loan) (sums_kept n t (number + 1) vs ls ms are.1)
      ∙ sym (sum_by-cons (pieces_in n t) l ls)

  -- what each loan was
  done_of : (number : ℕ) (vs : List Visit) (ls ms : List LoanState) → AreDone f s frame number vs ls ms → (m : LoanState) → In m ms
      → (l : LoanState) × In l ls × Rewrites l m × AreFitting f.state.world.registry m.pieces
  done_of number [] [] [] are m i = absurd i
  done_of number [] [] (k ∷ ks) are m i = absurd are
  done_of number [] (l ∷ ls) ks are m i = absurd are
  done_of number (v ∷ vs) [] ks are m i = absurd are
  done_of number (v ∷ vs) (l ∷ ls) [] are m i = absurd are
  done_of number (v ∷ vs) (l ∷ ls) (k ∷ ks) are m (inl same) =
      (l, inl refl, subst (Rewrites l) (sym same) are.0.loan, subst (λ (x : LoanState). AreFitting f.state.world.registry x.pieces) (sym same) are.0.fit)
  done_of number (v ∷ vs) (l ∷ ls) (k ∷ ks) are m (inr i) =
      let (x, j, rewrites, fit) = done_of (number + 1) vs ls ks are.1 m i in (x, inr j, rewrites, fit)

  -- they are loans of the same blocks
  pub done_loans : (number : ℕ) (vs : List Visit) (ls ms : List LoanState) → AreDone f s frame number vs ls ms → AreLoansOf f ls → AreLoansOf f ms
  done_loans number vs ls ms are of = record {
    each = λ m i.
        let (l, j, rewrites, fit) = done_of number vs ls ms are m i in
        subst (λ n. HasBlock n (λ b. IsLoanOf (lent_block f.state.world.registry (lent_of f n) b) m) f.state) (sym rewrites.number)
        (there_more l.number (λ b. IsLoanOf (lent_block f.state.world.registry (lent_of f l.number) b) l)
        (λ b. IsLoanOf (lent_block f.state.world.registry (lent_of f l.number) b) m)
        (λ b h. rewrites.of (lent_block f.state.world.registry (lent_of f l.number) b) h) f.state.numbers f.state.world.blocks (of.each l j));
    fit = λ m i. let (l, j, rewrites, fit) = done_of number vs ls ms are m i in fit;
    once = λ n t. sums_kept n t number vs ls ms are ∙ of.once n t;
  }
