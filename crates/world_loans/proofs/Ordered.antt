-- Loans that come back in another order, or as they were lent.
use Rattle.std.proofs.Common.{◌≡◌, ℕ, zero, suc, ◌+◌, ◌≤◌, ◌<◌, inl, inr, Bool, true, false, cond, nat_eq, List, [], ◌∷◌, ◌++◌, map, fold, length, get_or, refl, sym, ap, ◌∙◌, subst, arith}
use Rattle.std.specs.List.{flat_map, All}
use Rattle.std.specs.Prelude.{IsPermutation}
use Rattle.std.proofs.lemmas.Bool.{eq-eqb}
use Rattle.std.proofs.lemmas.List.{ext_get_or, get_or-map}
use Rattle.std.proofs.lemmas.List.Sorted.{All-permutation}
use Rattle.ent_types.specs.TypeSets.{has_type}
use Rattle.world_model.specs.Members.{In, IsRising, AreDistinct, one_if, tally}
use Rattle.world_model.specs.Row.{Row, Cell, cell_type}
use Rattle.world_laws.proofs.Members.{in_left, in_right}
use Rattle.block_columns.specs.Types.{TypeState, Content, blank_cell, cell_in}
use Rattle.chunk_block.specs.Blocks.{BlockType, LoanState, content_of, content_at, with_content, no_row, row_in, given_rows, lent_piece}
use Rattle.block_laws.proofs.Rows.{rows_count}
use Rattle.world_places.proofs.Lists.{map_same}
use Rattle.world_rows.proofs.Reading.{content_is}
use Rattle.world_loans.specs.Returns.{is_piece, pieces_of}
use Rattle.world_loans.proofs.Cells.{given, cells_given, given_elsewhere, given_is, given_keeps}
use Rattle.world_loans.proofs.Returned.{row_back, row_member}

-- ---- lists in another order

module _ {X : Type 0} where
  get_in : (xs : List X) (k : ℕ) (d : X) → k < length xs → In (get_or xs k d) xs
  get_in [] k d below = absurd (omega (arith, below))
  get_in (x ∷ xs) zero d below = inl refl
  get_in (x ∷ xs) (suc k) d below = inr (get_in xs k d (omega arith))

  of_all : (P : X → Type 0) (xs : List X) → All P xs → (x : X) → In x xs → P x
  of_all P [] all x i = absurd i
  of_all P (y ∷ ys) all x (inl same) = subst P (sym same) (all 0 y (omega arith))
  of_all P (y ∷ ys) all x (inr i) = of_all P ys (λ k d below. all (suc k) d (omega arith)) x i

  -- what holds of the members holds of those of the list in another order
  pub members_permuted : (P : X → Type 0) (xs ys : List X) → IsPermutation xs ys → ((x : X) → In x xs → P x) → (x : X) → In x ys → P x
  members_permuted P xs ys order holds = of_all P ys (All-permutation P xs ys order (λ k d below. holds (get_or xs k d) (get_in xs k d below)))

  pub member_permuted : (xs ys : List X) → IsPermutation xs ys → (x : X) → In x ys → In x xs
  member_permuted xs ys order = members_permuted (λ x. In x xs) xs ys order (λ x i. i)

-- ---- pieces

pub piece_there : (u : ℕ) (ps : List TypeState) → 1 ≤ tally (is_piece u) ps → (p : TypeState) × In p ps × (is_piece u p ≡ true)
piece_there u [] some = absurd (omega (arith, some))
piece_there u (p ∷ ps) some = by (is_piece u p) refl some (λ h. piece_there u ps h)
  where
    by : (b : Bool) → is_piece u p ≡ b → 1 ≤ one_if b + tally (is_piece u) ps → (1 ≤ tally (is_piece u) ps → (q : TypeState) × In q ps × (is_piece u q ≡ true)) → (q : TypeState) × In q (p ∷ ps) × (is_piece u q ≡ true)
    by true is more rest = (p, inl refl, is)
    by false is more rest = let (q, i, here) = rest (omega (arith, more)) in (q, inr i, here)

pub loan_piece : (n : ℕ) (ls : List LoanState) (l : LoanState) (p : TypeState) → In l ls → l.number ≡ n → In p l.pieces → In p (pieces_of ls n)
loan_piece n [] l p i number has = absurd i
loan_piece n (m ∷ ms) l p (inl same) number has =
    subst (λ b. In p (cond b (m.pieces ++ pieces_of ms n) (pieces_of ms n))) (sym (eq-eqb n m.number (sym number ∙ ap (λ (x : LoanState). x.number) same)))
    (in_left p m.pieces (pieces_of ms n) (subst (λ (x : LoanState). In p x.pieces) same has))
loan_piece n (m ∷ ms) l p (inr i) number has = by (nat_eq n m.number) (loan_piece n ms l p i number has)
  where
    by : (b : Bool) → In p (pieces_of ms n) → In p (cond b (m.pieces ++ pieces_of ms n) (pieces_of ms n))
    by true j = in_right p m.pieces (pieces_of ms n) j
    by false j = j

-- ---- rows

-- rows are the same after pieces that give each cell the same
pub rows_same : (ps qs : List TypeState) (rs : List Row) → ((r : Row) → In r rs → AreDistinct (map cell_type r.cells))
    → ((k : ℕ) → k < length rs → (c : Cell) → In c (row_in k rs).cells → given k ps c.type_id (content_of c) ≡ given k qs c.type_id (content_of c))
    → fold given_rows rs ps ≡ fold given_rows rs qs
rows_same ps qs rs distinct same =
    ext_get_or no_row _ _ (rows_count ps rs ∙ sym (rows_count qs rs)) (λ k h.
    let within : k < length rs = subst (λ m. k < m) (rows_count ps rs) h in
    let r = row_in k rs in
    let once = distinct r (row_member k rs within) in
    row_back ps rs k within
    ∙ (ap (λ (cs : List Cell). record r { cells = cs })
    (cells_given k ps r.cells once
    ∙ map_same (λ c. with_content (given k ps c.type_id (content_of c)) c) (λ c. with_content (given k qs c.type_id (content_of c)) c) r.cells (λ c i. ap (λ (x : Content). with_content x c) (same k within c i))
    ∙ sym (cells_given k qs r.cells once))
    ∙ sym (row_back qs rs k within)))

-- pieces that are there once, and the same ones, give each cell the same
pub given_same : (k : ℕ) (ps qs : List TypeState) (u : ℕ) (c : Content) (b : Bool) → tally (is_piece u) ps ≡ one_if b → tally (is_piece u) qs ≡ one_if b
    → ((q : TypeState) → In q qs → In q ps) → given k ps u c ≡ given k qs u c
given_same k ps qs u c true here there among =
    let (q, i, is) = piece_there u qs (omega (arith, there)) in
    given_is k ps u c q (among q i) is here ∙ sym (given_is k qs u c q i is there)
given_same k ps qs u c false here there among = given_elsewhere k ps u c here ∙ sym (given_elsewhere k qs u c there)

-- ---- as they were lent

abbrev pub own_cells : List Row → TypeState → List Content
own_cells rows x = map (λ r. content_at x.shape.ty.0 r.cells) rows

pub lent_cells : (us : List ℕ) (cap : ℕ) (rows : List Row) (xs : List BlockType) (p : TypeState) → In p (flat_map (lent_piece us cap rows) xs) → p.cells ≡ own_cells rows p
lent_cells us cap rows [] p i = absurd i
lent_cells us cap rows (x ∷ xs) p i = by (has_type us x.shape.ty.0) i (λ j. lent_cells us cap rows xs p j)
  where
    one : TypeState
    one = record { shape = x.shape; capacity = cap; cells = map (λ r. content_at x.shape.ty.0 r.cells) rows }

    by : (b : Bool) → In p (cond b (one ∷ []) [] ++ flat_map (lent_piece us cap rows) xs) → (In p (flat_map (lent_piece us cap rows) xs) → p.cells ≡ own_cells rows p) → p.cells ≡ own_cells rows p
    by true (inl same) rest = ap (λ (y : TypeState). y.cells) same ∙ ap (own_cells rows) (sym same)
    by true (inr j) rest = rest j
    by false j rest = rest j

-- rows to which their own cells come back
pub own_rows_back : (ps : List TypeState) (rs : List Row) → ((r : Row) → In r rs → IsRising (map cell_type r.cells)) → ((r : Row) → In r rs → AreDistinct (map cell_type r.cells))
    → ((p : TypeState) → In p ps → p.cells ≡ own_cells rs p) → fold given_rows rs ps ≡ rs
own_rows_back ps rs rising distinct own =
    rows_same ps [] rs distinct
    (λ k within c i.
    given_keeps (λ x. x ≡ content_of c) k ps c.type_id (content_of c) refl
    (λ p j same.
    ap (cell_in k) (own p j)
    ∙ get_or-map (λ (r : Row). content_at p.shape.ty.0 r.cells) rs k no_row blank_cell within
    ∙ ap (λ t. content_at t (row_in k rs).cells) same
    ∙ content_is c (row_in k rs).cells (rising (row_in k rs) (row_member k rs within)) i))
