-- What was written into a loan is in its block once the loan is back.
use Rattle.std.proofs.Common.{ℕ, ℤ, inl, inr, ◌≡◌, ◌<◌, ◌≤◌, ◌+◌, ◌∙◌, ◌||◌, sym, ap, refl, subst, Bool, true, false, cond, nat_eq, List, [], ◌∷◌, ◌++◌, fold, length, map, drop, get_or, get_or-set_same, get_or-set_other, arith}
use Rattle.std.specs.Bool.{MatchBool}
use Rattle.std.specs.List.{flat_map}
use Rattle.std.proofs.Math.ListN.{set}
use Rattle.std.proofs.lemmas.Bool.{cases_eq, eq-eqb, ne_eqb, eqb-true, cond-true, cond-false}
use Rattle.std.proofs.lemmas.List.{ext_get_or, length-map, length-set, get_or-map}
use Rattle.ent_types.specs.TypeSets.{has_type}
use Rattle.world_model.specs.Row.{Row, Cell}
use Rattle.block_columns.specs.Places.{at_places}
use Rattle.block_columns.specs.Types.{TypeState, Content, blank_cell, cell_in, kind_in, one_row, all_rows, with_number_in}
use Rattle.block_columns.specs.declared.shape.TypeShape.{TypeShape}
use Rattle.block_columns.proofs.Lists.{length-at_places, get_or-at_places}
use Rattle.chunk_block.specs.Pieces.{OfPiece, change_piece, stored_numbers}
use Rattle.chunk_block.specs.Blocks.{BlockType, BlockState, LoanState, AreDistinct, AreHeld, HaveTypes, OfType, kind_at, column_types, content_of, content_at, with_content, change_cell, changed, no_row, row_in, lent_type, lent_cell, lent_row, lent_piece, given_type, given_rows}
use Rattle.chunk_block.proofs.Loans.{of_piece, lent_there}
use Rattle.block_laws.specs.Lending.{after_lending, lent_pieces, AreLentFrom, with_pieces, piece_types, given_back, Writes}
use Rattle.block_laws.proofs.Rows.{or_parts, other_way, itself, put_cell, put_row, row_cells, row_given, rows_count, have_there}
use Rattle.block_laws.proofs.Orders.{cells_twice, places_twice}
use Rattle.block_laws.proofs.Restored.{types_restored, restored}

map_same : (cs : List Cell) → map (λ c. c) cs ≡ cs
map_same [] = refl
map_same (c ∷ cs) = ap (λ (ds : List Cell). c ∷ ds) (map_same cs)

map_twice : (f g : Cell → Cell) (cs : List Cell) → map g (map f cs) ≡ map (λ c. g (f c)) cs
map_twice f g [] = refl
map_twice f g (c ∷ cs) = ap (λ (ds : List Cell). g (f c) ∷ ds) (map_twice f g cs)

same_test : (a b : ℕ) → nat_eq a b ≡ nat_eq b a
same_test a b =
    elim (cases_eq a b) [
      | inl e ↦ eq-eqb a b e ∙ sym (eq-eqb b a (sym e))
      | inr other ↦ ne_eqb a b other ∙ sym (ne_eqb b a (λ e. other (sym e)))
    ]

-- ---- cells, each by itself

abbrev cell_types : List Cell → List ℕ
cell_types cs = map (λ c. c.type_id) cs

-- the cell with what a piece has of its type in row k
abbrev set_cell : ℕ → Cell → TypeState → Cell
set_cell k c z = cond (nat_eq c.type_id z.shape.ty.0) (with_content (cell_in k z.cells) c) c

set_past : (k : ℕ) (z : TypeState) (cs : List Cell) → has_type (cell_types cs) z.shape.ty.0 ≡ false → map (λ c. set_cell k c z) cs ≡ cs
set_past k z [] other = refl
set_past k z (c ∷ cs) other =
    let parts = or_parts (nat_eq c.type_id z.shape.ty.0) (has_type (cell_types cs) z.shape.ty.0) other in
    ap (λ b. cond b (with_content (cell_in k z.cells) c) c ∷ map (λ d. set_cell k d z) cs) parts.0
    ∙ ap (λ (ds : List Cell). c ∷ ds) (set_past k z cs parts.1)

put_is : (k : ℕ) (z : TypeState) (cs : List Cell) → AreDistinct (cell_types cs) → put_cell k cs z ≡ map (λ c. set_cell k c z) cs
put_is k z [] distinct = refl
put_is k z (c ∷ cs) distinct = by (nat_eq c.type_id z.shape.ty.0) refl (put_is k z cs distinct.1)
  where
    by : (b : Bool) → nat_eq c.type_id z.shape.ty.0 ≡ b → put_cell k cs z ≡ map (λ d. set_cell k d z) cs
        → cond b (with_content (cell_in k z.cells) c ∷ cs) (c ∷ put_cell k cs z) ≡ cond b (with_content (cell_in k z.cells) c) c ∷ map (λ d. set_cell k d z) cs
    by true is rest =
        ap (λ (ds : List Cell). with_content (cell_in k z.cells) c ∷ ds)
        (sym (set_past k z cs (subst (λ t. has_type (cell_types cs) t ≡ false) (eqb-true c.type_id z.shape.ty.0 is) distinct.0)))
    by false is rest = ap (λ (ds : List Cell). c ∷ ds) rest

set_types : (k : ℕ) (z : TypeState) (cs : List Cell) → cell_types (map (λ c. set_cell k c z) cs) ≡ cell_types cs
set_types k z [] = refl
set_types k z (c ∷ cs) = by (nat_eq c.type_id z.shape.ty.0) (set_types k z cs)
  where
    by : (b : Bool) → cell_types (map (λ d. set_cell k d z) cs) ≡ cell_types cs → (cond b (with_content (cell_in k z.cells) c) c).type_id ∷ cell_types (map (λ d. set_cell k d z) cs) ≡ c.type_id ∷ cell_types cs
    by true rest = ap (λ (ts : List ℕ). c.type_id ∷ ts) rest
    by false rest = ap (λ (ts : List ℕ). c.type_id ∷ ts) rest

fold_is : (k : ℕ) (zs : List TypeState) (cs : List Cell) → AreDistinct (cell_types cs) → fold (put_cell k) cs zs ≡ map (λ c. fold (set_cell k) c zs) cs
fold_is k [] cs distinct = sym (map_same cs)
fold_is k (z ∷ zs) cs distinct =
    ap (λ (ds : List Cell). fold (put_cell k) ds zs) (put_is k z cs distinct)
    ∙ (fold_is k zs (map (λ c. set_cell k c z) cs) (subst AreDistinct (sym (set_types k z cs)) distinct)
    ∙ map_twice (λ c. set_cell k c z) (λ c. fold (set_cell k) c zs) cs)

-- ---- a blank cell gets all of its content

filled : (k : ℕ) (x : Content) (c : Cell) (zs : List TypeState) → has_type (piece_types zs) c.type_id ≡ true → fold (set_cell k) (with_content x c) zs ≡ fold (set_cell k) c zs
filled k x c [] there = absurd (cc there)
filled k x c (z ∷ zs) there = by (nat_eq z.shape.ty.0 c.type_id) (nat_eq c.type_id z.shape.ty.0) (same_test z.shape.ty.0 c.type_id) there (λ h. filled k x c zs h)
  where
    by : (a b : Bool) → a ≡ b → (a || has_type (piece_types zs) c.type_id) ≡ true → (has_type (piece_types zs) c.type_id ≡ true → fold (set_cell k) (with_content x c) zs ≡ fold (set_cell k) c zs)
        → fold (set_cell k) (cond b (with_content (cell_in k z.cells) c) (with_content x c)) zs ≡ fold (set_cell k) (cond b (with_content (cell_in k z.cells) c) c) zs
    by true true is h rest = refl
    by true false is h rest = absurd (cc is)
    by false true is h rest = absurd (cc is)
    by false false is h rest = rest h

-- those of the first types that are among the third ones are among the second ones
abbrev Covers : List ℕ → List ℕ → List ℕ → Type 0
Covers types pieces [] = Unit {0}
Covers types pieces (t ∷ ts) = (has_type types t ≡ true → has_type pieces t ≡ true) × Covers types pieces ts

cell_filled : (k : ℕ) (types : List ℕ) (zs : List TypeState) (c : Cell) → (has_type types c.type_id ≡ true → has_type (piece_types zs) c.type_id ≡ true) → fold (set_cell k) (lent_cell types c) zs ≡ fold (set_cell k) c zs
cell_filled k types zs c there = by (has_type types c.type_id) there
  where
    by : (b : Bool) → (b ≡ true → has_type (piece_types zs) c.type_id ≡ true) → fold (set_cell k) (cond b (with_content blank_cell c) c) zs ≡ fold (set_cell k) c zs
    by true is = filled k blank_cell c zs (is refl)
    by false is = refl

cells_filled : (k : ℕ) (types : List ℕ) (zs : List TypeState) (cs : List Cell) → Covers types (piece_types zs) (cell_types cs)
    → map (λ c. fold (set_cell k) c zs) (map (lent_cell types) cs) ≡ map (λ c. fold (set_cell k) c zs) cs
cells_filled k types zs [] covers = refl
cells_filled k types zs (c ∷ cs) covers =
    ap (λ (d : Cell). d ∷ map (λ e. fold (set_cell k) e zs) (map (lent_cell types) cs)) (cell_filled k types zs c covers.0)
    ∙ ap (λ (ds : List Cell). fold (set_cell k) c zs ∷ ds) (cells_filled k types zs cs covers.1)

lent_types : (types : List ℕ) (cs : List Cell) → cell_types (map (lent_cell types) cs) ≡ cell_types cs
lent_types types [] = refl
lent_types types (c ∷ cs) = by (has_type types c.type_id) (lent_types types cs)
  where
    by : (b : Bool) → cell_types (map (lent_cell types) cs) ≡ cell_types cs → (cond b (with_content blank_cell c) c).type_id ∷ cell_types (map (lent_cell types) cs) ≡ c.type_id ∷ cell_types cs
    by true rest = ap (λ (ts : List ℕ). c.type_id ∷ ts) rest
    by false rest = ap (λ (ts : List ℕ). c.type_id ∷ ts) rest

cells_back : (k : ℕ) (types : List ℕ) (zs : List TypeState) (cs : List Cell) → AreDistinct (cell_types cs) → Covers types (piece_types zs) (cell_types cs) → fold (put_cell k) (map (lent_cell types) cs) zs ≡ fold (put_cell k) cs zs
cells_back k types zs cs distinct covers =
    fold_is k zs (map (lent_cell types) cs) (subst AreDistinct (sym (lent_types types cs)) distinct)
    ∙ (cells_filled k types zs cs covers ∙ sym (fold_is k zs cs distinct))

rows_back : (types : List ℕ) (zs : List TypeState) (ts : List ℕ) (rows : List Row) → AreDistinct ts → HaveTypes ts rows → Covers types (piece_types zs) ts → fold given_rows (map (lent_row types) rows) zs ≡ fold given_rows rows zs
rows_back types zs ts rows distinct have covers =
    let bare = map (lent_row types) rows in
    let count : length (fold given_rows bare zs) ≡ length rows = rows_count zs bare ∙ length-map rows (lent_row types) in
    ext_get_or no_row _ _ (count ∙ sym (rows_count zs rows)) (λ k h.
    let within : k < length rows = subst (λ m. k < m) count h in
    let r = row_in k rows in
    let same = have_there ts rows k within have in
    row_given zs bare k (subst (λ m. k < m) (sym (length-map rows (lent_row types))) within)
    ∙ (ap (λ (w : Row). fold (put_row k) w zs) (get_or-map (lent_row types) rows k no_row no_row within)
    ∙ (row_cells k (lent_row types r) zs
    ∙ (ap (λ (cs : List Cell). record r { cells = cs }) (cells_back k types zs r.cells (subst AreDistinct (sym same) distinct) (subst (Covers types (piece_types zs)) (sym same) covers))
    ∙ (sym (row_cells k r zs) ∙ sym (row_given zs rows k within))))))

-- ---- the types are all there again

given_alike : (ts : List BlockType) (z w : TypeState) → z.shape.ty.0 ≡ w.shape.ty.0 → given_type ts z ≡ given_type ts w
given_alike [] z w same = refl
given_alike (t ∷ ts) z w same =
    ap (λ n. cond (nat_eq t.shape.ty.0 n) (record t { lent = false } ∷ ts) (t ∷ given_type ts z)) same
    ∙ ap (λ (us : List BlockType). cond (nat_eq t.shape.ty.0 w.shape.ty.0) (record t { lent = false } ∷ ts) (t ∷ us)) (given_alike ts z w same)

types_alike : (zs ws : List TypeState) (ts : List BlockType) → piece_types zs ≡ piece_types ws → fold given_type ts zs ≡ fold given_type ts ws
types_alike [] [] ts same = refl
types_alike [] (w ∷ ws) ts same = absurd (cc same)
types_alike (z ∷ zs) [] ts same = absurd (cc same)
types_alike (z ∷ zs) (w ∷ ws) ts same =
    let head : z.shape.ty.0 ≡ w.shape.ty.0 = ap (λ (ns : List ℕ). get_or ns 0 0) same in
    let tail : piece_types zs ≡ piece_types ws = ap (drop 1) same in
    ap (λ (us : List BlockType). fold given_type us zs) (given_alike ts z w head) ∙ types_alike zs ws (given_type ts w) tail

types_of : (zs : List TypeState) → piece_types zs ≡ map (λ s. s.ty.0) (map (λ x. x.shape) zs)
types_of [] = refl
types_of (z ∷ zs) = ap (λ (ts : List ℕ). z.shape.ty.0 ∷ ts) (types_of zs)

pub same_types : (zs ws : List TypeState) → map (λ x. x.shape) zs ≡ map (λ x. x.shape) ws → piece_types zs ≡ piece_types ws
same_types zs ws same = types_of zs ∙ (ap (map (λ (s : TypeShape). s.ty.0)) same ∙ sym (types_of ws))

-- ---- the types of what is lent

or_right : (a b : Bool) → b ≡ true → (a || b) ≡ true
or_right true b h = refl
or_right false b h = h

covers_more : (types : List ℕ) (p : ℕ) (ps ts : List ℕ) → Covers types ps ts → Covers types (p ∷ ps) ts
covers_more types p ps [] covers = tt
covers_more types p ps (t ∷ ts) covers = ((λ h. or_right (nat_eq p t) (has_type ps t) (covers.0 h)), covers_more types p ps ts covers.1)

module _ (types : List ℕ) (cap : ℕ) (rows : List Row) where
  abbrev pieces : List BlockType → List TypeState
  pieces xs = flat_map (lent_piece types cap rows) xs

  abbrev piece : BlockType → TypeState
  piece x = record { shape = x.shape; capacity = cap; cells = map (λ r. content_at x.shape.ty.0 r.cells) rows }

  covers_own : (xs : List BlockType) → Covers types (piece_types (pieces xs)) (column_types xs)
  covers_own [] = tt
  covers_own (x ∷ xs) = by (has_type types x.shape.ty.0) refl (covers_own xs)
    where
      by : (b : Bool) → has_type types x.shape.ty.0 ≡ b → Covers types (piece_types (pieces xs)) (column_types xs)
          → (has_type types x.shape.ty.0 ≡ true → has_type (piece_types (cond b (piece x ∷ []) [] ++ pieces xs)) x.shape.ty.0 ≡ true) × Covers types (piece_types (cond b (piece x ∷ []) [] ++ pieces xs)) (column_types xs)
      by true is rest = ((λ _. ap (λ b. b || has_type (piece_types (pieces xs)) x.shape.ty.0) (itself x.shape.ty.0)), covers_more types x.shape.ty.0 (piece_types (pieces xs)) (column_types xs) rest)
      by false is rest = ((λ h. absurd (cc (sym is ∙ h))), rest)

  pieces_lack : (t : ℕ) (xs : List BlockType) → has_type (column_types xs) t ≡ false → has_type (piece_types (pieces xs)) t ≡ false
  pieces_lack t [] other = refl
  pieces_lack t (x ∷ xs) other =
      let parts = or_parts (nat_eq x.shape.ty.0 t) (has_type (column_types xs) t) other in
      by (has_type types x.shape.ty.0) parts.0 (pieces_lack t xs parts.1)
    where
      by : (b : Bool) → nat_eq x.shape.ty.0 t ≡ false → has_type (piece_types (pieces xs)) t ≡ false → has_type (piece_types (cond b (piece x ∷ []) [] ++ pieces xs)) t ≡ false
      by true here rest = ap (λ b. b || has_type (piece_types (pieces xs)) t) here ∙ rest
      by false here rest = rest

  pieces_distinct : (xs : List BlockType) → AreDistinct (column_types xs) → AreDistinct (piece_types (pieces xs))
  pieces_distinct [] distinct = tt
  pieces_distinct (x ∷ xs) distinct = by (has_type types x.shape.ty.0) (pieces_lack x.shape.ty.0 xs distinct.0) (pieces_distinct xs distinct.1)
    where
      by : (b : Bool) → has_type (piece_types (pieces xs)) x.shape.ty.0 ≡ false → AreDistinct (piece_types (pieces xs)) → AreDistinct (piece_types (cond b (piece x ∷ []) [] ++ pieces xs))
      by true lack rest = (lack, rest)
      by false lack rest = rest

-- pieces with the types that were lent are of distinct types
pub distinct_pieces : (types : List ℕ) (b : BlockState) (zs : List TypeState) → AreDistinct (column_types b.columns) → AreLentFrom types b zs → AreDistinct (piece_types zs)
distinct_pieces types b zs distinct alike = subst AreDistinct (sym (same_types zs (lent_pieces types b) alike)) (pieces_distinct types b.capacity b.rows b.columns distinct)

-- ---- the loan comes back, whatever was written into it

pub comes_back : (types : List ℕ) (b : BlockState) (loan : LoanState) → AreDistinct (column_types b.columns) → HaveTypes (column_types b.columns) b.rows → AreHeld types b.columns → AreLentFrom types b loan.pieces
    → given_back (after_lending types b) loan ≡ with_pieces b loan.pieces
comes_back types b loan distinct have held alike =
    let zs = loan.pieces in
    let same : piece_types zs ≡ piece_types (lent_pieces types b) = same_types zs (lent_pieces types b) alike in
    ap (λ (ts : List BlockType). record b { columns = ts; rows = fold given_rows (map (lent_row types) b.rows) zs })
    (types_alike zs (lent_pieces types b) (map (lent_type types) b.columns) same ∙ types_restored types b.capacity b.rows b.columns distinct held)
    ∙ ap (λ (rs : List Row). record b { rows = rs })
    (rows_back types zs (column_types b.columns) b.rows distinct have (subst (λ (ps : List ℕ). Covers types ps (column_types b.columns)) (sym same) (covers_own types b.capacity b.rows b.columns)))

pub nothing_written : (types : List ℕ) (b : BlockState) → AreDistinct (column_types b.columns) → HaveTypes (column_types b.columns) b.rows → AreHeld types b.columns → with_pieces b (lent_pieces types b) ≡ b
nothing_written types b distinct have held =
    let loan : LoanState = record { number = 0; types = types; pieces = lent_pieces types b } in
    sym (comes_back types b loan distinct have held refl) ∙ restored types b distinct have held

-- ---- a write into one piece

cells_again : (t : ℕ) (g : Content → Content) (a : Content) (cs : List Cell) → change_cell t (λ _. g a) cs ≡ change_cell t g (change_cell t (λ _. a) cs)
cells_again t g a [] = refl
cells_again t g a (c ∷ cs) = by (nat_eq c.type_id t) refl (cells_again t g a cs)
  where
    by : (b : Bool) → nat_eq c.type_id t ≡ b → change_cell t (λ _. g a) cs ≡ change_cell t g (change_cell t (λ _. a) cs)
        → cond b (with_content (g a) c ∷ cs) (c ∷ change_cell t (λ _. g a) cs) ≡ change_cell t g (cond b (with_content a c ∷ cs) (c ∷ change_cell t (λ _. a) cs))
    by true is rest = rw is refl
    by false is rest = rw is (ap (λ (ds : List Cell). c ∷ ds) rest)

places_both : (f g h : ℕ → Row → Row) (j : ℕ) (rows : List Row) → ((k : ℕ) (r : Row) → j ≤ k → k < j + length rows → f k r ≡ h k (g k r)) → at_places f j rows ≡ at_places h j (at_places g j rows)
places_both f g h j [] same = refl
places_both f g h j (r ∷ rows) same =
    let low : j ≤ j = omega arith in
    let high : j < j + length (r ∷ rows) = omega arith in
    ap (λ (s : Row). s ∷ at_places f (j + 1) rows) (same j r low high)
    ∙ ap (λ (rs : List Row). h j (g j r) ∷ rs)
    (places_both f g h (j + 1) rows (λ k s from to.
    let under : j ≤ k = omega (arith, from) in
    let over : k < j + length (r ∷ rows) = omega (arith, to) in
    same k s under over))

given_written : (t : ℕ) (F : TypeState → TypeState) (G : ℕ → Content → Content) (z : TypeState) (rows : List Row) → z.shape.ty.0 ≡ t → Writes (length rows) F G z
    → given_rows rows (F z) ≡ at_places (λ k r. changed t (G k) r) 0 (given_rows rows z)
given_written t F G z rows here writes =
    places_both (λ k r. changed (F z).shape.ty.0 (λ _. cell_in k (F z).cells) r) (λ k r. changed z.shape.ty.0 (λ _. cell_in k z.cells) r) (λ k r. changed t (G k) r) 0 rows
    (λ k r from to.
    let within : k < length rows = omega (arith, to) in
    ap (λ (s : TypeShape). changed s.ty.0 (λ _. cell_in k (F z).cells) r) writes.same_shape
    ∙ (ap (λ u. changed u (λ _. cell_in k (F z).cells) r) here
    ∙ (ap (λ (x : Content). changed t (λ _. x) r) (writes.cells k within)
    ∙ (ap (λ (cs : List Cell). record r { cells = cs }) (cells_again t (G k) (cell_in k z.cells) r.cells)
    ∙ ap (λ u. changed t (G k) (changed u (λ _. cell_in k z.cells) r)) (sym here)))))

written_past : (t : ℕ) (G : ℕ → Content → Content) (zs : List TypeState) (rows : List Row) → has_type (piece_types zs) t ≡ false
    → fold given_rows (at_places (λ k r. changed t (G k) r) 0 rows) zs ≡ at_places (λ k r. changed t (G k) r) 0 (fold given_rows rows zs)
written_past t G [] rows other = refl
written_past t G (z ∷ zs) rows other =
    let parts = or_parts (nat_eq z.shape.ty.0 t) (has_type (piece_types zs) t) other in
    ap (λ (rs : List Row). fold given_rows rs zs)
    (places_twice (λ k r. changed t (G k) r) (λ k r. changed z.shape.ty.0 (λ _. cell_in k z.cells) r)
    (λ k r. ap (λ (cs : List Cell). record r { cells = cs }) (cells_twice t z.shape.ty.0 (G k) (λ _. cell_in k z.cells) r.cells (other_way z.shape.ty.0 t parts.0))) 0 rows)
    ∙ written_past t G zs (given_rows rows z) parts.1

rows_written : (t : ℕ) (F : TypeState → TypeState) (G : ℕ → Content → Content) (zs : List TypeState) (rows : List Row) → AreDistinct (piece_types zs) → OfPiece t (Writes (length rows) F G) zs
    → fold given_rows rows (change_piece t F zs) ≡ at_places (λ k r. changed t (G k) r) 0 (fold given_rows rows zs)
rows_written t F G [] rows distinct is = absurd is
rows_written t F G (z ∷ zs) rows distinct is = by (nat_eq z.shape.ty.0 t) refl is (λ h. rows_written t F G zs (given_rows rows z) distinct.1 h)
  where
    by : (b : Bool) → nat_eq z.shape.ty.0 t ≡ b → MatchBool b (Writes (length rows) F G z) (OfPiece t (Writes (length rows) F G) zs)
        → (OfPiece t (Writes (length (given_rows rows z)) F G) zs → fold given_rows (given_rows rows z) (change_piece t F zs) ≡ at_places (λ k r. changed t (G k) r) 0 (fold given_rows (given_rows rows z) zs))
        → fold given_rows rows (cond b (F z ∷ zs) (z ∷ change_piece t F zs)) ≡ at_places (λ k r. changed t (G k) r) 0 (fold given_rows (given_rows rows z) zs)
    by true here is rest =
        let same : z.shape.ty.0 ≡ t = eqb-true z.shape.ty.0 t here in
        ap (λ (rs : List Row). fold given_rows rs zs) (given_written t F G z rows same is)
        ∙ written_past t G zs (given_rows rows z) (subst (λ u. has_type (piece_types zs) u ≡ false) same distinct.0)
    by false here is rest = rest (subst (λ n. OfPiece t (Writes n F G) zs) (sym (length-at_places (λ k r. changed z.shape.ty.0 (λ _. cell_in k z.cells) r) 0 rows)) is)

-- a write into a piece is a write into the rows
pub piece_written : (t : ℕ) (F : TypeState → TypeState) (G : ℕ → Content → Content) (b : BlockState) (zs : List TypeState) → AreDistinct (piece_types zs) → OfPiece t (Writes (length b.rows) F G) zs
    → with_pieces b (change_piece t F zs) ≡ record b { rows = at_places (λ k r. changed t (G k) r) 0 (with_pieces b zs).rows }
piece_written t F G b zs distinct is = ap (λ (rs : List Row). record b { rows = rs }) (rows_written t F G zs b.rows distinct is)

-- a write keeps the types
pub shapes_written : (t : ℕ) (F : TypeState → TypeState) (zs : List TypeState) → ((x : TypeState) → (F x).shape ≡ x.shape) → map (λ x. x.shape) (change_piece t F zs) ≡ map (λ x. x.shape) zs
shapes_written t F [] keeps = refl
shapes_written t F (z ∷ zs) keeps = by (nat_eq z.shape.ty.0 t) (shapes_written t F zs keeps)
  where
    by : (b : Bool) → map (λ x. x.shape) (change_piece t F zs) ≡ map (λ x. x.shape) zs → map (λ x. x.shape) (cond b (F z ∷ zs) (z ∷ change_piece t F zs)) ≡ z.shape ∷ map (λ x. x.shape) zs
    by true rest = ap (λ (s : TypeShape). s ∷ map (λ x. x.shape) zs) (keeps z)
    by false rest = ap (λ (ss : List TypeShape). z.shape ∷ ss) rest

-- ---- the writes of a loan

pub all_written : (n : ℕ) (G : ℕ → Content → Content) (x : TypeState) → n ≡ length x.cells → Writes n (all_rows G) G x
all_written n G x size = record { same_shape = refl; cells = λ k within. get_or-at_places G x.cells k blank_cell (subst (λ m. k < m) size within) }

-- only row `row` is changed
abbrev in_row : ℕ → (Content → Content) → ℕ → Content → Content
in_row row g k x = cond (nat_eq k row) (g x) x

one_written : (n row : ℕ) (g : Content → Content) (x : TypeState) → row < length x.cells → Writes n (one_row row g) (in_row row g) x
one_written n row g x within = record {
  same_shape = refl;
  cells = λ k short.
      let new = g (cell_in row x.cells) in
      elim (cases_eq k row) [
        | inl at ↦
            ap (λ j. cell_in j (set x.cells row new)) at
            ∙ (get_or-set_same x.cells row new blank_cell within
            ∙ (ap (λ j. g (cell_in j x.cells)) (sym at) ∙ sym (cond-true (nat_eq k row) (g (cell_in k x.cells)) (cell_in k x.cells) (eq-eqb k row at))))
        | inr other ↦ get_or-set_other x.cells row k new blank_cell other ∙ sym (cond-false (nat_eq k row) (g (cell_in k x.cells)) (cell_in k x.cells) (ne_eqb k row other))
      ];
}

pub cells_kept : (t : ℕ) (cs : List Cell) → change_cell t (λ x. x) cs ≡ cs
cells_kept t [] = refl
cells_kept t (c ∷ cs) = by (nat_eq c.type_id t) (cells_kept t cs)
  where
    by : (b : Bool) → change_cell t (λ x. x) cs ≡ cs → cond b (with_content (content_of c) c ∷ cs) (c ∷ change_cell t (λ x. x) cs) ≡ c ∷ cs
    by true rest = refl
    by false rest = ap (λ (ds : List Cell). c ∷ ds) rest

one_place : (t row : ℕ) (g : Content → Content) (rs : List Row) → row < length rs → at_places (λ k r. changed t (in_row row g k) r) 0 rs ≡ set rs row (changed t g (row_in row rs))
one_place t row g rs within =
    let f = λ (k : ℕ) (r : Row). changed t (in_row row g k) r in
    let new = changed t g (row_in row rs) in
    ext_get_or no_row _ _ (length-at_places f 0 rs ∙ sym (length-set rs row new)) (λ k h.
    let short : k < length rs = subst (λ m. k < m) (length-at_places f 0 rs) h in
    get_or-at_places f rs k no_row short ∙ elim (cases_eq k row) [
      | inl at ↦
          ap (λ b. changed t (λ x. cond b (g x) x) (row_in k rs)) (eq-eqb k row at)
          ∙ (ap (λ j. changed t g (row_in j rs)) at
          ∙ (sym (get_or-set_same rs row new no_row within) ∙ ap (λ j. row_in j (set rs row new)) (sym at)))
      | inr other ↦
          ap (λ b. changed t (λ x. cond b (g x) x) (row_in k rs)) (ne_eqb k row other)
          ∙ (ap (λ (cs : List Cell). record (row_in k rs) { cells = cs }) (cells_kept t (row_in k rs).cells)
          ∙ sym (get_or-set_other rs row k new no_row other))
    ])

-- ---- lend, write and give back

-- a write of all rows
pub all_rows_back : (types : List ℕ) (b : BlockState) (loan : LoanState) (t : ℕ) (F : TypeState → TypeState) (G : ℕ → Content → Content) → AreDistinct (column_types b.columns) → HaveTypes (column_types b.columns) b.rows → AreHeld types b.columns
    → ((x : TypeState) → (F x).shape ≡ x.shape) → OfPiece t (Writes (length b.rows) F G) (lent_pieces types b) → loan.pieces ≡ change_piece t F (lent_pieces types b)
    → given_back (after_lending types b) loan ≡ record b { rows = at_places (λ k r. changed t (G k) r) 0 b.rows }
all_rows_back types b loan t F G distinct have held keeps writes is =
    let zs = lent_pieces types b in
    let alike : AreLentFrom types b loan.pieces = ap (map (λ (x : TypeState). x.shape)) is ∙ shapes_written t F zs keeps in
    comes_back types b loan distinct have held alike
    ∙ (ap (λ (xs : List TypeState). with_pieces b xs) is
    ∙ (piece_written t F G b zs (distinct_pieces types b zs distinct refl) writes
    ∙ ap (λ (s : BlockState). record b { rows = at_places (λ k r. changed t (G k) r) 0 s.rows }) (nothing_written types b distinct have held)))

-- a write of one row
pub one_row_back : (types : List ℕ) (b : BlockState) (loan : LoanState) (t row : ℕ) (g : Content → Content) → AreDistinct (column_types b.columns) → HaveTypes (column_types b.columns) b.rows → AreHeld types b.columns
    → row < length b.rows → OfPiece t (λ x. row < length x.cells) (lent_pieces types b) → loan.pieces ≡ change_piece t (one_row row g) (lent_pieces types b)
    → given_back (after_lending types b) loan ≡ record b { rows = set b.rows row (changed t g (row_in row b.rows)) }
one_row_back types b loan t row g distinct have held within there is =
    all_rows_back types b loan t (one_row row g) (in_row row g) distinct have held (λ x. refl)
    (of_piece t (λ x. row < length x.cells) (Writes (length b.rows) (one_row row g) (in_row row g)) (lent_pieces types b) (λ x long. one_written (length b.rows) row g x long) there) is
    ∙ ap (λ (rs : List Row). record b { rows = rs }) (one_place t row g b.rows within)

-- ---- what the loan has of a type

pub with_row : (types : List ℕ) (b : BlockState) (t row : ℕ) (P : TypeShape → Type 0) → has_type types t ≡ true → OfType t P b.columns → row < length b.rows → OfPiece t (λ x. (row < length x.cells) × P x.shape) (lent_pieces types b)
with_row types b t row P among is within =
    of_piece t (λ x. (length b.rows ≡ length x.cells) × P x.shape) (λ x. (row < length x.cells) × P x.shape) (lent_pieces types b)
    (λ x h. (subst (λ m. row < m) h.0 within, h.1)) (lent_there types b.capacity b.rows t P b.columns among is)

kind_known : (t f : ℕ) (P : TypeShape → Type 0) (xs : List BlockType) → OfType t P xs → OfType t (λ s. P s × (kind_in f s.kinds ≡ kind_at t f xs)) xs
kind_known t f P [] is = absurd is
kind_known t f P (x ∷ xs) is = by (nat_eq x.shape.ty.0 t) is (λ h. kind_known t f P xs h)
  where
    by : (b : Bool) → MatchBool b ((x.lent ≡ false) × P x.shape) (OfType t P xs) → (OfType t P xs → OfType t (λ s. P s × (kind_in f s.kinds ≡ kind_at t f xs)) xs)
        → MatchBool b ((x.lent ≡ false) × (P x.shape × (kind_in f x.shape.kinds ≡ cond b (kind_in f x.shape.kinds) (kind_at t f xs)))) (OfType t (λ s. P s × (kind_in f s.kinds ≡ cond b (kind_in f x.shape.kinds) (kind_at t f xs))) xs)
    by true is rest = (is.0, (is.1, refl))
    by false is rest = rest is

pub numbers_back : (types : List ℕ) (b : BlockState) (loan : LoanState) (t f : ℕ) (rows : List ℕ) (zs : List ℤ) (P : TypeShape → Type 0) → AreDistinct (column_types b.columns) → HaveTypes (column_types b.columns) b.rows → AreHeld types b.columns
    → has_type types t ≡ true → OfType t P b.columns → loan.pieces ≡ change_piece t (stored_numbers rows f zs) (lent_pieces types b)
    → given_back (after_lending types b) loan ≡ record b { rows = at_places (λ k r. changed t (with_number_in rows (kind_at t f b.columns) f zs k) r) 0 b.rows }
numbers_back types b loan t f rows zs P distinct have held among is =
    let kind = kind_at t f b.columns in
    let n = length b.rows in
    all_rows_back types b loan t (stored_numbers rows f zs) (with_number_in rows kind f zs) distinct have held (λ x. refl)
    (of_piece t (λ x. (n ≡ length x.cells) × (P x.shape × (kind_in f x.shape.kinds ≡ kind))) (Writes n (stored_numbers rows f zs) (with_number_in rows kind f zs)) (lent_pieces types b)
    (λ x h. record {
      same_shape = refl;
      cells = λ k within.
          get_or-at_places (with_number_in rows (kind_in f x.shape.kinds) f zs) x.cells k blank_cell (subst (λ m. k < m) h.0 within)
          ∙ ap (λ i. with_number_in rows i f zs k (cell_in k x.cells)) h.1.1;
    })
    (lent_there types b.capacity b.rows t (λ s. P s × (kind_in f s.kinds ≡ kind)) b.columns among (kind_known t f P b.columns is)))

pub each_row_back : (types : List ℕ) (b : BlockState) (loan : LoanState) (t : ℕ) (G : ℕ → Content → Content) (P : TypeShape → Type 0) → AreDistinct (column_types b.columns) → HaveTypes (column_types b.columns) b.rows → AreHeld types b.columns
    → has_type types t ≡ true → OfType t P b.columns → loan.pieces ≡ change_piece t (all_rows G) (lent_pieces types b)
    → given_back (after_lending types b) loan ≡ record b { rows = at_places (λ k r. changed t (G k) r) 0 b.rows }
each_row_back types b loan t G P distinct have held among is =
    let n = length b.rows in
    all_rows_back types b loan t (all_rows G) G distinct have held (λ x. refl)
    (of_piece t (λ x. (n ≡ length x.cells) × P x.shape) (Writes n (all_rows G) G) (lent_pieces types b) (λ x h. all_written n G x h.0) (lent_there types b.capacity b.rows t P b.columns among is))

-- what was read of the loan's type is what the block shows of it
pub read_back : (types : List ℕ) (cap : ℕ) (rows : List Row) (t : ℕ) (P : TypeShape → Type 0) (Q : TypeShape → List Content → Type 0) (xs : List BlockType) → has_type types t ≡ true → OfType t P xs
    → OfPiece t (λ y. Q y.shape y.cells) (flat_map (lent_piece types cap rows) xs) → OfType t (λ s. Q s (map (λ r. content_at t r.cells) rows)) xs
read_back types cap rows t P Q [] among is has = absurd is
read_back types cap rows t P Q (x ∷ xs) among is has = by (nat_eq x.shape.ty.0 t) refl (has_type types x.shape.ty.0) refl is has (λ h g. read_back types cap rows t P Q xs among h g)
  where
    one : TypeState
    one = record { shape = x.shape; capacity = cap; cells = map (λ r. content_at x.shape.ty.0 r.cells) rows }

    skipped : (b : Bool) → b ≡ false → MatchBool b (Q one.shape one.cells) (OfPiece t (λ y. Q y.shape y.cells) (flat_map (lent_piece types cap rows) xs)) → OfPiece t (λ y. Q y.shape y.cells) (flat_map (lent_piece types cap rows) xs)
    skipped true is h = absurd (cc is)
    skipped false is h = h

    taken : (b : Bool) → b ≡ true → MatchBool b (Q one.shape one.cells) (OfPiece t (λ y. Q y.shape y.cells) (flat_map (lent_piece types cap rows) xs)) → Q one.shape one.cells
    taken true is h = h
    taken false is h = absurd (cc is)

    by : (b : Bool) → nat_eq x.shape.ty.0 t ≡ b → (c : Bool) → has_type types x.shape.ty.0 ≡ c → MatchBool b ((x.lent ≡ false) × P x.shape) (OfType t P xs)
        → OfPiece t (λ y. Q y.shape y.cells) (cond c (one ∷ []) [] ++ flat_map (lent_piece types cap rows) xs)
        → (OfType t P xs → OfPiece t (λ y. Q y.shape y.cells) (flat_map (lent_piece types cap rows) xs) → OfType t (λ s. Q s (map (λ r. content_at t r.cells) rows)) xs)
        → MatchBool b ((x.lent ≡ false) × Q x.shape (map (λ r. content_at t r.cells) rows)) (OfType t (λ s. Q s (map (λ r. content_at t r.cells) rows)) xs)
    by true here true there is has rest =
        (is.0, subst (λ u. Q x.shape (map (λ r. content_at u r.cells) rows)) (eqb-true x.shape.ty.0 t here) (taken (nat_eq x.shape.ty.0 t) here has))
    by true here false there is has rest = absurd (cc (sym there ∙ (ap (has_type types) (eqb-true x.shape.ty.0 t here) ∙ among)))
    by false here true there is has rest = rest is (skipped (nat_eq x.shape.ty.0 t) here has)
    by false here false there is has rest = rest is has
