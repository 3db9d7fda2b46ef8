-- What a caller knows of the loans of a block: which are its own, and what they have.
use Rattle.std.proofs.Common.{ℕ, inl, inr, ◌≡◌, ◌∙◌, ◌||◌, Bool, true, false, cond, nat_eq, sym, ap, refl, subst, List, [], ◌∷◌, ◌++◌, length, map, fold}
use Rattle.std.specs.Prelude.{◌==◌}
use Rattle.std.specs.Bool.{MatchBool}
use Rattle.std.specs.List.{flat_map}
use Rattle.std.proofs.lemmas.Bool.{cases_eq, eq-eqb, ne_eqb, eqb-true}
use Rattle.std.proofs.lemmas.List.{length-map}
use Rattle.ent_types.specs.TypeSets.{has_type}
use Rattle.world_model.specs.Row.{Row}
use Rattle.block_columns.specs.Types.{TypeState, cell_in}
use Rattle.block_columns.specs.declared.shape.TypeShape.{TypeShape}
use Rattle.block_columns.proofs.Lists.{length-at_places}
use Rattle.chunk_block.specs.Pieces.{OfPiece, change_piece}
use Rattle.chunk_block.specs.Blocks.{BlockType, BlockState, content_at, changed, lent_type, lent_piece, given_type, given_rows, OfType, HasShape, ArePiecesOf, AreDistinct, column_types}
use Rattle.chunk_block.proofs.Changed.{Keeps}

-- ---- one type of a loan

pub of_piece : (t : ℕ) (P Q : TypeState → Type 0) (xs : List TypeState) → ((y : TypeState) → P y → Q y) → OfPiece t P xs → OfPiece t Q xs
of_piece t P Q [] so is = absurd is
of_piece t P Q (x ∷ xs) so is = by (nat_eq x.shape.ty.0 t) is (λ h. of_piece t P Q xs so h)
  where
    by : (b : Bool) → MatchBool b (P x) (OfPiece t P xs) → (OfPiece t P xs → OfPiece t Q xs) → MatchBool b (Q x) (OfPiece t Q xs)
    by true is rest = so x is
    by false is rest = rest is

pub found_piece : (t : ℕ) (Q : TypeState → Type 0) (r : TypeState) (xs : List TypeState) → OfPiece t (λ y. r ≡ y) xs → OfPiece t Q xs → Q r
found_piece t Q r [] is has = absurd is
found_piece t Q r (x ∷ xs) is has = by (nat_eq x.shape.ty.0 t) is has (λ h g. found_piece t Q r xs h g)
  where
    by : (b : Bool) → MatchBool b (r ≡ x) (OfPiece t (λ y. r ≡ y) xs) → MatchBool b (Q x) (OfPiece t Q xs) → (OfPiece t (λ y. r ≡ y) xs → OfPiece t Q xs → Q r) → Q r
    by true is has rest = subst Q (sym is) has
    by false is has rest = rest is has

-- ---- the block has the types of the loan

same_shape : (s : TypeShape) (x : BlockType) (xs ys : List BlockType) → HasShape s (x ∷ xs) → (HasShape s xs → HasShape s ys) → MatchBool (nat_eq x.shape.ty.0 s.ty.0) (s ≡ x.shape) (HasShape s ys)
same_shape s x xs ys has rest = by (nat_eq x.shape.ty.0 s.ty.0) has
  where
    by : (b : Bool) → MatchBool b (s ≡ x.shape) (HasShape s xs) → MatchBool b (s ≡ x.shape) (HasShape s ys)
    by true is = is
    by false is = rest is

shape_lent : (types : List ℕ) (s : TypeShape) (xs : List BlockType) → HasShape s xs → HasShape s (map (lent_type types) xs)
shape_lent types s [] has = has
shape_lent types s (x ∷ xs) has = by (has_type types x.shape.ty.0) (λ h. shape_lent types s xs h)
  where
    by : (b : Bool) → (HasShape s xs → HasShape s (map (lent_type types) xs)) → HasShape s (cond b (record x { lent = true }) x ∷ map (lent_type types) xs)
    by true rest = same_shape s x xs (map (lent_type types) xs) has rest
    by false rest = same_shape s x xs (map (lent_type types) xs) has rest

shape_given : (y : TypeState) (s : TypeShape) (xs : List BlockType) → HasShape s xs → HasShape s (given_type xs y)
shape_given y s [] has = has
shape_given y s (x ∷ xs) has = by (nat_eq x.shape.ty.0 y.shape.ty.0) (λ h. shape_given y s xs h)
  where
    by : (b : Bool) → (HasShape s xs → HasShape s (given_type xs y)) → HasShape s (cond b (record x { lent = false } ∷ xs) (x ∷ given_type xs y))
    by true rest = has
    by false rest = same_shape s x xs (given_type xs y) has rest

shape_given_all : (ys : List TypeState) (s : TypeShape) (xs : List BlockType) → HasShape s xs → HasShape s (fold given_type xs ys)
shape_given_all [] s xs has = has
shape_given_all (y ∷ ys) s xs has = shape_given_all ys s (given_type xs y) (shape_given y s xs has)

rows_given_all : (ys : List TypeState) (rows : List Row) → length (fold given_rows rows ys) ≡ length rows
rows_given_all [] rows = refl
rows_given_all (y ∷ ys) rows = rows_given_all ys (given_rows rows y) ∙ length-at_places (λ k r. changed y.shape.ty.0 (λ _. cell_in k y.cells) r) 0 rows

-- ---- loans stay loans of the block

-- the block has as many rows, the same capacity and the same types
pub still_of : (old new : BlockState) (xs : List TypeState) → length new.rows ≡ length old.rows → new.capacity ≡ old.capacity → ((s : TypeShape) → HasShape s old.columns → HasShape s new.columns) → ArePiecesOf old xs → ArePiecesOf new xs
still_of old new [] rows room shapes of = tt
still_of old new (x ∷ xs) rows room shapes of = ((of.0.0 ∙ sym rows, (of.0.1.0 ∙ sym room, shapes x.shape of.0.1.1)), still_of old new xs rows room shapes of.1)

pub still_of_lent : (types : List ℕ) (old new : BlockState) (g : Row → Row) (xs : List TypeState) → new ≡ record old { columns = map (lent_type types) old.columns; rows = map g old.rows } → ArePiecesOf old xs → ArePiecesOf new xs
still_of_lent types old new g xs is of =
    subst (λ (b : BlockState). ArePiecesOf b xs) (sym is)
    (still_of old (record old { columns = map (lent_type types) old.columns; rows = map g old.rows }) xs (length-map old.rows g) refl (λ s. shape_lent types s old.columns) of)

pub still_of_given : (ys : List TypeState) (old new : BlockState) (xs : List TypeState) → new ≡ record old { columns = fold given_type old.columns ys; rows = fold given_rows old.rows ys } → ArePiecesOf old xs → ArePiecesOf new xs
still_of_given ys old new xs is of =
    subst (λ (b : BlockState). ArePiecesOf b xs) (sym is)
    (still_of old (record old { columns = fold given_type old.columns ys; rows = fold given_rows old.rows ys }) xs (rows_given_all ys old.rows) refl (λ s. shape_given_all ys s old.columns) of)

-- a piece that is written keeps its type and its rows
pub still_pieces : (b : BlockState) (t : ℕ) (F : TypeState → TypeState) (xs : List TypeState) → Keeps F → ArePiecesOf b xs → ArePiecesOf b (change_piece t F xs)
still_pieces b t F [] keeps of = tt
still_pieces b t F (x ∷ xs) keeps of = by (nat_eq x.shape.ty.0 t) (still_pieces b t F xs keeps of.1)
  where
    by : (c : Bool) → ArePiecesOf b (change_piece t F xs) → ArePiecesOf b (cond c (F x ∷ xs) (x ∷ change_piece t F xs))
    by true rest = ((keeps.rows x ∙ of.0.0, (keeps.capacity x ∙ of.0.1.0, subst (λ (s : TypeShape). HasShape s b.columns) (sym (keeps.shape x)) of.0.1.1)), of.1)
    by false rest = (of.0, rest)

-- ---- what was lent is a loan of the block

abbrev HasAll : List BlockType → List BlockType → Type 0
HasAll all [] = Unit {0}
HasAll all (q ∷ qs) = HasShape q.shape all × HasAll all qs

has_more : (p : BlockType) (all qs : List BlockType) → has_type (column_types qs) p.shape.ty.0 ≡ false → HasAll all qs → HasAll (p ∷ all) qs
has_more p all [] other has = tt
has_more p all (q ∷ qs) other has = by (nat_eq p.shape.ty.0 q.shape.ty.0) (q.shape.ty.0 == p.shape.ty.0) (same p.shape.ty.0 q.shape.ty.0) other (λ h. has_more p all qs h has.1)
  where
    same : (a b : ℕ) → nat_eq a b ≡ nat_eq b a
    same a b =
        elim (cases_eq a b) [
          | inl e ↦ eq-eqb a b e ∙ sym (eq-eqb b a (sym e))
          | inr other ↦ ne_eqb a b other ∙ sym (ne_eqb b a (λ e. other (sym e)))
        ]

    by : (b c : Bool) → b ≡ c → (c || has_type (column_types qs) p.shape.ty.0) ≡ false → (has_type (column_types qs) p.shape.ty.0 ≡ false → HasAll (p ∷ all) qs)
        → MatchBool b (q.shape ≡ p.shape) (HasShape q.shape all) × HasAll (p ∷ all) qs
    by true true is h rest = absurd (cc h)
    by true false is h rest = absurd (cc is)
    by false true is h rest = absurd (cc is)
    by false false is h rest = (has.0, rest h)

has_own : (xs : List BlockType) → AreDistinct (column_types xs) → HasAll xs xs
has_own [] distinct = tt
has_own (x ∷ xs) distinct = (by (nat_eq x.shape.ty.0 x.shape.ty.0) (eq-eqb x.shape.ty.0 x.shape.ty.0 refl), has_more x xs xs distinct.0 (has_own xs distinct.1))
  where
    by : (b : Bool) → b ≡ true → MatchBool b (x.shape ≡ x.shape) (HasShape x.shape xs)
    by true is = refl
    by false is = absurd (cc is)

lent_of : (types : List ℕ) (b : BlockState) (qs : List BlockType) → HasAll b.columns qs → ArePiecesOf b (flat_map (lent_piece types b.capacity b.rows) qs)
lent_of types b [] has = tt
lent_of types b (q ∷ qs) has = by (has_type types q.shape.ty.0) (lent_of types b qs has.1)
  where
    by : (c : Bool) → ArePiecesOf b (flat_map (lent_piece types b.capacity b.rows) qs)
        → ArePiecesOf b (cond c (record { shape = q.shape; capacity = b.capacity; cells = map (λ r. content_at q.shape.ty.0 r.cells) b.rows } ∷ []) [] ++ flat_map (lent_piece types b.capacity b.rows) qs)
    by true rest = ((length-map b.rows (λ (r : Row). content_at q.shape.ty.0 r.cells), (refl, has.0)), rest)
    by false rest = rest

pub own_pieces : (types : List ℕ) (b : BlockState) → AreDistinct (column_types b.columns) → ArePiecesOf b (flat_map (lent_piece types b.capacity b.rows) b.columns)
own_pieces types b distinct = lent_of types b b.columns (has_own b.columns distinct)

-- ---- what a loan has

-- a type that was lent is in the loan
pub lent_there : (types : List ℕ) (cap : ℕ) (rows : List Row) (t : ℕ) (P : TypeShape → Type 0) (xs : List BlockType) → has_type types t ≡ true → OfType t P xs
    → OfPiece t (λ y. (length rows ≡ length y.cells) × P y.shape) (flat_map (lent_piece types cap rows) xs)
lent_there types cap rows t P [] among is = absurd is
lent_there types cap rows t P (x ∷ xs) among is = by (nat_eq x.shape.ty.0 t) refl (has_type types x.shape.ty.0) refl is (λ h. lent_there types cap rows t P xs among h)
  where
    piece : TypeState
    piece = record { shape = x.shape; capacity = cap; cells = map (λ r. content_at x.shape.ty.0 r.cells) rows }

    skip : (b : Bool) → b ≡ false → OfPiece t (λ y. (length rows ≡ length y.cells) × P y.shape) (flat_map (lent_piece types cap rows) xs)
        → MatchBool b ((length rows ≡ length piece.cells) × P x.shape) (OfPiece t (λ y. (length rows ≡ length y.cells) × P y.shape) (flat_map (lent_piece types cap rows) xs))
    skip true is rest = absurd (cc is)
    skip false is rest = rest

    take_it : (b : Bool) → b ≡ true → P x.shape
        → MatchBool b ((length rows ≡ length piece.cells) × P x.shape) (OfPiece t (λ y. (length rows ≡ length y.cells) × P y.shape) (flat_map (lent_piece types cap rows) xs))
    take_it true is so = (sym (length-map rows (λ (r : Row). content_at x.shape.ty.0 r.cells)), so)
    take_it false is so = absurd (cc is)

    by : (b : Bool) → nat_eq x.shape.ty.0 t ≡ b → (c : Bool) → has_type types x.shape.ty.0 ≡ c → MatchBool b ((x.lent ≡ false) × P x.shape) (OfType t P xs)
        → (OfType t P xs → OfPiece t (λ y. (length rows ≡ length y.cells) × P y.shape) (flat_map (lent_piece types cap rows) xs))
        → OfPiece t (λ y. (length rows ≡ length y.cells) × P y.shape) (cond c (piece ∷ []) [] ++ flat_map (lent_piece types cap rows) xs)
    by true here true there is rest = take_it (nat_eq x.shape.ty.0 t) here is.1
    by true here false there is rest = absurd (cc (sym there ∙ (ap (has_type types) (eqb-true x.shape.ty.0 t here) ∙ among)))
    by false here true there is rest = skip (nat_eq x.shape.ty.0 t) here (rest is)
    by false here false there is rest = rest is
