-- A box of a list, and the boxes after it.
use Rattle.std.proofs.Common.{ℕ, ◌≡◌, ◌∙◌, sym, ap, refl, subst, false, cond, nat_eq, List, ◌∷◌, ◌++◌, Option, Some, None, Box}
use Rattle.std.specs.Bool.{MatchBool}
use Rattle.std.specs.declared.alloc.Global.{Global}
use Rattle.block_columns.specs.Types.{TypeState}
use Rattle.chunk_block.specs.declared.piece.Piece.{Piece, out-Piece}
use Rattle.chunk_block.specs.declared.piece.Piece.TheFolds.{fold-Piece, map-Piece, fold-roll-Piece, fold_out-Piece}
use Rattle.chunk_block.specs.declared.piece.Piece.TheViews.{roll-Piece}
use Rattle.chunk_block.specs.Pieces.{lent_from, chain_step, pieces_from, pieces_in, OfPiece, change_piece}

pub rolled : (rows : Option TypeState) (next : Option (Box Piece Global)) → pieces_from (roll-Piece (record { rows = rows; next = next })) ≡ lent_from rows ++ pieces_in next
rolled rows None = fold-roll-Piece (List TypeState) chain_step (record { rows = rows; next = None })
rolled rows (Some b) = fold-roll-Piece (List TypeState) chain_step (record { rows = rows; next = Some b })

layer : (rows : Option TypeState) (next : Option (Box Piece Global)) → chain_step (map-Piece Piece (List TypeState) (fold-Piece (List TypeState) chain_step) (record { rows = rows; next = next })) ≡ lent_from rows ++ pieces_in next
layer rows None = refl
layer rows (Some b) = refl

opened : (p : Piece) → pieces_from p ≡ lent_from (out-Piece p).rows ++ pieces_in (out-Piece p).next
opened p = fold_out-Piece (List TypeState) chain_step p ∙ layer (out-Piece p).rows (out-Piece p).next

-- a list that begins with a box
pub in_list : (list : Option (Box Piece Global)) (b : Box Piece Global) (d : Piece) (rows : Option TypeState) → list ≡ Some b → d ≡ b.value → (out-Piece d).rows ≡ rows → pieces_in list ≡ lent_from rows ++ pieces_in (out-Piece d).next
in_list list b d rows is at has = ap pieces_in is ∙ (ap pieces_from (sym at) ∙ (opened d ∙ ap (λ (o : Option TypeState). lent_from o ++ pieces_in (out-Piece d).next) has))

-- what was changed after a box without rows
pub past_empty : (f : List TypeState → List TypeState) (list next : Option (Box Piece Global)) (b : Box Piece Global) (d : Piece) → list ≡ Some b → d ≡ b.value → (out-Piece d).rows ≡ None → pieces_in next ≡ f (pieces_in (out-Piece d).next)
    → pieces_from (roll-Piece (record { rows = (out-Piece d).rows; next = next })) ≡ f (pieces_in list)
past_empty f list next b d is at has changed =
    rolled (out-Piece d).rows next
    ∙ (ap (λ (o : Option TypeState). lent_from o ++ pieces_in next) has
    ∙ (changed ∙ ap f (sym (in_list list b d None is at has))))

-- what was changed after a box with rows of another type
pub past_other : (t : ℕ) (F : TypeState → TypeState) (list next : Option (Box Piece Global)) (b : Box Piece Global) (d : Piece) (x : TypeState) → list ≡ Some b → d ≡ b.value → (out-Piece d).rows ≡ Some x → false ≡ nat_eq x.shape.ty.0 t
    → pieces_in next ≡ change_piece t F (pieces_in (out-Piece d).next) → pieces_from (roll-Piece (record { rows = Some x; next = next })) ≡ change_piece t F (pieces_in list)
past_other t F list next b d x is at has other changed =
    rolled (Some x) next
    ∙ (ap (λ (xs : List TypeState). x ∷ xs) changed
    ∙ (ap (λ c. cond c (F x ∷ pieces_in (out-Piece d).next) (x ∷ change_piece t F (pieces_in (out-Piece d).next))) other
    ∙ ap (change_piece t F) (sym (in_list list b d (Some x) is at has))))

-- what was found after a box without rows, or after one with rows of another type
pub in_empty : (t : ℕ) (P : TypeState → Type 0) (list : Option (Box Piece Global)) (b : Box Piece Global) (d : Piece) → list ≡ Some b → d ≡ b.value → (out-Piece d).rows ≡ None → OfPiece t P (pieces_in (out-Piece d).next) → OfPiece t P (pieces_in list)
in_empty t P list b d is at has found = subst (OfPiece t P) (sym (in_list list b d None is at has)) found

pub in_other : (t : ℕ) (P : TypeState → Type 0) (list : Option (Box Piece Global)) (b : Box Piece Global) (d : Piece) (x : TypeState) → list ≡ Some b → d ≡ b.value → (out-Piece d).rows ≡ Some x → false ≡ nat_eq x.shape.ty.0 t
    → OfPiece t P (pieces_in (out-Piece d).next) → OfPiece t P (pieces_in list)
in_other t P list b d x is at has other found =
    subst (OfPiece t P) (sym (in_list list b d (Some x) is at has))
    (subst (λ c. MatchBool c (P x) (OfPiece t P (pieces_in (out-Piece d).next))) other found)
