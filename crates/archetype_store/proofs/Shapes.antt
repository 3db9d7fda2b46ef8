-- Lending leaves the types of a block as they are.
use Rattle.std.proofs.Common.{◌≡◌, ℕ, suc, ◌+◌, Bool, true, false, cond, nat_eq, List, [], ◌∷◌, length, map, refl, ap, ◌∙◌}
use Rattle.std.specs.Prelude.{fold}
use Rattle.ent_types.specs.TypeSets.{has_type}
use Rattle.world_model.specs.Row.{Row}
use Rattle.block_columns.specs.Places.{at_places}
use Rattle.block_columns.specs.Types.{TypeState, cell_in}
use Rattle.block_columns.specs.declared.shape.TypeShape.{TypeShape}
use Rattle.chunk_block.specs.Blocks.{BlockType, changed, given_rows, lent_type, given_type}

abbrev shapes : List BlockType → List TypeShape
shapes columns = map (λ (x : BlockType). x.shape) columns

pub shapes-lent : (types : List ℕ) (columns : List BlockType) → map (λ (x : BlockType). x.shape) (map (lent_type types) columns) ≡ map (λ (x : BlockType). x.shape) columns
shapes-lent types [] = refl
shapes-lent types (x ∷ xs) = ap (λ shape. shape ∷ shapes (map (lent_type types) xs)) (by (has_type types x.shape.ty.0)) ∙ ap (λ rest. x.shape ∷ rest) (shapes-lent types xs)
  where
    by : (b : Bool) → (cond b (record x { lent = true }) x).shape ≡ x.shape
    by true = refl
    by false = refl

shapes-given-one : (columns : List BlockType) (p : TypeState) → shapes (given_type columns p) ≡ shapes columns
shapes-given-one [] p = refl
shapes-given-one (x ∷ xs) p = by (nat_eq x.shape.ty.0 p.shape.ty.0) (shapes-given-one xs p)
  where
    by : (b : Bool) → shapes (given_type xs p) ≡ shapes xs → shapes (cond b (record x { lent = false } ∷ xs) (x ∷ given_type xs p)) ≡ x.shape ∷ shapes xs
    by true is = refl
    by false is = ap (λ rest. x.shape ∷ rest) is

pub shapes-given : (pieces : List TypeState) (columns : List BlockType) → map (λ (x : BlockType). x.shape) (fold given_type columns pieces) ≡ map (λ (x : BlockType). x.shape) columns
shapes-given [] columns = refl
shapes-given (p ∷ ps) columns = shapes-given ps (given_type columns p) ∙ shapes-given-one columns p

-- and its rows as many as they are
pub rows-given : (pieces : List TypeState) (rows : List Row) → length (fold given_rows rows pieces) ≡ length rows
rows-given [] rows = refl
rows-given (p ∷ ps) rows = rows-given ps (given_rows rows p) ∙ places (λ k r. changed p.shape.ty.0 (λ _. cell_in k p.cells) r) 0 rows
  where
    places : (f : ℕ → Row → Row) (i : ℕ) (rs : List Row) → length (at_places f i rs) ≡ length rs
    places f i [] = refl
    places f i (r ∷ rs) = ap suc (places f (i + 1) rs)
