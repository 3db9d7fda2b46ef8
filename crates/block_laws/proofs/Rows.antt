-- The rows of a block to which pieces came back, one by one.
use Rattle.std.proofs.Common.{ℕ, zero, suc, ◌≡◌, ◌<◌, ◌∙◌, ◌||◌, sym, ap, refl, subst, Bool, true, false, nat_eq, List, [], ◌∷◌, fold, length, map, arith}
use Rattle.std.proofs.lemmas.Bool.Decides.{nat_tests}
use Rattle.world_model.specs.Row.{Row, Cell}
use Rattle.block_columns.specs.Types.{TypeState, cell_in}
use Rattle.block_columns.proofs.Lists.{length-at_places, get_or-at_places}
use Rattle.chunk_block.specs.Blocks.{HaveTypes, change_cell, changed, no_row, row_in, given_rows}

pub or_parts : (a b : Bool) → (a || b) ≡ false → (a ≡ false) × (b ≡ false)
or_parts false b h = (refl, h)
or_parts true b h = cc

pub other_way : (m n : ℕ) → nat_eq m n ≡ false → nat_eq n m ≡ false
other_way m n = grind (arith, nat_tests)

pub itself : (m : ℕ) → nat_eq m m ≡ true
itself m = grind (arith, nat_tests)

-- the cells of the row at place k after a piece came back
abbrev pub put_cell : ℕ → List Cell → TypeState → List Cell
put_cell k cs z = change_cell z.shape.ty.0 (λ _. cell_in k z.cells) cs

abbrev pub put_row : ℕ → Row → TypeState → Row
put_row k r z = changed z.shape.ty.0 (λ _. cell_in k z.cells) r

pub row_cells : (k : ℕ) (r : Row) (zs : List TypeState) → fold (put_row k) r zs ≡ record r { cells = fold (put_cell k) r.cells zs }
row_cells k r [] = refl
row_cells k r (z ∷ zs) = row_cells k (put_row k r z) zs

pub row_given : (zs : List TypeState) (rs : List Row) (k : ℕ) → k < length rs → row_in k (fold given_rows rs zs) ≡ fold (put_row k) (row_in k rs) zs
row_given [] rs k within = refl
row_given (z ∷ zs) rs k within =
    let f = λ (j : ℕ) (r : Row). put_row j r z in
    row_given zs (given_rows rs z) k (subst (λ m. k < m) (sym (length-at_places f 0 rs)) within)
    ∙ ap (λ (r : Row). fold (put_row k) r zs) (get_or-at_places f rs k no_row within)

pub rows_count : (zs : List TypeState) (rs : List Row) → length (fold given_rows rs zs) ≡ length rs
rows_count [] rs = refl
rows_count (z ∷ zs) rs = rows_count zs (given_rows rs z) ∙ length-at_places (λ j r. put_row j r z) 0 rs

pub have_there : (ts : List ℕ) (rs : List Row) (k : ℕ) → k < length rs → HaveTypes ts rs → map (λ c. c.type_id) (row_in k rs).cells ≡ ts
have_there ts [] k within have = absurd (omega arith)
have_there ts (r ∷ rs) zero within have = have.0
have_there ts (r ∷ rs) (suc k) within have = have_there ts rs k (omega arith) have.1
