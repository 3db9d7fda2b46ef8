-- Loans that come back one after another, and the rows of a block to which they came back.
use Rattle.std.proofs.Common.{◌≡◌, ℕ, zero, suc, ◌+◌, ◌≤◌, ◌<◌, inl, inr, Bool, true, false, cond, nat_eq, List, [], ◌∷◌, ◌++◌, map, fold, length, refl, sym, ap, ap₂, ◌∙◌, subst, arith}
use Rattle.std.proofs.lemmas.Grind.{fold-append}
use Rattle.std.proofs.lemmas.List.{map-id, length-map, get_or-map, ext_get_or}
use Rattle.ent_types.specs.declared.entity.Entity.{Entity}
use Rattle.ent_types.specs.TypeSets.{has_type}
use Rattle.world_model.specs.Members.{In, AreDistinct, tally}
use Rattle.world_model.specs.Row.{Row, Cell, cell_type}
use Rattle.block_columns.specs.Places.{at_places}
use Rattle.block_columns.specs.Types.{TypeState}
use Rattle.chunk_block.specs.Blocks.{BlockState, BlockType, LoanState, no_row, row_in, lent_row, given_type, given_rows}
use Rattle.archetype_store.specs.Stores.{Numbered, StoreState, with_block_in}
use Rattle.block_laws.proofs.Rows.{put_cell, put_row, row_cells, row_given, rows_count}
use Rattle.world_places.proofs.Lists.{map_same, map_twice}
use Rattle.world_places.proofs.Numbers.{change}
use Rattle.world_loans.specs.Returns.{pieces_of, with_given, given_by, after_returns, is_piece}
use Rattle.world_loans.proofs.Cells.{cells_back}

-- ---- one after another

given_twice : (ps qs : List TypeState) (b : BlockState) → with_given qs (with_given ps b) ≡ with_given (ps ++ qs) b
given_twice ps qs b =
    ap₂ (λ (cs : List BlockType) (rs : List Row). record b { columns = cs; rows = rs }) (sym (fold-append given_type b.columns ps qs)) (sym (fold-append given_rows b.rows ps qs))

pub returns_are : (ls : List LoanState) (s : StoreState) → after_returns ls s ≡ record s { blocks = map (given_by ls) s.blocks }
returns_are [] s = ap (λ (bs : List Numbered). record s { blocks = bs }) (sym (map-id s.blocks))
returns_are (l ∷ ls) s =
    returns_are ls (with_block_in l.number (with_given l.pieces) s)
    ∙ ap (λ (bs : List Numbered). record s { blocks = bs })
    (map_twice (given_by ls) (change l.number (with_given l.pieces)) s.blocks ∙ map_same (λ b. given_by ls (change l.number (with_given l.pieces) b)) (given_by (l ∷ ls)) s.blocks (λ b i. step b))
  where
    step : (b : Numbered) → given_by ls (change l.number (with_given l.pieces) b) ≡ given_by (l ∷ ls) b
    step b = by (nat_eq b.number l.number)
      where
        by : (t : Bool) → given_by ls (cond t (record b { block = with_given l.pieces b.block }) b)
            ≡ record b { block = with_given (cond t (l.pieces ++ pieces_of ls b.number) (pieces_of ls b.number)) b.block }
        by true = ap (λ (x : BlockState). record b { block = x }) (given_twice l.pieces (pieces_of ls b.number) b.block)
        by false = refl

-- ---- rows by their places

pub each_row : (P : Row → Type 0) (rs : List Row) → ((k : ℕ) → k < length rs → P (row_in k rs)) → (r : Row) → In r rs → P r
each_row P [] all r i = absurd i
each_row P (q ∷ qs) all r (inl same) = subst P (sym same) (all 0 (omega arith))
each_row P (q ∷ qs) all r (inr i) = each_row P qs (λ k below. all (suc k) (omega arith)) r i

pub row_member : (k : ℕ) (rs : List Row) → k < length rs → In (row_in k rs) rs
row_member k [] below = absurd (omega (arith, below))
row_member zero (r ∷ rs) below = inl refl
row_member (suc k) (r ∷ rs) below = inr (row_member k rs (omega arith))

-- the row at place k after pieces came back
pub row_back : (ps : List TypeState) (rs : List Row) (k : ℕ) → k < length rs → row_in k (fold given_rows rs ps) ≡ record (row_in k rs) { cells = fold (put_cell k) (row_in k rs).cells ps }
row_back ps rs k below = row_given ps rs k below ∙ row_cells k (row_in k rs) ps

-- rows that were lent and came back
pub rows_back : (types : List ℕ) (ps : List TypeState) (rs : List Row) → ((r : Row) → In r rs → AreDistinct (map cell_type r.cells))
    → ((r : Row) → In r rs → (t : ℕ) → has_type types t ≡ true → In t (map cell_type r.cells) → 1 ≤ tally (is_piece t) ps)
    → fold given_rows (map (lent_row types) rs) ps ≡ fold given_rows rs ps
rows_back types ps rs distinct there =
    let bare = map (lent_row types) rs in
    let size : length bare ≡ length rs = length-map rs (lent_row types) in
    let count : length (fold given_rows bare ps) ≡ length rs = rows_count ps bare ∙ size in
    ext_get_or no_row _ _ (count ∙ sym (rows_count ps rs)) (λ k h.
    let within : k < length rs = subst (λ m. k < m) count h in
    let r = row_in k rs in
    let i = row_member k rs within in
    row_back ps bare k (subst (λ m. k < m) (sym size) within)
    ∙ (ap (λ (q : Row). record q { cells = fold (put_cell k) q.cells ps }) (get_or-map (lent_row types) rs k no_row no_row within)
    ∙ (ap (λ (cs : List Cell). record r { cells = cs }) (cells_back types k ps r.cells (distinct r i) (there r i)) ∙ sym (row_back ps rs k within))))

-- ---- the entities stay

abbrev pub entity : Row → Entity
entity r = r.entity

places_keep : (f : ℕ → Row → Row) → ((k : ℕ) (r : Row) → (f k r).entity ≡ r.entity) → (k : ℕ) (rs : List Row) → map entity (at_places f k rs) ≡ map entity rs
places_keep f same k [] = refl
places_keep f same k (r ∷ rs) = ap₂ (λ (e : Entity) (es : List Entity). e ∷ es) (same k r) (places_keep f same (k + 1) rs)

pub entities_given : (ps : List TypeState) (rs : List Row) → map entity (fold given_rows rs ps) ≡ map entity rs
entities_given [] rs = refl
entities_given (p ∷ ps) rs = entities_given ps (given_rows rs p) ∙ places_keep (λ k r. put_row k r p) (λ k r. refl) 0 rs

pub entities_lent : (types : List ℕ) (rs : List Row) → map entity (map (lent_row types) rs) ≡ map entity rs
entities_lent types [] = refl
entities_lent types (r ∷ rs) = ap (λ (es : List Entity). r.entity ∷ es) (entities_lent types rs)
