-- What is lent and given back unchanged leaves the block as it was.
use Rattle.std.proofs.Common.{ℕ, ◌≡◌, ◌<◌, ◌∙◌, sym, ap, refl, subst, Bool, true, false, cond, nat_eq, List, [], ◌∷◌, ◌++◌, fold, length, map, drop, get_or}
use Rattle.std.specs.List.{flat_map}
use Rattle.std.proofs.lemmas.List.{ext_get_or, length-map, get_or-map}
use Rattle.ent_types.specs.TypeSets.{has_type}
use Rattle.world_model.specs.Row.{Row, Cell}
use Rattle.block_columns.specs.Types.{TypeState, Content, blank_cell, cell_in}
use Rattle.block_laws.proofs.Rows.{or_parts, other_way, itself, put_cell, put_row, row_cells, row_given, rows_count, have_there}
use Rattle.chunk_block.specs.Blocks.{BlockType, BlockState, AreDistinct, AreHeld, HaveTypes, column_types, content_of, content_at, with_content, no_row, row_in, lent_type, lent_cell, lent_row, lent_piece, given_type, given_rows}

module _ (types : List ℕ) (cap : ℕ) (rows : List Row) where
  -- the pieces that these types give to a loan
  abbrev pub pieces : List BlockType → List TypeState
  pieces xs = flat_map (lent_piece types cap rows) xs

  abbrev piece : BlockType → TypeState
  piece x = record { shape = x.shape; capacity = cap; cells = map (λ r. content_at x.shape.ty.0 r.cells) rows }

  -- ---- the types

  -- the pieces of other types leave a type as it is
  type_past : (y : BlockType) (ys xs : List BlockType) → has_type (column_types xs) y.shape.ty.0 ≡ false → fold given_type (y ∷ ys) (pieces xs) ≡ y ∷ fold given_type ys (pieces xs)
  type_past y ys [] other = refl
  type_past y ys (x ∷ xs) other =
      let parts = or_parts (nat_eq x.shape.ty.0 y.shape.ty.0) (has_type (column_types xs) y.shape.ty.0) other in
      by (has_type types x.shape.ty.0) parts.0 (λ zs. type_past y zs xs parts.1)
    where
      by : (b : Bool) → nat_eq x.shape.ty.0 y.shape.ty.0 ≡ false → ((zs : List BlockType) → fold given_type (y ∷ zs) (pieces xs) ≡ y ∷ fold given_type zs (pieces xs))
          → fold given_type (y ∷ ys) (cond b (piece x ∷ []) [] ++ pieces xs) ≡ y ∷ fold given_type ys (cond b (piece x ∷ []) [] ++ pieces xs)
      by true here rest =
          ap (λ b. fold given_type (cond b (record y { lent = false } ∷ ys) (y ∷ given_type ys (piece x))) (pieces xs)) (other_way x.shape.ty.0 y.shape.ty.0 here)
          ∙ rest (given_type ys (piece x))
      by false here rest = rest ys

  pub types_restored : (xs : List BlockType) → AreDistinct (column_types xs) → AreHeld types xs → fold given_type (map (lent_type types) xs) (pieces xs) ≡ xs
  types_restored [] distinct held = refl
  types_restored (x ∷ xs) distinct held = by (has_type types x.shape.ty.0) held.0 (types_restored xs distinct.1 held.1)
    where
      by : (b : Bool) → (b ≡ true → x.lent ≡ false) → fold given_type (map (lent_type types) xs) (pieces xs) ≡ xs
          → fold given_type (cond b (record x { lent = true }) x ∷ map (lent_type types) xs) (cond b (piece x ∷ []) [] ++ pieces xs) ≡ x ∷ xs
      by true is rest =
          let bare : BlockType = record x { lent = true } in
          let full : BlockType = record x { lent = false } in
          let ys = map (lent_type types) xs in
          ap (λ b. fold given_type (cond b (full ∷ ys) (bare ∷ given_type ys (piece x))) (pieces xs)) (itself x.shape.ty.0)
          ∙ (type_past full ys xs distinct.0
          ∙ (ap (λ (us : List BlockType). full ∷ us) rest
          ∙ ap (λ l. record { shape = x.shape; lent = l } ∷ xs) (sym (is refl))))
      by false is rest = type_past x (map (lent_type types) xs) xs distinct.0 ∙ ap (λ (us : List BlockType). x ∷ us) rest

  -- ---- the cells of the row at place k

  cell_past : (k : ℕ) (c : Cell) (cs : List Cell) (xs : List BlockType) → has_type (column_types xs) c.type_id ≡ false → fold (put_cell k) (c ∷ cs) (pieces xs) ≡ c ∷ fold (put_cell k) cs (pieces xs)
  cell_past k c cs [] other = refl
  cell_past k c cs (x ∷ xs) other =
      let parts = or_parts (nat_eq x.shape.ty.0 c.type_id) (has_type (column_types xs) c.type_id) other in
      by (has_type types x.shape.ty.0) parts.0 (λ ds. cell_past k c ds xs parts.1)
    where
      by : (b : Bool) → nat_eq x.shape.ty.0 c.type_id ≡ false → ((ds : List Cell) → fold (put_cell k) (c ∷ ds) (pieces xs) ≡ c ∷ fold (put_cell k) ds (pieces xs))
          → fold (put_cell k) (c ∷ cs) (cond b (piece x ∷ []) [] ++ pieces xs) ≡ c ∷ fold (put_cell k) cs (cond b (piece x ∷ []) [] ++ pieces xs)
      by true here rest =
          ap (λ b. fold (put_cell k) (cond b (with_content (cell_in k (piece x).cells) c ∷ cs) (c ∷ put_cell k cs (piece x))) (pieces xs)) (other_way x.shape.ty.0 c.type_id here)
          ∙ rest (put_cell k cs (piece x))
      by false here rest = rest cs

  -- each of these cells is the one that all show of its type
  abbrev Own : List Cell → List Cell → Type 0
  Own all [] = Unit {0}
  Own all (c ∷ cs) = (content_at c.type_id all ≡ content_of c) × Own all cs

  own_more : (d : Cell) (all cs : List Cell) → has_type (map (λ c. c.type_id) cs) d.type_id ≡ false → Own all cs → Own (d ∷ all) cs
  own_more d all [] other own = tt
  own_more d all (c ∷ cs) other own =
      let parts = or_parts (nat_eq c.type_id d.type_id) (has_type (map (λ c. c.type_id) cs) d.type_id) other in
      (ap (λ b. cond b (content_of d) (content_at c.type_id all)) (other_way c.type_id d.type_id parts.0) ∙ own.0, own_more d all cs parts.1 own.1)

  own_all : (cs : List Cell) → AreDistinct (map (λ c. c.type_id) cs) → Own cs cs
  own_all [] distinct = tt
  own_all (c ∷ cs) distinct = (ap (λ b. cond b (content_of c) (content_at c.type_id cs)) (itself c.type_id), own_more c cs cs distinct.0 (own_all cs distinct.1))

  cells_restored : (k : ℕ) (all cs : List Cell) (xs : List BlockType) → map (λ c. c.type_id) cs ≡ column_types xs → AreDistinct (column_types xs) → Own all cs
      → ((t : ℕ) → cell_in k (map (λ r. content_at t r.cells) rows) ≡ content_at t all) → fold (put_cell k) (map (lent_cell types) cs) (pieces xs) ≡ cs
  cells_restored k all [] [] same distinct own shown = refl
  cells_restored k all [] (x ∷ xs) same distinct own shown = absurd (cc same)
  cells_restored k all (c ∷ cs) [] same distinct own shown = absurd (cc same)
  cells_restored k all (c ∷ cs) (x ∷ xs) same distinct own shown =
      let head : c.type_id ≡ x.shape.ty.0 = ap (λ (ts : List ℕ). get_or ts 0 0) same in
      let tail : map (λ (d : Cell). d.type_id) cs ≡ column_types xs = ap (drop 1) same in
      let other : has_type (column_types xs) c.type_id ≡ false = subst (λ t. has_type (column_types xs) t ≡ false) (sym head) distinct.0 in
      by (has_type types c.type_id) (has_type types x.shape.ty.0) (ap (has_type types) head) head other (cells_restored k all cs xs tail distinct.1 own.1 shown)
    where
      by : (b d : Bool) → b ≡ d → c.type_id ≡ x.shape.ty.0 → has_type (column_types xs) c.type_id ≡ false → fold (put_cell k) (map (lent_cell types) cs) (pieces xs) ≡ cs
          → fold (put_cell k) (cond b (with_content blank_cell c) c ∷ map (lent_cell types) cs) (cond d (piece x ∷ []) [] ++ pieces xs) ≡ c ∷ cs
      by true false is head other rest = absurd (cc is)
      by false true is head other rest = absurd (cc is)
      by false false is head other rest = cell_past k c (map (lent_cell types) cs) xs other ∙ ap (λ (ds : List Cell). c ∷ ds) rest
      by true true is head other rest =
          let bare = with_content blank_cell c in
          let ds = map (lent_cell types) cs in
          let full = with_content (cell_in k (piece x).cells) c in
          let content : cell_in k (piece x).cells ≡ content_of c = shown x.shape.ty.0 ∙ (ap (λ t. content_at t all) (sym head) ∙ own.0) in
          ap (λ b. fold (put_cell k) (cond b (full ∷ ds) (bare ∷ put_cell k ds (piece x))) (pieces xs)) (ap (λ t. nat_eq t x.shape.ty.0) head ∙ itself x.shape.ty.0)
          ∙ (cell_past k full ds xs other
          ∙ (ap (λ (es : List Cell). full ∷ es) rest ∙ ap (λ (y : Content). with_content y c ∷ cs) content))

  -- ---- the rows

  pub rows_restored : (xs : List BlockType) → AreDistinct (column_types xs) → HaveTypes (column_types xs) rows → fold given_rows (map (lent_row types) rows) (pieces xs) ≡ rows
  rows_restored xs distinct have =
      let bare = map (lent_row types) rows in
      let count : length (fold given_rows bare (pieces xs)) ≡ length rows = rows_count (pieces xs) bare ∙ length-map rows (lent_row types) in
      ext_get_or no_row _ _ count (λ k h.
      let within : k < length rows = subst (λ m. k < m) count h in
      let r = row_in k rows in
      let same = have_there (column_types xs) rows k within have in
      let own = own_all r.cells (subst AreDistinct (sym same) distinct) in
      let shown = λ (t : ℕ). get_or-map (λ (w : Row). content_at t w.cells) rows k no_row blank_cell within in
      row_given (pieces xs) bare k (subst (λ m. k < m) (sym (length-map rows (lent_row types))) within)
      ∙ (ap (λ (w : Row). fold (put_row k) w (pieces xs)) (get_or-map (lent_row types) rows k no_row no_row within)
      ∙ (row_cells k (lent_row types r) (pieces xs)
      ∙ ap (λ (cs : List Cell). record r { cells = cs }) (cells_restored k r.cells r.cells xs same distinct own shown))))

pub restored : (types : List ℕ) (b : BlockState) → AreDistinct (column_types b.columns) → HaveTypes (column_types b.columns) b.rows → AreHeld types b.columns
    → record b { columns = fold given_type (map (lent_type types) b.columns) (pieces types b.capacity b.rows b.columns); rows = fold given_rows (map (lent_row types) b.rows) (pieces types b.capacity b.rows b.columns) } ≡ b
restored types b distinct have held =
    let zs = pieces types b.capacity b.rows b.columns in
    ap (λ (ts : List BlockType). record b { columns = ts; rows = fold given_rows (map (lent_row types) b.rows) zs }) (types_restored types b.capacity b.rows b.columns distinct held)
    ∙ ap (λ (rs : List Row). record b { rows = rs }) (rows_restored types b.capacity b.rows b.columns distinct have)
