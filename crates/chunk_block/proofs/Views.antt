-- What contracts see of an open block.
use Rattle.std.proofs.Common.{ℕ, ℤ, zero, suc, ◌≡◌, ◌<◌, ◌+◌, ◌∙◌, sym, ap, refl, subst, List, [], ◌∷◌, length, map}
use Rattle.std.proofs.Math.ListN.{set}
use Rattle.std.proofs.lemmas.List.{ext_get_or, length-map, get_or-map}
use Rattle.ent_types.specs.declared.entity.Entity.{Entity}
use Rattle.ent_types.specs.Fitting.{null_entity}
use Rattle.world_model.specs.Row.{Row}
use Rattle.world_model.specs.World.{Mark}
use Rattle.block_columns.specs.Places.{tabulated, at_places}
use Rattle.block_columns.specs.Types.{TypeState, Content, blank_cell, cell_in, kind_in, one_row, all_rows, with_number_in}
use Rattle.block_columns.specs.declared.shape.TypeShape.{TypeShape}
use Rattle.block_columns.proofs.Lists.{length-tabulated, length-at_places, get_or-at_places}
use Rattle.chunk_block.specs.Pieces.{Place, OfPlace, change_place, stored_numbers}
use Rattle.chunk_block.specs.Blocks.{BlockState, BlockType, type_of, row_at, row_in, no_row, place_cell, place_types, column_types, HaveTypes, ArePiecesOf, changed, OfType, AllSuit, kind_at}
use Rattle.chunk_block.proofs.Places.{row_there, of_place, there, both, kind_there}
use Rattle.chunk_block.proofs.Changed.{Keeps, types_changed, rows_set, rows_all}
use Rattle.chunk_block.proofs.Given.{AreOf}

abbrev pub seen : List ℕ → ℕ → List Place → List ℕ → List Entity → ℕ → List Mark → ℕ → BlockState
seen types cap ps dying es n marks order =
    record { types = types; columns = map type_of ps; capacity = cap; rows = tabulated (row_at ps dying es) 0 n; marks = marks; order = order }

pub size : (now : BlockState) (types : List ℕ) (cap : ℕ) (ps : List Place) (dying : List ℕ) (es : List Entity) (n : ℕ) (marks : List Mark) (order : ℕ) → seen types cap ps dying es n marks order ≡ now → length now.rows ≡ n
size now types cap ps dying es n marks order is = ap (λ (b : BlockState). length b.rows) (sym is) ∙ length-tabulated (row_at ps dying es) 0 n

pub types_of_places : (ps : List Place) → column_types (map type_of ps) ≡ place_types ps
types_of_places [] = refl
types_of_places (p ∷ ps) = ap (λ ts. p.shape.ty.0 ∷ ts) (types_of_places ps)

cell_types : (k : ℕ) (ps : List Place) → map (λ c. c.type_id) (map (place_cell k) ps) ≡ column_types (map type_of ps)
cell_types k [] = refl
cell_types k (p ∷ ps) = ap (λ ts. p.shape.ty.0 ∷ ts) (cell_types k ps)

pub have_types : (ps : List Place) (dying : List ℕ) (es : List Entity) (k n : ℕ) → HaveTypes (column_types (map type_of ps)) (tabulated (row_at ps dying es) k n)
have_types ps dying es k zero = tt
have_types ps dying es k (suc n) = (cell_types k ps, have_types ps dying es (k + 1) n)

pub entities_of_rows : (ps : List Place) (dying : List ℕ) (es : List Entity) (n : ℕ) → length es ≡ n → es ≡ map (λ r. r.entity) (tabulated (row_at ps dying es) 0 n)
entities_of_rows ps dying es n long =
    let rows = tabulated (row_at ps dying es) 0 n in
    let count = length-tabulated (row_at ps dying es) 0 n in
    ext_get_or null_entity _ _ (long ∙ (sym count ∙ sym (length-map rows (λ (r : Row). r.entity)))) (λ k h.
    let within : k < n = subst (λ m. k < m) long h in
    ap (λ (r : Row). r.entity) (sym (row_there ps dying es n k within))
    ∙ sym (get_or-map (λ (r : Row). r.entity) rows k no_row null_entity (subst (λ m. k < m) (sym count) within)))

-- the pieces of a loan of this block
pub pieces_of : (now : BlockState) (types : List ℕ) (cap : ℕ) (ps : List Place) (dying : List ℕ) (es : List Entity) (n : ℕ) (marks : List Mark) (order : ℕ) (xs : List TypeState) → seen types cap ps dying es n marks order ≡ now
    → ArePiecesOf now xs → AreOf n cap (map type_of ps) xs
pieces_of now types cap ps dying es n marks order xs is of = all xs (subst (λ (b : BlockState). ArePiecesOf b xs) (sym is) of)
  where
    all : (xs : List TypeState) → ArePiecesOf (seen types cap ps dying es n marks order) xs → AreOf n cap (map type_of ps) xs
    all [] of = tt
    all (x ∷ xs) of = ((of.0.0 ∙ length-tabulated (row_at ps dying es) 0 n, of.0.1), all xs of.1)

-- ---- what the calls make of it

pub after_one_row : (types : List ℕ) (cap t row : ℕ) (g : Content → Content) (ps : List Place) (dying : List ℕ) (es : List Entity) (n : ℕ) (marks : List Mark) (order : ℕ) → row < n → OfPlace t (λ y. length y.cells ≡ n) ps
    → seen types cap (change_place t (one_row row g) ps) dying es n marks order
    ≡ record (seen types cap ps dying es n marks order) { rows = set (seen types cap ps dying es n marks order).rows row (changed t g (row_in row (seen types cap ps dying es n marks order).rows)) }
after_one_row types cap t row g ps dying es n marks order within long =
    ap (λ (ts : List BlockType). record { types = types; columns = ts; capacity = cap; rows = tabulated (row_at (change_place t (one_row row g) ps) dying es) 0 n; marks = marks; order = order }) (types_changed t (one_row row g) ps)
    ∙ ap (λ (rs : List Row). record { types = types; columns = map type_of ps; capacity = cap; rows = rs; marks = marks; order = order }) (rows_set t row n g ps dying es within long)

pub after_all_rows : (types : List ℕ) (cap t : ℕ) (F : TypeState → TypeState) (g : ℕ → Content → Content) (ps : List Place) (dying : List ℕ) (es : List Entity) (n : ℕ) (marks : List Mark) (order : ℕ)
    → OfPlace t (λ y. (k : ℕ) → k < n → cell_in k (F y).cells ≡ g k (cell_in k y.cells)) ps
    → seen types cap (change_place t F ps) dying es n marks order ≡ record (seen types cap ps dying es n marks order) { rows = at_places (λ k r. changed t (g k) r) 0 (seen types cap ps dying es n marks order).rows }
after_all_rows types cap t F g ps dying es n marks order is =
    ap (λ (ts : List BlockType). record { types = types; columns = ts; capacity = cap; rows = tabulated (row_at (change_place t F ps) dying es) 0 n; marks = marks; order = order }) (types_changed t F ps)
    ∙ ap (λ (rs : List Row). record { types = types; columns = map type_of ps; capacity = cap; rows = rs; marks = marks; order = order }) (rows_all t n F g ps dying es is)

-- every row of a type that is changed as a whole
pub each_row : (n cap t : ℕ) (P : TypeShape → Type 0) (g : ℕ → Content → Content) (ps : List Place) → AllSuit n cap ps → OfType t P (map type_of ps)
    → OfPlace t (λ y. (k : ℕ) → k < n → cell_in k (all_rows g y).cells ≡ g k (cell_in k y.cells)) ps
each_row n cap t P g ps suit is =
    there n cap t P (λ y. (k : ℕ) → k < n → cell_in k (all_rows g y).cells ≡ g k (cell_in k y.cells)) ps suit is
    (λ y h long k within. get_or-at_places g y.cells k blank_cell (subst (λ m. k < m) (sym long) within))

-- every row of a column of numbers
pub each_number : (n cap t f : ℕ) (P : TypeShape → Type 0) (rows : List ℕ) (zs : List ℤ) (ps : List Place) → AllSuit n cap ps → OfType t P (map type_of ps)
    → OfPlace t (λ y. (k : ℕ) → k < n → cell_in k (stored_numbers rows f zs y).cells ≡ with_number_in rows (kind_at t f (map type_of ps)) f zs k (cell_in k y.cells)) ps
each_number n cap t f P rows zs ps suit is =
    of_place t (λ y. (length y.cells ≡ n) × (kind_in f y.shape.kinds ≡ kind_at t f (map type_of ps)))
    (λ y. (k : ℕ) → k < n → cell_in k (stored_numbers rows f zs y).cells ≡ with_number_in rows (kind_at t f (map type_of ps)) f zs k (cell_in k y.cells)) ps
    (λ y h k within.
    get_or-at_places (with_number_in rows (kind_in f y.shape.kinds) f zs) y.cells k blank_cell (subst (λ m. k < m) (sym h.0) within)
    ∙ ap (λ kind. with_number_in rows kind f zs k (cell_in k y.cells)) h.1)
    (both t (λ y. length y.cells ≡ n) (λ y. kind_in f y.shape.kinds ≡ kind_at t f (map type_of ps)) ps
    (there n cap t P (λ y. length y.cells ≡ n) ps suit is (λ y h long. long)) (kind_there n cap t f P ps suit is))

pub stored_keeps : (rows : List ℕ) (f : ℕ) (zs : List ℤ) → Keeps (stored_numbers rows f zs)
stored_keeps rows f zs = record { shape = λ y. refl; capacity = λ y. refl; rows = λ y. length-at_places (with_number_in rows (kind_in f y.shape.kinds) f zs) 0 y.cells }
