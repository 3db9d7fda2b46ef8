-- What contracts see of the rows of a type, after each call.
use Rattle.std.proofs.Common.{ℕ, ℤ, pos, inl, inr, ◌≡◌, ◌≢◌, ◌<◌, ◌≤◌, ◌+◌, ◌-◌, ◌∙◌, Bool, true, false, cond, not, sym, ap, subst, List, [], ◌∷◌, ◌++◌, length, get_or, map, arith}
use Rattle.std.proofs.Math.ListN.{set}
use Rattle.std.proofs.lemmas.List.{ext_get_or, length-map, get_or-map, get_or_past}
use Rattle.std.proofs.lemmas.Bool.{cases_lt}
use Rattle.std.specs.List.{swap_remove}
use Rattle.ent_types.specs.declared.entity.Entity.{Entity}
use Rattle.ent_types.specs.declared.value.Value.{Value}
use Rattle.ent_types.specs.declared.value.Value.TheVariants.{Int}
use Rattle.ent_types.specs.Fitting.{default_value, fits_field}
use Rattle.buffer_store.specs.Buffers.{Buffer, buffer}
use Rattle.enable_bits.specs.Masks.{has, with_place, swapped_back}
use Rattle.block_columns.specs.Places.{tabulated, at_places}
use Rattle.block_columns.specs.Columns.{ColumnState, value_at, written}
use Rattle.block_columns.specs.Fields.{FieldsState, Columns, Lists, no_column, values_in, HaveRows, AreOf, HasColumn, AreLists, with_column, pushed_fields, swapped_fields, put_list, stored_numbers, stored_references}
use Rattle.block_columns.specs.Types.{TypeState, Content, cell_at, IsEven, HasField, kind_in, new_cell, cell_in, with_value, with_off, with_values, with_number_in, with_reference_in, with_enabled_in, blank_cell}
use Rattle.block_columns.specs.declared.shape.TypeShape.{TypeShape}
use Rattle.block_columns.proofs.Lists.{source, length-tabulated, get_or-tabulated, pushed_table, swapped_table, set_table, changed_table}
use Rattle.block_columns.proofs.Rows.{even_at, row_written, row_unwritten, cell_stored, cell_referred, row_put, row_unput, row_before, row_new, row_after, bit_here, bit_other, bit_after}

abbrev pub seen : TypeShape → ℕ → FieldsState → List ℕ → ℕ → TypeState
seen shape cap fields off n = record { shape = shape; capacity = cap; cells = tabulated (cell_at shape fields off) 0 n }

pub size : (now : TypeState) (shape : TypeShape) (cap : ℕ) (fields : FieldsState) (off : List ℕ) (n : ℕ) → seen shape cap fields off n ≡ now → length now.cells ≡ n
size now shape cap fields off n is = ap (λ (t : TypeState). length t.cells) (sym is) ∙ length-tabulated (cell_at shape fields off) 0 n

pub cell_there : (shape : TypeShape) (cap : ℕ) (fields : FieldsState) (off : List ℕ) (n k : ℕ) → k < n → cell_in k (seen shape cap fields off n).cells ≡ cell_at shape fields off k
cell_there shape cap fields off n k within = get_or-tabulated (cell_at shape fields off) n k blank_cell within

-- one cell was changed
one_cell : (f g : ℕ → Content) (n row : ℕ) (h : Content → Content) → row < n → ((k : ℕ) → k < n → k ≢ row → g k ≡ f k) → g row ≡ h (f row)
    → tabulated g 0 n ≡ set (tabulated f 0 n) row (h (cell_in row (tabulated f 0 n)))
one_cell f g n row h within same here =
    set_table f g n row blank_cell (h (cell_in row (tabulated f 0 n))) within same
    (here ∙ ap h (sym (get_or-tabulated f n row blank_cell within)))

with_cells : TypeShape → ℕ → List Content → TypeState
with_cells shape cap cells = record { shape = shape; capacity = cap; cells = cells }

pub after_set : (cap n row f : ℕ) (v : Value) (shape : TypeShape) (fields : FieldsState) (off : List ℕ) → row < n → IsEven n cap shape off fields → HasField f shape → fits_field (kind_in f shape.kinds) v ≡ true
    → seen shape cap (with_column f (written row v) fields) off n
    ≡ record (seen shape cap fields off n) { cells = set (seen shape cap fields off n).cells row (with_value f v (cell_in row (seen shape cap fields off n).cells)) }
after_set cap n row f v shape fields off within even there fits =
    ap (λ (cs : List Content). record { shape = shape; capacity = cap; cells = cs })
    (one_cell (cell_at shape fields off) (cell_at shape (with_column f (written row v) fields) off) n row (with_value f v) within
    (λ k h other. ap (λ (vs : List Value). record { values = vs; off = has off k }) (row_unwritten n cap row k f v shape fields even.fields_of_type even.have_rows there other))
    (ap (λ (vs : List Value). record { values = vs; off = has off row }) (row_written n cap row f v shape fields even.fields_of_type even.have_rows there within fits)))

pub after_put : (cap n row : ℕ) (values : List Value) (shape : TypeShape) (fields : FieldsState) (off : List ℕ) → row < n → IsEven n cap shape off fields → shape.is_buffer ≡ true
    → seen shape cap (put_list row values fields) off n
    ≡ record (seen shape cap fields off n) { cells = set (seen shape cap fields off n).cells row (with_values values (cell_in row (seen shape cap fields off n).cells)) }
after_put cap n row values shape fields off within even is =
    ap (λ (cs : List Content). record { shape = shape; capacity = cap; cells = cs })
    (one_cell (cell_at shape fields off) (cell_at shape (put_list row values fields) off) n row (with_values values) within
    (λ k h other. ap (λ (vs : List Value). record { values = vs; off = has off k }) (row_unput row k values fields other))
    (ap (λ (vs : List Value). record { values = vs; off = has off row }) (row_put n cap row values shape fields even.fields_of_type even.have_rows is within)))

pub after_switch : (cap n row : ℕ) (b : Bool) (shape : TypeShape) (fields : FieldsState) (off : List ℕ) → row < n → n ≤ 128
    → seen shape cap fields (with_place off row b) n
    ≡ record (seen shape cap fields off n) { cells = set (seen shape cap fields off n).cells row (with_off b (cell_in row (seen shape cap fields off n).cells)) }
after_switch cap n row b shape fields off within few =
    ap (λ (cs : List Content). record { shape = shape; capacity = cap; cells = cs })
    (one_cell (cell_at shape fields off) (cell_at shape fields (with_place off row b)) n row (with_off b) within
    (λ k h other. ap (λ (x : Bool). record { values = values_in k fields; off = x }) (bit_other off row k b (omega arith) other))
    (ap (λ (x : Bool). record { values = values_in row fields; off = x }) (bit_here off row b (omega arith))))

pub after_push : (cap n : ℕ) (shape : TypeShape) (fields : FieldsState) (off : List ℕ) → IsEven n cap shape off fields
    → seen shape cap (pushed_fields fields) off (n + 1) ≡ record (seen shape cap fields off n) { cells = (seen shape cap fields off n).cells ++ new_cell shape ∷ [] }
after_push cap n shape fields off even =
    ap (λ (cs : List Content). record { shape = shape; capacity = cap; cells = cs })
    (pushed_table (cell_at shape fields off) (cell_at shape (pushed_fields fields) off) n blank_cell (new_cell shape)
    (λ k within. ap (λ (vs : List Value). record { values = vs; off = has off k }) (row_before n cap k fields within even.have_rows))
    (ap (λ (vs : List Value). record { values = vs; off = has off n }) (row_new n cap shape fields even.fields_of_type even.have_rows)
    ∙ ap (λ (x : Bool). record { values = cond shape.is_buffer [] (map default_value shape.kinds); off = x }) (even.past n (omega arith))))

pub after_remove : (cap n row : ℕ) (shape : TypeShape) (fields : FieldsState) (off : List ℕ) → row < n → IsEven n cap shape off fields
    → seen shape cap (swapped_fields row fields) (swapped_back off row n) (n - 1) ≡ record (seen shape cap fields off n) { cells = swap_remove (seen shape cap fields off n).cells row blank_cell }
after_remove cap n row shape fields off within even =
    let few : n ≤ 128 = omega (arith, even.few, even.most) in
    ap (λ (cs : List Content). record { shape = shape; capacity = cap; cells = cs })
    (swapped_table (cell_at shape fields off) (cell_at shape (swapped_fields row fields) (swapped_back off row n)) n row blank_cell within
    (λ k front.
    ap (λ (vs : List Value). record { values = vs; off = has (swapped_back off row n) k }) (row_after n cap row k fields within front even.have_rows)
    ∙ ap (λ (x : Bool). record { values = values_in (source n row k) fields; off = x }) (bit_after off n row k few front)))

pub after_store : (cap n f : ℕ) (rows : List ℕ) (zs : List ℤ) (shape : TypeShape) (fields : FieldsState) (off : List ℕ) → IsEven n cap shape off fields → HasField f shape
    → seen shape cap (with_column f (stored_numbers rows zs) fields) off n
    ≡ record (seen shape cap fields off n) { cells = at_places (with_number_in rows (kind_in f shape.kinds) f zs) 0 (seen shape cap fields off n).cells }
after_store cap n f rows zs shape fields off even there =
    ap (λ (cs : List Content). record { shape = shape; capacity = cap; cells = cs })
    (changed_table (cell_at shape fields off) (cell_at shape (with_column f (stored_numbers rows zs) fields) off) (with_number_in rows (kind_in f shape.kinds) f zs) n blank_cell
    (λ k within. cell_stored n cap k f rows off zs shape fields even.fields_of_type even.have_rows there within))

pub after_store_references : (cap n f : ℕ) (rows : List ℕ) (es : List Entity) (shape : TypeShape) (fields : FieldsState) (off : List ℕ) → IsEven n cap shape off fields → HasField f shape
    → seen shape cap (with_column f (stored_references rows es) fields) off n
    ≡ record (seen shape cap fields off n) { cells = at_places (with_reference_in rows f es) 0 (seen shape cap fields off n).cells }
after_store_references cap n f rows es shape fields off even there =
    ap (λ (cs : List Content). record { shape = shape; capacity = cap; cells = cs })
    (changed_table (cell_at shape fields off) (cell_at shape (with_column f (stored_references rows es) fields) off) (with_reference_in rows f es) n blank_cell
    (λ k within. cell_referred n cap k f rows off es shape fields even.fields_of_type even.have_rows there within))

abbrev made : List Value → Bool → Content
made values off = record { values = values; off = off }

switched : (values : List Value) (b x y z : Bool) → z ≡ cond b (not x) y → made values z ≡ cond b (made values (not x)) (made values y)
switched values true x y z is = ap (made values) is
switched values false x y z is = ap (made values) is

pub after_enable : (cap n : ℕ) (rows on off now : List ℕ) (shape : TypeShape) (fields : FieldsState) → ((k : ℕ) → k < n → has now k ≡ cond (has rows k) (not (has on k)) (has off k))
    → seen shape cap fields now n ≡ record (seen shape cap fields off n) { cells = at_places (with_enabled_in rows on) 0 (seen shape cap fields off n).cells }
after_enable cap n rows on off now shape fields is =
    ap (λ (cs : List Content). record { shape = shape; capacity = cap; cells = cs })
    (changed_table (cell_at shape fields off) (cell_at shape fields now) (with_enabled_in rows on) n blank_cell
    (λ k within. switched (values_in k fields) (has rows k) (has on k) (has off k) (has now k) (is k within)))

-- ---- what is read

-- the value of a row in a field
pub read_value : (cap n row f : ℕ) (v : Value) (shape : TypeShape) (fields : FieldsState) (off : List ℕ) → row < n → HasColumn f (λ c. v ≡ value_at row c.values) fields
    → v ≡ value_at f (cell_in row (seen shape cap fields off n).cells).values
read_value cap n row f v shape (Columns cs) off within is =
    is.1 ∙ (sym (get_or-map (λ (c : ColumnState). value_at row c.values) cs f no_column (Int (pos 0)) is.0)
    ∙ ap (λ (c : Content). value_at f c.values) (sym (cell_there shape cap (Columns cs) off n row within)))
read_value cap n row f v shape (Lists b) off within is = absurd is

-- the values of a field
pub read_column : (cap n f : ℕ) (vs : List Value) (shape : TypeShape) (fields : FieldsState) (off : List ℕ) → AreOf shape fields → HaveRows n cap fields → HasField f shape → HasColumn f (λ c. vs ≡ c.values) fields
    → vs ≡ map (λ c. value_at f c.values) (seen shape cap fields off n).cells
read_column cap n f vs shape (Lists b) off of even there is = absurd is
read_column cap n f vs shape (Columns cs) off of even there is =
    let cells = (seen shape cap (Columns cs) off n).cells in
    let length_cells = length-tabulated (cell_at shape (Columns cs) off) 0 n in
    let length_values : length vs ≡ n = ap length is.1 ∙ (even_at n cap cs f is.0 even).0 in
    ext_get_or (Int (pos 0)) _ _ (length_values ∙ (sym length_cells ∙ sym (length-map cells (λ (c : Content). value_at f c.values)))) (λ k h.
    let within : k < n = subst (λ m. k < m) length_values h in
    let under : k < length cells = subst (λ m. k < m) (sym length_cells) within in
    ap (value_at k) is.1
    ∙ (sym (get_or-map (λ (c : ColumnState). value_at k c.values) cs f no_column (Int (pos 0)) is.0)
    ∙ (ap (λ (c : Content). value_at f c.values) (sym (cell_there shape cap (Columns cs) off n k within))
    ∙ sym (get_or-map (λ (c : Content). value_at f c.values) cells k blank_cell (Int (pos 0)) under))))

-- the bit of a row, and of a place past the rows
pub read_bit : (cap n k : ℕ) (shape : TypeShape) (fields : FieldsState) (off : List ℕ) → IsEven n cap shape off fields → has off k ≡ (cell_in k (seen shape cap fields off n).cells).off
read_bit cap n k shape fields off even =
    elim (cases_lt k n) [
      | inl within ↦ ap (λ (c : Content). c.off) (sym (cell_there shape cap fields off n k within))
      | inr past ↦
          even.past k past
          ∙ ap (λ (c : Content). c.off) (sym (get_or_past (tabulated (cell_at shape fields off) 0 n) k blank_cell (subst (λ m. m ≤ k) (sym (length-tabulated (cell_at shape fields off) 0 n)) past)))
    ]

-- the elements of a row
pub read_elements : (cap n row : ℕ) (e : Buffer Value) (shape : TypeShape) (fields : FieldsState) (off : List ℕ) → row < n → AreOf shape fields → AreLists (λ b. e ≡ buffer b.width (get_or b.lists row [])) fields
    → e ≡ buffer (length shape.kinds) (cell_in row (seen shape cap fields off n).cells).values
read_elements cap n row e shape (Columns cs) off within of is = absurd is
read_elements cap n row e shape (Lists b) off within of is =
    is
    ∙ (ap (λ w. buffer w (get_or b.lists row [])) of.1
    ∙ ap (λ (c : Content). buffer (length shape.kinds) c.values) (sym (cell_there shape cap (Lists b) off n row within)))
