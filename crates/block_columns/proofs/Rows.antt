-- The values of a row after a change of the columns or buffers of its type, and that these stay even.
use Rattle.std.proofs.Common.{ℕ, ℤ, zero, suc, pos, negsuc, nat_le, inl, inr, ◌≡◌, ◌≢◌, ◌<◌, ◌≤◌, ◌+◌, ◌-◌, ◌⊎◌, ◌∙◌, Bool, true, false, cond, nat_eq, sym, ap, refl, subst, List, [], ◌∷◌, length, get_or, map, arith, get_or-set_other, get_or-set_same}
use Rattle.std.proofs.Math.ListN.{set}
use Rattle.std.proofs.Math.ListN as native
use Rattle.std.proofs.Math.Seq.{map-set_same}
use Rattle.std.proofs.lemmas.Bool.{and_parts, leb-true, cases_eq, cases_lt, cond-true, cond-false, ne_eqb, eq-eqb}
use Rattle.std.proofs.lemmas.List.{map-set, length-map, length-set, length_push, get_or-map, set-get_or, get_or_append_left, get_or_push}
use Rattle.std.proofs.lemmas.Int.{int_wrap_fits}
use Rattle.std.specs.Prelude.{FitsSigned, int_le, ◌&&◌}
use Rattle.std.specs.Int.{w32, w64}
use Rattle.ent_types.specs.declared.entity.Entity.{Entity}
use Rattle.ent_types.specs.declared.value.Value.{Value}
use Rattle.ent_types.specs.declared.value.Value.TheVariants.{Int, Ref}
use Rattle.ent_types.specs.declared.kinds.FieldKind.{FieldKind}
use Rattle.ent_types.specs.declared.kinds.FieldKind.TheVariants.{I32, I64, Ref as KindRef}
use Rattle.ent_types.specs.Fitting.{default_value, fit, fits_field}
use Rattle.enable_bits.specs.Masks.{has, with_place, swapped_back}
use Rattle.enable_bits.proofs.MaskLemmas.{has-with_place, has-swapped_back, has_past_128}
use Rattle.block_columns.specs.Columns.{ColumnState, value_at, number_at, reference_at, empty_column, pushed, swapped, written, with_number, with_reference}
use Rattle.block_columns.specs.Buffers.{BuffersState}
use Rattle.block_columns.specs.Fields.{FieldsState, Columns, Lists, no_column, column_at, values_in, AreEven, HaveRows, AreOf, HasColumn, AreLists, with_column, pushed_fields, swapped_fields, put_list, stored_numbers, stored_references, new_fields}
use Rattle.block_columns.specs.Types.{cell_at, HasField, kind_in, with_value, with_number_in, with_reference_in}
use Rattle.block_columns.specs.declared.shape.TypeShape.{TypeShape}
use Rattle.block_columns.proofs.Lists.{source, swapped_at, length-swap_remove, get_or-at_places}

-- ---- a value that fits is kept whole

fits_32 : (z : ℤ) → (int_le (negsuc 2147483647) z && int_le z (pos 2147483647)) ≡ true → FitsSigned w32 z
fits_32 (pos n) h =
    let up : n ≤ 2147483647 = leb-true n 2147483647 (and_parts true (nat_le n 2147483647) h).1 in
    let size : n < 2147483648 = omega (arith, up) in
    record { sfits = size }
fits_32 (negsuc n) h =
    let down : n ≤ 2147483647 = leb-true n 2147483647 (and_parts (nat_le n 2147483647) true h).0 in
    let size : n < 2147483648 = omega (arith, down) in
    record { sfits = size }

fits_64 : (z : ℤ) → (int_le (negsuc 9223372036854775807) z && int_le z (pos 9223372036854775807)) ≡ true → FitsSigned w64 z
fits_64 (pos n) h =
    let up : n ≤ 9223372036854775807 = leb-true n 9223372036854775807 (and_parts true (nat_le n 9223372036854775807) h).1 in
    let size : n < 9223372036854775808 = omega (arith, up) in
    record { sfits = size }
fits_64 (negsuc n) h =
    let down : n ≤ 9223372036854775807 = leb-true n 9223372036854775807 (and_parts (nat_le n 9223372036854775807) true h).0 in
    let size : n < 9223372036854775808 = omega (arith, down) in
    record { sfits = size }

pub kept_whole : (kind : FieldKind) (v : Value) → fits_field kind v ≡ true → fit kind v ≡ v
kept_whole I32 (Int z) fits = ap (λ y. Int y) (int_wrap_fits w32 z (fits_32 z fits))
kept_whole I64 (Int z) fits = ap (λ y. Int y) (int_wrap_fits w64 z (fits_64 z fits))
kept_whole KindRef (Int z) fits = absurd (cc fits)
kept_whole I32 (Ref e) fits = absurd (cc fits)
kept_whole I64 (Ref e) fits = absurd (cc fits)
kept_whole KindRef (Ref e) fits = refl

-- ---- the column of a field

pub even_at : (n cap : ℕ) (cs : List ColumnState) (f : ℕ) → f < length cs → AreEven n cap cs → (length (column_at f cs).values ≡ n) × ((column_at f cs).room ≡ cap)
even_at n cap [] f there even = absurd (omega arith)
even_at n cap (c ∷ cs) zero there even = (even.0, even.1.0)
even_at n cap (c ∷ cs) (suc f) there even = let less : f < length cs = omega arith in even_at n cap cs f less even.1.1

even_set : (n cap : ℕ) (cs : List ColumnState) (f : ℕ) (c : ColumnState) → AreEven n cap cs → length c.values ≡ n → c.room ≡ cap → AreEven n cap (set cs f c)
even_set n cap [] f c even size room = tt
even_set n cap (x ∷ xs) zero c even size room = (size, (room, even.1.1))
even_set n cap (x ∷ xs) (suc f) c even size room = (even.0, (even.1.0, even_set n cap xs f c even.1.1 size room))

kind_of_column : (cs : List ColumnState) (f : ℕ) → kind_in f (map (λ c. c.kind) cs) ≡ (column_at f cs).kind
kind_of_column cs f = native.get_or-map (λ (c : ColumnState). c.kind) cs f no_column

-- the field is there, with what holds of its column
pub column_there : (n cap f : ℕ) (shape : TypeShape) (P : ColumnState → Type 0) (fields : FieldsState) → AreOf shape fields → HaveRows n cap fields → HasField f shape
    → ((c : ColumnState) → c.kind ≡ kind_in f shape.kinds → length c.values ≡ n → P c) → HasColumn f P fields
column_there n cap f shape P (Columns cs) of even there so =
    let inside : f < length cs = subst (λ m. f < m) (length-map cs (λ (c : ColumnState). c.kind)) (subst (λ (ks : List FieldKind). f < length ks) (sym of.1) there.1) in
    (inside, so (column_at f cs) (sym (kind_of_column cs f) ∙ ap (kind_in f) of.1) (even_at n cap cs f inside even).0)
column_there n cap f shape P (Lists b) of even there so = absurd (cc (of.0, there.0))

-- the buffers are there
pub lists_there : (n cap : ℕ) (shape : TypeShape) (P : BuffersState → Type 0) (fields : FieldsState) → AreOf shape fields → HaveRows n cap fields → shape.is_buffer ≡ true
    → ((b : BuffersState) → b.width ≡ length shape.kinds → length b.lists ≡ n → P b) → AreLists P fields
lists_there n cap shape P (Columns cs) of even there so = absurd (cc (of.0, there))
lists_there n cap shape P (Lists b) of even there so = so b of.1 even.1

-- ---- the values of a row

changed_columns : (k f : ℕ) (cs : List ColumnState) (c : ColumnState) (x : Value) → value_at k c.values ≡ x
    → values_in k (Columns (set cs f c)) ≡ set (values_in k (Columns cs)) f x
changed_columns k f cs c x is = map-set (λ (c : ColumnState). value_at k c.values) cs f c ∙ ap (set (values_in k (Columns cs)) f) is

same_columns : (k f : ℕ) (cs : List ColumnState) (c : ColumnState) → f < length cs → value_at k c.values ≡ value_at k (column_at f cs).values
    → values_in k (Columns (set cs f c)) ≡ values_in k (Columns cs)
same_columns k f cs c there is =
    changed_columns k f cs c _ (is ∙ sym (get_or-map (λ (c : ColumnState). value_at k c.values) cs f no_column (Int (pos 0)) there))
    ∙ set-get_or (values_in k (Columns cs)) f (Int (pos 0))

-- a value was written into the row
pub row_written : (n cap row f : ℕ) (v : Value) (shape : TypeShape) (fields : FieldsState) → AreOf shape fields → HaveRows n cap fields → HasField f shape → row < n → fits_field (kind_in f shape.kinds) v ≡ true
    → values_in row (with_column f (written row v) fields) ≡ set (values_in row fields) f v
row_written n cap row f v shape (Lists b) of even there within fits = absurd (cc (of.0, there.0))
row_written n cap row f v shape (Columns cs) of even there within fits =
    let inside : f < length cs = subst (λ m. f < m) (length-map cs (λ (c : ColumnState). c.kind)) (subst (λ (ks : List FieldKind). f < length ks) (sym of.1) there.1) in
    let kind : kind_in f shape.kinds ≡ (column_at f cs).kind = ap (kind_in f) (sym of.1) ∙ kind_of_column cs f in
    let under : row < length (column_at f cs).values = subst (λ m. row < m) (sym (even_at n cap cs f inside even).0) within in
    changed_columns row f cs (written row v (column_at f cs)) v
    (get_or-set_same (column_at f cs).values row (fit (column_at f cs).kind v) (Int (pos 0)) under
    ∙ kept_whole (column_at f cs).kind v (ap (λ kind. fits_field kind v) (sym kind) ∙ fits))

-- and the other rows keep theirs
pub row_unwritten : (n cap row k f : ℕ) (v : Value) (shape : TypeShape) (fields : FieldsState) → AreOf shape fields → HaveRows n cap fields → HasField f shape → k ≢ row
    → values_in k (with_column f (written row v) fields) ≡ values_in k fields
row_unwritten n cap row k f v shape (Lists b) of even there other = refl
row_unwritten n cap row k f v shape (Columns cs) of even there other =
    let inside : f < length cs = subst (λ m. f < m) (length-map cs (λ (c : ColumnState). c.kind)) (subst (λ (ks : List FieldKind). f < length ks) (sym of.1) there.1) in
    same_columns k f cs (written row v (column_at f cs)) inside (get_or-set_other (column_at f cs).values row k (fit (column_at f cs).kind v) (Int (pos 0)) other)

-- numbers were written into some rows
pub cell_stored : (n cap k f : ℕ) (rows off : List ℕ) (zs : List ℤ) (shape : TypeShape) (fields : FieldsState) → AreOf shape fields → HaveRows n cap fields → HasField f shape → k < n
    → cell_at shape (with_column f (stored_numbers rows zs) fields) off k ≡ with_number_in rows (kind_in f shape.kinds) f zs k (cell_at shape fields off k)
cell_stored n cap k f rows off zs shape (Lists b) of even there within = absurd (cc (of.0, there.0))
cell_stored n cap k f rows off zs shape (Columns cs) of even there within =
    let inside : f < length cs = subst (λ m. f < m) (length-map cs (λ (c : ColumnState). c.kind)) (subst (λ (ks : List FieldKind). f < length ks) (sym of.1) there.1) in
    let kind : (column_at f cs).kind ≡ kind_in f shape.kinds = sym (kind_of_column cs f) ∙ ap (kind_in f) of.1 in
    let under : k < length (column_at f cs).values = subst (λ m. k < m) (sym (even_at n cap cs f inside even).0) within in
    let now = stored_numbers rows zs (column_at f cs) in
    let at = get_or-at_places (with_number rows (column_at f cs).kind zs) (column_at f cs).values k (Int (pos 0)) under in
    by inside (has rows k) at kind
  where
    by : f < length cs → (b : Bool) → value_at k (stored_numbers rows zs (column_at f cs)).values ≡ cond b (fit (column_at f cs).kind (Int (number_at k zs))) (value_at k (column_at f cs).values)
        → (column_at f cs).kind ≡ kind_in f shape.kinds
        → cell_at shape (Columns (set cs f (stored_numbers rows zs (column_at f cs)))) off k
        ≡ cond b (with_value f (fit (kind_in f shape.kinds) (Int (number_at k zs))) (cell_at shape (Columns cs) off k)) (cell_at shape (Columns cs) off k)
    by inside true at kind =
        ap (λ (vs : List Value). record { values = vs; off = has off k })
        (changed_columns k f cs (stored_numbers rows zs (column_at f cs)) _ (at ∙ ap (λ kind. fit kind (Int (number_at k zs))) kind))
    by inside false at kind =
        ap (λ (vs : List Value). record { values = vs; off = has off k })
        (same_columns k f cs (stored_numbers rows zs (column_at f cs)) inside at)

-- references were written into some rows
pub cell_referred : (n cap k f : ℕ) (rows off : List ℕ) (es : List Entity) (shape : TypeShape) (fields : FieldsState) → AreOf shape fields → HaveRows n cap fields → HasField f shape → k < n
    → cell_at shape (with_column f (stored_references rows es) fields) off k ≡ with_reference_in rows f es k (cell_at shape fields off k)
cell_referred n cap k f rows off es shape (Lists b) of even there within = absurd (cc (of.0, there.0))
cell_referred n cap k f rows off es shape (Columns cs) of even there within =
    let inside : f < length cs = subst (λ m. f < m) (length-map cs (λ (c : ColumnState). c.kind)) (subst (λ (ks : List FieldKind). f < length ks) (sym of.1) there.1) in
    let under : k < length (column_at f cs).values = subst (λ m. k < m) (sym (even_at n cap cs f inside even).0) within in
    by inside (has rows k) (get_or-at_places (with_reference rows es) (column_at f cs).values k (Int (pos 0)) under)
  where
    by : f < length cs → (b : Bool) → value_at k (stored_references rows es (column_at f cs)).values ≡ cond b (Ref (reference_at k es)) (value_at k (column_at f cs).values)
        → cell_at shape (Columns (set cs f (stored_references rows es (column_at f cs)))) off k
        ≡ cond b (with_value f (Ref (reference_at k es)) (cell_at shape (Columns cs) off k)) (cell_at shape (Columns cs) off k)
    by inside true at =
        ap (λ (vs : List Value). record { values = vs; off = has off k })
        (changed_columns k f cs (stored_references rows es (column_at f cs)) _ at)
    by inside false at =
        ap (λ (vs : List Value). record { values = vs; off = has off k })
        (same_columns k f cs (stored_references rows es (column_at f cs)) inside at)

-- the elements of a row were replaced
pub row_put : (n cap row : ℕ) (values : List Value) (shape : TypeShape) (fields : FieldsState) → AreOf shape fields → HaveRows n cap fields → shape.is_buffer ≡ true → row < n
    → values_in row (put_list row values fields) ≡ values
row_put n cap row values shape (Columns cs) of even is within = absurd (cc (of.0, is))
row_put n cap row values shape (Lists b) of even is within = get_or-set_same b.lists row values [] (subst (λ m. row < m) (sym even.1) within)

pub row_unput : (row k : ℕ) (values : List Value) (fields : FieldsState) → k ≢ row → values_in k (put_list row values fields) ≡ values_in k fields
row_unput row k values (Columns cs) other = refl
row_unput row k values (Lists b) other = get_or-set_other b.lists row k values [] other

-- a row was added
before_columns : (n cap k : ℕ) (cs : List ColumnState) → k < n → AreEven n cap cs → values_in k (Columns (map pushed cs)) ≡ values_in k (Columns cs)
before_columns n cap k [] within even = refl
before_columns n cap k (c ∷ cs) within even =
    let there : k < length c.values = subst (λ m. k < m) (sym even.0) within in
    ap (λ v. v ∷ values_in k (Columns (map pushed cs))) (get_or_append_left c.values (default_value c.kind ∷ []) (Int (pos 0)) k there)
    ∙ ap (λ vs. value_at k c.values ∷ vs) (before_columns n cap k cs within even.1.1)

pub row_before : (n cap k : ℕ) (fields : FieldsState) → k < n → HaveRows n cap fields → values_in k (pushed_fields fields) ≡ values_in k fields
row_before n cap k (Columns cs) within even = before_columns n cap k cs within even
row_before n cap k (Lists b) within even = get_or_append_left b.lists ([] ∷ []) [] k (subst (λ m. k < m) (sym even.1) within)

new_columns : (n cap : ℕ) (cs : List ColumnState) → AreEven n cap cs → values_in n (Columns (map pushed cs)) ≡ map default_value (map (λ c. c.kind) cs)
new_columns n cap [] even = refl
new_columns n cap (c ∷ cs) even =
    ap (λ v. v ∷ values_in n (Columns (map pushed cs))) (get_or_push c.values (default_value c.kind) (Int (pos 0)) n even.0)
    ∙ ap (λ vs. default_value c.kind ∷ vs) (new_columns n cap cs even.1.1)

pub row_new : (n cap : ℕ) (shape : TypeShape) (fields : FieldsState) → AreOf shape fields → HaveRows n cap fields
    → values_in n (pushed_fields fields) ≡ cond shape.is_buffer [] (map default_value shape.kinds)
row_new n cap shape (Columns cs) of even = new_columns n cap cs even ∙ (ap (map default_value) of.1 ∙ sym (cond-false shape.is_buffer [] (map default_value shape.kinds) of.0))
row_new n cap shape (Lists b) of even = get_or_push b.lists [] [] n even.1 ∙ sym (cond-true shape.is_buffer [] (map default_value shape.kinds) of.0)

-- a row was removed
after_columns : (n cap row k : ℕ) (cs : List ColumnState) → row < n → k < n - 1 → AreEven n cap cs → values_in k (Columns (map (swapped row) cs)) ≡ values_in (source n row k) (Columns cs)
after_columns n cap row k [] within front even = refl
after_columns n cap row k (c ∷ cs) within front even =
    let there : row < length c.values = subst (λ m. row < m) (sym even.0) within in
    let short : k < length c.values - 1 = subst (λ m. k < m - 1) (sym even.0) front in
    ap (λ v. v ∷ values_in k (Columns (map (swapped row) cs)))
    (swapped_at c.values row k (default_value c.kind) (Int (pos 0)) there short ∙ ap (λ m. value_at (source m row k) c.values) even.0)
    ∙ ap (λ vs. value_at (source n row k) c.values ∷ vs) (after_columns n cap row k cs within front even.1.1)

pub row_after : (n cap row k : ℕ) (fields : FieldsState) → row < n → k < n - 1 → HaveRows n cap fields → values_in k (swapped_fields row fields) ≡ values_in (source n row k) fields
row_after n cap row k (Columns cs) within front even = after_columns n cap row k cs within front even
row_after n cap row k (Lists b) within front even =
    swapped_at b.lists row k [] [] (subst (λ m. row < m) (sym even.1) within) (subst (λ m. k < m - 1) (sym even.1) front)
    ∙ ap (λ m. get_or b.lists (source m row k) []) even.1

-- ---- the fields stay those of the type, and even

kinds_pushed : (cs : List ColumnState) → map (λ c. c.kind) (map pushed cs) ≡ map (λ c. c.kind) cs
kinds_pushed [] = refl
kinds_pushed (c ∷ cs) = ap (λ ks. c.kind ∷ ks) (kinds_pushed cs)

kinds_swapped : (row : ℕ) (cs : List ColumnState) → map (λ c. c.kind) (map (swapped row) cs) ≡ map (λ c. c.kind) cs
kinds_swapped row [] = refl
kinds_swapped row (c ∷ cs) = ap (λ ks. c.kind ∷ ks) (kinds_swapped row cs)

kinds_new : (cap : ℕ) (kinds : List FieldKind) → map (λ c. c.kind) (map (empty_column cap) kinds) ≡ kinds
kinds_new cap [] = refl
kinds_new cap (k ∷ ks) = ap (λ js. k ∷ js) (kinds_new cap ks)

even_new : (cap : ℕ) (kinds : List FieldKind) → AreEven 0 cap (map (empty_column cap) kinds)
even_new cap [] = tt
even_new cap (k ∷ ks) = (refl, (refl, even_new cap ks))

even_pushed : (n cap : ℕ) (cs : List ColumnState) → AreEven n cap cs → AreEven (n + 1) cap (map pushed cs)
even_pushed n cap [] even = tt
even_pushed n cap (c ∷ cs) even = (length_push c.values (default_value c.kind) ∙ ap (λ m. m + 1) even.0, (even.1.0, even_pushed n cap cs even.1.1))

even_swapped : (n cap row : ℕ) (cs : List ColumnState) → AreEven n cap cs → AreEven (n - 1) cap (map (swapped row) cs)
even_swapped n cap row [] even = tt
even_swapped n cap row (c ∷ cs) even = (length-swap_remove c.values row (default_value c.kind) ∙ ap (λ m. m - 1) even.0, (even.1.0, even_swapped n cap row cs even.1.1))

pub of_new : (cap : ℕ) (shape : TypeShape) → AreOf shape (new_fields cap shape)
of_new cap shape = by shape.is_buffer refl
  where
    by : (b : Bool) → shape.is_buffer ≡ b → AreOf shape (cond b (Lists (record { width = length shape.kinds; room = cap; lists = [] })) (Columns (map (empty_column cap) shape.kinds)))
    by true is = (is, refl)
    by false is = (is, kinds_new cap shape.kinds)

pub rows_new : (cap : ℕ) (shape : TypeShape) → HaveRows 0 cap (new_fields cap shape)
rows_new cap shape = by shape.is_buffer
  where
    by : (b : Bool) → HaveRows 0 cap (cond b (Lists (record { width = length shape.kinds; room = cap; lists = [] })) (Columns (map (empty_column cap) shape.kinds)))
    by true = (refl, refl)
    by false = even_new cap shape.kinds

pub of_pushed : (shape : TypeShape) (fields : FieldsState) → AreOf shape fields → AreOf shape (pushed_fields fields)
of_pushed shape (Columns cs) of = (of.0, kinds_pushed cs ∙ of.1)
of_pushed shape (Lists b) of = of

pub rows_pushed : (n cap : ℕ) (fields : FieldsState) → HaveRows n cap fields → HaveRows (n + 1) cap (pushed_fields fields)
rows_pushed n cap (Columns cs) even = even_pushed n cap cs even
rows_pushed n cap (Lists b) even = (even.0, length_push b.lists [] ∙ ap (λ m. m + 1) even.1)

pub of_swapped : (row : ℕ) (shape : TypeShape) (fields : FieldsState) → AreOf shape fields → AreOf shape (swapped_fields row fields)
of_swapped row shape (Columns cs) of = (of.0, kinds_swapped row cs ∙ of.1)
of_swapped row shape (Lists b) of = of

pub rows_swapped : (n cap row : ℕ) (fields : FieldsState) → HaveRows n cap fields → HaveRows (n - 1) cap (swapped_fields row fields)
rows_swapped n cap row (Columns cs) even = even_swapped n cap row cs even
rows_swapped n cap row (Lists b) even = (even.0, length-swap_remove b.lists row [] ∙ ap (λ m. m - 1) even.1)

pub of_changed : (f : ℕ) (g : ColumnState → ColumnState) (shape : TypeShape) (fields : FieldsState) → ((c : ColumnState) → (g c).kind ≡ c.kind) → AreOf shape fields → AreOf shape (with_column f g fields)
of_changed f g shape (Columns cs) keeps of = (of.0, map-set_same (λ (c : ColumnState). c.kind) cs f (g (column_at f cs)) no_column (keeps (column_at f cs)) ∙ of.1)
of_changed f g shape (Lists b) keeps of = of

pub rows_changed : (n cap f : ℕ) (g : ColumnState → ColumnState) (shape : TypeShape) (fields : FieldsState) → ((c : ColumnState) → length (g c).values ≡ length c.values) → ((c : ColumnState) → (g c).room ≡ c.room)
    → AreOf shape fields → HasField f shape → HaveRows n cap fields → HaveRows n cap (with_column f g fields)
rows_changed n cap f g shape (Columns cs) sizes rooms of there even =
    let inside : f < length cs = subst (λ m. f < m) (length-map cs (λ (c : ColumnState). c.kind)) (subst (λ (ks : List FieldKind). f < length ks) (sym of.1) there.1) in
    let at = even_at n cap cs f inside even in
    even_set n cap cs f (g (column_at f cs)) even (sizes (column_at f cs) ∙ at.0) (rooms (column_at f cs) ∙ at.1)
rows_changed n cap f g shape (Lists b) sizes rooms of there even = even

pub of_put : (row : ℕ) (values : List Value) (shape : TypeShape) (fields : FieldsState) → AreOf shape fields → AreOf shape (put_list row values fields)
of_put row values shape (Columns cs) of = of
of_put row values shape (Lists b) of = of

pub rows_put : (n cap row : ℕ) (values : List Value) (fields : FieldsState) → HaveRows n cap fields → HaveRows n cap (put_list row values fields)
rows_put n cap row values (Columns cs) even = even
rows_put n cap row values (Lists b) even = (even.0, length-set b.lists row values ∙ even.1)

-- ---- bits

pub bit_here : (off : List ℕ) (k : ℕ) (b : Bool) → k < 128 → has (with_place off k b) k ≡ b
bit_here off k b below = has-with_place off k b k below ∙ cond-true (nat_eq k k) b (has off k) (eq-eqb k k refl)

pub bit_other : (off : List ℕ) (row k : ℕ) (b : Bool) → k < 128 → k ≢ row → has (with_place off row b) k ≡ has off k
bit_other off row k b below other = has-with_place off row b k below ∙ cond-false (nat_eq k row) b (has off k) (ne_eqb k row other)

pub past_switch : (off : List ℕ) (n row k : ℕ) (b : Bool) → row < n → n ≤ k → ((j : ℕ) → n ≤ j → has off j ≡ false) → has (with_place off row b) k ≡ false
past_switch off n row k b within past none =
    elim (cases_lt k 128) [
      | inl below ↦ bit_other off row k b below (λ e. omega arith) ∙ none k past
      | inr far ↦ has_past_128 (λ other. cond (nat_eq other row) b (has off other)) k far
    ]

pub bit_after : (off : List ℕ) (n row k : ℕ) → n ≤ 128 → k < n - 1 → has (swapped_back off row n) k ≡ has off (source n row k)
bit_after off n row k few h =
    has-swapped_back off row n k (omega arith)
    ∙ (cond-false (nat_eq k (n - 1)) false _ (ne_eqb k (n - 1) (λ e. omega arith)) ∙ by (nat_eq k row))
  where
    by : (b : Bool) → cond b (has off (n - 1)) (has off k) ≡ has off (cond b (n - 1) k)
    by true = refl
    by false = refl

no_bit : (a b : Bool) (x y : Bool) → x ≡ false → y ≡ false → cond a false (cond b x y) ≡ false
no_bit true b x y p q = refl
no_bit false true x y p q = p
no_bit false false x y p q = q

pub none_after : (off : List ℕ) (n row k : ℕ) → ((j : ℕ) → has off j ≡ false) → has (swapped_back off row n) k ≡ false
none_after off n row k none =
    elim (cases_lt k 128) [
      | inl below ↦ has-swapped_back off row n k below ∙ no_bit (nat_eq k (n - 1)) (nat_eq k row) (has off (n - 1)) (has off k) (none (n - 1)) (none k)
      | inr past ↦ has_past_128 (λ other. cond (nat_eq other (n - 1)) false (has (with_place off row (has off (n - 1))) other)) k past
    ]

pub past_after : (off : List ℕ) (n row k : ℕ) → row < n → n - 1 ≤ k → ((j : ℕ) → n ≤ j → has off j ≡ false) → has (swapped_back off row n) k ≡ false
past_after off n row k within past none =
    elim (cases_lt k 128) [
      | inl below ↦ has-swapped_back off row n k below ∙ by (cases_eq k (n - 1))
      | inr far ↦ has_past_128 (λ other. cond (nat_eq other (n - 1)) false (has (with_place off row (has off (n - 1))) other)) k far
    ]
  where
    by : (k ≡ n - 1) ⊎ (k ≡ n - 1 → ⊥) → cond (nat_eq k (n - 1)) false (cond (nat_eq k row) (has off (n - 1)) (has off k)) ≡ false
    by (inl same) = cond-true (nat_eq k (n - 1)) false _ (eq-eqb k (n - 1) same)
    by (inr other) =
        let beyond : n ≤ k = omega arith in
        cond-false (nat_eq k (n - 1)) false _ (ne_eqb k (n - 1) other)
        ∙ (cond-false (nat_eq k row) _ _ (ne_eqb k row (λ e. omega arith)) ∙ none k beyond)
