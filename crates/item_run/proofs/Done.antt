-- What a text leaves in the rows of an item, and texts one after another.
use Rattle.std.proofs.Common.{ℕ, ℤ, zero, suc, ◌≡◌, ◌<◌, ◌+◌, ◌∙◌, ◌&&◌, ◌||◌, inl, inr, Bool, true, false, not, cond, nat_eq, sym, ap, ap₂, refl, subst, List, [], ◌∷◌, ◌++◌, map, length, get_or, take, slice_set, arith}
use Rattle.std.specs.Prelude.{⊤}
use Rattle.std.specs.Bool.{MatchBool}
use Rattle.std.proofs.Math.ListN as native
use Rattle.std.proofs.lemmas.Bool.{eqb-true}
use Rattle.std.proofs.lemmas.Bool.Decides.{nat_tests}
use Rattle.std.proofs.lemmas.List.{ext_get_or, length-map, map-append, take_more}
use Rattle.ent_types.specs.declared.entity.Entity.{Entity}
use Rattle.ent_types.specs.declared.kinds.FieldKind.{FieldKind}
use Rattle.ent_types.specs.declared.kinds.FieldKind.TheVariants.{I32, I64, Ref as KindRef}
use Rattle.ent_types.specs.declared.type_info.FieldInfo.{FieldInfo}
use Rattle.ent_types.specs.declared.type_info.TypeInfo.{TypeInfo}
use Rattle.ent_types.specs.declared.value.Value.{Value}
use Rattle.ent_types.specs.declared.value.Value.TheVariants.{Int, Ref}
use Rattle.ent_types.specs.Fitting.{fit}
use Rattle.ent_types.specs.Registries.{type_at}
use Rattle.ent_types.specs.Types.{is_ref_kind}
use Rattle.ent_types.specs.TypeLookups.{field_kind_at, fields_at, is_buffer_at, is_shared_at}
use Rattle.ent_types.specs.TypeSets.{has_type}
use Rattle.enable_bits.specs.Masks.{has}
use Rattle.world_model.specs.Found.{found}
use Rattle.world_model.specs.Members.{In}
use Rattle.world_model.specs.Members.{AreDistinct as AreOnce}
use Rattle.world_model.specs.Operations.{switched, with_values}
use Rattle.world_model.specs.Row.{Row, Cell, cell_type}
use Rattle.expr_eval.specs.Rows.{others_of}
use Rattle.expr_eval.specs.Values.{is_true, value, value_ref}
use Rattle.expr_trees.specs.declared.tree.Assign.{Assign}
use Rattle.expr_trees.specs.declared.tree.Switch.{Switch}
use Rattle.expr_trees.specs.declared.tree.Expr.{Expr}
use Rattle.expr_trees.specs.declared.tree.RefExpr.{RefExpr}
use Rattle.expr_trees.specs.declared.tree.ValueExpr.TheVariants.{Int as IntExpr, Ref as RefValue}
use Rattle.block_columns.specs.Columns.{HoldsNumbers, HoldsReferences, IsNumberKind, number_at, reference_at}
use Rattle.block_columns.specs.Places.{at_places}
use Rattle.block_columns.specs.Types.{Content, HasField, IsEnableable, TakesNumbers, TakesReferences, TypeState, all_rows, blank_cell, cell_in, kind_in, with_enabled_in, with_number_in, with_off, with_reference_in, with_value}
use Rattle.block_columns.specs.declared.shape.TypeShape.{TypeShape}
use Rattle.block_columns.proofs.Lists.{get_or-at_places, length-at_places}
use Rattle.chunk_block.specs.Blocks.{AreDistinct, ArePiecesOf, BlockState, HasShape, IsLoanOf, LoanState, change_cell, changed, content_of, no_row, row_in, shape_of, with_content}
use Rattle.chunk_block.specs.Pieces.{OfPiece, OfRows, OfShape, change_piece, stored_numbers}
use Rattle.chunk_block.proofs.Loans.{of_piece}
use Rattle.block_laws.specs.Lending.{Writes, piece_types}
use Rattle.block_laws.proofs.Written.{all_written, cells_kept, piece_written, same_types, shapes_written}
use Rattle.scenario_record.specs.TextNames.{has_field}
use Rattle.world_places.proofs.Lists.{map_same}
use Rattle.world_rows.proofs.Effects.{one_changed}
use Rattle.world_loans.specs.Fitting.{AreFitting, FitsType}
use Rattle.structural_ops.specs.Freezing.{block_at, is_lent, lent_block, lent_of}
use Rattle.structural_ops.specs.Numbered.{HasBlock}
use Rattle.run_model.specs.Job.{Assigns, Switches, Text, fitted}
use Rattle.run_laws.specs.Runnable.{ExprReads, Sources, ValueReads}
use Rattle.run_laws.specs.Suits.{IsOfKind}
use Rattle.run_laws.proofs.RunLawful.{set_keeps_fit}
use Rattle.item_run.specs.Seats.{Seat, after_text_on, after_texts_on, text_done}
use Rattle.item_run.specs.ItemRows.{AreLawfulRows, AreRows, RowsState, block_of, own_row_at, registry_of, row_count, rows_of, seat_of, sources_in}
use Rattle.item_run.specs.Writing.{AreReady, CanAssign, CanSwitch, Does, Rewrites}
use Rattle.item_run.proofs.Seen.{count, field_parts, own_once, shape_here, types_are}

-- two changes that agree on each row
places_agree : (f g : ℕ → Row → Row) (rows : List Row) → ((k : ℕ) → k < length rows → f k (row_in k rows) ≡ g k (row_in k rows)) → at_places f 0 rows ≡ at_places g 0 rows
places_agree f g rows same =
    ext_get_or no_row _ _ (length-at_places f 0 rows ∙ sym (length-at_places g 0 rows)) (λ k h.
    let within : k < length rows = subst (λ n. k < n) (length-at_places f 0 rows) h in
    get_or-at_places f rows k no_row within ∙ (same k within ∙ sym (get_or-at_places g rows k no_row within)))

-- ---- a cell changed as the definitions say

turned : (a b : ℕ) → nat_eq a b ≡ nat_eq b a
turned a b = grind (arith, nat_tests)

module _ (t : ℕ) (cells : List Cell) (once : AreOnce (map cell_type cells)) where
  value_changed : (f : ℕ) (v : Value) → change_cell t (with_value f v) cells ≡ with_values t (λ values. slice_set values f v) cells
  value_changed f v =
      one_changed t (with_value f v) cells once
      ∙ map_same (λ c. with_content (cond (nat_eq t c.type_id) (with_value f v (content_of c)) (content_of c)) c) (λ c. record c { values = cond (nat_eq c.type_id t) (slice_set c.values f v) c.values }) cells
      (λ c i. by c (nat_eq t c.type_id) (nat_eq c.type_id t) (turned t c.type_id))
    where
      by : (c : Cell) (a b : Bool) → a ≡ b → with_content (cond a (with_value f v (content_of c)) (content_of c)) c ≡ record c { values = cond b (slice_set c.values f v) c.values }
      by c true true is = refl
      by c true false is = absurd (cc is)
      by c false true is = absurd (cc is)
      by c false false is = refl

  bit_changed : (on : Bool) → change_cell t (with_off (not on)) cells ≡ switched t on cells
  bit_changed on =
      one_changed t (with_off (not on)) cells once
      ∙ map_same (λ c. with_content (cond (nat_eq t c.type_id) (with_off (not on) (content_of c)) (content_of c)) c) (λ c. record c { off = cond (nat_eq c.type_id t) (not on) c.off }) cells
      (λ c i. by c (nat_eq t c.type_id) (nat_eq c.type_id t) (turned t c.type_id))
    where
      by : (c : Cell) (a b : Bool) → a ≡ b → with_content (cond a (with_off (not on) (content_of c)) (content_of c)) c ≡ record c { off = cond b (not on) c.off }
      by c true true is = refl
      by c true false is = absurd (cc is)
      by c false true is = absurd (cc is)
      by c false false is = refl

-- ---- kinds

kind_is : (registry : List TypeInfo) (t f : ℕ) → kind_in f (shape_of registry t).kinds ≡ field_kind_at registry t f
kind_is registry t f = native.get_or-map (λ (g : FieldInfo). g.kind) (fields_at registry t) f (record { name = []; kind = I32 })

number_kind : (kind : FieldKind) → is_ref_kind kind ≡ false → IsNumberKind kind
number_kind I32 is = tt
number_kind I64 is = tt
number_kind KindRef is = absurd (cc is)

reference_kind : (kind : FieldKind) → is_ref_kind kind ≡ true → kind ≡ KindRef
reference_kind I32 is = absurd (cc is)
reference_kind I64 is = absurd (cc is)
reference_kind KindRef is = refl

reference_fits : (kind : FieldKind) (e : Entity) → kind ≡ KindRef → fit kind (Ref e) ≡ Ref e
reference_fits kind e is = ap (λ k. fit k (Ref e)) is

-- ---- pieces

piece_there : (b : BlockState) (t : ℕ) (Q : TypeState → Type 0) (ps : List TypeState) → ArePiecesOf b ps → has_type (piece_types ps) t ≡ true
    → ((y : TypeState) → y.shape.ty.0 ≡ t → length y.cells ≡ length b.rows → HasShape y.shape b.columns → Q y) → OfPiece t Q ps
piece_there b t Q [] of has so = absurd (cc has)
piece_there b t Q (p ∷ ps) of has so = by (nat_eq p.shape.ty.0 t) refl has (λ h. piece_there b t Q ps of.1 h so)
  where
    by : (d : Bool) → nat_eq p.shape.ty.0 t ≡ d → (d || has_type (piece_types ps) t) ≡ true → (has_type (piece_types ps) t ≡ true → OfPiece t Q ps) → MatchBool d (Q p) (OfPiece t Q ps)
    by true here has rest = so p (eqb-true p.shape.ty.0 t here) of.0.0 of.0.1.1
    by false here has rest = rest has

module _ (registry : List TypeInfo) where
  -- what fits before a change fits after it
  abbrev KeepsFit : (TypeState → TypeState) → TypeState → Type 0
  KeepsFit F y =
      ((k : ℕ) → k < length y.cells → FitsType registry y.shape.ty.0 (cell_in k y.cells))
      → (k : ℕ) → k < length (F y).cells → FitsType registry (F y).shape.ty.0 (cell_in k (F y).cells)

  fits_after : (t : ℕ) (F : TypeState → TypeState) (ps : List TypeState) → AreFitting registry ps → OfPiece t (KeepsFit F) ps → AreFitting registry (change_piece t F ps)
  fits_after t F [] fits keeps = λ y i. absurd i
  fits_after t F (p ∷ ps) fits keeps = by (nat_eq p.shape.ty.0 t) keeps (λ h. fits_after t F ps (λ y i. fits y (inr i)) h)
    where
      by : (b : Bool) → MatchBool b (KeepsFit F p) (OfPiece t (KeepsFit F) ps) → (OfPiece t (KeepsFit F) ps → AreFitting registry (change_piece t F ps))
          → AreFitting registry (cond b (F p ∷ ps) (p ∷ change_piece t F ps))
      by true keep rest y (inl same) k below =
          subst (λ (z : TypeState). FitsType registry z.shape.ty.0 (cell_in k z.cells)) (sym same) (keep (fits p (inl refl)) k (subst (λ (z : TypeState). k < length z.cells) same below))
      by true keep rest y (inr i) k below = fits y (inr i) k below
      by false h rest y (inl same) k below = fits y (inl same) k below
      by false h rest y (inr i) k below = rest h y i k below

  keeps_all : (G : ℕ → Content → Content) (y : TypeState) → ((k : ℕ) (c : Content) → FitsType registry y.shape.ty.0 c → FitsType registry y.shape.ty.0 (G k c)) → KeepsFit (all_rows G) y
  keeps_all G y keeps fits k below =
      let within : k < length y.cells = subst (λ n. k < n) (length-at_places G 0 y.cells) below in
      subst (FitsType registry y.shape.ty.0) (sym (get_or-at_places G y.cells k blank_cell within)) (keeps k (cell_in k y.cells) (fits k within))

  fits_if : (t : ℕ) (b : Bool) (c d : Content) → FitsType registry t c → FitsType registry t d → FitsType registry t (cond b d c)
  fits_if t true c d old new = new
  fits_if t false c d old new = old

  -- a value that was fitted to the field's kind
  value_fits : (t f : ℕ) (v : Value) → is_buffer_at registry t ≡ false → (c : Content) → FitsType registry t c → FitsType registry t (with_value f (fit (field_kind_at registry t f) v) c)
  value_fits t f v plain c h = (set_keeps_fit (type_at registry t) c.values f v plain h.0, h.1)

-- ---- one text

module _ (x : RowsState) (ready : AreReady x) (lawful : AreLawfulRows x) where
  abbrev registry : List TypeInfo
  registry = registry_of x

  abbrev pieces : List TypeState
  pieces = x.loan.pieces

  abbrev seat : Seat
  seat = seat_of x

  abbrev row : ℕ → Row
  row k = row_in k (rows_of x)

  -- the piece of a type
  pub piece_shape : (t : ℕ) → has_type (piece_types pieces) t ≡ true → OfPiece t (λ y. (length y.cells ≡ row_count x) × (y.shape ≡ shape_of registry t)) pieces
  piece_shape t lent =
      piece_there (block_of x) t (λ y. (length y.cells ≡ row_count x) × (y.shape ≡ shape_of registry t)) pieces ready.rows.of lent
      (λ y type size has. (size, (shape_here x ready.rows lawful y.shape has).0 ∙ ap (shape_of registry) type))

  cells_once : (k : ℕ) → k < row_count x → AreOnce (map cell_type (row k).cells)
  cells_once k below = subst AreOnce (sym (types_are x ready.rows lawful k below)) (own_once x ready.rows lawful)

  does_one : (text : Text) (t : ℕ) (F : TypeState → TypeState) (G : ℕ → Content → Content) (left : List ℕ) (new : LoanState) → ((y : TypeState) → (F y).shape ≡ y.shape)
      → OfPiece t (λ y. Writes (row_count x) F G y × KeepsFit registry F y) pieces
      → ((k : ℕ) → k < row_count x → changed t (G k) (row k) ≡ text_done seat text left k (row k))
      → new ≡ record (x.loan) { pieces = change_piece t F pieces } → ((b : BlockState) → IsLoanOf b x.loan → IsLoanOf b new) → Does x (text ∷ []) left new
  does_one text t F G left new keeps pieces_are rows_are is of = record {
    loan = record {
      number = ap (λ (l : LoanState). l.number) is;
      types = ap (λ (l : LoanState). l.types) is;
      shapes = ap (λ (l : LoanState). map (λ y. y.shape) l.pieces) is ∙ shapes_written t F pieces keeps;
      of = of;
    };
    fit = subst (λ (l : LoanState). AreFitting registry l.pieces) (sym is)
        (fits_after registry t F pieces ready.fit (of_piece t (λ y. Writes (row_count x) F G y × KeepsFit registry F y) (KeepsFit registry F) pieces (λ y h. h.1) pieces_are));
    rows = ap (λ (l : LoanState). rows_of (record x { loan = l })) is
        ∙ (ap (λ (b : BlockState). b.rows) (piece_written t F G (block_of x) pieces ready.rows.once
        (of_piece t (λ y. Writes (row_count x) F G y × KeepsFit registry F y) (Writes (row_count x) F G) pieces (λ y h. h.0) pieces_are))
        ∙ places_agree (λ k r. changed t (G k) r) (text_done seat text left) (rows_of x) (λ k below. rows_are k (subst (λ n. k < n) (count x ready.rows lawful) below)));
  }

  -- ---- an assignment

  module _ (a : Assign) (can : CanAssign x a) (left : List ℕ) where
    abbrev t : ℕ
    t = a.ty.0

    abbrev f : ℕ
    f = a.field

    abbrev kind : FieldKind
    kind = field_kind_at registry t f

    has_column : HasField f (shape_of registry t)
    has_column =
        let parts = field_parts registry a.ty f can.field in
        (parts.1, subst (λ n. f < n) (sym (length-map (fields_at registry t) (λ (g : FieldInfo). g.kind))) parts.0)

    plain : is_buffer_at registry t ≡ false
    plain = (field_parts registry a.ty f can.field).1

    -- the change of a row
    row_assigned : (v : Value) (k : ℕ) → k < row_count x → v ≡ fitted kind (own_row_at x k) seat.others a.value
        → changed t (λ c. cond (has left k) (with_value f v c) c) (row k) ≡ text_done seat (Assigns a) left k (row k)
    row_assigned v k below is = by (has left k)
      where
        by : (b : Bool) → changed t (λ c. cond b (with_value f v c) c) (row k)
            ≡ cond b (record (row k) { cells = with_values t (λ values. slice_set values f (fitted kind (own_row_at x k) seat.others a.value)) (row k).cells }) (row k)
        by true =
            ap (λ (cs : List Cell). record (row k) { cells = cs })
            (value_changed t (row k).cells (cells_once k below) f v ∙ ap (λ (u : Value). with_values t (λ values. slice_set values f u) (row k).cells) is)
        by false = ap (λ (cs : List Cell). record (row k) { cells = cs }) (cells_kept t (row k).cells)

    module _ (e : Expr) (is_number : a.value ≡ IntExpr e) where
      pub takes_numbers : (n : ℕ) → n ≡ row_count x → OfPiece t (OfRows n (TakesNumbers f)) pieces
      takes_numbers n size =
          of_piece t (λ y. (length y.cells ≡ row_count x) × (y.shape ≡ shape_of registry t)) (OfRows n (TakesNumbers f)) pieces
          (λ y h. (size ∙ sym h.0, subst (TakesNumbers f) (sym h.1) (has_column, subst IsNumberKind (sym (kind_is registry t f)) (number_kind kind (number can.kind)))))
          (piece_shape t can.lent)
        where
          number : IsOfKind kind a.value → is_ref_kind kind ≡ false
          number h = subst (IsOfKind kind) is_number h

      pub does_numbers : (zs : List ℤ) → HoldsNumbers zs (row_count x) (λ k. value (own_row_at x k) seat.others e) → (new : LoanState) → new ≡ record (x.loan) { pieces = change_piece t (stored_numbers left f zs) pieces }
          → ((b : BlockState) → IsLoanOf b x.loan → IsLoanOf b new) → Does x (Assigns a ∷ []) left new
      does_numbers zs holds new is of =
          does_one (Assigns a) t (stored_numbers left f zs) (with_number_in left kind f zs) left new (λ y. refl)
          (of_piece t (λ y. (length y.cells ≡ row_count x) × (y.shape ≡ shape_of registry t)) (λ y. Writes (row_count x) (stored_numbers left f zs) (with_number_in left kind f zs) y × KeepsFit registry (stored_numbers left f zs) y) pieces
          (λ y h. (writes y h.0 h.1, keeps y h.1)) (piece_shape t can.lent))
          (λ k below. row_assigned (fit kind (Int (number_at k zs))) k below (ap (λ z. fit kind (Int z)) (holds.numbers k below) ∙ ap (fitted kind (own_row_at x k) seat.others) (sym is_number))) is of
        where
          kind_here : (y : TypeState) → y.shape ≡ shape_of registry t → kind_in f y.shape.kinds ≡ kind
          kind_here y same = ap (λ (s : TypeShape). kind_in f s.kinds) same ∙ kind_is registry t f

          writes : (y : TypeState) → length y.cells ≡ row_count x → y.shape ≡ shape_of registry t → Writes (row_count x) (stored_numbers left f zs) (with_number_in left kind f zs) y
          writes y size same = record {
            same_shape = refl;
            cells = λ k within.
                get_or-at_places (with_number_in left (kind_in f y.shape.kinds) f zs) y.cells k blank_cell (subst (λ n. k < n) (sym size) within)
                ∙ ap (λ i. with_number_in left i f zs k (cell_in k y.cells)) (kind_here y same);
          }

          keeps : (y : TypeState) → y.shape ≡ shape_of registry t → KeepsFit registry (stored_numbers left f zs) y
          keeps y same =
              let type : y.shape.ty.0 ≡ t = ap (λ (s : TypeShape). s.ty.0) same in
              keeps_all registry (with_number_in left (kind_in f y.shape.kinds) f zs) y (λ k c fits.
              subst (λ u. FitsType registry u (with_number_in left (kind_in f y.shape.kinds) f zs k c)) (sym type)
              (subst (λ i. FitsType registry t (with_number_in left i f zs k c)) (sym (kind_here y same))
              (fits_if registry t (has left k) c (with_value f (fit kind (Int (number_at k zs))) c) (subst (λ u. FitsType registry u c) type fits)
              (value_fits registry t f (Int (number_at k zs)) plain c (subst (λ u. FitsType registry u c) type fits)))))

    module _ (r : RefExpr) (is_reference : a.value ≡ RefValue r) where
      reference : kind ≡ KindRef
      reference = reference_kind kind (subst (IsOfKind kind) is_reference can.kind)

      pub takes_references : (n : ℕ) → n ≡ row_count x → OfPiece t (OfRows n (TakesReferences f)) pieces
      takes_references n size =
          of_piece t (λ y. (length y.cells ≡ row_count x) × (y.shape ≡ shape_of registry t)) (OfRows n (TakesReferences f)) pieces
          (λ y h. (size ∙ sym h.0, subst (TakesReferences f) (sym h.1) (has_column, kind_is registry t f ∙ reference)))
          (piece_shape t can.lent)

      pub does_references : (es : List Entity) → HoldsReferences es (row_count x) (λ k. value_ref (own_row_at x k) r) → (new : LoanState)
          → new ≡ record (x.loan) { pieces = change_piece t (all_rows (with_reference_in left f es)) pieces } → ((b : BlockState) → IsLoanOf b x.loan → IsLoanOf b new) → Does x (Assigns a ∷ []) left new
      does_references es holds new is of =
          does_one (Assigns a) t (all_rows (with_reference_in left f es)) (with_reference_in left f es) left new (λ y. refl)
          (of_piece t (λ y. (length y.cells ≡ row_count x) × (y.shape ≡ shape_of registry t))
          (λ y. Writes (row_count x) (all_rows (with_reference_in left f es)) (with_reference_in left f es) y × KeepsFit registry (all_rows (with_reference_in left f es)) y) pieces
          (λ y h. (all_written (row_count x) (with_reference_in left f es) y (sym h.0), keeps y h.1)) (piece_shape t can.lent))
          (λ k below. row_assigned (Ref (reference_at k es)) k below
          (ap (λ e. Ref e) (holds.references k below) ∙ (sym (reference_fits kind (value_ref (own_row_at x k) r) reference) ∙ ap (fitted kind (own_row_at x k) seat.others) (sym is_reference)))) is of
        where
          keeps : (y : TypeState) → y.shape ≡ shape_of registry t → KeepsFit registry (all_rows (with_reference_in left f es)) y
          keeps y same =
              let type : y.shape.ty.0 ≡ t = ap (λ (s : TypeShape). s.ty.0) same in
              keeps_all registry (with_reference_in left f es) y (λ k c fits.
              let old = subst (λ u. FitsType registry u c) type fits in
              subst (λ u. FitsType registry u (with_reference_in left f es k c)) (sym type)
              (fits_if registry t (has left k) c (with_value f (Ref (reference_at k es)) c) old
              (subst (λ (v : Value). FitsType registry t (with_value f v c)) (reference_fits kind (reference_at k es) reference)
              (value_fits registry t f (Ref (reference_at k es)) plain c old))))

  -- ---- an enable text

  module _ (w : Switch) (can : CanSwitch x w) (left on : List ℕ) where
    abbrev u : ℕ
    u = w.ty.0

    pub takes_bits : OfPiece u (OfShape IsEnableable) pieces
    takes_bits =
        of_piece u (λ y. (length y.cells ≡ row_count x) × (y.shape ≡ shape_of registry u)) (OfShape IsEnableable) pieces
        (λ y h. subst IsEnableable (sym h.1) can.enableable) (piece_shape u can.lent)

    row_switched : (k : ℕ) → k < row_count x → has on k ≡ is_true (value (own_row_at x k) seat.others w.value) → changed u (with_enabled_in left on k) (row k) ≡ text_done seat (Switches w) left k (row k)
    row_switched k below is = by (has left k)
      where
        by : (b : Bool) → changed u (λ c. cond b (with_off (not (has on k)) c) c) (row k)
            ≡ cond b (record (row k) { cells = switched u (is_true (value (own_row_at x k) seat.others w.value)) (row k).cells }) (row k)
        by true =
            ap (λ (cs : List Cell). record (row k) { cells = cs }) (bit_changed u (row k).cells (cells_once k below) (has on k) ∙ ap (λ b. switched u b (row k).cells) is)
        by false = ap (λ (cs : List Cell). record (row k) { cells = cs }) (cells_kept u (row k).cells)

    pub does_switch : ((k : ℕ) → k < row_count x → has on k ≡ is_true (value (own_row_at x k) seat.others w.value)) → (new : LoanState)
        → new ≡ record (x.loan) { pieces = change_piece u (all_rows (with_enabled_in left on)) pieces } → ((b : BlockState) → IsLoanOf b x.loan → IsLoanOf b new) → Does x (Switches w ∷ []) left new
    does_switch holds new is of =
        does_one (Switches w) u (all_rows (with_enabled_in left on)) (with_enabled_in left on) left new (λ y. refl)
        (of_piece u (λ y. (length y.cells ≡ row_count x) × (y.shape ≡ shape_of registry u))
        (λ y. Writes (row_count x) (all_rows (with_enabled_in left on)) (with_enabled_in left on) y × KeepsFit registry (all_rows (with_enabled_in left on)) y) pieces
        (λ y h. (all_written (row_count x) (with_enabled_in left on) y (sym h.0), keeps y h.1)) (piece_shape u can.lent))
        (λ k below. row_switched k below (holds k below)) is of
      where
        keeps : (y : TypeState) → y.shape ≡ shape_of registry u → KeepsFit registry (all_rows (with_enabled_in left on)) y
        keeps y same =
            let type : y.shape.ty.0 ≡ u = ap (λ (s : TypeShape). s.ty.0) same in
            keeps_all registry (with_enabled_in left on) y (λ k c fits.
            let old = subst (λ v. FitsType registry v c) type fits in
            subst (λ v. FitsType registry v (with_enabled_in left on k c)) (sym type)
            (fits_if registry u (has left k) c (with_off (not (has on k)) c) old (old.0, λ _. can.enableable)))

-- ---- texts one after another

after_append : (s : Seat) (ts us : List Text) (mask : List ℕ) (rows : List Row) → after_texts_on s (ts ++ us) mask rows ≡ after_texts_on s us mask (after_texts_on s ts mask rows)
after_append s [] us mask rows = refl
after_append s (t ∷ ts) us mask rows = after_append s ts us mask (after_text_on s t mask rows)

module _ (x : RowsState) (new : LoanState) (loan : Rewrites x.loan new) where
  abbrev later : RowsState
  later = record x { loan = new }

  pub pieces_same : piece_types new.pieces ≡ piece_types x.loan.pieces
  pieces_same = same_types new.pieces x.loan.pieces loan.shapes

  seat_same : seat_of later ≡ seat_of x
  seat_same =
      ap (λ n. let s : Seat = record {
        registry = registry_of x;
        home = (block_at n x.frozen.state.numbers x.frozen.state.world.blocks).home;
        others = others_of (λ e. found e x.frozen.state.world.blocks);
        item = x.item;
        frame = x.frame;
      } in s) loan.number

  block_same : block_of later ≡ block_of x
  block_same = ap (λ n. lent_block (registry_of x) (lent_of x.frozen n) (block_at n x.frozen.state.numbers x.frozen.state.world.blocks)) loan.number

  sources_same : sources_in later ≡ sources_in x
  sources_same =
      ap₂ (λ n ts. let s : Sources = record {
        own = λ ty i. has_type (block_at n x.frozen.state.numbers x.frozen.state.world.blocks).home.types ty.0
            && (has_field (registry_of x) ty i && (is_shared_at (registry_of x) ty.0 || (has_type ts ty.0 || not (has_type (lent_of x.frozen n) ty.0))));
        others = λ ty. not (is_lent x.frozen ty.0) && not (is_buffer_at (registry_of x) ty.0);
      } in s) loan.number pieces_same

  pub rows_after : AreRows x → AreRows later
  rows_after rows = record {
    there = subst (λ n. HasBlock n (λ _. ⊤) x.frozen.state) (sym loan.number) rows.there;
    of = subst (λ (b : BlockState). IsLoanOf b new) (sym block_same) (loan.of (block_of x) rows.of);
    once = subst AreDistinct (sym pieces_same) rows.once;
  }

  pub reads_after : (P : Sources → Type 0) → P (sources_in x) → P (sources_in later)
  reads_after P h = subst P (sym sources_same) h

  pub can_assign_after : (a : Assign) → CanAssign x a → CanAssign later a
  can_assign_after a can = record {
    lent = ap (λ ts. has_type ts a.ty.0) pieces_same ∙ can.lent;
    field = can.field;
    kind = can.kind;
    reads = reads_after (λ s. ValueReads s a.value) can.reads;
  }

  pub can_switch_after : (w : Switch) → CanSwitch x w → CanSwitch later w
  can_switch_after w can = record {
    lent = ap (λ ts. has_type ts w.ty.0) pieces_same ∙ can.lent;
    enableable = can.enableable;
    reads = reads_after (λ s. ExprReads s w.value) can.reads;
  }

pub ready_after : (x : RowsState) (ts : List Text) (mask : List ℕ) (new : LoanState) → AreReady x → Does x ts mask new → AreReady (record x { loan = new })
ready_after x ts mask new ready does = record { rows = rows_after x new does.loan ready.rows; fit = does.fit }

pub does_none : (x : RowsState) (mask : List ℕ) → AreReady x → Does x [] mask x.loan
does_none x mask ready = record { loan = record { number = refl; types = refl; shapes = refl; of = λ b h. h }; fit = ready.fit; rows = refl }

pub does_then : (x : RowsState) (ts us : List Text) (mask : List ℕ) (mid new : LoanState) → Does x ts mask mid → Does (record x { loan = mid }) us mask new → Does x (ts ++ us) mask new
does_then x ts us mask mid new first second = record {
  loan = record {
    number = second.loan.number ∙ first.loan.number;
    types = second.loan.types ∙ first.loan.types;
    shapes = second.loan.shapes ∙ first.loan.shapes;
    of = λ b h. second.loan.of b (first.loan.of b h);
  };
  fit = second.fit;
  rows = second.rows
      ∙ (ap (λ (s : Seat). after_texts_on s us mask (rows_of (record x { loan = mid }))) (seat_same x mid first.loan)
      ∙ (ap (after_texts_on (seat_of x) us mask) first.rows ∙ sym (after_append (seat_of x) ts us mask (rows_of x))));
}

-- ---- loops

pub in_at : {A : Type 0} (xs : List A) (i : ℕ) (a : A) → i < length xs → a ≡ get_or xs i a → In a xs
in_at [] i a below is = absurd (omega (arith, below))
in_at (x ∷ xs) zero a below is = inl is
in_at (x ∷ xs) (suc i) a below is = inr (in_at xs i a (omega (arith, below)) is)

-- a text more
pub does_more : {A : Type 0} (text : A → Text) (x : RowsState) (xs : List A) (i : ℕ) (a : A) (mask : List ℕ) (mid new : LoanState) → i < length xs → a ≡ get_or xs i a
    → Does x (map text (take i xs)) mask mid → Does (record x { loan = mid }) (text a ∷ []) mask new → Does x (map text (take (i + 1) xs)) mask new
does_more text x xs i a mask mid new below is before one =
    subst (λ ts. Does x ts mask new)
    (sym (ap (map text) (take_more xs i a below ∙ ap (λ b. take i xs ++ b ∷ []) (sym is)) ∙ map-append text (take i xs) (a ∷ [])))
    (does_then x (map text (take i xs)) (text a ∷ []) mask mid new before one)
