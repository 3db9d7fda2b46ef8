-- The rows of an item: what is shown of each type, and what texts see.
use Rattle.std.proofs.Common.{ℕ, ◌≡◌, ◌<◌, ◌≤◌, ◌∙◌, ◌||◌, ◌&&◌, Bool, true, false, not, nat_eq, sym, ap, refl, subst, List, [], ◌∷◌, map, length, Some}
use Rattle.std.specs.Bool.{MatchBool}
use Rattle.std.proofs.lemmas.Bool.{and_parts, eqb-true, ltb-true, not-true}
use Rattle.std.proofs.lemmas.List.{get_or-map, length-map}
use Rattle.std.proofs.lemmas.Option.{same_Some}
use Rattle.ent_types.specs.declared.entity.TypeId.{TypeId}
use Rattle.ent_types.specs.declared.limits.TheConstants.{MOST_BLOCK_ROWS}
use Rattle.ent_types.specs.declared.kinds.Kind.{Kind}
use Rattle.ent_types.specs.declared.kinds.Kind.TheVariants.{Plain, Tag, Shared, Cleanup, Buffer}
use Rattle.ent_types.specs.declared.type_info.FieldInfo.{FieldInfo}
use Rattle.ent_types.specs.declared.type_info.TypeInfo.{TypeInfo}
use Rattle.ent_types.specs.declared.value.Value.{Value}
use Rattle.ent_types.specs.Types.{is_buffer, is_shared}
use Rattle.ent_types.specs.TypeLookups.{fields_at, is_buffer_at, is_enableable_at, is_shared_at, kind_at}
use Rattle.ent_types.specs.TypeSets.{has_type}
use Rattle.enable_bits.specs.Masks.{has}
use Rattle.world_model.specs.Found.{part_at}
use Rattle.world_model.specs.Lawful.{IsLawfulHome}
use Rattle.world_model.specs.Members.{In, IsRising}
use Rattle.world_model.specs.Members.{AreDistinct as AreOnce}
use Rattle.world_model.specs.Row.{Row, Cell, cell_type}
use Rattle.world_laws.proofs.Members.{filter_passes}
use Rattle.world_laws.proofs.NodeRows.{in_has}
use Rattle.world_laws.proofs.Types.{filter_rising, has_in}
use Rattle.block_columns.specs.Columns.{HoldsReferences, value_at}
use Rattle.block_columns.specs.Types.{Content, HasField, TypeState, blank_cell, cell_in}
use Rattle.block_columns.specs.declared.shape.TypeShape.{TypeShape}
use Rattle.block_eval.specs.Columns.{HoldsValues}
use Rattle.block_laws.specs.Lending.{piece_types}
use Rattle.block_laws.proofs.Rows.{have_there, rows_count}
use Rattle.chunk_block.specs.Blocks.{AreDistinct, ArePiecesOf, BlockState, HasShape, HaveTypes, Lacks, OfType, column_types, content_at, no_row, row_in, shape_of}
use Rattle.chunk_block.specs.Pieces.{LacksPiece, OfPiece}
use Rattle.scenario_record.specs.TextNames.{has_field, has_values, is_known}
use Rattle.world_places.proofs.Marks.{rising_distinct}
use Rattle.world_rows.specs.Rows.{own_types}
use Rattle.world_rows.proofs.Effects.{each_cell, each_types}
use Rattle.world_rows.proofs.PartsAre.{in_passed}
use Rattle.world_rows.proofs.Filled.{values_length}
use Rattle.world_loans.proofs.Cells.{cells_given, given}
use Rattle.world_loans.proofs.Counted.{rising_once}
use Rattle.world_loans.proofs.Returned.{row_back}
use Rattle.structural_ops.specs.Freezing.{AreBlank, lent_block, lent_of}
use Rattle.structural_ops.specs.Numbered.{HasBlock}
use Rattle.structural_ops.proofs.Homes.{shared_part}
use Rattle.item_run.specs.Seats.{spot_at}
use Rattle.item_run.specs.ItemRows.{AreLawfulRows, AreRows, RowsState, ShowsNothing, ShowsType, block_of, frozen_block, is_held, lent_types, own_row_at, registry_of, row_count, rows_of, seat_of, sources_in}
use Rattle.item_run.proofs.Cells.{content_each, content_kept, content_none, field_own, field_shared, given_lacks, given_piece, on_is}
use Rattle.item_run.proofs.Columns.{at_number, column_is, column_there, columns_are, lent_found, shape_found, type_found}

-- ---- pieces of a block

-- a piece that is found
pub piece_is : (b : BlockState) (t : ℕ) (r : TypeState) (ps : List TypeState) → ArePiecesOf b ps → OfPiece t (λ y. r ≡ y) ps
    → (r.shape.ty.0 ≡ t) × (length r.cells ≡ length b.rows) × HasShape r.shape b.columns
piece_is b t r [] of is = absurd is
piece_is b t r (p ∷ ps) of is = by (nat_eq p.shape.ty.0 t) refl is (piece_is b t r ps of.1)
  where
    by : (d : Bool) → nat_eq p.shape.ty.0 t ≡ d → MatchBool d (r ≡ p) (OfPiece t (λ y. r ≡ y) ps)
        → (OfPiece t (λ y. r ≡ y) ps → (r.shape.ty.0 ≡ t) × (length r.cells ≡ length b.rows) × HasShape r.shape b.columns)
        → (r.shape.ty.0 ≡ t) × (length r.cells ≡ length b.rows) × HasShape r.shape b.columns
    by true here same rest =
        subst (λ (y : TypeState). (y.shape.ty.0 ≡ t) × (length y.cells ≡ length b.rows) × HasShape y.shape b.columns) (sym same)
        (eqb-true p.shape.ty.0 t here, of.0.0, of.0.1.1)
    by false here h rest = rest h

pub lacks_piece : (t : ℕ) (ps : List TypeState) → LacksPiece t ps → has_type (piece_types ps) t ≡ false
lacks_piece t [] lacks = refl
lacks_piece t (p ∷ ps) lacks = by (nat_eq p.shape.ty.0 t) lacks (lacks_piece t ps)
  where
    by : (b : Bool) → MatchBool b ⊥ (LacksPiece t ps) → (LacksPiece t ps → has_type (piece_types ps) t ≡ false) → (b || has_type (piece_types ps) t) ≡ false
    by true h rest = absurd h
    by false h rest = rest h

shared_no_buffer : (kind : Kind) → is_shared kind ≡ true → is_buffer kind ≡ false
shared_no_buffer Plain is = refl
shared_no_buffer Tag is = refl
shared_no_buffer Shared is = refl
shared_no_buffer Cleanup is = refl
shared_no_buffer Buffer is = absurd (cc is)

-- a field that can be read is no buffer's
pub field_parts : (registry : List TypeInfo) (ty : TypeId) (i : ℕ) → has_field registry ty i ≡ true → (i < length (fields_at registry ty.0)) × (is_buffer_at registry ty.0 ≡ false)
field_parts registry ty i has =
    let more = (and_parts (is_known registry ty) _ has).1 in
    let both = and_parts _ (has_values (kind_at registry ty.0)) more in
    (ltb-true i (length (fields_at registry ty.0)) both.0, by (kind_at registry ty.0) both.1)
  where
    by : (kind : Kind) → has_values kind ≡ true → is_buffer kind ≡ false
    by Plain is = refl
    by Tag is = refl
    by Shared is = refl
    by Cleanup is = refl
    by Buffer is = absurd (cc is)

-- ---- rows

module _ (x : RowsState) (rows : AreRows x) (lawful : AreLawfulRows x) where
  abbrev pub pieces : List TypeState
  pieces = x.loan.pieces

  -- the types of the block that aren't shared
  abbrev pub own : List ℕ
  own = own_types (registry_of x) (frozen_block x).home.types

  abbrev bare : List Row
  bare = (frozen_block x).rows

  own_rising : IsRising own
  own_rising = filter_rising _ (frozen_block x).home.types lawful.home.types

  pub own_once : AreOnce own
  own_once = rising_distinct own own_rising

  pub count : length (rows_of x) ≡ row_count x
  count = rows_count pieces bare

  module _ (k : ℕ) (below : k < row_count x) where
    abbrev pub cells : List Cell
    cells = (row_in k (rows_of x)).cells

    bare_types : map cell_type (row_in k bare).cells ≡ own
    bare_types = have_there own bare k below lawful.have

    cells_are : cells ≡ each_cell (given k pieces) (row_in k bare).cells
    cells_are =
        ap (λ (r : Row). r.cells) (row_back pieces bare k below)
        ∙ cells_given k pieces (row_in k bare).cells (subst AreOnce (sym bare_types) own_once)

    pub types_are : map cell_type cells ≡ own
    types_are = ap (map cell_type) cells_are ∙ (each_types (given k pieces) (row_in k bare).cells ∙ bare_types)

    pub entity_is : (row_in k (rows_of x)).entity ≡ (row_in k bare).entity
    entity_is = ap (λ (r : Row). r.entity) (row_back pieces bare k below)

    content_piece : (t : ℕ) (r : TypeState) → has_type own t ≡ true → OfPiece t (λ y. r ≡ y) pieces → content_at t cells ≡ cell_in k r.cells
    content_piece t r has is =
        ap (content_at t) cells_are
        ∙ (content_each (given k pieces) t (row_in k bare).cells (ap (λ ts. has_type ts t) bare_types ∙ has)
        ∙ given_piece k t r pieces (content_at t (row_in k bare).cells) rows.once is)

    content_bare : (t : ℕ) → has_type (piece_types pieces) t ≡ false → content_at t cells ≡ content_at t (row_in k bare).cells
    content_bare t lacks = ap (content_at t) cells_are ∙ content_kept (given k pieces) t (λ c. given_lacks k t pieces c lacks) (row_in k bare).cells

  -- ---- one type

  pub shape_here : (s : TypeShape) → HasShape s (block_of x).columns → (s ≡ shape_of (registry_of x) s.ty.0) × (has_type own s.ty.0 ≡ true)
  shape_here s is =
      let (y, i, same) = shape_found s (block_of x).columns is in
      let type : y.shape.ty.0 ≡ s.ty.0 = ap (λ (z : TypeShape). z.ty.0) (sym same) in (
        same ∙ ((column_is (lent_types x) (registry_of x) y (frozen_block x).home.types i).0 ∙ ap (shape_of (registry_of x)) type),
        subst (λ t. has_type own t ≡ true) type (column_there (lent_types x) (registry_of x) y (frozen_block x).home.types i),
      )

  pub shows_piece : (t : ℕ) (r : TypeState) → OfPiece t (λ y. r ≡ y) pieces → ShowsType t x r
  shows_piece t r is =
      let (type, size, has) = piece_is (block_of x) t r pieces rows.of is in
      let (shape, there) = shape_here r.shape has in
      record {
        shape = shape ∙ ap (shape_of (registry_of x)) type;
        size = size;
        cells = λ k below. sym (content_piece k below t r (subst (λ u. has_type own u ≡ true) type there) is);
      }

  pub shows_bare : (t : ℕ) (r : TypeState) → LacksPiece t pieces → OfType t (λ s. r.shape ≡ s) (block_of x).columns → r.cells ≡ map (λ (q : Row). content_at t q.cells) (block_of x).rows
      → ShowsType t x r
  shows_bare t r lacks of are =
      let (y, i, type, held, same) = type_found t (λ s. r.shape ≡ s) (block_of x).columns of in
      record {
        shape = same ∙ ((column_is (lent_types x) (registry_of x) y (frozen_block x).home.types i).0 ∙ ap (shape_of (registry_of x)) type);
        size = ap length are ∙ length-map bare (λ (q : Row). content_at t q.cells);
        cells = λ k below.
            ap (cell_in k) are
            ∙ (get_or-map (λ (q : Row). content_at t q.cells) bare k no_row blank_cell below
            ∙ sym (content_bare k below t (lacks_piece t pieces lacks)));
      }

  -- a type that the block lacks or lends to others
  nothing_there : (t : ℕ) → LacksPiece t pieces → Lacks t (block_of x).columns → has_type own t ≡ true → has_type (lent_types x) t ≡ true
  nothing_there t none lacks has =
      let (y, i, type, lent) = lent_found t (block_of x).columns lacks (ap (λ ts. has_type ts t) (columns_are (lent_types x) (registry_of x) (frozen_block x).home.types) ∙ has) in
      subst (λ u. has_type (lent_types x) u ≡ true) type (sym (column_is (lent_types x) (registry_of x) y (frozen_block x).home.types i).1 ∙ lent)

  own_shared : (t : ℕ) → has_type own t ≡ true → is_shared_at (registry_of x) t ≡ false
  own_shared t has = not-true (is_shared_at (registry_of x) t) (filter_passes (λ u. not (is_shared_at (registry_of x) u)) t (frozen_block x).home.types (has_in t own has))

  pub shows_nothing : (t : ℕ) → LacksPiece t pieces → Lacks t (block_of x).columns → ShowsNothing t x
  shows_nothing t none lacks = by (has_type own t) refl
    where
      bare_blank : (has_type own t ≡ true → has_type (lent_types x) t ≡ true) → (k : ℕ) → k < row_count x → (b : Bool) → has_type own t ≡ b → content_at t (row_in k bare).cells ≡ blank_cell
      bare_blank lent k below true is = lawful.blank t (lent is) k
      bare_blank lent k below false is = content_none t (row_in k bare).cells (ap (λ ts. has_type ts t) (bare_types k below) ∙ is)

      by : (b : Bool) → has_type own t ≡ b → ShowsNothing t x
      by true is =
          let gone : has_type (piece_types pieces) t ≡ false = lacks_piece t pieces none in
          let lent : has_type (lent_types x) t ≡ true = nothing_there t none lacks is in
          record {
            none = rw (is, own_shared t is, gone, lent) refl;
            blank = λ k below. content_bare k below t gone ∙ bare_blank (nothing_there t none lacks) k below true is;
          }
      by false is = record {
        none = rw is refl;
        blank = λ k below. content_bare k below t (lacks_piece t pieces none) ∙ bare_blank (nothing_there t none lacks) k below false is;
      }

  -- ---- fields

  pub own_parts : (ty : TypeId) (i : ℕ) → (sources_in x).own ty i ≡ true → In ty.0 (frozen_block x).home.types × (has_field (registry_of x) ty i ≡ true) × (is_held x ty.0 ≡ true)
  own_parts ty i has =
      let there = and_parts (has_type (frozen_block x).home.types ty.0) _ has in
      let both = and_parts (has_field (registry_of x) ty i) (is_held x ty.0) there.1 in
      (has_in ty.0 (frozen_block x).home.types there.0, both.0, both.1)

  own_there : (t : ℕ) → In t (frozen_block x).home.types → is_shared_at (registry_of x) t ≡ false → has_type own t ≡ true
  own_there t i apart = in_has t own (in_passed (λ u. not (is_shared_at (registry_of x) u)) t (frozen_block x).home.types i (ap not apart))

  own_lacks : (t : ℕ) → is_shared_at (registry_of x) t ≡ true → has_type own t ≡ false
  own_lacks t shared = by (has_type own t) refl
    where
      by : (b : Bool) → has_type own t ≡ b → b ≡ false
      by true is = absurd (cc (sym shared ∙ own_shared t is))
      by false is = refl

  module _ (ty : TypeId) (i : ℕ) (has : (sources_in x).own ty i ≡ true) where
    -- a field that lies in a column is shown
    pub field_shown : (not (is_shared_at (registry_of x) ty.0)) ≡ true → ShowsNothing ty.0 x → ⊥
    field_shown column nothing =
        let parts = own_parts ty i has in
        let there : has_type own ty.0 ≡ true = own_there ty.0 parts.0 (not-true (is_shared_at (registry_of x) ty.0) column) in
        let both : (has_type own ty.0 && is_held x ty.0) ≡ true = rw (there, parts.2) refl in
        absurd (cc (sym both ∙ nothing.none))

    pub has_column : (r : TypeState) → ShowsType ty.0 x r → HasField i r.shape
    has_column r shows =
        let parts = field_parts (registry_of x) ty i (own_parts ty i has).1 in
        subst (HasField i) (sym shows.shape) (parts.1, subst (λ n. i < n) (sym (length-map (fields_at (registry_of x) ty.0) (λ (f : FieldInfo). f.kind))) parts.0)

    module _ (column : not (is_shared_at (registry_of x) ty.0) ≡ true) (r : TypeState) (shows : ShowsType ty.0 x r) where
      -- the value of a row in a field
      pub field_value : (k : ℕ) → k < row_count x → (own_row_at x k).field ty i ≡ value_at i (cell_in k r.cells).values
      field_value k below =
          let there : has_type own ty.0 ≡ true = own_there ty.0 (own_parts ty i has).0 (not-true (is_shared_at (registry_of x) ty.0) column) in
          field_own (registry_of x) (spot_at (seat_of x) k) (frozen_block x).home (row_in k (rows_of x)).entity ty i (cells k below) (ap (λ ts. has_type ts ty.0) (types_are k below) ∙ there)
          ∙ ap (λ (c : Content). value_at i c.values) (sym (shows.cells k below))

      -- the values of all rows
      pub field_values : (vs : List Value) → vs ≡ map (λ (c : Content). value_at i c.values) r.cells → HoldsValues vs (row_count x) (λ k. (own_row_at x k).field ty i)
      field_values vs are = record {
        size = ap length are ∙ (length-map r.cells (λ (c : Content). value_at i c.values) ∙ shows.size);
        values = λ k below.
            ap (value_at k) are
            ∙ (get_or-map (λ (c : Content). value_at i c.values) r.cells k blank_cell _ (subst (λ n. k < n) (sym shows.size) below) ∙ sym (field_value k below));
      }

    -- the value of a field of a shared type
    module _ (shared : is_shared_at (registry_of x) ty.0 ≡ true) (vs : List Value) (is : part_at ty.0 (frozen_block x).home.shared ≡ Some vs) where
      pub shared_length : i < length vs
      shared_length =
          let parts = own_parts ty i has in
          let (us, same, fits) = shared_part (registry_of x) (frozen_block x).home lawful.home ty.0 shared parts.0 in
          let equal : us ≡ vs = same_Some us vs (sym same ∙ is) in
          let size : length us ≡ length (fields_at (registry_of x) ty.0) = values_length (registry_of x) ty.0 us (shared_no_buffer (kind_at (registry_of x) ty.0) shared) fits in
          subst (λ (ws : List Value). i < length ws) equal (subst (λ n. i < n) (sym size) (field_parts (registry_of x) ty i parts.1).0)

      pub shared_value : (k : ℕ) → k < row_count x → (own_row_at x k).field ty i ≡ value_at i vs
      shared_value k below =
          field_shared (registry_of x) (spot_at (seat_of x) k) (frozen_block x).home (row_in k (rows_of x)).entity ty i (cells k below) vs
          (ap (λ ts. has_type ts ty.0) (types_are k below) ∙ own_lacks ty.0 shared) is

  -- ---- the entity and the bits

  pub entities_are : HoldsReferences (map (λ (r : Row). r.entity) (block_of x).rows) (row_count x) (λ k. (own_row_at x k).me)
  entities_are = record {
    size = length-map bare (λ (r : Row). r.entity);
    references = λ k below. get_or-map (λ (r : Row). r.entity) bare k no_row _ below ∙ sym (entity_is k below);
  }

  module _ (ty : TypeId) (k : ℕ) (below : k < row_count x) where
    on_here : (own_row_at x k).on ty ≡ (has_type (frozen_block x).home.types ty.0 && not (is_enableable_at (registry_of x) ty.0 && (content_at ty.0 (cells k below)).off))
    on_here =
        on_is (registry_of x) (spot_at (seat_of x) k) (frozen_block x).home (row_in k (rows_of x)).entity ty (cells k below)
        (subst AreDistinct (sym (types_are k below)) (rising_once own own_rising))

    pub on_lacks : has_type (frozen_block x).home.types ty.0 ≡ false → (own_row_at x k).on ty ≡ false
    on_lacks lacks = on_here ∙ ap (λ b. b && not (is_enableable_at (registry_of x) ty.0 && (content_at ty.0 (cells k below)).off)) lacks

    module _ (there : has_type (frozen_block x).home.types ty.0 ≡ true) where
      on_there : (own_row_at x k).on ty ≡ not (is_enableable_at (registry_of x) ty.0 && (content_at ty.0 (cells k below)).off)
      on_there = on_here ∙ ap (λ b. b && not (is_enableable_at (registry_of x) ty.0 && (content_at ty.0 (cells k below)).off)) there

      pub on_always : is_enableable_at (registry_of x) ty.0 ≡ false → (own_row_at x k).on ty ≡ true
      on_always never = on_there ∙ ap (λ b. not (b && (content_at ty.0 (cells k below)).off)) never

      module _ (enableable : is_enableable_at (registry_of x) ty.0 ≡ true) where
        on_bit : (own_row_at x k).on ty ≡ not (content_at ty.0 (cells k below)).off
        on_bit = on_there ∙ ap (λ b. not (b && (content_at ty.0 (cells k below)).off)) enableable

        pub on_shown : (r : TypeState) → ShowsType ty.0 x r → (own_row_at x k).on ty ≡ not (cell_in k r.cells).off
        on_shown r shows = on_bit ∙ ap (λ (c : Content). not c.off) (sym (shows.cells k below))

        pub on_blank : ShowsNothing ty.0 x → (own_row_at x k).on ty ≡ true
        on_blank nothing = on_bit ∙ ap (λ (c : Content). not c.off) (nothing.blank k below)

-- ---- the rows of a new item

module _ (x : RowsState) (rows : AreRows x) (n : ℕ) (number : n ≡ x.loan.number) (b : BlockState)
    (shown : HasBlock n (λ c. b ≡ lent_block (registry_of x) (lent_of x.frozen n) c) x.frozen.state)
    (home : HasBlock n (λ c. IsLawfulHome (registry_of x) c.home) x.frozen.state) (blank : HasBlock n (λ c. AreBlank (lent_of x.frozen n) c.rows) x.frozen.state)
    (have : HaveTypes (column_types b.columns) b.rows) (few : length b.rows ≤ MOST_BLOCK_ROWS) where
  pub block_is : b ≡ block_of x
  block_is =
      at_number x.loan.number (λ c. b ≡ lent_block (registry_of x) (lent_of x.frozen x.loan.number) c) x.frozen.state.numbers x.frozen.state.world.blocks
      (subst (λ m. HasBlock m (λ c. b ≡ lent_block (registry_of x) (lent_of x.frozen m) c) x.frozen.state) number shown)

  pub lawful_rows : AreLawfulRows x
  lawful_rows = record {
    home = at_number x.loan.number (λ c. IsLawfulHome (registry_of x) c.home) x.frozen.state.numbers x.frozen.state.world.blocks
        (subst (λ m. HasBlock m (λ c. IsLawfulHome (registry_of x) c.home) x.frozen.state) number home);
    have = subst (λ ts. HaveTypes ts (frozen_block x).rows) (columns_are (lent_types x) (registry_of x) (frozen_block x).home.types)
        (subst (λ (s : BlockState). HaveTypes (column_types s.columns) s.rows) block_is have);
    few = subst (λ (s : BlockState). length s.rows ≤ MOST_BLOCK_ROWS) block_is few;
    blank = at_number x.loan.number (λ c. AreBlank (lent_of x.frozen x.loan.number) c.rows) x.frozen.state.numbers x.frozen.state.world.blocks
        (subst (λ m. HasBlock m (λ c. AreBlank (lent_of x.frozen m) c.rows) x.frozen.state) number blank);
  }
