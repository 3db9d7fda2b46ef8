-- Loans of lawful rows fit, and rows to which pieces came back that fit are lawful.
use Rattle.std.proofs.Common.{◌≡◌, ℕ, ◌<◌, inl, inr, ◌⊎◌, Bool, true, false, not, cond, nat_eq, List, [], ◌∷◌, ◌++◌, map, filter, fold, length, refl, sym, ◌∙◌, subst}
use Rattle.std.specs.List.{flat_map}
use Rattle.std.proofs.lemmas.Bool.{eqb-true, eq-eqb}
use Rattle.std.proofs.lemmas.List.{length-map, get_or-map}
use Rattle.ent_types.specs.declared.type_info.TypeInfo.{TypeInfo}
use Rattle.ent_types.specs.TypeLookups.{is_shared_at, is_enableable_at}
use Rattle.ent_types.specs.TypeSets.{has_type}
use Rattle.world_model.specs.Fits.{Fits}
use Rattle.world_model.specs.Lawful.{AreLawfulCells, IsLawfulRow}
use Rattle.world_model.specs.Members.{In, IsRising, AreDistinct}
use Rattle.world_model.specs.Row.{Row, Cell, cell_type}
use Rattle.world_model.specs.World.{Home}
use Rattle.world_laws.proofs.Members.{in_map}
use Rattle.world_laws.proofs.Types.{filter_rising}
use Rattle.block_columns.specs.Types.{TypeState, Content, blank_cell, cell_in}
use Rattle.chunk_block.specs.Blocks.{BlockType, column_types, content_of, content_at, with_content, no_row, row_in, given_rows, lent_piece}
use Rattle.block_laws.proofs.Rows.{put_cell, rows_count}
use Rattle.world_places.proofs.Marks.{rising_distinct}
use Rattle.world_rows.proofs.Effects.{each_types}
use Rattle.world_loans.specs.Fitting.{FitsType, AreFitting}
use Rattle.world_loans.proofs.Cells.{given, cells_given, given_keeps}
use Rattle.world_loans.proofs.Returned.{each_row, row_back, row_member}

-- ---- rows to which pieces came back

pub cells_distinct : (registry : List TypeInfo) (types : List ℕ) (cs : List Cell) → IsRising types → AreLawfulCells registry types cs → AreDistinct (map cell_type cs)
cells_distinct registry types cs rising lawful = subst AreDistinct (sym lawful.types_are) (rising_distinct _ (filter_rising _ types rising))

module _ (registry : List TypeInfo) where
  given_lawful : (types : List ℕ) (k : ℕ) (ps : List TypeState) (cs : List Cell) → IsRising types → AreLawfulCells registry types cs
      → ((p : TypeState) → In p ps → FitsType registry p.shape.ty.0 (cell_in k p.cells)) → AreLawfulCells registry types (fold (put_cell k) cs ps)
  given_lawful types k ps cs rising lawful fit =
      subst (AreLawfulCells registry types) (sym (cells_given k ps cs (cells_distinct registry types cs rising lawful)))
      (record {
        types_are = each_types (given k ps) cs ∙ lawful.types_are;
        fit = λ c i. let (d, j, same) = in_map put c cs i in subst (λ (e : Cell). Fits registry e.type_id e.values) (sym same) (fits d j).0;
        off = λ c i. let (d, j, same) = in_map put c cs i in subst (λ (e : Cell). e.off ≡ true → is_enableable_at registry e.type_id ≡ true) (sym same) (fits d j).1;
      })
    where
      put : Cell → Cell
      put c = with_content (given k ps c.type_id (content_of c)) c

      fits : (d : Cell) → In d cs → FitsType registry d.type_id (given k ps d.type_id (content_of d))
      fits d j =
          given_keeps (FitsType registry d.type_id) k ps d.type_id (content_of d) (lawful.fit d j, lawful.off d j)
          (λ p i same. subst (λ t. FitsType registry t (cell_in k p.cells)) same (fit p i))

  -- the pieces have a cell for each row
  pub rows_lawful : (home : Home) (ps : List TypeState) (rows : List Row) → ((r : Row) → In r rows → IsLawfulRow registry (record { home = home; row = r }))
      → AreFitting registry ps → ((p : TypeState) → In p ps → length p.cells ≡ length rows) → (r : Row) → In r (fold given_rows rows ps) → IsLawfulRow registry (record { home = home; row = r })
  rows_lawful home ps rows lawful fit long =
      each_row (λ r. IsLawfulRow registry (record { home = home; row = r })) (fold given_rows rows ps) (λ k below.
      let within : k < length rows = subst (λ n. k < n) (rows_count ps rows) below in
      let old = lawful (row_in k rows) (row_member k rows within) in
      subst (λ (r : Row). IsLawfulRow registry (record { home = home; row = r })) (sym (row_back ps rows k within))
      (record {
        home = old.home;
        cells = given_lawful home.types k ps (row_in k rows).cells old.home.types old.cells (λ p i. fit p i k (subst (λ n. k < n) (sym (long p i)) within));
        version = old.version;
      }))

-- ---- loans of lawful rows

content_holds : (P : ℕ → Content → Type 0) (cs : List Cell) (t : ℕ) → ((c : Cell) → In c cs → P c.type_id (content_of c)) → In t (map cell_type cs) → P t (content_at t cs)
content_holds P [] t holds i = absurd i
content_holds P (c ∷ cs) t holds i = by (nat_eq c.type_id t) refl i (λ j. content_holds P cs t (λ d k. holds d (inr k)) j)
  where
    by : (b : Bool) → nat_eq c.type_id t ≡ b → (t ≡ c.type_id) ⊎ In t (map cell_type cs) → (In t (map cell_type cs) → P t (content_at t cs)) → P t (cond b (content_of c) (content_at t cs))
    by true is j rest = subst (λ u. P u (content_of c)) (eqb-true c.type_id t is) (holds c (inl refl))
    by false is (inl same) rest = absurd (cc (sym is ∙ eq-eqb c.type_id t (sym same)))
    by false is (inr j) rest = rest j

module _ (registry : List TypeInfo) (types us : List ℕ) (cap : ℕ) (rows : List Row) (lawful : (r : Row) → In r rows → AreLawfulCells registry types r.cells) where
  pub lent_fits : (xs : List BlockType) → ((t : ℕ) → In t (column_types xs) → In t (filter (λ u. not (is_shared_at registry u)) types)) → AreFitting registry (flat_map (lent_piece us cap rows) xs)
  lent_fits [] own y i k below = absurd i
  lent_fits (x ∷ xs) own y i k below = by (has_type us x.shape.ty.0) i (λ j. lent_fits xs (λ t h. own t (inr h)) y j k below)
    where
      one : TypeState
      one = record { shape = x.shape; capacity = cap; cells = map (λ r. content_at x.shape.ty.0 r.cells) rows }

      here : k < length one.cells → FitsType registry x.shape.ty.0 (cell_in k one.cells)
      here under =
          let within : k < length rows = subst (λ n. k < n) (length-map rows (λ (r : Row). content_at x.shape.ty.0 r.cells)) under in
          let cells = lawful (row_in k rows) (row_member k rows within) in
          subst (FitsType registry x.shape.ty.0) (sym (get_or-map (λ (r : Row). content_at x.shape.ty.0 r.cells) rows k no_row blank_cell within))
          (content_holds (FitsType registry) (row_in k rows).cells x.shape.ty.0 (λ c j. (cells.fit c j, cells.off c j))
          (subst (In x.shape.ty.0) (sym cells.types_are) (own x.shape.ty.0 (inl refl))))

      by : (b : Bool) → In y (cond b (one ∷ []) [] ++ flat_map (lent_piece us cap rows) xs) → (In y (flat_map (lent_piece us cap rows) xs) → FitsType registry y.shape.ty.0 (cell_in k y.cells))
          → FitsType registry y.shape.ty.0 (cell_in k y.cells)
      by true (inl same) rest =
          subst (λ (z : TypeState). FitsType registry z.shape.ty.0 (cell_in k z.cells)) (sym same) (here (subst (λ (z : TypeState). k < length z.cells) same below))
      by true (inr j) rest = rest j
      by false j rest = rest j
