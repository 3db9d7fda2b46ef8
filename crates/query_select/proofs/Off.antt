-- Whether a type is disabled in a row: as a block tells it, and by the definitions of a run.
use Rattle.std.proofs.Common.{◌≡◌, ℕ, ◌<◌, nat_eq, Bool, true, false, ◌&&◌, ◌||◌, cond, List, [], ◌∷◌, ◌++◌, map, length, refl, sym, ap, ap₂, ◌∙◌, subst, arith, zero, suc}
use Rattle.std.specs.List.{list_any}
use Rattle.std.specs.Bool.{MatchBool}
use Rattle.std.proofs.lemmas.Bool.{eqb-true, or_parts, and_right}
use Rattle.ent_types.specs.declared.type_info.TypeInfo.{TypeInfo}
use Rattle.ent_types.specs.Registries.{type_at}
use Rattle.ent_types.specs.Types.{is_shared}
use Rattle.ent_types.specs.TypeLookups.{is_enableable_at}
use Rattle.ent_types.specs.TypeSets.{has_type}
use Rattle.world_model.specs.Row.{Row, Cell, cell_type}
use Rattle.block_columns.specs.declared.shape.TypeShape.{TypeShape}
use Rattle.chunk_block.specs.Blocks.{BlockState, BlockType, AreDistinct, HaveTypes, column_types, content_at, content_of, is_off as is_off_row, new_types, row_in, shape_of, IsWhole, Lacks, OfType}
use Rattle.block_columns.specs.Types.{Content, cell_in}
use Rattle.archetype_store.specs.Stores.{shape_list}
use Rattle.run_model.specs.Query.{is_off}
use Rattle.query_select.specs.Rows.{is_enableable_in, is_off_in}

abbrev pub is_off_cell : ℕ → Cell → Bool
is_off_cell t c = nat_eq c.type_id t && c.off

-- ---- cells

none_off : (t : ℕ) (cells : List Cell) → has_type (map cell_type cells) t ≡ false → list_any (is_off_cell t) cells ≡ false
none_off t [] h = refl
none_off t (c ∷ cs) h =
    let parts = or_parts (nat_eq c.type_id t) (has_type (map cell_type cs) t) h in
    ap (λ b. (b && c.off) || list_any (is_off_cell t) cs) parts.0 ∙ none_off t cs parts.1

-- among cells of which each type is there once, one that is disabled is the first of its type
pub cells_off : (t : ℕ) (cells : List Cell) → AreDistinct (map cell_type cells) → list_any (is_off_cell t) cells ≡ (content_at t cells).off
cells_off t [] h = refl
cells_off t (c ∷ cs) h = by (nat_eq c.type_id t) refl (cells_off t cs h.1)
  where
    or_false : (b : Bool) → (b || false) ≡ b
    or_false true = refl
    or_false false = refl

    by : (b : Bool) → nat_eq c.type_id t ≡ b → list_any (is_off_cell t) cs ≡ (content_at t cs).off
        → ((b && c.off) || list_any (is_off_cell t) cs) ≡ (let d : Content = cond b (content_of c) (content_at t cs) in d).off
    by true e rest =
        ap (λ r. c.off || r) (none_off t cs (subst (λ u. has_type (map cell_type cs) u ≡ false) (eqb-true c.type_id t e) h.0)) ∙ or_false c.off
    by false e rest = rest

-- ---- the types of a block

abbrev shape_types : List TypeShape → List ℕ
shape_types shapes = map (λ (x : TypeShape). x.ty.0) shapes

none_enableable : (t : ℕ) (shapes : List TypeShape) → has_type (shape_types shapes) t ≡ false → is_enableable_in shapes t ≡ false
none_enableable t [] h = refl
none_enableable t (x ∷ xs) h =
    let parts = or_parts (nat_eq x.ty.0 t) (has_type (shape_types xs) t) h in
    ap (λ b. cond b x.enableable (is_enableable_in xs t)) parts.0 ∙ none_enableable t xs parts.1

new_enableable : (registry : List TypeInfo) (t : ℕ) (types : List ℕ) → has_type (shape_types (shape_list (new_types registry types))) t ≡ true
    → is_enableable_in (shape_list (new_types registry types)) t ≡ is_enableable_at registry t
new_enableable registry t [] h = absurd (cc)
new_enableable registry t (u ∷ us) h = by (is_shared (type_at registry u).kind) (nat_eq u t) refl h (new_enableable registry t us)
  where
    here : Bool → List BlockType
    here s = cond s [] (record { shape = shape_of registry u; lent = false } ∷ [])

    by : (s b : Bool) → nat_eq u t ≡ b → has_type (shape_types (shape_list (here s ++ new_types registry us))) t ≡ true
        → (has_type (shape_types (shape_list (new_types registry us))) t ≡ true → is_enableable_in (shape_list (new_types registry us)) t ≡ is_enableable_at registry t)
        → is_enableable_in (shape_list (here s ++ new_types registry us)) t ≡ is_enableable_at registry t
    by true b e h rest = rest h
    by false true e h rest =
        ap (λ b. cond b (is_enableable_at registry u) (is_enableable_in (shape_list (new_types registry us)) t)) e ∙ ap (is_enableable_at registry) (eqb-true u t e)
    by false false e h rest =
        ap (λ b. cond b (is_enableable_at registry u) (is_enableable_in (shape_list (new_types registry us)) t)) e
        ∙ rest (sym (ap (λ b. b || has_type (shape_types (shape_list (new_types registry us))) t) e) ∙ h)

types_of_shapes : (columns : List BlockType) → shape_types (shape_list columns) ≡ column_types columns
types_of_shapes [] = refl
types_of_shapes (x ∷ xs) = ap (λ ts. x.shape.ty.0 ∷ ts) (types_of_shapes xs)

-- the cells of a row have the types of the block
row_types : (types : List ℕ) (rows : List Row) (k : ℕ) → HaveTypes types rows → k < length rows → map cell_type (row_in k rows).cells ≡ types
row_types types [] k have below = absurd (omega arith)
row_types types (r ∷ rs) zero have below = have.0
row_types types (r ∷ rs) (suc k) have below = row_types types rs k have.1 (omega arith)

module _ (registry : List TypeInfo) (b : BlockState) (distinct : AreDistinct (column_types b.columns)) (have : HaveTypes (column_types b.columns) b.rows)
    (shapes : shape_list b.columns ≡ shape_list (new_types registry b.types)) where
  -- what a block tells of a row is what the definitions say of it
  pub off_same : (k t : ℕ) → k < length b.rows → is_off_in b k t ≡ is_off registry t (row_in k b.rows).cells
  off_same k t below = by (has_type (column_types b.columns) t) refl
    where
      cells : List Cell
      cells = (row_in k b.rows).cells

      types : map cell_type cells ≡ column_types b.columns
      types = row_types (column_types b.columns) b.rows k have below

      off : list_any (is_off_cell t) cells ≡ is_off_row t (row_in k b.rows)
      off = cells_off t cells (subst AreDistinct (sym types) distinct)

      by : (h : Bool) → has_type (column_types b.columns) t ≡ h → is_off_in b k t ≡ is_off registry t cells
      by true h =
          ap₂ (λ e o. e && o)
          (ap (λ xs. is_enableable_in xs t) shapes
          ∙ new_enableable registry t b.types (ap (λ xs. has_type (shape_types xs) t) (sym shapes) ∙ ap (λ ts. has_type ts t) (types_of_shapes b.columns) ∙ h))
          (sym off)
      by false h =
          ap (λ e. e && is_off_row t (row_in k b.rows)) (none_enableable t (shape_list b.columns) (ap (λ ts. has_type ts t) (types_of_shapes b.columns) ∙ h))
          ∙ sym (and_right (is_enableable_at registry t) (list_any (is_off_cell t) cells) (none_off t cells (ap (λ ts. has_type ts t) types ∙ h)))

-- ---- one type of a block

pub lacks_enableable : (t : ℕ) (columns : List BlockType) → IsWhole columns → Lacks t columns → is_enableable_in (shape_list columns) t ≡ false
lacks_enableable t [] whole lacks = refl
lacks_enableable t (x ∷ xs) whole lacks = by (nat_eq x.shape.ty.0 t) lacks (lacks_enableable t xs whole.1)
  where
    by : (b : Bool) → MatchBool b (x.lent ≡ true) (Lacks t xs) → (Lacks t xs → is_enableable_in (shape_list xs) t ≡ false)
        → cond b x.shape.enableable (is_enableable_in (shape_list xs) t) ≡ false
    by true lent rest = absurd (cc (sym lent ∙ whole.0))
    by false lacks rest = rest lacks

pub shape_enableable : (t : ℕ) (shape : TypeShape) (columns : List BlockType) → OfType t (λ s. shape ≡ s) columns → is_enableable_in (shape_list columns) t ≡ shape.enableable
shape_enableable t shape [] of = absurd of
shape_enableable t shape (x ∷ xs) of = by (nat_eq x.shape.ty.0 t) of (shape_enableable t shape xs)
  where
    by : (b : Bool) → MatchBool b ((x.lent ≡ false) × (shape ≡ x.shape)) (OfType t (λ s. shape ≡ s) xs)
        → (OfType t (λ s. shape ≡ s) xs → is_enableable_in (shape_list xs) t ≡ shape.enableable) → cond b x.shape.enableable (is_enableable_in (shape_list xs) t) ≡ shape.enableable
    by true is rest = ap (λ (s : TypeShape). s.enableable) (sym is.1)
    by false of rest = rest of

-- the bit of a row among the cells of its type
pub cell_off : (t : ℕ) (rows : List Row) (k : ℕ) → cell_in k (map (λ (r : Row). content_at t r.cells) rows) ≡ content_at t (row_in k rows).cells
cell_off t [] k = refl
cell_off t (r ∷ rs) zero = refl
cell_off t (r ∷ rs) (suc k) = cell_off t rs k
