-- What the line of a row says of a type, by what its block and its store have.
use Rattle.std.proofs.Common.{ℕ, ◌≡◌, ◌∙◌, Bool, true, false, cond, nat_eq, sym, ap, ap₂, refl, subst, List, [], ◌∷◌, ◌++◌, codes, map, Some, option_map}
use Rattle.std.specs.Bool.{MatchBool}
use Rattle.std.specs.List.{flat_map}
use Rattle.std.specs.Prelude.{unwrap_or}
use Rattle.std.proofs.Math.ListN.{get_or-map}
use Rattle.ent_types.specs.declared.type_info.TypeInfo.{TypeInfo}
use Rattle.ent_types.specs.declared.value.Value.{Value}
use Rattle.ent_types.specs.TypeLookups.{is_shared_at}
use Rattle.world_model.specs.Found.{Found, cell_at, part_at}
use Rattle.world_model.specs.Fits.{Fits}
use Rattle.world_model.specs.Members.{In}
use Rattle.world_model.specs.Row.{Row, Cell}
use Rattle.block_columns.specs.declared.shape.TypeShape.{TypeShape}
use Rattle.block_columns.specs.Types.{Content, cell_in}
use Rattle.chunk_block.specs.Blocks.{BlockType, Lacks, OfType, content_at, content_of, no_row, row_in, shape_of}
use Rattle.archetype_store.specs.Stores.{Numbered}
use Rattle.world_rows.specs.Reading.{CanRead, found_at}
use Rattle.world_rows.proofs.ByType.{own_fit, shape_is}
use Rattle.world_rows.proofs.Fitting.{of_type_new}
use Rattle.world_rows.proofs.Reading.{cell_own, no_cell}
use Rattle.structural_ops.proofs.Readable.{read_own, read_shared}
use Rattle.world_text.specs.Lines.{entity_text, part_text, row_line, type_text}

-- whether the first cell of a type is disabled
off_content : (t : ℕ) (cells : List Cell) → (content_at t cells).off ≡ unwrap_or (option_map (λ (c : Cell). c.off) (cell_at t cells)) false
off_content t [] = refl
off_content t (c ∷ cs) = by (nat_eq c.type_id t) (off_content t cs)
  where
    by : (b : Bool) → (content_at t cs).off ≡ unwrap_or (option_map (λ (d : Cell). d.off) (cell_at t cs)) false
        → (let d : Content = cond b (content_of c) (content_at t cs) in d).off ≡ unwrap_or (option_map (λ (d : Cell). d.off) (cond b (Some c) (cell_at t cs))) false
    by true rest = refl
    by false rest = rest

-- a type that is there isn't lacking
there_not_lacks : (t : ℕ) (P : TypeShape → Type 0) (columns : List BlockType) → OfType t P columns → Lacks t columns → ⊥
there_not_lacks t P [] is lacks = is
there_not_lacks t P (x ∷ xs) is lacks = by (nat_eq x.shape.ty.0 t) is lacks (there_not_lacks t P xs)
  where
    by : (b : Bool) → MatchBool b ((x.lent ≡ false) × P x.shape) (OfType t P xs) → MatchBool b (x.lent ≡ true) (Lacks t xs) → (OfType t P xs → Lacks t xs → ⊥) → ⊥
    by true is lacks rest = let no_way : false ≡ true = sym is.0 ∙ lacks in cc
    by false is lacks rest = rest is lacks

module _ (registry : List TypeInfo) (k t : ℕ) (b : Numbered) (can : CanRead registry k b) (i : In t b.block.types) where
  -- a shared type
  pub shared_text : is_shared_at registry t ≡ true → (vs : List Value) → part_at t b.shared ≡ Some vs → part_text registry t false vs ≡ type_text registry (found_at k b) t
  shared_text shared vs is =
      ap₂ (λ off values. part_text registry t off values)
      (sym (ap (λ o. unwrap_or (option_map (λ (c : Cell). c.off) o) false)
      (no_cell registry (found_at k b) can.lawful t shared (row_in k b.block.rows).cells (cell_own registry (found_at k b) can.lawful))))
      (read_shared registry k t b can i shared vs is)

  -- a type of the row's own
  module _ (own : is_shared_at registry t ≡ false) where
    pub own_text : part_text registry t (content_at t (row_in k b.block.rows).cells).off (content_at t (row_in k b.block.rows).cells).values ≡ type_text registry (found_at k b) t
    own_text =
        ap₂ (λ off values. part_text registry t off values) (off_content t (row_in k b.block.rows).cells) (sym (read_own registry k t b can i own))

    pub not_lacks : Lacks t b.block.columns → ⊥
    not_lacks lacks =
        there_not_lacks t (λ shape. shape_of registry t ≡ shape) b.block.columns
        (subst (OfType t (λ shape. shape_of registry t ≡ shape)) (sym can.columns) (of_type_new registry t (λ shape. shape_of registry t ≡ shape) b.block.types i own refl)) lacks

    pub own_shape : (shape : TypeShape) → OfType t (λ s. shape ≡ s) b.block.columns → shape ≡ shape_of registry t
    own_shape shape is = shape_is registry t b.block.types (λ s. shape ≡ s) i own (subst (OfType t (λ s. shape ≡ s)) can.columns is)

    -- the row's cell among those of the type
    module _ (cells : List Content) (are : cells ≡ map (λ (r : Row). content_at t r.cells) b.block.rows) where
      pub cell_is : cell_in k cells ≡ content_at t (row_in k b.block.rows).cells
      cell_is = ap (cell_in k) are ∙ get_or-map (λ (r : Row). content_at t r.cells) b.block.rows k no_row

      pub cell_fits : Fits registry t (cell_in k cells).values
      cell_fits = subst (λ (c : Content). Fits registry t c.values) (sym cell_is) (own_fit registry (found_at k b) can.lawful t i own)

      pub own_text_read : part_text registry t (cell_in k cells).off (cell_in k cells).values ≡ type_text registry (found_at k b) t
      own_text_read = ap (λ (c : Content). part_text registry t c.off c.values) cell_is ∙ own_text

-- the pieces of a row's line
pub row_line-is : (registry : List TypeInfo) (x : Found) → row_line registry x ≡ entity_text x.row.entity ++ (flat_map (type_text registry x) x.home.types ++ (cond x.row.dying (codes " dying") [] ++ codes "\n"))
unfolding row_line
row_line-is registry x = refl
