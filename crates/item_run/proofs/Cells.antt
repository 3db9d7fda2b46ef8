-- The cells of a row to which pieces came back, and what a text sees in them.
use Rattle.std.proofs.Common.{ℕ, pos, ◌≡◌, ◌∙◌, ◌||◌, ◌&&◌, Bool, true, false, not, cond, nat_eq, sym, ap, refl, subst, List, [], ◌∷◌, map, Option, Some, None, slice_get, unwrap_or}
use Rattle.std.specs.Bool.{MatchBool}
use Rattle.std.specs.Option.{option_or}
use Rattle.std.specs.Prelude.{option_and_then, option_map}
use Rattle.std.proofs.lemmas.Bool.{eqb-true}
use Rattle.std.proofs.lemmas.Option.{unwrap_or-slice_get}
use Rattle.ent_types.specs.declared.entity.Entity.{Entity}
use Rattle.ent_types.specs.declared.entity.TypeId.{TypeId}
use Rattle.ent_types.specs.declared.type_info.TypeInfo.{TypeInfo}
use Rattle.ent_types.specs.declared.value.Value.{Value}
use Rattle.ent_types.specs.declared.value.Value.TheVariants.{Int}
use Rattle.ent_types.specs.TypeLookups.{is_enableable_at}
use Rattle.ent_types.specs.TypeSets.{has_type}
use Rattle.world_model.specs.Found.{cell_at, part_at}
use Rattle.world_model.specs.Row.{Cell, cell_type}
use Rattle.world_model.specs.World.{Home}
use Rattle.block_columns.specs.Columns.{value_at}
use Rattle.block_columns.specs.Types.{Content, TypeState, blank_cell, cell_in}
use Rattle.block_laws.specs.Lending.{piece_types}
use Rattle.block_laws.proofs.Rows.{or_parts}
use Rattle.chunk_block.specs.Blocks.{AreDistinct, content_at, content_of, with_content}
use Rattle.chunk_block.specs.Pieces.{OfPiece}
use Rattle.world_rows.proofs.Effects.{each_cell}
use Rattle.world_loans.proofs.Cells.{given}
use Rattle.query_select.proofs.Off.{cells_off}
use Rattle.run_model.specs.Job.{Spot, own_of}

-- ---- cells that are changed by their types

module _ (g : ℕ → Content → Content) (t : ℕ) where
  pub content_each : (cs : List Cell) → has_type (map cell_type cs) t ≡ true → content_at t (each_cell g cs) ≡ g t (content_at t cs)
  content_each [] has = absurd (cc has)
  content_each (c ∷ cs) has = by (nat_eq c.type_id t) refl has (content_each cs)
    where
      by : (b : Bool) → nat_eq c.type_id t ≡ b → (b || has_type (map cell_type cs) t) ≡ true → (has_type (map cell_type cs) t ≡ true → content_at t (each_cell g cs) ≡ g t (content_at t cs))
          → cond b (content_of (with_content (g c.type_id (content_of c)) c)) (content_at t (each_cell g cs)) ≡ g t (cond b (content_of c) (content_at t cs))
      by true is has rest = ap (λ u. g u (content_of c)) (eqb-true c.type_id t is)
      by false is has rest = rest has

  -- a type that isn't changed
  pub content_kept : ((x : Content) → g t x ≡ x) → (cs : List Cell) → content_at t (each_cell g cs) ≡ content_at t cs
  content_kept same [] = refl
  content_kept same (c ∷ cs) = by (nat_eq c.type_id t) refl (content_kept same cs)
    where
      by : (b : Bool) → nat_eq c.type_id t ≡ b → content_at t (each_cell g cs) ≡ content_at t cs
          → cond b (content_of (with_content (g c.type_id (content_of c)) c)) (content_at t (each_cell g cs)) ≡ cond b (content_of c) (content_at t cs)
      by true is rest = ap (λ u. g u (content_of c)) (eqb-true c.type_id t is) ∙ same (content_of c)
      by false is rest = rest

pub content_none : (t : ℕ) (cs : List Cell) → has_type (map cell_type cs) t ≡ false → content_at t cs ≡ blank_cell
content_none t [] none = refl
content_none t (c ∷ cs) none =
    let parts = or_parts (nat_eq c.type_id t) (has_type (map cell_type cs) t) none in
    ap (λ b. cond b (content_of c) (content_at t cs)) parts.0 ∙ content_none t cs parts.1

-- ---- pieces that came back

module _ (k t : ℕ) where
  pub given_lacks : (ps : List TypeState) (c : Content) → has_type (piece_types ps) t ≡ false → given k ps t c ≡ c
  given_lacks [] c lacks = refl
  given_lacks (p ∷ ps) c lacks =
      let parts = or_parts (nat_eq p.shape.ty.0 t) (has_type (piece_types ps) t) lacks in
      ap (λ b. given k ps t (cond b (cell_in k p.cells) c)) parts.0 ∙ given_lacks ps c parts.1

  -- the cell of a type of which there is one piece is that of the piece
  pub given_piece : (r : TypeState) (ps : List TypeState) (c : Content) → AreDistinct (piece_types ps) → OfPiece t (λ y. r ≡ y) ps → given k ps t c ≡ cell_in k r.cells
  given_piece r [] c once is = absurd is
  given_piece r (p ∷ ps) c once is = by (nat_eq p.shape.ty.0 t) refl is (λ d h. given_piece r ps d once.1 h)
    where
      by : (b : Bool) → nat_eq p.shape.ty.0 t ≡ b → MatchBool b (r ≡ p) (OfPiece t (λ y. r ≡ y) ps) → ((d : Content) → OfPiece t (λ y. r ≡ y) ps → given k ps t d ≡ cell_in k r.cells)
          → given k ps t (cond b (cell_in k p.cells) c) ≡ cell_in k r.cells
      by true here same rest =
          given_lacks ps (cell_in k p.cells) (subst (λ u. has_type (piece_types ps) u ≡ false) (eqb-true p.shape.ty.0 t here) once.0)
          ∙ ap (λ (y : TypeState). cell_in k y.cells) (sym same)
      by false here h rest = rest c h

-- ---- what a text sees

module _ (registry : List TypeInfo) (spot : Spot) (home : Home) (me : Entity) where
  abbrev field_in : ℕ → ℕ → Option Cell → Value
  field_in t i o = unwrap_or (option_and_then (λ values. slice_get values i) (option_or (option_map (λ (c : Cell). c.values) o) (part_at t home.shared))) (Int (pos 0))

  -- a type of which there is a cell
  pub field_own : (ty : TypeId) (i : ℕ) (cs : List Cell) → has_type (map cell_type cs) ty.0 ≡ true → (own_of registry spot home me cs).field ty i ≡ value_at i (content_at ty.0 cs).values
  field_own ty i [] has = absurd (cc has)
  field_own ty i (c ∷ cs) has = by (nat_eq c.type_id ty.0) has (field_own ty i cs)
    where
      by : (b : Bool) → (b || has_type (map cell_type cs) ty.0) ≡ true → (has_type (map cell_type cs) ty.0 ≡ true → field_in ty.0 i (cell_at ty.0 cs) ≡ value_at i (content_at ty.0 cs).values)
          → field_in ty.0 i (cond b (Some c) (cell_at ty.0 cs)) ≡ value_at i (let d : Content = cond b (content_of c) (content_at ty.0 cs) in d).values
      by true has rest = unwrap_or-slice_get c.values i (Int (pos 0))
      by false has rest = rest has

  cell_none : (t : ℕ) (cs : List Cell) → has_type (map cell_type cs) t ≡ false → cell_at t cs ≡ None
  cell_none t [] none = refl
  cell_none t (c ∷ cs) none =
      let parts = or_parts (nat_eq c.type_id t) (has_type (map cell_type cs) t) none in
      ap (λ b. cond b (Some c) (cell_at t cs)) parts.0 ∙ cell_none t cs parts.1

  -- a shared type
  pub field_shared : (ty : TypeId) (i : ℕ) (cs : List Cell) (vs : List Value) → has_type (map cell_type cs) ty.0 ≡ false → part_at ty.0 home.shared ≡ Some vs
      → (own_of registry spot home me cs).field ty i ≡ value_at i vs
  field_shared ty i cs vs none shared =
      ap (field_in ty.0 i) (cell_none ty.0 cs none)
      ∙ (ap (λ o. unwrap_or (option_and_then (λ values. slice_get values i) o) (Int (pos 0))) shared
      ∙ unwrap_or-slice_get vs i (Int (pos 0)))

  -- a type is on if it is there and isn't disabled
  pub on_is : (ty : TypeId) (cs : List Cell) → AreDistinct (map cell_type cs)
      → (own_of registry spot home me cs).on ty ≡ (has_type home.types ty.0 && not (is_enableable_at registry ty.0 && (content_at ty.0 cs).off))
  on_is ty cs once = ap (λ b. has_type home.types ty.0 && not (is_enableable_at registry ty.0 && b)) (cells_off ty.0 cs once)
