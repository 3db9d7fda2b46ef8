-- What is read of a row whose block lends other types.
use Rattle.std.proofs.Common.{ℕ, ◌≡◌, ◌<◌, ◌∙◌, inl, inr, Bool, true, false, not, ◌||◌, cond, nat_eq, sym, ap, ap₂, refl, subst, List, [], ◌∷◌, length, map, Option, Some, None, slice_get, arith}
use Rattle.std.specs.Bool.{MatchBool}
use Rattle.std.specs.Option.{option_or, IsSome}
use Rattle.std.specs.Prelude.{is_some, option_map, option_and_then, unwrap_or}
use Rattle.std.proofs.lemmas.Bool.{eqb-true, eq-eqb}
use Rattle.std.proofs.lemmas.List.{get_or-map, length-map}
use Rattle.ent_types.specs.declared.type_info.TypeInfo.{TypeInfo}
use Rattle.ent_types.specs.declared.value.Value.{Value}
use Rattle.ent_types.specs.TypeLookups.{fields_at, is_buffer_at, is_shared_at}
use Rattle.ent_types.specs.TypeSets.{has_type}
use Rattle.ent_types.specs.Registries.{type_at}
use Rattle.ent_types.specs.Types.{is_buffer, is_shared}
use Rattle.ent_types.specs.declared.kinds.Kind.{Kind}
use Rattle.ent_types.specs.declared.kinds.Kind.TheVariants.{Plain, Tag, Shared, Cleanup, Buffer}
use Rattle.world_model.specs.Found.{Found, cell_at, part_at, values_of}
use Rattle.world_model.specs.Members.{In}
use Rattle.world_model.specs.Part.{PartOf}
use Rattle.world_model.specs.Row.{Row, Cell, cell_type}
use Rattle.world_laws.proofs.Members.{find_in, find_map, find_passes, map_in}
use Rattle.world_laws.proofs.Types.{has_in}
use Rattle.block_columns.specs.Types.{blank_cell}
use Rattle.block_columns.specs.declared.shape.TypeShape.{TypeShape}
use Rattle.chunk_block.specs.Blocks.{BlockType, OfType, content_at, lent_cell, lent_row, lent_type, no_row, row_in, shape_of, with_content}
use Rattle.archetype_store.specs.Stores.{Numbered, OfNumber}
use Rattle.world_places.proofs.Numbers.{of_both}
use Rattle.world_rows.specs.Reading.{CanRead, found_at}
use Rattle.world_rows.specs.Rows.{own_types}
use Rattle.world_rows.proofs.ByType.{cell_content, cell_there, own_length, own_values, shape_is, shared_is, shared_there, values_lack}
use Rattle.world_loans.specs.Plans.{lent_by}
use Rattle.structural_ops.specs.Readable.{CanFind, CanReadType}
use Rattle.structural_ops.proofs.Readable.{has_shape}

-- ---- cells

lent_type_id : (lent : List ℕ) (c : Cell) → (lent_cell lent c).type_id ≡ c.type_id
lent_type_id lent c = by (has_type lent c.type_id)
  where
    by : (b : Bool) → (cond b (with_content blank_cell c) c).type_id ≡ c.type_id
    by true = refl
    by false = refl

pub cell_lent : (lent : List ℕ) (t : ℕ) (cs : List Cell) → cell_at t (map (lent_cell lent) cs) ≡ option_map (lent_cell lent) (cell_at t cs)
cell_lent lent t cs = find_map (λ (c : Cell). nat_eq c.type_id t) (lent_cell lent) (λ c. ap (λ u. nat_eq u t) (lent_type_id lent c)) cs

-- a type that isn't lent
pub cell_held : (lent : List ℕ) (t : ℕ) (cs : List Cell) → (In t (map cell_type cs) → has_type lent t ≡ false) → cell_at t (map (lent_cell lent) cs) ≡ cell_at t cs
cell_held lent t cs held = cell_lent lent t cs ∙ by (cell_at t cs) refl
  where
    by : (o : Option Cell) → cell_at t cs ≡ o → option_map (lent_cell lent) o ≡ o
    by None is = refl
    by (Some c) is =
        let same : c.type_id ≡ t = eqb-true c.type_id t (find_passes (λ (d : Cell). nat_eq d.type_id t) c cs is) in
        let there : In t (map cell_type cs) = subst (λ u. In u (map cell_type cs)) same (map_in cell_type c cs (find_in (λ (d : Cell). nat_eq d.type_id t) c cs is)) in
        ap (λ b. Some (cond b (with_content blank_cell c) c)) (ap (has_type lent) same ∙ held there)

-- ---- rows

module _ (registry : List TypeInfo) (k : ℕ) (whole : Numbered) (lent : List ℕ) (can : CanRead registry k whole) where
  abbrev b : Numbered
  b = lent_by (λ _. lent) whole

  abbrev x : Found
  x = found_at k whole

  pub row_lent : row_in k b.block.rows ≡ lent_row lent (row_in k whole.block.rows)
  row_lent = get_or-map (lent_row lent) whole.block.rows k no_row no_row can.there

  -- whether a type is there doesn't depend on what is lent
  pub has_lent : (t : ℕ) → is_some (values_of t (found_at k b)) ≡ is_some (values_of t x)
  has_lent t =
      ap (λ (r : Row). is_some (option_or (option_map (λ (c : Cell). c.values) (cell_at t r.cells)) (part_at t whole.shared))) row_lent
      ∙ ap (λ (o : Option Cell). is_some (option_or (option_map (λ (c : Cell). c.values) o) (part_at t whole.shared))) (cell_lent lent t (row_in k whole.block.rows).cells)
      ∙ by (cell_at t (row_in k whole.block.rows).cells)
    where
      by : (o : Option Cell) → is_some (option_or (option_map (λ (c : Cell). c.values) (option_map (lent_cell lent) o)) (part_at t whole.shared))
          ≡ is_some (option_or (option_map (λ (c : Cell). c.values) o) (part_at t whole.shared))
      by None = refl
      by (Some c) = refl

  pub has_is : (t : ℕ) → has_type whole.block.types t ≡ is_some (values_of t (found_at k b))
  has_is t = by (has_type whole.block.types t) refl ∙ sym (has_lent t)
    where
      there : In t whole.block.types → (s : Bool) → is_shared_at registry t ≡ s → is_some (values_of t x) ≡ true
      there i true shared = ap is_some (shared_is registry x can.lawful t shared) ∙ shared_there registry x can.lawful t shared i
      there i false own = ap is_some (own_values registry x can.lawful t i own)

      by : (d : Bool) → has_type whole.block.types t ≡ d → d ≡ is_some (values_of t x)
      by true is = sym (there (has_in t whole.block.types is) (is_shared_at registry t) refl)
      by false is = sym (ap is_some (values_lack registry x can.lawful t (λ i. absurd (cc (sym is ∙ in_has t whole.block.types i)))))
        where
          in_has : (u : ℕ) (ts : List ℕ) → In u ts → has_type ts u ≡ true
          in_has u [] i = absurd i
          in_has u (v ∷ vs) (inl same) = ap (λ e. e || has_type vs u) (eq-eqb v u (sym same))
          in_has u (v ∷ vs) (inr i) = ap (λ e. nat_eq v u || e) (in_has u vs i) ∙ or_true (nat_eq v u)
            where
              or_true : (e : Bool) → (e || true) ≡ true
              or_true true = refl
              or_true false = refl

  -- what is read of a type that isn't lent
  module _ (t : ℕ) (held : In t (own_types registry whole.block.types) → has_type lent t ≡ false) where
    pub cell_same : cell_at t (row_in k b.block.rows).cells ≡ cell_at t (row_in k whole.block.rows).cells
    cell_same =
        ap (λ (r : Row). cell_at t r.cells) row_lent
        ∙ cell_held lent t (row_in k whole.block.rows).cells (λ i. held (subst (In t) can.lawful.cells.types_are i))

    pub values_same : values_of t (found_at k b) ≡ values_of t x
    values_same = ap (λ (o : Option Cell). option_or (option_map (λ (c : Cell). c.values) o) (part_at t whole.shared)) cell_same

-- ---- columns

module _ (t : ℕ) (P : TypeShape → Type 0) (lent : List ℕ) (held : has_type lent t ≡ false) where
  pub of_lent : (xs : List BlockType) → OfType t P xs → OfType t P (map (lent_type lent) xs)
  of_lent [] is = absurd is
  of_lent (x ∷ xs) is = by (nat_eq x.shape.ty.0 t) (has_type lent x.shape.ty.0) refl refl is (of_lent xs)
    where
      by : (d e : Bool) → nat_eq x.shape.ty.0 t ≡ d → has_type lent x.shape.ty.0 ≡ e → MatchBool d ((x.lent ≡ false) × P x.shape) (OfType t P xs) → (OfType t P xs → OfType t P (map (lent_type lent) xs))
          → MatchBool (nat_eq (cond e (record x { lent = true }) x).shape.ty.0 t) (((cond e (record x { lent = true }) x).lent ≡ false) × P (cond e (record x { lent = true }) x).shape) (OfType t P (map (lent_type lent) xs))
      by true true here has is rest = absurd (cc (sym has ∙ ap (has_type lent) (eqb-true x.shape.ty.0 t here) ∙ held))
      by true false here has is rest = subst (λ d. MatchBool d ((x.lent ≡ false) × P x.shape) (OfType t P (map (lent_type lent) xs))) (sym here) is
      by false true here has is rest = subst (λ d. MatchBool d ((true ≡ false) × P x.shape) (OfType t P (map (lent_type lent) xs))) (sym here) (rest is)
      by false false here has is rest = subst (λ d. MatchBool d ((x.lent ≡ false) × P x.shape) (OfType t P (map (lent_type lent) xs))) (sym here) (rest is)

  pub of_unlent : (xs : List BlockType) → OfType t P (map (lent_type lent) xs) → OfType t P xs
  of_unlent [] is = absurd is
  of_unlent (x ∷ xs) is = by (nat_eq x.shape.ty.0 t) (has_type lent x.shape.ty.0) refl refl is (of_unlent xs)
    where
      by : (d e : Bool) → nat_eq x.shape.ty.0 t ≡ d → has_type lent x.shape.ty.0 ≡ e
          → MatchBool (nat_eq (cond e (record x { lent = true }) x).shape.ty.0 t) (((cond e (record x { lent = true }) x).lent ≡ false) × P (cond e (record x { lent = true }) x).shape) (OfType t P (map (lent_type lent) xs))
          → (OfType t P (map (lent_type lent) xs) → OfType t P xs) → MatchBool d ((x.lent ≡ false) × P x.shape) (OfType t P xs)
      by true true here has is rest = absurd (cc (sym has ∙ ap (has_type lent) (eqb-true x.shape.ty.0 t here) ∙ held))
      by true false here has is rest = subst (λ d. MatchBool d ((x.lent ≡ false) × P x.shape) (OfType t P (map (lent_type lent) xs))) here is
      by false true here has is rest = rest (subst (λ d. MatchBool d ((true ≡ false) × P x.shape) (OfType t P (map (lent_type lent) xs))) here is)
      by false false here has is rest = rest (subst (λ d. MatchBool d ((x.lent ≡ false) × P x.shape) (OfType t P (map (lent_type lent) xs))) here is)

-- ---- by what is known of the block

pub none_of : {A B : Type 0} (f : A → Option B) (o : Option A) → false ≡ is_some o → None ≡ option_and_then f o
none_of f None none = refl
none_of f (Some x) none = absurd (cc none)

module _ (registry : List TypeInfo) (k : ℕ) (b : Numbered) (r : CanFind registry k b) where
  pub find_has : (t : ℕ) → has_type b.block.types t ≡ is_some (values_of t (found_at k b))
  find_has t = subst (λ (c : Numbered). has_type c.block.types t ≡ is_some (values_of t (found_at k c))) (sym r.is) (has_is registry k r.whole r.lent r.can t)

  pub find_row : k < length b.block.rows
  find_row = subst (λ (c : Numbered). k < length c.block.rows) (sym r.is) (subst (λ n. k < n) (sym (length-map r.whole.block.rows (lent_row r.lent))) r.can.there)

  -- a type that the registry doesn't know
  pub find_unknown : (t : ℕ) → (t < length registry → ⊥) → false ≡ is_some (values_of t (found_at k b))
  find_unknown t unknown = by (has_type b.block.types t) refl ∙ find_has t
    where
      by : (d : Bool) → has_type b.block.types t ≡ d → false ≡ d
      by false is = refl
      by true is =
          absurd (unknown (r.can.lawful.home.known t (has_in t r.whole.block.types (ap (λ (c : Numbered). has_type c.block.types t) (sym r.is) ∙ is))))

module _ (registry : List TypeInfo) (t k : ℕ) (b : Numbered) (r : CanReadType registry t k b) (there : true ≡ is_some (values_of t (found_at k b))) where
  abbrev w : Numbered
  w = r.row.whole

  has : In t w.block.types
  has = has_in t w.block.types (has_is registry k w r.row.lent r.row.can t ∙ sym (ap (λ (c : Numbered). is_some (values_of t (found_at k c))) r.row.is) ∙ sym there)

  values_are : values_of t (found_at k b) ≡ values_of t (found_at k w)
  values_are = ap (λ (c : Numbered). values_of t (found_at k c)) r.row.is ∙ values_same registry k w r.row.lent r.row.can t r.held

  shared_same : b.shared ≡ w.shared
  shared_same = ap (λ (c : Numbered). c.shared) r.row.is

  pub shared_some : is_shared_at registry t ≡ true → IsSome (part_at t b.shared)
  shared_some shared = subst (λ ps. IsSome (part_at t ps)) (sym shared_same) (shared_there registry (found_at k w) r.row.can.lawful t shared has)

  pub shared_values : is_shared_at registry t ≡ true → values_of t (found_at k b) ≡ part_at t b.shared
  shared_values shared = values_are ∙ shared_is registry (found_at k w) r.row.can.lawful t shared ∙ ap (part_at t) (sym shared_same)

  module _ (own : is_shared_at registry t ≡ false) where
    not_lent : has_type r.row.lent t ≡ false
    not_lent = r.held (own_there w.block.types has)
      where
        own_there : (ts : List ℕ) → In t ts → In t (own_types registry ts)
        own_there [] i = absurd i
        own_there (u ∷ us) (inl same) = subst (λ s. In t (cond (not s) (u ∷ own_types registry us) (own_types registry us))) (sym (ap (is_shared_at registry) (sym same) ∙ own)) (inl same)
        own_there (u ∷ us) (inr i) = by (not (is_shared_at registry u)) (own_there us i)
          where
            by : (d : Bool) → In t (own_types registry us) → In t (cond d (u ∷ own_types registry us) (own_types registry us))
            by true j = inr j
            by false j = j

    content_same : (content_at t (row_in k b.block.rows).cells).values ≡ (content_at t (row_in k w.block.rows).cells).values
    content_same =
        sym (cell_content t (row_in k b.block.rows).cells)
        ∙ ap (λ (c : Numbered). unwrap_or (option_map (λ (d : Cell). d.values) (cell_at t (row_in k c.block.rows).cells)) []) r.row.is
        ∙ ap (λ (o : Option Cell). unwrap_or (option_map (λ (d : Cell). d.values) o) []) (cell_same registry k w r.row.lent r.row.can t r.held)
        ∙ cell_content t (row_in k w.block.rows).cells

    pub own_are : values_of t (found_at k b) ≡ Some (content_at t (row_in k b.block.rows).cells).values
    own_are = values_are ∙ own_values registry (found_at k w) r.row.can.lawful t has own ∙ ap Some (sym content_same)

    pub own_long : is_buffer_at registry t ≡ false → length (content_at t (row_in k b.block.rows).cells).values ≡ length (fields_at registry t)
    own_long plain = ap length content_same ∙ own_length registry (found_at k w) r.row.can.lawful t has own plain

    -- the cell has the values
    pub cell_has : option_map (λ (c : Cell). c.values) (cell_at t (row_in k b.block.rows).cells) ≡ Some (content_at t (row_in k b.block.rows).cells).values
    cell_has =
        ap (λ (c : Numbered). option_map (λ (d : Cell). d.values) (cell_at t (row_in k c.block.rows).cells)) r.row.is
        ∙ ap (option_map (λ (d : Cell). d.values)) (cell_same registry k w r.row.lent r.row.can t r.held ∙ cell_there registry (found_at k w) r.row.can.lawful t has own)
        ∙ ap Some (sym content_same)

    -- its shape in the columns
    pub has_column : (P : TypeShape → Type 0) → P (shape_of registry t) → OfType t P b.block.columns
    has_column P holds =
        subst (λ (c : Numbered). OfType t P c.block.columns) (sym r.row.is)
        (of_lent t P r.row.lent not_lent w.block.columns (has_shape registry k t w r.row.can has own P holds))

    pub of_column : (P : TypeShape → Type 0) → OfType t P b.block.columns → P (shape_of registry t)
    of_column P is =
        shape_is registry t w.block.types P has own
        (subst (OfType t P) r.row.can.columns (of_unlent t P r.row.lent not_lent w.block.columns (subst (λ (c : Numbered). OfType t P c.block.columns) r.row.is is)))

-- the block of a place has a type that isn't lent
abbrev pub HasHeld : List TypeInfo → ℕ → ℕ → Numbered → Type 0
HasHeld registry t k b = CanReadType registry t k b × (true ≡ is_some (values_of t (found_at k b)))

pub has_held : (registry : List TypeInfo) (t n k : ℕ) (bs : List Numbered) → OfNumber n (CanReadType registry t k) bs → OfNumber n (λ b. true ≡ is_some (values_of t (found_at k b))) bs → OfNumber n (HasHeld registry t k) bs
has_held registry t n k bs can there =
    of_both n (CanReadType registry t k) (λ (b : Numbered). true ≡ is_some (values_of t (found_at k b))) (HasHeld registry t k) bs (λ b r h. (r, h)) can there

-- a buffer type isn't shared
pub buffer_own : (registry : List TypeInfo) (t : ℕ) → is_buffer_at registry t ≡ true → is_shared_at registry t ≡ false
buffer_own registry t is = by (type_at registry t).kind is
  where
    by : (kind : Kind) → is_buffer kind ≡ true → is_shared kind ≡ false
    by Plain h = refl
    by Tag h = refl
    by Shared h = absurd (cc h)
    by Cleanup h = refl
    by Buffer h = refl

-- without the type there is no cell
pub no_cell : {A : Type 0} (t k : ℕ) (b : Numbered) → false ≡ is_some (values_of t (found_at k b)) → (f : Cell → A) → None ≡ option_map f (cell_at t (row_in k b.block.rows).cells)
no_cell t k b none f = by (cell_at t (row_in k b.block.rows).cells) none
  where
    by : (o : Option Cell) → false ≡ is_some (option_or (option_map (λ (c : Cell). c.values) o) (part_at t b.shared)) → None ≡ option_map f o
    by None h = refl
    by (Some c) h = absurd (cc h)
