-- What a row has of a type that is there, in its cell, in its home and in the columns of its block.
use Rattle.std.proofs.Common.{ℕ, ◌≡◌, ◌≢◌, ◌∙◌, inl, inr, Bool, true, false, cond, nat_eq, sym, ap, refl, subst, List, [], ◌∷◌, length, Some, None}
use Rattle.std.specs.Bool.{MatchBool}
use Rattle.std.specs.Prelude.{option_map, unwrap_or}
use Rattle.std.specs.Option.{IsSome, option_or}
use Rattle.std.proofs.lemmas.Bool.{ne_eqb}
use Rattle.ent_types.specs.declared.type_info.TypeInfo.{TypeInfo}
use Rattle.ent_types.specs.declared.value.Value.{Value}
use Rattle.ent_types.specs.TypeLookups.{fields_at, is_shared_at, is_buffer_at}
use Rattle.world_model.specs.Fits.{Fits}
use Rattle.world_model.specs.Found.{Found, cell_at, part_at, values_of}
use Rattle.world_model.specs.Lawful.{IsLawfulRow}
use Rattle.world_model.specs.Members.{In}
use Rattle.world_model.specs.Operations.{cell_values}
use Rattle.world_model.specs.Part.{PartOf, part_type, at_type}
use Rattle.world_model.specs.Row.{Cell, cell_type}
use Rattle.world_laws.proofs.Types.{at_own_type}
use Rattle.block_columns.specs.declared.shape.TypeShape.{TypeShape}
use Rattle.block_columns.specs.Types.{Content}
use Rattle.chunk_block.specs.Blocks.{BlockType, OfType, content_of, content_at, new_types, shape_of}
use Rattle.world_rows.proofs.Filled.{values_length}
use Rattle.world_rows.proofs.Fitting.{of_type_new}
use Rattle.world_rows.proofs.Reading.{cell_type_there, content_is, no_cell, cell_own, own_rising, part_type_there}
use Rattle.world_rows.proofs.PartsAre.{has_cell, part_there, values_fit}

-- the columns have one shape for a type
pub one_shape : (t : ℕ) (P Q : TypeShape → Type 0) (columns : List BlockType) → OfType t P columns → OfType t Q columns → (s : TypeShape) × P s × Q s
one_shape t P Q [] p q = absurd p
one_shape t P Q (x ∷ xs) p q = by (nat_eq x.shape.ty.0 t) p q (one_shape t P Q xs)
  where
    by : (b : Bool) → MatchBool b ((x.lent ≡ false) × P x.shape) (OfType t P xs) → MatchBool b ((x.lent ≡ false) × Q x.shape) (OfType t Q xs)
        → (OfType t P xs → OfType t Q xs → (s : TypeShape) × P s × Q s) → (s : TypeShape) × P s × Q s
    by true p q rest = (x.shape, p.1, q.1)
    by false p q rest = rest p q

-- it is the registry's, where the columns are new
pub shape_is : (registry : List TypeInfo) (t : ℕ) (types : List ℕ) (P : TypeShape → Type 0) → In t types → is_shared_at registry t ≡ false → OfType t P (new_types registry types) → P (shape_of registry t)
shape_is registry t types P i own is =
    let (s, same, holds) = one_shape t (λ s. s ≡ shape_of registry t) P (new_types registry types) (of_type_new registry t (λ s. s ≡ shape_of registry t) types i own refl) is in
    subst P same holds

-- nothing is found by a type that none has
none_of : {X : Type 0} (type_of : X → ℕ) (t : ℕ) (xs : List X) → ((x : X) → In x xs → type_of x ≢ t) → at_type type_of t xs ≡ None
none_of type_of t [] none = refl
none_of type_of t (x ∷ xs) none = ap (λ b. cond b (Some x) (at_type type_of t xs)) (ne_eqb (type_of x) t (none x (inl refl))) ∙ none_of type_of t xs (λ y i. none y (inr i))

-- the values of the first cell of a type
pub cell_content : (t : ℕ) (cells : List Cell) → cell_values t cells ≡ (content_at t cells).values
cell_content t [] = refl
cell_content t (c ∷ cs) = by (nat_eq c.type_id t) (cell_content t cs)
  where
    by : (b : Bool) → cell_values t cs ≡ (content_at t cs).values → unwrap_or (option_map (λ (d : Cell). d.values) (cond b (Some c) (cell_at t cs))) [] ≡ (let d : Content = cond b (content_of c) (content_at t cs) in d).values
    by true rest = refl
    by false rest = rest

module _ (registry : List TypeInfo) (x : Found) (lawful : IsLawfulRow registry x) (t : ℕ) where
  -- a type that isn't shared
  module _ (i : In t x.home.types) (own : is_shared_at registry t ≡ false) where
    pub cell_there : cell_at t x.row.cells ≡ Some (record { type_id = t; values = (content_at t x.row.cells).values; off = (content_at t x.row.cells).off })
    cell_there = by (has_cell registry x lawful t i own)
      where
        by : ((c : Cell) × In c x.row.cells × (t ≡ cell_type c)) → cell_at t x.row.cells ≡ Some (record { type_id = t; values = (content_at t x.row.cells).values; off = (content_at t x.row.cells).off })
        by (c, j, same) =
            ap (λ u. cell_at u x.row.cells) same ∙ at_own_type cell_type c x.row.cells (own_rising registry x lawful) j
            ∙ ap (λ (d : Content). let e : Cell = record { type_id = c.type_id; values = d.values; off = d.off } in Some e) (sym (content_is c x.row.cells (own_rising registry x lawful) j))
            ∙ ap (λ u. let e : Cell = record { type_id = u; values = (content_at u x.row.cells).values; off = (content_at u x.row.cells).off } in Some e) (sym same)

    pub own_values : values_of t x ≡ Some (content_at t x.row.cells).values
    own_values = ap (λ o. option_or (option_map (λ (c : Cell). c.values) o) (part_at t x.home.shared)) cell_there

    pub own_fit : Fits registry t (content_at t x.row.cells).values
    own_fit = subst (λ o. Fits registry t (unwrap_or o [])) own_values (values_fit registry x lawful t i)

    pub own_length : is_buffer_at registry t ≡ false → length (content_at t x.row.cells).values ≡ length (fields_at registry t)
    own_length plain = values_length registry t (content_at t x.row.cells).values plain own_fit

  -- a shared type
  module _ (shared : is_shared_at registry t ≡ true) where
    pub shared_is : values_of t x ≡ part_at t x.home.shared
    shared_is = ap (λ o. option_or (option_map (λ (c : Cell). c.values) o) (part_at t x.home.shared)) (no_cell registry x lawful t shared x.row.cells (cell_own registry x lawful))

    pub shared_there : In t x.home.types → IsSome (part_at t x.home.shared)
    shared_there i = let (vs, is) = part_there registry x lawful t i shared in subst (λ o. IsSome o) (sym is) refl

  -- a type that isn't there
  module _ (lacks : In t x.home.types → ⊥) where
    pub cell_lacks : cell_at t x.row.cells ≡ None
    cell_lacks = none_of cell_type t x.row.cells (λ c i e. lacks (subst (λ u. In u x.home.types) e (cell_type_there registry x lawful c i)))

    pub values_lack : values_of t x ≡ None
    values_lack =
        ap (λ o. option_or (option_map (λ (c : Cell). c.values) o) (part_at t x.home.shared)) cell_lacks
        ∙ ap (option_map (λ (p : PartOf Value). p.values)) (none_of part_type t x.home.shared (λ p i e. lacks (subst (λ u. In u x.home.types) e (part_type_there registry x lawful p i))))
