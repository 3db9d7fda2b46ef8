-- Values that fit a type fit it with a reference in a ref field.
use Rattle.std.proofs.Common.{ℕ, zero, suc, ◌≡◌, ◌+◌, ◌*◌, ◌<◌, ◌≤◌, ◌∙◌, ◌&&◌, inl, inr, Bool, true, false, sym, ap, ap₂, refl, List, [], ◌∷◌, length, set, take, drop, map, get_or, codes, arith}
use Rattle.std.proofs.Math.Seq.{take-set-lt}
use Rattle.std.proofs.lemmas.Bool.{cases_lt, and_parts, and_from}
use Rattle.std.proofs.lemmas.List.{drop-set-add, drop-set-lt, get_or-map, get_or_past, length-map, length-set, take-set-le}
use Rattle.ent_types.specs.declared.entity.Entity.{Entity}
use Rattle.ent_types.specs.declared.kinds.FieldKind.{FieldKind}
use Rattle.ent_types.specs.declared.kinds.FieldKind.TheVariants.{I32, Ref as RefKind}
use Rattle.ent_types.specs.declared.limits.TheConstants.{MOST_ELEMENTS}
use Rattle.ent_types.specs.declared.type_info.FieldInfo.{FieldInfo}
use Rattle.ent_types.specs.declared.type_info.TypeInfo.{TypeInfo}
use Rattle.ent_types.specs.declared.value.Value.{Value}
use Rattle.ent_types.specs.declared.value.Value.TheVariants.{Ref}
use Rattle.ent_types.specs.Fitting.{fits_field, fits_fields, fits_elements}
use Rattle.ent_types.specs.Registries.{type_at}
use Rattle.ent_types.specs.TypeLookups.{fields_at, field_kind_at, is_buffer_at}
use Rattle.world_model.specs.Fits.{Fits}
use Rattle.world_laws.proofs.Elements.{fits_by}
use Rattle.block_columns.specs.Types.{TakesValue, kind_in}
use Rattle.chunk_block.specs.Blocks.{shape_of}
use Rattle.world_rows.proofs.Filled.{fits_plain}

-- a field that isn't there
abbrev no_field : FieldInfo
no_field = record { name = []; kind = I32 }

fields_fit_with : (fs : List FieldInfo) (vs : List Value) (f : ℕ) (e : Entity) → fits_fields fs vs ≡ true → (get_or fs f no_field).kind ≡ RefKind → fits_fields fs (set vs f (Ref e)) ≡ true
fields_fit_with [] [] f e fits kind = refl
fields_fit_with [] (v ∷ vs) f e fits kind = absurd (cc fits)
fields_fit_with (g ∷ fs) [] f e fits kind = absurd (cc fits)
fields_fit_with (g ∷ fs) (v ∷ vs) zero e fits kind =
    and_from (fits_field g.kind (Ref e)) (fits_fields fs vs) (ap (λ k. fits_field k (Ref e)) kind) (and_parts (fits_field g.kind v) (fits_fields fs vs) fits).1
fields_fit_with (g ∷ fs) (v ∷ vs) (suc f) e fits kind =
    let both = and_parts (fits_field g.kind v) (fits_fields fs vs) fits in
    and_from (fits_field g.kind v) (fits_fields fs (set vs f (Ref e))) both.0 (fields_fit_with fs vs f e both.1 kind)

-- the first element and the others
first_element : (most : ℕ) (fs : List FieldInfo) (us : List Value) → 0 < length us → fits_elements (suc most) fs us ≡ (fits_fields fs (take (length fs) us) && fits_elements most fs (drop (length fs) us))
unfolding fits_elements
first_element most fs [] some = absurd (omega (arith, some))
first_element most fs (u ∷ us) some = refl

elements_fit_with : (most : ℕ) (fs : List FieldInfo) (vs : List Value) (k f : ℕ) (e : Entity) → f < length fs → (get_or fs f no_field).kind ≡ RefKind → fits_elements most fs vs ≡ true
    → fits_elements most fs (set vs (k * length fs + f) (Ref e)) ≡ true
unfolding fits_elements
elements_fit_with most fs [] k f e below kind fits = fits
elements_fit_with zero fs (v ∷ vs) k f e below kind fits = absurd (cc fits)
elements_fit_with (suc most) fs (v ∷ vs) zero f e below kind fits =
    let both = and_parts (fits_fields fs (take (length fs) (v ∷ vs))) (fits_elements most fs (drop (length fs) (v ∷ vs))) fits in
    let first : 0 * length fs + f ≡ f = omega arith in
    ap (λ i. fits_elements (suc most) fs (set (v ∷ vs) i (Ref e))) first
    ∙ first_element most fs (set (v ∷ vs) f (Ref e)) (omega (arith, length-set (v ∷ vs) f (Ref e)))
    ∙ and_from (fits_fields fs (take (length fs) (set (v ∷ vs) f (Ref e)))) (fits_elements most fs (drop (length fs) (set (v ∷ vs) f (Ref e))))
    (ap (fits_fields fs) (take-set-lt (length fs) (v ∷ vs) f (Ref e) below) ∙ fields_fit_with fs (take (length fs) (v ∷ vs)) f e both.0 kind)
    (ap (fits_elements most fs) (drop-set-lt (length fs) (v ∷ vs) f (Ref e) below) ∙ both.1)
elements_fit_with (suc most) fs (v ∷ vs) (suc k) f e below kind fits =
    let both = and_parts (fits_fields fs (take (length fs) (v ∷ vs))) (fits_elements most fs (drop (length fs) (v ∷ vs))) fits in
    let later : suc k * length fs + f ≡ length fs + (k * length fs + f) = omega arith in
    ap (λ i. fits_elements (suc most) fs (set (v ∷ vs) i (Ref e))) later
    ∙ first_element most fs (set (v ∷ vs) (length fs + (k * length fs + f)) (Ref e)) (omega (arith, length-set (v ∷ vs) (length fs + (k * length fs + f)) (Ref e)))
    ∙ and_from (fits_fields fs (take (length fs) (set (v ∷ vs) (length fs + (k * length fs + f)) (Ref e))))
    (fits_elements most fs (drop (length fs) (set (v ∷ vs) (length fs + (k * length fs + f)) (Ref e))))
    (ap (fits_fields fs) (take-set-le (length fs) (v ∷ vs) (length fs + (k * length fs + f)) (Ref e) (omega arith)) ∙ both.0)
    (ap (fits_elements most fs) (drop-set-add (length fs) (v ∷ vs) (k * length fs + f) (Ref e)) ∙ elements_fit_with most fs (drop (length fs) (v ∷ vs)) k f e below kind both.1)

module _ (registry : List TypeInfo) (t f : ℕ) (kind : field_kind_at registry t f ≡ RefKind) where
  -- the field is there
  pub field_there : f < length (fields_at registry t)
  field_there =
      elim (cases_lt f (length (fields_at registry t))) [
        | inl below ↦ below
        | inr past ↦ absurd (cc (sym (ap (λ (g : FieldInfo). g.kind) (get_or_past (fields_at registry t) f no_field past)) ∙ kind))
      ]

  -- and takes a reference
  pub takes_reference : is_buffer_at registry t ≡ false → (e : Entity) → TakesValue f (Ref e) (shape_of registry t)
  takes_reference plain e =
      let kinds : kind_in f (map (λ (g : FieldInfo). g.kind) (fields_at registry t)) ≡ RefKind = get_or-map (λ (g : FieldInfo). g.kind) (fields_at registry t) f no_field I32 field_there ∙ kind in
      ((plain, omega (arith, field_there, length-map (fields_at registry t) (λ (g : FieldInfo). g.kind))), ap (λ k. fits_field k (Ref e)) kinds)

  pub plain_fit_with : is_buffer_at registry t ≡ false → (vs : List Value) (e : Entity) → Fits registry t vs → Fits registry t (set vs f (Ref e))
  plain_fit_with plain vs e fits = fits_by false (type_at registry t) (set vs f (Ref e)) plain ∙ fields_fit_with (fields_at registry t) vs f e (fits_plain registry t vs plain fits) kind

  pub buffer_fit_with : is_buffer_at registry t ≡ true → (k : ℕ) (vs : List Value) (e : Entity) → Fits registry t vs → Fits registry t (set vs (k * length (fields_at registry t) + f) (Ref e))
  buffer_fit_with buffer k vs e fits =
      fits_by true (type_at registry t) (set vs (k * length (fields_at registry t) + f) (Ref e)) buffer
      ∙ elements_fit_with MOST_ELEMENTS (fields_at registry t) vs k f e field_there kind (sym (fits_by true (type_at registry t) vs buffer) ∙ fits)
