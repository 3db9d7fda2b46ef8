-- A new block's columns take the writes of parts.
use Rattle.std.proofs.Common.{ℕ, ◌≡◌, ◌≢◌, ◌<◌, ◌∙◌, inl, inr, Bool, true, false, cond, not, ◌||◌, sym, ap, refl, subst, List, [], ◌∷◌, ◌++◌, length, map, filter, reverse, arith}
use Rattle.std.specs.Bool.{MatchBool}
use Rattle.std.proofs.lemmas.Bool.{cases_eq, cases_lt, eq-eqb, ne_eqb, and_parts}
use Rattle.std.proofs.lemmas.List.{append_assoc, length-append, length-map, reverse-append, get_or_past}
use Rattle.std.proofs.Math.Seq.{get_or-append_seam}
use Rattle.ent_types.specs.declared.kinds.FieldKind.{FieldKind}
use Rattle.ent_types.specs.declared.kinds.FieldKind.TheVariants.{I32}
use Rattle.ent_types.specs.declared.kinds.Kind.{Kind}
use Rattle.ent_types.specs.declared.kinds.Kind.TheVariants.{Plain, Tag, Shared, Cleanup, Buffer}
use Rattle.ent_types.specs.Types.{is_shared, is_buffer, is_lawful_type, may_be_enableable}
use Rattle.ent_types.specs.Registries.{IsLawfulRegistry, plain_tag, type_at}
use Rattle.ent_types.proofs.LawfulTypes.{is_lawful_type-at}
use Rattle.ent_types.specs.declared.type_info.FieldInfo.{FieldInfo}
use Rattle.ent_types.specs.declared.type_info.TypeInfo.{TypeInfo}
use Rattle.ent_types.specs.declared.value.Value.{Value}
use Rattle.ent_types.specs.Fitting.{fits_field, fits_fields}
use Rattle.ent_types.specs.TypeLookups.{kind_at, fields_at, is_shared_at, is_buffer_at, is_enableable_at}
use Rattle.ent_types.specs.TypeSets.{has_type}
use Rattle.world_model.specs.Members.{In}
use Rattle.world_model.specs.Part.{PartOf}
use Rattle.block_columns.specs.Types.{TakesValue, IsEnableable, IsBuffer, kind_in}
use Rattle.block_columns.specs.declared.shape.TypeShape.{TypeShape}
use Rattle.chunk_block.specs.Blocks.{BlockType, OfType, new_types, shape_of}
use Rattle.world_rows.specs.Rows.{AreParts, values_at}
use Rattle.world_rows.proofs.Filled.{fits_plain}
use Rattle.world_rows.specs.Writes.{Write, Switch, Elements, Takes, AllTake, field_writes, value_writes, bit_writes, type_writes, all_type_writes, buffer_write, buffer_writes, fill_writes}

-- a type of new columns has the shape of the registry
pub of_type_new : (registry : List TypeInfo) (t : ℕ) (P : TypeShape → Type 0) (ts : List ℕ) → In t ts → is_shared_at registry t ≡ false → P (shape_of registry t) → OfType t P (new_types registry ts)
of_type_new registry t P [] is own holds = absurd is
of_type_new registry t P (u ∷ us) is own holds =
    elim (cases_eq u t) [
      | inl same ↦
          subst (λ b. OfType t P (cond b [] (record { shape = shape_of registry u; lent = false } ∷ []) ++ new_types registry us)) (sym (ap (is_shared_at registry) same ∙ own))
          (subst (λ b. MatchBool b ((false ≡ false) × P (shape_of registry u)) (OfType t P (new_types registry us))) (sym (eq-eqb u t same)) (refl, subst (λ k. P (shape_of registry k)) (sym same) holds))
      | inr apart ↦ by (is_shared_at registry u) (of_type_new registry t P us (rest is apart) own holds) apart
    ]
  where
    rest : In t (u ∷ us) → u ≢ t → In t us
    rest (inl e) apart = absurd (apart (sym e))
    rest (inr i) apart = i

    by : (b : Bool) → OfType t P (new_types registry us) → u ≢ t → OfType t P (cond b [] (record { shape = shape_of registry u; lent = false } ∷ []) ++ new_types registry us)
    by true found apart = found
    by false found apart = subst (λ b. MatchBool b ((false ≡ false) × P (shape_of registry u)) (OfType t P (new_types registry us))) (sym (ne_eqb u t apart)) found

take_append : (ws vs : List Write) (columns : List BlockType) → AllTake ws columns → AllTake vs columns → AllTake (ws ++ vs) columns
take_append [] vs columns a b = b
take_append (w ∷ ws) vs columns a b = (a.0, take_append ws vs columns a.1 b)

pub take_left : (ws vs : List Write) (columns : List BlockType) → AllTake (ws ++ vs) columns → AllTake ws columns
take_left [] vs columns a = tt
take_left (w ∷ ws) vs columns a = (a.0, take_left ws vs columns a.1)

pub take_right : (ws vs : List Write) (columns : List BlockType) → AllTake (ws ++ vs) columns → AllTake vs columns
take_right [] vs columns a = a
take_right (w ∷ ws) vs columns a = take_right ws vs columns a.1

take_reverse : (ws : List Write) (columns : List BlockType) → AllTake ws columns → AllTake (reverse ws) columns
take_reverse [] columns a = tt
take_reverse (w ∷ ws) columns a =
    subst (λ vs. AllTake vs columns) (sym (reverse-append (w ∷ []) ws)) (take_append (reverse ws) (w ∷ []) columns (take_reverse ws columns a.1) (a.0, tt))

abbrev kinds : List FieldInfo → List FieldKind
kinds fs = map (λ (f : FieldInfo). f.kind) fs

-- a buffer isn't shared
pub buffer_own : (registry : List TypeInfo) (t : ℕ) → is_buffer_at registry t ≡ true → is_shared_at registry t ≡ false
buffer_own registry t buffer = by (kind_at registry t) buffer
  where
    by : (k : Kind) → is_buffer k ≡ true → is_shared k ≡ false
    by Plain e = refl
    by Tag e = refl
    by Shared e = absurd (cc e)
    by Cleanup e = refl
    by Buffer e = refl

-- nor is what can be disabled
lawful_own : (x : TypeInfo) → is_lawful_type x ≡ true → x.enableable ≡ true → is_shared x.kind ≡ false
unfolding is_lawful_type
lawful_own x lawful on = by x.kind (sym (ap (λ b. not b || may_be_enableable x.kind) on) ∙ (and_parts _ _ (and_parts _ _ lawful).1).0)
  where
    by : (k : Kind) → (false || may_be_enableable k) ≡ true → is_shared k ≡ false
    by Plain e = refl
    by Tag e = refl
    by Shared e = absurd (cc e)
    by Cleanup e = absurd (cc e)
    by Buffer e = absurd (cc e)

pub enableable_own : (registry : List TypeInfo) → IsLawfulRegistry registry → (t : ℕ) → is_enableable_at registry t ≡ true → is_shared_at registry t ≡ false
enableable_own registry lawful t on =
    elim (cases_lt t (length registry)) [
      | inl within ↦ lawful_own (type_at registry t) (is_lawful_type-at registry lawful t within) on
      | inr past ↦ absurd (cc (sym (ap (λ (x : TypeInfo). x.enableable) (get_or_past registry t (plain_tag []) past)) ∙ on))
    ]

module _ (registry : List TypeInfo) (types : List ℕ) where
  -- the values of the fields from one on
  pub fields_take : (t : ℕ) → In t types → is_shared_at registry t ≡ false → is_buffer_at registry t ≡ false → (pre : List FieldKind) (fs : List FieldInfo) (vs : List Value)
      → map (λ (f : FieldInfo). f.kind) (fields_at registry t) ≡ pre ++ map (λ (f : FieldInfo). f.kind) fs → fits_fields fs vs ≡ true → AllTake (field_writes t (length pre) vs) (new_types registry types)
  fields_take t is own plain pre [] [] all fits = tt
  fields_take t is own plain pre [] (v ∷ vs) all fits = absurd (cc fits)
  fields_take t is own plain pre (f ∷ fs) [] all fits = absurd (cc fits)
  fields_take t is own plain pre (f ∷ fs) (v ∷ vs) all fits =
      let both = and_parts (fits_field f.kind v) (fits_fields fs vs) fits in
      let within : length pre < length (map (λ (g : FieldInfo). g.kind) (fields_at registry t)) = omega (arith, ap length all ∙ length-append pre (f.kind ∷ kinds fs)) in
      let here : kind_in (length pre) (map (λ (g : FieldInfo). g.kind) (fields_at registry t)) ≡ f.kind = ap (kind_in (length pre)) all ∙ get_or-append_seam pre f.kind (kinds fs) I32 in (
        of_type_new registry t (TakesValue (length pre) v) types is own ((plain, within), ap (λ k. fits_field k v) here ∙ both.0),
        subst (λ n. AllTake (field_writes t n vs) (new_types registry types)) (length-append pre (f.kind ∷ []))
            (fields_take t is own plain (pre ++ f.kind ∷ []) fs vs (all ∙ sym (append_assoc pre (f.kind ∷ []) (kinds fs))) both.1),
      )

  -- the elements of a buffer
  pub elements_take : (t : ℕ) → In t types → is_buffer_at registry t ≡ true → (vs : List Value) → Takes (Elements t (length (fields_at registry t)) vs) (new_types registry types)
  elements_take t is buffer vs =
      of_type_new registry t (λ shape. IsBuffer shape × (length (fields_at registry t) ≡ length shape.kinds)) types is (buffer_own registry t buffer)
      (buffer, sym (length-map (fields_at registry t) (λ (f : FieldInfo). f.kind)))

  module _ (parts : List (PartOf Value)) (off : List ℕ) (are : AreParts registry types parts off) where
    values_take : (t : ℕ) → In t types → AllTake (value_writes registry parts t) (new_types registry types)
    values_take t is = by (is_shared_at registry t) (is_buffer_at registry t) refl refl
      where
        by : (b d : Bool) → is_shared_at registry t ≡ b → is_buffer_at registry t ≡ d
            → AllTake (cond b [] (cond d [] (field_writes t 0 (values_at t parts)))) (new_types registry types)
        by true d e f = tt
        by false true e f = tt
        by false false e f = fields_take t is e f [] (fields_at registry t) (values_at t parts) refl (fits_plain registry t (values_at t parts) f (are.fit t is))

    bits_take : (t : ℕ) → In t types → AllTake (bit_writes registry off t) (new_types registry types)
    bits_take t is = by (is_shared_at registry t) (has_type off t) refl refl
      where
        by : (b d : Bool) → is_shared_at registry t ≡ b → has_type off t ≡ d → AllTake (cond b [] (cond d (Switch t true ∷ []) [])) (new_types registry types)
        by true d e f = tt
        by false false e f = tt
        by false true e f = (of_type_new registry t IsEnableable types is e (are.bits t is f), tt)

    types_take : (ts : List ℕ) → ((t : ℕ) → In t ts → In t types) → AllTake (all_type_writes registry parts off ts) (new_types registry types)
    types_take [] among = tt
    types_take (t ∷ ts) among =
        take_append (type_writes registry parts off t) (all_type_writes registry parts off ts) (new_types registry types)
        (take_append (value_writes registry parts t) (bit_writes registry off t) (new_types registry types) (values_take t (among t (inl refl))) (bits_take t (among t (inl refl))))
        (types_take ts (λ u i. among u (inr i)))

    buffers_take : (ts : List ℕ) → ((t : ℕ) → In t ts → In t types) → AllTake (map (buffer_write registry parts) (filter (is_buffer_at registry) ts)) (new_types registry types)
    buffers_take [] among = tt
    buffers_take (t ∷ ts) among = by (is_buffer_at registry t) refl (buffers_take ts (λ u i. among u (inr i)))
      where
        by : (b : Bool) → is_buffer_at registry t ≡ b → AllTake (map (buffer_write registry parts) (filter (is_buffer_at registry) ts)) (new_types registry types)
            → AllTake (map (buffer_write registry parts) (cond b (t ∷ filter (is_buffer_at registry) ts) (filter (is_buffer_at registry) ts))) (new_types registry types)
        by false e rest = rest
        by true e rest = (elements_take t (among t (inl refl)) e (values_at t parts), rest)

    pub fill_takes : AllTake (fill_writes registry types parts off) (new_types registry types)
    fill_takes =
        take_append (all_type_writes registry parts off types) (reverse (buffer_writes registry types parts)) (new_types registry types) (types_take types (λ t i. i))
        (take_reverse (buffer_writes registry types parts) (new_types registry types) (buffers_take types (λ t i. i)))
