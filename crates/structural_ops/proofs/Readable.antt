-- What is read of a row by its place.
use Rattle.std.proofs.Common.{ℕ, ◌≡◌, ◌<◌, ◌∙◌, ◌&&◌, ◌||◌, Bool, true, false, not, nat_eq, sym, ap, refl, subst, List, [], ◌∷◌, length, Some}
use Rattle.std.specs.Bool.{MatchBool}
use Rattle.std.specs.Prelude.{unwrap_or}
use Rattle.std.proofs.lemmas.Bool.{eqb-true}
use Rattle.std.proofs.lemmas.List.{length-map}
use Rattle.ent_types.specs.declared.type_info.FieldInfo.{FieldInfo}
use Rattle.ent_types.specs.declared.type_info.TypeInfo.{TypeInfo}
use Rattle.ent_types.specs.declared.value.Value.{Value}
use Rattle.ent_types.specs.TypeLookups.{fields_at, is_shared_at, is_buffer_at}
use Rattle.ent_types.specs.TypeSets.{has_type, with_type}
use Rattle.ent_types.proofs.TypeSetLemmas.{has_type-with_type}
use Rattle.world_model.specs.Found.{part_at, values_of}
use Rattle.world_model.specs.Members.{In}
use Rattle.block_columns.specs.Types.{HasField}
use Rattle.block_columns.specs.declared.shape.TypeShape.{TypeShape}
use Rattle.buffer_store.specs.Buffers.{Buffer, buffer}
use Rattle.chunk_block.specs.Blocks.{BlockState, BlockType, IsNotLent, IsWhole, OfType, content_at, row_in, shape_of}
use Rattle.archetype_store.specs.Stores.{Numbered, OfBlock, OfNumber}
use Rattle.world_places.proofs.Numbers.{of_both, of_member}
use Rattle.world_rows.specs.Reading.{CanRead, found_at}
use Rattle.world_rows.proofs.ByType.{shape_is, own_values, shared_is}
use Rattle.world_rows.proofs.Fitting.{of_type_new}

-- what holds of the block that was looked up
pub at_block : {X : Type 0} (n : ℕ) (P : Numbered → Type 0) (blocks : List Numbered) (now : BlockState) → OfBlock n (λ b. now ≡ b) blocks → OfNumber n P blocks → ((b : Numbered) → now ≡ b.block → P b → X) → X
at_block n P blocks now is holds use_it =
    let (b, i, number, both) = of_member n (λ (b : Numbered). (now ≡ b.block) × P b) blocks (of_both n (λ (b : Numbered). now ≡ b.block) P (λ (b : Numbered). (now ≡ b.block) × P b) blocks (λ b same h. (same, h)) is holds) in
    use_it b both.0 both.1

-- whether a block has a type, as the look-up of its types says
pub has_at : (b now : BlockState) (types : List ℕ) (t : ℕ) (h : Bool) → now ≡ b → types ≡ now.types → h ≡ has_type types t → has_type b.types t ≡ h
has_at b now types t h looked are has = ap (λ ts. has_type ts t) (ap (λ (c : BlockState). c.types) (sym looked) ∙ sym are) ∙ sym has

pub whole_not_lent : (t : ℕ) (columns : List BlockType) → IsWhole columns → IsNotLent t columns
whole_not_lent t [] whole = tt
whole_not_lent t (x ∷ xs) whole = by (nat_eq x.shape.ty.0 t) (whole_not_lent t xs whole.1)
  where
    by : (b : Bool) → IsNotLent t xs → MatchBool b (x.lent ≡ false) (IsNotLent t xs)
    by true rest = whole.0
    by false rest = rest

-- ---- disabled types, one after another

on_more : (e o r i : Bool) → (e ≡ true → i ≡ false) → (o || (r && i)) ≡ (o || ((e || r) && i))
on_more false o r i so = refl
on_more true o true true so = absurd (cc (so refl))
on_more true o false true so = absurd (cc (so refl))
on_more true o true false so = refl
on_more true o false false so = refl

off_more : (e o r i : Bool) → (e ≡ true → i ≡ true) → ((e || o) || (r && i)) ≡ (o || ((e || r) && i))
off_more false o r i so = refl
off_more true o r false so = absurd (cc (so refl))
off_more true true r true so = refl
off_more true false r true so = refl

-- the set of those that are disabled, and the types that are left, of which `is` says whether they are
abbrev pub Collected : (ℕ → Bool) → List ℕ → List ℕ → List ℕ → Type 0
Collected is types off rest = (t : ℕ) → (has_type off t || (has_type rest t && is t)) ≡ (has_type types t && is t)

module _ (is : ℕ → Bool) (types off : List ℕ) (u : ℕ) (rest : List ℕ) (before : Collected is types off (u ∷ rest)) where
  pub collected_on : is u ≡ false → Collected is types off rest
  collected_on on t = on_more (nat_eq u t) (has_type off t) (has_type rest t) (is t) (λ e. ap is (sym (eqb-true u t e)) ∙ on) ∙ before t

  pub collected_off : is u ≡ true → Collected is types (with_type off u) rest
  collected_off disabled t =
      ap (λ b. b || (has_type rest t && is t)) (has_type-with_type off u t)
      ∙ off_more (nat_eq u t) (has_type off t) (has_type rest t) (is t) (λ e. ap is (sym (eqb-true u t e)) ∙ disabled)
      ∙ before t

-- when none is left
pub collected_all : (is : ℕ → Bool) (types off : List ℕ) → Collected is types off [] → (t : ℕ) → has_type off t ≡ (has_type types t && is t)
collected_all is types off all t = by (has_type off t) (all t)
  where
    by : {all : Bool} (b : Bool) → (b || false) ≡ all → b ≡ all
    by true e = e
    by false e = e

pub is_on : (b : Bool) → true ≡ not b → b ≡ false
is_on true e = absurd (cc e)
is_on false e = refl

pub is_off : (b : Bool) → false ≡ not b → b ≡ true
is_off true e = refl
is_off false e = absurd (cc e)

-- ---- the values of a type

module _ (registry : List TypeInfo) (k t : ℕ) (b : Numbered) (can : CanRead registry k b) (i : In t b.block.types) where
  -- what is read of a type that isn't shared
  module _ (own : is_shared_at registry t ≡ false) where
    pub read_own : unwrap_or (values_of t (found_at k b)) [] ≡ (content_at t (row_in k b.block.rows).cells).values
    read_own = ap (λ o. unwrap_or o []) (own_values registry (found_at k b) can.lawful t i own)

    pub read_elements : (e : Buffer Value) → OfType t (λ shape. e ≡ buffer (length shape.kinds) (content_at t (row_in k b.block.rows).cells).values) b.block.columns
        → e.values ≡ unwrap_or (values_of t (found_at k b)) []
    read_elements e is =
        ap (λ (d : Buffer Value). d.values)
        (shape_is registry t b.block.types (λ shape. e ≡ buffer (length shape.kinds) (content_at t (row_in k b.block.rows).cells).values) i own (subst (OfType t (λ shape. e ≡ buffer (length shape.kinds) (content_at t (row_in k b.block.rows).cells).values)) can.columns is))
        ∙ sym read_own

    -- its shape in the columns
    pub has_shape : (P : TypeShape → Type 0) → P (shape_of registry t) → OfType t P b.block.columns
    has_shape P holds = subst (OfType t P) (sym can.columns) (of_type_new registry t P b.block.types i own holds)

    pub has_fields : is_buffer_at registry t ≡ false → (f : ℕ) → f < length (fields_at registry t) → OfType t (HasField f) b.block.columns
    has_fields plain f below = has_shape (HasField f) (plain, subst (λ n. f < n) (sym (length-map (fields_at registry t) (λ (g : FieldInfo). g.kind))) below)

  pub read_shared : is_shared_at registry t ≡ true → (vs : List Value) → part_at t b.shared ≡ Some vs → vs ≡ unwrap_or (values_of t (found_at k b)) []
  read_shared shared vs is = sym (ap (λ o. unwrap_or o []) (shared_is registry (found_at k b) can.lawful t shared ∙ is))
