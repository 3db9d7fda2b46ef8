-- What can be seen of a type in a row.
use Rattle.std.proofs.Common.{ℕ, ◌≡◌, ◌+◌, ◌*◌, ◌/◌, ◌<◌, ◌≤◌, ◌∙◌, Bool, true, false, cond, sym, ap, ap₂, refl, subst, List, [], length, get_or, pos, slice_get, nat_lt, Option, Some, None, option_map, arith}
use Rattle.std.specs.Prelude.{⊤, option_and_then}
use Rattle.std.specs.Option.{IfSome, MatchOption}
use Rattle.std.proofs.lemmas.Nat.{mul-le}
use Rattle.std.proofs.lemmas.Bool.{lt-ltb, le-ltb}
use Rattle.std.proofs.lemmas.List.{length-map}
use Rattle.std.proofs.lemmas.Option.{none-some, same_Some, slice_get-get_or, slice_get_past}
use Rattle.ent_types.specs.declared.type_info.FieldInfo.{FieldInfo}
use Rattle.ent_types.specs.declared.type_info.TypeInfo.{TypeInfo}
use Rattle.ent_types.specs.declared.value.Value.{Value}
use Rattle.ent_types.specs.declared.value.Value.TheVariants.{Int}
use Rattle.ent_types.specs.TypeLookups.{fields_at, is_buffer_at, is_shared_at}
use Rattle.ent_types.specs.TypeSets.{has_type}
use Rattle.world_model.specs.Fits.{Fits}
use Rattle.world_model.specs.Found.{cell_at, part_at, values_of}
use Rattle.world_model.specs.Members.{In}
use Rattle.world_model.specs.Row.{Cell}
use Rattle.world_laws.proofs.NodeRows.{in_has}
use Rattle.world_laws.proofs.Types.{has_in}
use Rattle.buffer_store.specs.Buffers.{Buffer, buffer, count_of}
use Rattle.block_columns.specs.Types.{HasField}
use Rattle.block_columns.specs.declared.shape.TypeShape.{TypeShape}
use Rattle.chunk_block.specs.Blocks.{BlockState, OfType, content_at, field_at, row_in, shape_of}
use Rattle.chunk_block.proofs.Known.{of_shape}
use Rattle.archetype_store.specs.Stores.{Numbered, OfBlock, OfNumber}
use Rattle.entity_table.specs.declared.table.Place.{Place}
use Rattle.world_places.proofs.Numbers.{of_both, of_member, of_more}
use Rattle.world_rows.specs.Reading.{CanRead, found_at}
use Rattle.world_rows.proofs.Buffers.{whole_elements}
use Rattle.world_rows.proofs.ByType.{cell_lacks, cell_there, one_shape, own_fit, own_values, shared_is, shared_there, values_lack}
use Rattle.world_rows.proofs.Filled.{values_length}
use Rattle.world_rows.proofs.Fitting.{buffer_own, of_type_new}
use Rattle.structural_ops.specs.Reads.{CanSee, element_seen, field_seen, values_seen}

-- the values and the width of elements that were found
buffer_is : (width : ℕ) (e : Buffer Value) (o : Option (List Value)) → Some e ≡ option_map (buffer width) o → (o ≡ Some e.values) × (e.width ≡ width)
buffer_is width e None is = absurd (none-some e (sym is))
buffer_is width e (Some vs) is =
    let here : e ≡ buffer width vs = same_Some e (buffer width vs) is in
    (ap (λ (d : Buffer Value). Some d.values) (sym here), ap (λ (d : Buffer Value). d.width) here)

module _ (registry : List TypeInfo) (t k : ℕ) (b : Numbered) where
  abbrev values : List Value
  values = (content_at t (row_in k b.block.rows).cells).values

  pub seen_lacks : has_type b.block.types t ≡ false → values_seen registry t k b ≡ None
  seen_lacks lacks = ap (λ h. cond h (cond (is_shared_at registry t) (part_at t b.shared) (Some values)) None) lacks

  module _ (has : has_type b.block.types t ≡ true) where
    pub seen_shared : is_shared_at registry t ≡ true → values_seen registry t k b ≡ part_at t b.shared
    seen_shared shared = ap₂ (λ h s. cond h (cond s (part_at t b.shared) (Some values)) None) has shared

    pub seen_own : is_shared_at registry t ≡ false → values_seen registry t k b ≡ Some (content_at t (row_in k b.block.rows).cells).values
    seen_own own = ap₂ (λ h s. cond h (cond s (part_at t b.shared) (Some values)) None) has own

  -- ---- by what can be seen

  module _ (can : CanSee registry t k b) (has : has_type b.block.types t ≡ true) (own : is_shared_at registry t ≡ false) where
    pub seen_shape : (P : TypeShape → Type 0) → P (shape_of registry t) → OfType t P b.block.columns
    seen_shape P holds = of_shape t (shape_of registry t) P b.block.columns (can.own has own) holds

    -- a field
    module _ (plain : is_buffer_at registry t ≡ false) (f : ℕ) where
      pub seen_column : f < length (fields_at registry t) → OfType t (HasField f) b.block.columns
      seen_column below = seen_shape (HasField f) (plain, subst (λ n. f < n) (sym (length-map (fields_at registry t) (λ (g : FieldInfo). g.kind))) below)

      pub field_here : f < length (fields_at registry t) → Some (field_at t f (row_in k b.block.rows)) ≡ field_seen f (values_seen registry t k b)
      field_here below =
          sym (slice_get-get_or values f (Int (pos 0)) (omega (arith, below, values_length registry t values plain (can.fit has own)))) ∙ sym (ap (field_seen f) (seen_own has own))

      pub field_past : length (fields_at registry t) ≤ f → None ≡ field_seen f (values_seen registry t k b)
      field_past past =
          sym (slice_get_past values f (omega (arith, past, values_length registry t values plain (can.fit has own)))) ∙ sym (ap (field_seen f) (seen_own has own))

    -- the elements
    pub elements_here : (e : Buffer Value) → OfType t (λ shape. e ≡ buffer (length shape.kinds) (content_at t (row_in k b.block.rows).cells).values) b.block.columns
        → Some e ≡ option_map (buffer (length (fields_at registry t))) (values_seen registry t k b)
    elements_here e is =
        let (s, shape, here) = one_shape t (λ s. shape_of registry t ≡ s) (λ s. e ≡ buffer (length s.kinds) values) b.block.columns (can.own has own) is in
        ap Some (here ∙ ap (λ (s : TypeShape). buffer (length s.kinds) values) (sym shape) ∙ ap (λ n. buffer n values) (length-map (fields_at registry t) (λ (g : FieldInfo). g.kind)))
        ∙ sym (ap (option_map (buffer (length (fields_at registry t)))) (seen_own has own))

  -- elements that were found
  module _ (can : CanSee registry t k b) (buffers : is_buffer_at registry t ≡ true) (some : 1 ≤ length (fields_at registry t)) (e : Buffer Value)
      (is : Some e ≡ option_map (buffer (length (fields_at registry t))) (values_seen registry t k b)) where
    both : (values_seen registry t k b ≡ Some e.values) × (e.width ≡ length (fields_at registry t))
    both = buffer_is (length (fields_at registry t)) e (values_seen registry t k b) is

    width_is : e.width ≡ length (fields_at registry t)
    width_is = both.1

    values_are : values_seen registry t k b ≡ Some e.values
    values_are = both.0

    e_fits : Fits registry t e.values
    e_fits = by (has_type b.block.types t) refl
      where
        by : (h : Bool) → has_type b.block.types t ≡ h → Fits registry t e.values
        by false lacks = absurd (none-some e.values (sym (seen_lacks lacks) ∙ values_are))
        by true has =
            let own = buffer_own registry t buffers in
            subst (Fits registry t) (same_Some values e.values (sym (seen_own has own) ∙ values_are)) (can.fit has own)

    module _ (i f : ℕ) where
      pub element_here : f < length (fields_at registry t) → (v : Value) → slice_get e.values (i * e.width + f) ≡ Some v → Some v ≡ element_seen registry t i f (values_seen registry t k b)
      element_here below v there =
          sym there
          ∙ ap (λ n. slice_get e.values (i * n + f)) width_is
          ∙ sym (ap₂ (λ h o. cond h (option_and_then (λ vs. slice_get vs (i * length (fields_at registry t) + f)) o) None) (lt-ltb f (length (fields_at registry t)) below) values_are)

      pub element_past : f < length (fields_at registry t) → count_of e ≤ i → None ≡ element_seen registry t i f (values_seen registry t k b)
      element_past below past =
          sym (slice_get_past e.values (i * length (fields_at registry t) + f) beyond)
          ∙ sym (ap₂ (λ h o. cond h (option_and_then (λ vs. slice_get vs (i * length (fields_at registry t) + f)) o) None) (lt-ltb f (length (fields_at registry t)) below) values_are)
        where
          beyond : length e.values ≤ i * length (fields_at registry t) + f
          beyond =
              let w = length (fields_at registry t) in
              let wholes : length e.values ≡ (length e.values / w) * w = whole_elements registry t e.values buffers e_fits some in
              let few : length e.values / w ≤ i = subst (λ n. length e.values / n ≤ i) width_is past in
              let more : (length e.values / w) * w ≤ i * w = mul-le (length e.values / w) w i w few (omega arith) in
              omega (arith, wholes, more)

      pub field_lacks : length (fields_at registry t) ≤ f → None ≡ element_seen registry t i f (values_seen registry t k b)
      field_lacks past = sym (ap (λ h. cond h (option_and_then (λ vs. slice_get vs (i * length (fields_at registry t) + f)) (values_seen registry t k b)) None) (le-ltb f (length (fields_at registry t)) past))

  -- ---- of a row that can be read whole

  module _ (can : CanRead registry k b) where
    pub can_see : CanSee registry t k b
    can_see = record {
      there = can.there;
      known = λ has. can.lawful.home.known t (has_in t b.block.types has);
      shared = λ has shared. shared_there registry (found_at k b) can.lawful t shared (has_in t b.block.types has);
      own = λ has own. subst (OfType t (λ shape. shape_of registry t ≡ shape)) (sym can.columns) (of_type_new registry t (λ shape. shape_of registry t ≡ shape) b.block.types (has_in t b.block.types has) own refl);
      fit = λ has own. own_fit registry (found_at k b) can.lawful t (has_in t b.block.types has) own;
    }

    lacks : has_type b.block.types t ≡ false → In t b.block.types → ⊥
    lacks has i = let no_way : true ≡ false = sym (in_has t b.block.types i) ∙ has in cc

    pub seen_values : values_seen registry t k b ≡ values_of t (found_at k b)
    seen_values = by (has_type b.block.types t) (is_shared_at registry t) refl refl
      where
        by : (h s : Bool) → has_type b.block.types t ≡ h → is_shared_at registry t ≡ s → values_seen registry t k b ≡ values_of t (found_at k b)
        by false s has shared = seen_lacks has ∙ sym (values_lack registry (found_at k b) can.lawful t (lacks has))
        by true true has shared = seen_shared has shared ∙ sym (shared_is registry (found_at k b) can.lawful t shared)
        by true false has own = seen_own has own ∙ sym (own_values registry (found_at k b) can.lawful t (has_in t b.block.types has) own)

    -- of a buffer it is what its cell has
    pub seen_buffer : is_buffer_at registry t ≡ true → values_seen registry t k b ≡ option_map (λ (c : Cell). c.values) (cell_at t (row_in k b.block.rows).cells)
    seen_buffer buffers = by (has_type b.block.types t) refl
      where
        by : (h : Bool) → has_type b.block.types t ≡ h → values_seen registry t k b ≡ option_map (λ (c : Cell). c.values) (cell_at t (row_in k b.block.rows).cells)
        by false has = seen_lacks has ∙ sym (ap (option_map (λ (c : Cell). c.values)) (cell_lacks registry (found_at k b) can.lawful t (lacks has)))
        by true has =
            seen_own has (buffer_own registry t buffers)
            ∙ sym (ap (option_map (λ (c : Cell). c.values)) (cell_there registry (found_at k b) can.lawful t (has_in t b.block.types has) (buffer_own registry t buffers)))

-- ---- of an entity that has a place, or none

module _ (registry : List TypeInfo) (t : ℕ) (o : Option Place) (blocks : List Numbered) (can : IfSome o (λ p. OfNumber p.block (CanSee registry t p.row) blocks)) where
  module _ (place : Place) (at : o ≡ Some place) where
    pub seeing : OfNumber place.block (CanSee registry t place.row) blocks
    seeing = subst (λ q. IfSome q (λ p. OfNumber p.block (CanSee registry t p.row) blocks)) at can

    pub block_seen : OfBlock place.block (λ _. ⊤) blocks
    block_seen = of_more place.block (CanSee registry t place.row) (λ _. ⊤) blocks (λ b is. tt) seeing

    pub seen_at : {X : Type 0} (x : Option X) (f : Option (List Value) → Option X) (Q : Numbered → Type 0) → OfNumber place.block Q blocks
        → ((b : Numbered) → Q b → CanSee registry t place.row b → x ≡ f (values_seen registry t place.row b))
        → MatchOption o (x ≡ None) (λ p. OfNumber p.block (λ b. x ≡ f (values_seen registry t p.row b)) blocks)
    seen_at x f Q looked so =
        subst (λ q. MatchOption q (x ≡ None) (λ p. OfNumber p.block (λ b. x ≡ f (values_seen registry t p.row b)) blocks)) (sym at)
        (of_both place.block Q (CanSee registry t place.row) (λ b. x ≡ f (values_seen registry t place.row b)) blocks so looked seeing)

  pub nowhere : {X : Type 0} (x : Option X) (f : Option (List Value) → Option X) → o ≡ None → x ≡ None
      → MatchOption o (x ≡ None) (λ p. OfNumber p.block (λ b. x ≡ f (values_seen registry t p.row b)) blocks)
  nowhere x f none is = subst (λ q. MatchOption q (x ≡ None) (λ p. OfNumber p.block (λ b. x ≡ f (values_seen registry t p.row b)) blocks)) (sym none) is

-- what follows from what was seen
pub seen_more : {X Y : Type 0} (registry : List TypeInfo) (t : ℕ) (o : Option Place) (blocks : List Numbered) → IfSome o (λ p. OfNumber p.block (CanSee registry t p.row) blocks)
    → (x : Option X) (f : Option (List Value) → Option X) (y : Option Y) (g : Option (List Value) → Option Y) → (x ≡ None → y ≡ None)
    → ((k : ℕ) (b : Numbered) → CanSee registry t k b → x ≡ f (values_seen registry t k b) → y ≡ g (values_seen registry t k b))
    → MatchOption o (x ≡ None) (λ p. OfNumber p.block (λ b. x ≡ f (values_seen registry t p.row b)) blocks)
    → MatchOption o (y ≡ None) (λ p. OfNumber p.block (λ b. y ≡ g (values_seen registry t p.row b)) blocks)
seen_more registry t None blocks can x f y g none more is = none is
seen_more registry t (Some p) blocks can x f y g none more is =
    of_both p.block (CanSee registry t p.row) (λ b. x ≡ f (values_seen registry t p.row b)) (λ b. y ≡ g (values_seen registry t p.row b)) blocks (λ b see same. more p.row b see same) can is

-- elements that were found are as wide as the type
pub seen_width : (registry : List TypeInfo) (t : ℕ) (o : Option Place) (blocks : List Numbered) (e : Buffer Value)
    → MatchOption o (Some e ≡ None) (λ p. OfNumber p.block (λ b. Some e ≡ option_map (buffer (length (fields_at registry t))) (values_seen registry t p.row b)) blocks) → e.width ≡ length (fields_at registry t)
seen_width registry t None blocks e is = absurd (none-some e (sym is))
seen_width registry t (Some p) blocks e is =
    let (b, i, number, here) = of_member p.block (λ b. Some e ≡ option_map (buffer (length (fields_at registry t))) (values_seen registry t p.row b)) blocks is in
    (buffer_is (length (fields_at registry t)) e (values_seen registry t p.row b) here).1

-- without elements there is none
pub element_none : (registry : List TypeInfo) (t i f : ℕ) (seen : Option (List Value)) → None ≡ option_map (buffer (length (fields_at registry t))) seen → None ≡ element_seen registry t i f seen
element_none registry t i f None is = by (nat_lt f (length (fields_at registry t)))
  where
    nothing : Option Value
    nothing = None

    by : (h : Bool) → nothing ≡ cond h nothing nothing
    by true = refl
    by false = refl
element_none registry t i f (Some vs) is = absurd (none-some (buffer (length (fields_at registry t)) vs) is)
