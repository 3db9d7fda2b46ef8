-- A new row after the writes of its parts and bits.
use Rattle.std.proofs.Common.{ℕ, suc, ◌≡◌, ◌≢◌, ◌+◌, ◌∙◌, ◌||◌, inl, inr, Bool, true, false, not, cond, nat_eq, sym, ap, refl, subst, List, [], ◌∷◌, ◌++◌, length, take, map, filter, reverse, arith}
use Rattle.std.proofs.lemmas.Bool.{cases_eq, eq-eqb, ne_eqb, and_parts}
use Rattle.std.proofs.lemmas.List.{append-nil, append_assoc, length-set, take_more_set, take_all, reverse-append, length-map}
use Rattle.ent_types.specs.declared.entity.Entity.{Entity}
use Rattle.ent_types.specs.declared.limits.TheConstants.{MOST_ELEMENTS}
use Rattle.ent_types.specs.declared.type_info.FieldInfo.{FieldInfo}
use Rattle.ent_types.specs.Fitting.{default_value, fits_fields, fits_elements, fits_type}
use Rattle.ent_types.specs.declared.type_info.TypeInfo.{TypeInfo}
use Rattle.ent_types.specs.declared.value.Value.{Value}
use Rattle.ent_types.specs.TypeLookups.{fields_at, is_shared_at, is_buffer_at}
use Rattle.ent_types.specs.TypeSets.{has_type}
use Rattle.ent_types.specs.Registries.{type_at}
use Rattle.world_laws.proofs.Elements.{fits_by}
use Rattle.world_model.specs.Fits.{Fits}
use Rattle.world_model.specs.Members.{In, AreDistinct}
use Rattle.world_model.specs.Part.{PartOf}
use Rattle.world_model.specs.Row.{Row, Cell, cell_type}
use Rattle.block_columns.specs.Types.{Content, with_value, with_off, with_values, new_cell}
use Rattle.chunk_block.specs.Blocks.{BlockType, content_of, with_content, new_row, new_types, shape_of}
use Rattle.world_rows.specs.Rows.{AreParts, values_at, own_types, cell_from, row_from}
use Rattle.world_rows.specs.Writes.{Write, Switch, row_writes, field_writes, value_writes, bit_writes, type_writes, all_type_writes, buffer_write, buffer_writes, fill_writes}
use Rattle.world_rows.proofs.Effects.{type_of, change_of, effect_one, effect, effect_append, each_cell, writes_are}

-- ---- writes of one type

-- all of the writes are of this type
abbrev AllOf : ℕ → List Write → Type 0
AllOf u [] = Unit {0}
AllOf u (w ∷ ws) = (type_of w ≡ u) × AllOf u ws

all_append : (u : ℕ) (ws vs : List Write) → AllOf u ws → AllOf u vs → AllOf u (ws ++ vs)
all_append u [] vs a b = b
all_append u (w ∷ ws) vs a b = (a.0, all_append u ws vs a.1 b)

other : (t u : ℕ) (ws : List Write) (c : Content) → AllOf u ws → u ≢ t → effect t ws c ≡ c
other t u [] c all apart = refl
other t u (w ∷ ws) c all apart =
    ap (λ b. effect t ws (cond b (change_of w c) c)) (ne_eqb (type_of w) t (λ e. apart (sym all.0 ∙ e))) ∙ other t u ws c all.1 apart

fields_of : (u f : ℕ) (vs : List Value) → AllOf u (field_writes u f vs)
fields_of u f [] = tt
fields_of u f (v ∷ vs) = (refl, fields_of u (f + 1) vs)

values_of_type : (registry : List TypeInfo) (parts : List (PartOf Value)) (u : ℕ) → AllOf u (value_writes registry parts u)
values_of_type registry parts u = by (is_shared_at registry u) (is_buffer_at registry u)
  where
    by : (b d : Bool) → AllOf u (cond b [] (cond d [] (field_writes u 0 (values_at u parts))))
    by true d = tt
    by false true = tt
    by false false = fields_of u 0 (values_at u parts)

bits_of_type : (registry : List TypeInfo) (off : List ℕ) (u : ℕ) → AllOf u (bit_writes registry off u)
bits_of_type registry off u = by (is_shared_at registry u) (has_type off u)
  where
    by : (b d : Bool) → AllOf u (cond b [] (cond d (Switch u true ∷ []) []))
    by true d = tt
    by false true = (refl, tt)
    by false false = tt

type_of_type : (registry : List TypeInfo) (parts : List (PartOf Value)) (off : List ℕ) (u : ℕ) → AllOf u (type_writes registry parts off u)
type_of_type registry parts off u = all_append u (value_writes registry parts u) (bit_writes registry off u) (values_of_type registry parts u) (bits_of_type registry off u)

-- ---- all values of a type

pub fields_written : (t f : ℕ) (vs : List Value) (c : Content) → length c.values ≡ f + length vs → effect t (field_writes t f vs) c ≡ record c { values = take f c.values ++ vs }
fields_written t f [] c long = ap (λ vs. record c { values = vs }) (sym (append-nil (take f c.values) ∙ take_all f c.values (omega (arith, long))))
fields_written t f (v ∷ vs) c long =
    let one : Content = with_value f v c in
    ap (λ b. effect t (field_writes t (f + 1) vs) (cond b (with_value f v c) c)) (eq-eqb t t refl)
    ∙ fields_written t (f + 1) vs one (omega (arith, length-set c.values f v, long))
    ∙ ap (λ us. record c { values = us }) (ap (λ us. us ++ vs) (take_more_set c.values f v (omega (arith, long))) ∙ append_assoc (take f c.values) (v ∷ []) vs)

value_effect : (registry : List TypeInfo) (parts : List (PartOf Value)) (t : ℕ) (c : Content) → is_shared_at registry t ≡ false → is_buffer_at registry t ≡ false
    → length c.values ≡ length (values_at t parts) → effect t (value_writes registry parts t) c ≡ record c { values = values_at t parts }
value_effect registry parts t c own plain long =
    ap (λ b. effect t (cond b [] (cond (is_buffer_at registry t) [] (field_writes t 0 (values_at t parts)))) c) own
    ∙ ap (λ b. effect t (cond b [] (field_writes t 0 (values_at t parts))) c) plain
    ∙ fields_written t 0 (values_at t parts) c (omega (arith, long))

no_value_effect : (registry : List TypeInfo) (parts : List (PartOf Value)) (t : ℕ) (c : Content) → is_buffer_at registry t ≡ true → effect t (value_writes registry parts t) c ≡ c
no_value_effect registry parts t c buffer = by (is_shared_at registry t)
  where
    by : (b : Bool) → effect t (cond b [] (cond (is_buffer_at registry t) [] (field_writes t 0 (values_at t parts)))) c ≡ c
    by true = refl
    by false = ap (λ d. effect t (cond d [] (field_writes t 0 (values_at t parts))) c) buffer

bit_effect : (registry : List TypeInfo) (off : List ℕ) (t : ℕ) (c : Content) → is_shared_at registry t ≡ false → c.off ≡ false
    → effect t (bit_writes registry off t) c ≡ record c { off = has_type off t }
bit_effect registry off t c own on = ap (λ b. effect t (cond b [] (cond (has_type off t) (Switch t true ∷ []) [])) c) own ∙ by (has_type off t)
  where
    by : (d : Bool) → effect t (cond d (Switch t true ∷ []) []) c ≡ record c { off = d }
    by true = ap (λ b. cond b (with_off true c) c) (eq-eqb t t refl)
    by false = ap (λ off. record c { off = off }) on

-- ---- all types

absent : (registry : List TypeInfo) (parts : List (PartOf Value)) (off : List ℕ) (t : ℕ) (ts : List ℕ) (c : Content) → (In t ts → ⊥)
    → effect t (all_type_writes registry parts off ts) c ≡ c
absent registry parts off t [] c lacks = refl
absent registry parts off t (u ∷ ts) c lacks =
    effect_append t (type_writes registry parts off u) (all_type_writes registry parts off ts) c
    ∙ ap (effect t (all_type_writes registry parts off ts)) (other t u (type_writes registry parts off u) c (type_of_type registry parts off u) (λ e. lacks (inl (sym e))))
    ∙ absent registry parts off t ts c (λ i. lacks (inr i))

present : (registry : List TypeInfo) (parts : List (PartOf Value)) (off : List ℕ) (t : ℕ) (ts : List ℕ) (c : Content) → AreDistinct ts → In t ts
    → effect t (all_type_writes registry parts off ts) c ≡ effect t (type_writes registry parts off t) c
present registry parts off t [] c distinct is = absurd is
present registry parts off t (u ∷ ts) c distinct (inl e) =
    effect_append t (type_writes registry parts off u) (all_type_writes registry parts off ts) c
    ∙ absent registry parts off t ts (effect t (type_writes registry parts off u) c) (λ i. distinct.0 (subst (λ x. In x ts) e i))
    ∙ ap (λ x. effect t (type_writes registry parts off x) c) (sym e)
present registry parts off t (u ∷ ts) c distinct (inr i) =
    effect_append t (type_writes registry parts off u) (all_type_writes registry parts off ts) c
    ∙ ap (effect t (all_type_writes registry parts off ts)) (other t u (type_writes registry parts off u) c (type_of_type registry parts off u) (λ e. distinct.0 (subst (λ x. In x ts) (sym e) i)))
    ∙ present registry parts off t ts c distinct.1 i

-- ---- buffers, the last ones first

buffers_effect : (registry : List TypeInfo) (parts : List (PartOf Value)) (t : ℕ) (us : List ℕ) (c : Content)
    → effect t (reverse (map (buffer_write registry parts) us)) c ≡ cond (has_type us t) (with_values (values_at t parts) c) c
buffers_effect registry parts t [] c = refl
buffers_effect registry parts t (u ∷ us) c =
    ap (λ ws. effect t ws c) (reverse-append (buffer_write registry parts u ∷ []) (map (buffer_write registry parts) us))
    ∙ effect_append t (reverse (map (buffer_write registry parts) us)) (buffer_write registry parts u ∷ []) c
    ∙ ap (effect_one t (buffer_write registry parts u)) (buffers_effect registry parts t us c)
    ∙ elim (cases_eq u t) [
      | inl same ↦
          let x : Content = cond (has_type us t) (with_values (values_at t parts) c) c in
          ap (λ b. cond b (with_values (values_at u parts) x) x) (eq-eqb u t same)
          ∙ ap (λ k. with_values (values_at k parts) x) same
          ∙ twice (has_type us t)
          ∙ sym (ap (λ b. cond (b || has_type us t) (with_values (values_at t parts) c) c) (eq-eqb u t same))
      | inr apart ↦
          let x : Content = cond (has_type us t) (with_values (values_at t parts) c) c in
          ap (λ b. cond b (with_values (values_at u parts) x) x) (ne_eqb u t apart)
          ∙ sym (ap (λ b. cond (b || has_type us t) (with_values (values_at t parts) c) c) (ne_eqb u t apart))
    ]
  where
    twice : (b : Bool) → with_values (values_at t parts) (cond b (with_values (values_at t parts) c) c) ≡ with_values (values_at t parts) c
    twice true = refl
    twice false = refl

-- ---- the cells of a new row

abbrev new_cell_at : List TypeInfo → ℕ → Cell
new_cell_at registry t = record { type_id = t; values = (new_cell (shape_of registry t)).values; off = false }

new_cells : (registry : List TypeInfo) (ts : List ℕ)
    → map (λ (x : BlockType). let c : Cell = record { type_id = x.shape.ty.0; values = (new_cell x.shape).values; off = false } in c) (new_types registry ts) ≡ map (new_cell_at registry) (own_types registry ts)
new_cells registry [] = refl
new_cells registry (t ∷ ts) = by (is_shared_at registry t) (new_cells registry ts)
  where
    cell : BlockType → Cell
    cell x = record { type_id = x.shape.ty.0; values = (new_cell x.shape).values; off = false }

    by : (b : Bool) → map cell (new_types registry ts) ≡ map (new_cell_at registry) (own_types registry ts)
        → map cell (cond b [] (record { shape = shape_of registry t; lent = false } ∷ []) ++ new_types registry ts) ≡ map (new_cell_at registry) (cond (not b) (t ∷ own_types registry ts) (own_types registry ts))
    by true rest = rest
    by false rest = ap (λ cs. new_cell_at registry t ∷ cs) rest

pub fields_length : (fs : List FieldInfo) (vs : List Value) → fits_fields fs vs ≡ true → length vs ≡ length fs
fields_length [] [] fits = refl
fields_length [] (v ∷ vs) fits = absurd (cc fits)
fields_length (f ∷ fs) [] fits = absurd (cc fits)
fields_length (f ∷ fs) (v ∷ vs) fits = ap suc (fields_length fs vs (and_parts _ _ fits).1)

-- the values of a type that isn't a buffer fit its fields
pub fits_plain : (registry : List TypeInfo) (t : ℕ) (vs : List Value) → is_buffer_at registry t ≡ false → Fits registry t vs → fits_fields (fields_at registry t) vs ≡ true
fits_plain registry t vs plain fits = sym (fits_by false (type_at registry t) vs plain) ∙ fits

-- so that there is one for each field
pub values_length : (registry : List TypeInfo) (t : ℕ) (vs : List Value) → is_buffer_at registry t ≡ false → Fits registry t vs → length vs ≡ length (fields_at registry t)
values_length registry t vs plain fits = fields_length (fields_at registry t) vs (fits_plain registry t vs plain fits)

new_length : (registry : List TypeInfo) (t : ℕ) → is_buffer_at registry t ≡ false → length (new_cell (shape_of registry t)).values ≡ length (fields_at registry t)
new_length registry t plain =
    ap (λ b. length (cond b [] (map default_value (map (λ (f : FieldInfo). f.kind) (fields_at registry t))))) plain
    ∙ length-map (map (λ (f : FieldInfo). f.kind) (fields_at registry t)) default_value
    ∙ length-map (fields_at registry t) (λ (f : FieldInfo). f.kind)

has_in : (t : ℕ) (ts : List ℕ) → In t ts → has_type ts t ≡ true
has_in t [] is = absurd is
has_in t (u ∷ ts) (inl e) = ap (λ b. b || has_type ts t) (eq-eqb u t (sym e))
has_in t (u ∷ ts) (inr i) = ap (λ b. (nat_eq u t) || b) (has_in t ts i) ∙ by (nat_eq u t)
  where
    by : (b : Bool) → (b || true) ≡ true
    by true = refl
    by false = refl

-- a filtered list has what passes
has_passed : (p : ℕ → Bool) (t : ℕ) (ts : List ℕ) → In t ts → has_type (filter p ts) t ≡ p t
has_passed p t ts is = by (p t) refl
  where
    fails : (ts : List ℕ) → p t ≡ false → has_type (filter p ts) t ≡ false
    fails [] e = refl
    fails (u ∷ us) e = step (p u) refl (fails us e)
      where
        step : (b : Bool) → p u ≡ b → has_type (filter p us) t ≡ false → has_type (cond b (u ∷ filter p us) (filter p us)) t ≡ false
        step false q rest = rest
        step true q rest = ap (λ b. b || has_type (filter p us) t) (ne_eqb u t (λ same. absurd (cc (sym q ∙ ap p same ∙ e)))) ∙ rest

    passes : (ts : List ℕ) → In t ts → p t ≡ true → has_type (filter p ts) t ≡ true
    passes [] is e = absurd is
    passes (u ∷ us) (inl same) e =
        ap (λ b. has_type (cond b (u ∷ filter p us) (filter p us)) t) (ap p (sym same) ∙ e) ∙ ap (λ b. b || has_type (filter p us) t) (eq-eqb u t (sym same))
    passes (u ∷ us) (inr i) e = step (p u) (passes us i e)
      where
        step : (b : Bool) → has_type (filter p us) t ≡ true → has_type (cond b (u ∷ filter p us) (filter p us)) t ≡ true
        step false rest = rest
        step true rest = ap (λ b. nat_eq u t || b) rest ∙ or_true (nat_eq u t)
          where
            or_true : (b : Bool) → (b || true) ≡ true
            or_true true = refl
            or_true false = refl

    by : (b : Bool) → p t ≡ b → has_type (filter p ts) t ≡ p t
    by true e = passes ts is e ∙ sym e
    by false e = fails ts e ∙ sym e

in_own : (registry : List TypeInfo) (t : ℕ) (ts : List ℕ) → In t (own_types registry ts) → In t ts × (is_shared_at registry t ≡ false)
in_own registry t [] is = absurd is
in_own registry t (u ∷ us) is = by (is_shared_at registry u) refl is (in_own registry t us)
  where
    by : (b : Bool) → is_shared_at registry u ≡ b → In t (cond (not b) (u ∷ own_types registry us) (own_types registry us)) → (In t (own_types registry us) → In t us × (is_shared_at registry t ≡ false))
        → In t (u ∷ us) × (is_shared_at registry t ≡ false)
    by true e i rest = (inr (rest i).0, (rest i).1)
    by false e (inl same) rest = (inl same, ap (is_shared_at registry) same ∙ e)
    by false e (inr i) rest = (inr (rest i).0, (rest i).1)

distinct_own : (registry : List TypeInfo) (ts : List ℕ) → AreDistinct ts → AreDistinct (own_types registry ts)
distinct_own registry [] distinct = tt
distinct_own registry (t ∷ ts) distinct = by (is_shared_at registry t) (distinct_own registry ts distinct.1)
  where
    by : (b : Bool) → AreDistinct (own_types registry ts) → AreDistinct (cond (not b) (t ∷ own_types registry ts) (own_types registry ts))
    by true rest = rest
    by false rest = ((λ i. distinct.0 (in_own registry t ts i).0), rest)

module _ (registry : List TypeInfo) (types : List ℕ) (parts : List (PartOf Value)) (off : List ℕ) (are : AreParts registry types parts off) (distinct : AreDistinct types) where
  -- what the writes leave of a type
  type_filled : (t : ℕ) → In t types → is_shared_at registry t ≡ false
      → effect t (fill_writes registry types parts off) (content_of (new_cell_at registry t)) ≡ record { values = values_at t parts; off = has_type off t }
  type_filled t is own =
      effect_append t (all_type_writes registry parts off types) (reverse (buffer_writes registry types parts)) c
      ∙ ap (effect t (reverse (buffer_writes registry types parts))) (present registry parts off t types c distinct is ∙ effect_append t (value_writes registry parts t) (bit_writes registry off t) c)
      ∙ buffers_effect registry parts t (filter (is_buffer_at registry) types) (effect t (bit_writes registry off t) (effect t (value_writes registry parts t) c))
      ∙ ap (λ b. cond b (with_values (values_at t parts) (effect t (bit_writes registry off t) (effect t (value_writes registry parts t) c))) (effect t (bit_writes registry off t) (effect t (value_writes registry parts t) c)))
      (has_passed (is_buffer_at registry) t types is)
      ∙ by (is_buffer_at registry t) refl
    where
      c : Content
      c = content_of (new_cell_at registry t)

      by : (b : Bool) → is_buffer_at registry t ≡ b
          → cond b (with_values (values_at t parts) (effect t (bit_writes registry off t) (effect t (value_writes registry parts t) c))) (effect t (bit_writes registry off t) (effect t (value_writes registry parts t) c))
          ≡ record { values = values_at t parts; off = has_type off t }
      by true buffer =
          ap (with_values (values_at t parts)) (ap (effect t (bit_writes registry off t)) (no_value_effect registry parts t c buffer) ∙ bit_effect registry off t c own refl)
      by false plain =
          ap (effect t (bit_writes registry off t)) (value_effect registry parts t c own plain (new_length registry t plain ∙ sym (values_length registry t (values_at t parts) plain (are.fit t is))))
          ∙ bit_effect registry off t (record c { values = values_at t parts }) own refl

  cells_filled : (ts : List ℕ) → ((t : ℕ) → In t ts → In t types × (is_shared_at registry t ≡ false))
      → each_cell (λ t c. effect t (fill_writes registry types parts off) c) (map (new_cell_at registry) ts) ≡ map (cell_from parts off) ts
  cells_filled [] so = refl
  cells_filled (t ∷ ts) so =
      ap (λ c. with_content c (new_cell_at registry t) ∷ each_cell (λ u x. effect u (fill_writes registry types parts off) x) (map (new_cell_at registry) ts)) (type_filled t (so t (inl refl)).0 (so t (inl refl)).1)
      ∙ ap (λ cs. cell_from parts off t ∷ cs) (cells_filled ts (λ u i. so u (inr i)))

  types_new : (ts : List ℕ) → map cell_type (map (new_cell_at registry) ts) ≡ ts
  types_new [] = refl
  types_new (t ∷ ts) = ap (λ us. t ∷ us) (types_new ts)

  -- a new row, filled
  pub filled : (e : Entity) → row_writes (fill_writes registry types parts off) (new_row (new_types registry types) e) ≡ row_from registry types parts off e false
  filled e =
      writes_are (fill_writes registry types parts off) (new_row (new_types registry types) e)
      (subst AreDistinct (sym (ap (map cell_type) (new_cells registry types) ∙ types_new (own_types registry types))) (distinct_own registry types distinct))
      ∙ ap (λ (cells : List Cell). let r : Row = record { entity = e; cells = cells; dying = false } in r)
      (ap (each_cell (λ t c. effect t (fill_writes registry types parts off) c)) (new_cells registry types) ∙ cells_filled (own_types registry types) (λ t i. in_own registry t types i))

-- values of one type leave another as it is
pub fields_elsewhere : (t u : ℕ) (vs : List Value) (c : Content) → u ≢ t → effect t (field_writes u 0 vs) c ≡ c
fields_elsewhere t u vs c apart = other t u (field_writes u 0 vs) c (fields_of u 0 vs) apart
