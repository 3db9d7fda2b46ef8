-- How many values the elements of a buffer have.
use Rattle.std.proofs.Common.{ℕ, zero, suc, ◌≡◌, ◌-◌, ◌*◌, ◌/◌, ◌≤◌, ◌∙◌, true, cond, min, sym, ap, subst, List, [], ◌∷◌, length, take, drop, arith}
use Rattle.std.proofs.lemmas.Bool.{and_parts}
use Rattle.std.proofs.lemmas.List.{length-take, length-drop}
use Rattle.std.proofs.lemmas.Nat.{div-mul-add}
use Rattle.ent_types.specs.declared.limits.TheConstants.{MOST_ELEMENTS}
use Rattle.ent_types.specs.declared.type_info.FieldInfo.{FieldInfo}
use Rattle.ent_types.specs.declared.type_info.TypeInfo.{TypeInfo}
use Rattle.ent_types.specs.declared.value.Value.{Value}
use Rattle.ent_types.specs.Fitting.{fits_fields, fits_elements, fits_type}
use Rattle.ent_types.specs.TypeLookups.{fields_at, is_buffer_at}
use Rattle.ent_types.specs.Registries.{type_at}
use Rattle.world_laws.proofs.Elements.{fits_by}
use Rattle.world_model.specs.Fits.{Fits}
use Rattle.world_rows.proofs.Filled.{fields_length}

-- the values of whole elements
record AreOfElements (most width size : ℕ) : Type 0 where
  count : ℕ
  few : count ≤ most
  whole : size ≡ count * width

elements_are : (most : ℕ) (fields : List FieldInfo) (vs : List Value) → fits_elements most fields vs ≡ true → AreOfElements most (length fields) (length vs)
unfolding fits_elements
elements_are most fields [] fits = record { count = 0; few = omega arith; whole = omega arith }
elements_are zero fields (v ∷ vs) fits = absurd (cc fits)
elements_are (suc most) fields (v ∷ vs) fits =
    let both = and_parts (fits_fields fields (take (length fields) (v ∷ vs))) (fits_elements most fields (drop (length fields) (v ∷ vs))) fits in
    let rest = elements_are most fields (drop (length fields) (v ∷ vs)) both.1 in
    let one : length (take (length fields) (v ∷ vs)) ≡ length fields = fields_length fields (take (length fields) (v ∷ vs)) both.0 in
    let taken : min (length fields) (length (v ∷ vs)) ≡ length fields = sym (length-take (length fields) (v ∷ vs)) ∙ one in
    let left : length (v ∷ vs) - length fields ≡ rest.count * length fields = sym (length-drop (length fields) (v ∷ vs)) ∙ rest.whole in
    record { count = suc rest.count; few = omega (arith, rest.few); whole = omega (arith, taken, left) }

divided : (count width size : ℕ) → 1 ≤ width → size ≡ count * width → size / width ≡ count
divided count width size some whole = ap (λ n. n / width) (omega (arith, whole)) ∙ div-mul-add count width 0 (omega (arith, some))

module _ (registry : List TypeInfo) (t : ℕ) (vs : List Value) (buffer : is_buffer_at registry t ≡ true) (fits : Fits registry t vs) (some : 1 ≤ length (fields_at registry t)) where
  are : AreOfElements MOST_ELEMENTS (length (fields_at registry t)) (length vs)
  are = elements_are MOST_ELEMENTS (fields_at registry t) vs (sym (fits_by true (type_at registry t) vs buffer) ∙ fits)

  pub few_elements : length vs / length (fields_at registry t) ≤ MOST_ELEMENTS
  few_elements = subst (λ n. n ≤ MOST_ELEMENTS) (sym (divided are.count (length (fields_at registry t)) (length vs) some are.whole)) are.few

  pub whole_elements : length vs ≡ (length vs / length (fields_at registry t)) * length (fields_at registry t)
  whole_elements = are.whole ∙ ap (λ n. n * length (fields_at registry t)) (sym (divided are.count (length (fields_at registry t)) (length vs) some are.whole))
