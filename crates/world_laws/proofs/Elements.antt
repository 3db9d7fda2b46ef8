-- The elements of a buffer: one more, none.
use Rattle.std.proofs.Common.{◌≡◌, ℕ, zero, suc, ◌+◌, ◌*◌, ◌/◌, ◌<◌, ◌≤◌, nat_le, Bool, true, false, ◌&&◌, cond, List, [], ◌∷◌, ◌++◌, length, refl, sym, ap, ap₂, ◌∙◌, append_assoc, append-nil, subst, arith}
use Rattle.std.specs.List.{list_all, flat_map}
use Rattle.std.proofs.lemmas.Bool.{and_parts, leb-false}
use Rattle.std.proofs.lemmas.Nat.{div-mul-add}
use Rattle.std.proofs.lemmas.List.{length-append}
use Rattle.std.proofs.lemmas.List.Folds.{list_all-append}
use Rattle.ent_types.specs.declared.limits.TheConstants.{MOST_ELEMENTS}
use Rattle.ent_types.specs.declared.type_info.FieldInfo.{FieldInfo}
use Rattle.ent_types.specs.declared.type_info.TypeInfo.{TypeInfo}
use Rattle.ent_types.specs.declared.value.Value.{Value}
use Rattle.ent_types.specs.Fitting.{fits_fields, fits_elements, fits_type, AreElements}
use Rattle.ent_types.specs.Types.{is_buffer}
use Rattle.ent_types.proofs.Elements.{length-fits_fields, AreElements-from_fits, fits_elements-joined}

-- the values of some elements, one after another
abbrev joined : List (List Value) → List Value
joined elements = flat_map (λ element. element) elements

joined_long : (fields : List FieldInfo) (elements : List (List Value)) → list_all (fits_fields fields) elements ≡ true
    → length (joined elements) ≡ length elements * length fields
joined_long fields [] fit = grind arith
joined_long fields (e ∷ es) fit =
    let parts = and_parts (fits_fields fields e) (list_all (fits_fields fields) es) fit in
    let here = length-fits_fields fields e parts.0 in
    let rest = joined_long fields es parts.1 in
    let sum = length-append e (joined es) in
    grind arith

joined_more : (elements : List (List Value)) (e : List Value) → joined (elements ++ e ∷ []) ≡ joined elements ++ e
joined_more [] e = append-nil e
joined_more (d ∷ ds) e = ap (λ vs. d ++ vs) (joined_more ds e) ∙ sym (append_assoc d (joined ds) e)

empty_is : (values : List Value) → length values ≡ 0 → values ≡ []
empty_is [] e = refl
empty_is (v ∷ vs) e = absurd (omega arith)

-- a buffer that isn't full, with an element more
elements_more : (fields : List FieldInfo) (values e : List Value) → fits_elements MOST_ELEMENTS fields values ≡ true → fits_fields fields e ≡ true
    → nat_le MOST_ELEMENTS (length values / length fields) ≡ false → fits_elements MOST_ELEMENTS fields (values ++ e) ≡ true
elements_more fields values e fits fit open_ = step (length fields) refl
  where
    h : AreElements MOST_ELEMENTS fields values
    h = AreElements-from_fits MOST_ELEMENTS fields values fits

    long : length values ≡ length h.elements * length fields
    long = ap length (sym h.joined) ∙ joined_long fields h.elements h.each

    one : length e ≡ length fields
    one = length-fits_fields fields e fit

    step : (width : ℕ) → length fields ≡ width → fits_elements MOST_ELEMENTS fields (values ++ e) ≡ true
    step zero is = ap (fits_elements MOST_ELEMENTS fields) (empty_is (values ++ e) none) ∙ fits_elements-joined MOST_ELEMENTS fields [] (omega arith) refl
      where
        none : length (values ++ e) ≡ 0
        none =
            let n : length values ≡ 0 = long ∙ (ap (λ w. length h.elements * w) is ∙ grind arith) in
            let m : length e ≡ 0 = one ∙ is in
            let a = length-append values e in
            omega arith
    step (suc width) is =
        ap (fits_elements MOST_ELEMENTS fields) (sym (joined_more h.elements e ∙ ap (λ vs. vs ++ e) h.joined))
        ∙ fits_elements-joined MOST_ELEMENTS fields (h.elements ++ e ∷ []) few
        (list_all-append (fits_fields fields) h.elements (e ∷ []) ∙ ap₂ (λ a b. a && (b && true)) h.each fit)
      where
        count : length values / length fields ≡ length h.elements
        count =
            ap₂ (λ n w. n / w) (long ∙ (ap (λ w. length h.elements * w) is ∙ grind arith)) is
            ∙ div-mul-add (length h.elements) (suc width) 0 (omega arith)

        few : length (h.elements ++ e ∷ []) ≤ MOST_ELEMENTS
        few =
            let l = length-append h.elements (e ∷ []) in
            let c = count in
            let o = leb-false MOST_ELEMENTS (length values / length fields) open_ in
            omega arith

-- values of a buffer type are those of its elements
pub fits_by : (b : Bool) (t : TypeInfo) (values : List Value) → is_buffer t.kind ≡ b
    → fits_type t values ≡ cond b (fits_elements MOST_ELEMENTS t.fields values) (fits_fields t.fields values)
unfolding fits_type
fits_by b t values is = ap (λ c. cond c (fits_elements MOST_ELEMENTS t.fields values) (fits_fields t.fields values)) is

pub element_more : (t : TypeInfo) (values e : List Value) → is_buffer t.kind ≡ true → fits_type t values ≡ true → fits_fields t.fields e ≡ true
    → nat_le MOST_ELEMENTS (length values / length t.fields) ≡ false → fits_type t (values ++ e) ≡ true
element_more t values e buffer fits fit open_ =
    fits_by true t (values ++ e) buffer ∙ elements_more t.fields values e (sym (fits_by true t values buffer) ∙ fits) fit open_

-- a buffer without elements
pub no_elements : (t : TypeInfo) → is_buffer t.kind ≡ true → fits_type t [] ≡ true
no_elements t buffer = fits_by true t [] buffer ∙ fits_elements-joined MOST_ELEMENTS t.fields [] (omega arith) refl
