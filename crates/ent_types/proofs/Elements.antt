-- The values of a buffer fit where they are the concatenation of elements that fit.
use Rattle.std.proofs.Common.{ℕ, zero, suc, ◌≡◌, ◌≤◌, List, [], ◌∷◌, ◌++◌, Bool, true, false, ◌&&◌, length, take, drop, refl, sym, ap, ap₂, ◌∙◌, arith, true≢false}
use Rattle.std.specs.Prelude.{flat_map}
use Rattle.std.specs.List.{list_all}
use Rattle.std.proofs.Math.Seq.{take-append_seam, drop-append_seam}
use Rattle.std.proofs.lemmas.Bool.{and_parts, and_from}
use Rattle.std.proofs.lemmas.List.{take-append-drop}
use Rattle.ent_types.specs.declared.value.Value.{Value}
use Rattle.ent_types.specs.declared.type_info.FieldInfo.{FieldInfo}
use Rattle.ent_types.specs.Fitting.{fits_field, fits_fields, fits_elements, AreElements}

-- what fits the fields has one value for each
pub length-fits_fields : (fields : List FieldInfo) (values : List Value) → fits_fields fields values ≡ true
    → length values ≡ length fields
length-fits_fields [] [] fits = refl
length-fits_fields [] (v ∷ vs) fits = absurd (true≢false (sym fits))
length-fits_fields (f ∷ fs) [] fits = absurd (true≢false (sym fits))
length-fits_fields (f ∷ fs) (v ∷ vs) fits = ap suc (length-fits_fields fs vs (and_parts _ _ fits).1)

-- values that fit are made of elements
pub AreElements-from_fits : (most : ℕ) (fields : List FieldInfo) (values : List Value)
    → fits_elements most fields values ≡ true → AreElements most fields values
unfolding fits_elements
AreElements-from_fits most fields [] fits = record { elements = []; few = omega arith; each = refl; joined = refl }
AreElements-from_fits zero fields (v ∷ vs) fits = absurd (true≢false (sym fits))
AreElements-from_fits (suc most) fields (v ∷ vs) fits =
    let parts = and_parts (fits_fields fields (take (length fields) (v ∷ vs))) (fits_elements most fields (drop (length fields) (v ∷ vs))) fits in
    let rest = AreElements-from_fits most fields (drop (length fields) (v ∷ vs)) parts.1 in
    record {
      elements = take (length fields) (v ∷ vs) ∷ rest.elements;
      few = omega (arith, rest.few);
      each = and_from (fits_fields fields (take (length fields) (v ∷ vs))) (list_all (fits_fields fields) rest.elements) parts.0 rest.each;
      joined = ap (λ others. take (length fields) (v ∷ vs) ++ others) rest.joined ∙ take-append-drop (length fields) (v ∷ vs);
    }

-- one more element in front: `values` is that element and the rest
one_more : (most : ℕ) (fields : List FieldInfo) (element rest values : List Value) → element ++ rest ≡ values
    → fits_fields fields element ≡ true → fits_elements most fields rest ≡ true
    → fits_elements (suc most) fields values ≡ true
unfolding fits_elements
one_more most fields element rest [] is here others = refl
one_more most fields element rest (v ∷ vs) is here others =
    let width : length fields ≡ length element = sym (length-fits_fields fields element here) in
    let front : take (length fields) (v ∷ vs) ≡ element =
    ap (take (length fields)) (sym is) ∙ ap (λ n. take n (element ++ rest)) width ∙ take-append_seam element rest in
    let back : drop (length fields) (v ∷ vs) ≡ rest =
    ap (drop (length fields)) (sym is) ∙ ap (λ n. drop n (element ++ rest)) width ∙ drop-append_seam element rest in
    and_from (fits_fields fields (take (length fields) (v ∷ vs))) (fits_elements most fields (drop (length fields) (v ∷ vs)))
    (ap (fits_fields fields) front ∙ here)
    (ap (fits_elements most fields) back ∙ others)

-- elements that fit make values that fit
pub fits_elements-joined : (most : ℕ) (fields : List FieldInfo) (elements : List (List Value))
    → length elements ≤ most → list_all (fits_fields fields) elements ≡ true
    → fits_elements most fields (flat_map (λ element. element) elements) ≡ true
unfolding fits_elements
fits_elements-joined most fields [] few each = refl
fits_elements-joined zero fields (e ∷ es) few each = absurd (omega (arith, few))
fits_elements-joined (suc most) fields (e ∷ es) few each =
    let parts = and_parts (fits_fields fields e) (list_all (fits_fields fields) es) each in
    one_more most fields e (flat_map (λ element. element) es) _ refl parts.0
    (fits_elements-joined most fields es (omega (arith, few)) parts.1)
