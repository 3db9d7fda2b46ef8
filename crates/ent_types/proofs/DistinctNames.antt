-- Lists of names in which no name is there twice.
use Rattle.std.proofs.Common.{ℕ, ◌≡◌, ◌+◌, ◌-◌, ◌<◌, List, [], ◌∷◌, ◌++◌, Bool, true, false, not, ◌||◌, ◌&&◌, suc, length, get_or, drop, take, refl, ap, add-one, drop-cons, true≢false, sym}
use Rattle.std.specs.List.{list_any}
use Rattle.std.specs.Cmp.{IsEquivalence}
use Rattle.std.specs.Cmp.Lexicographic.{nat_list_eq_equiv}
use Rattle.std.proofs.lemmas.List.{take_rest}
use Rattle.std.proofs.lemmas.List.Folds.{list_any-append}
use Rattle.ent_types.specs.declared.type_info.FieldInfo.{FieldInfo}
use Rattle.ent_types.specs.Types.{same_name, are_distinct, field_names_of}
use Rattle.ent_types.proofs.Lookups.{list_any-map}

-- the names from a place on are distinct where the first is none of the others and these are distinct
pub are_distinct-drop : (fields : List FieldInfo) (i : ℕ) (f : FieldInfo) (again : Bool) → i < length fields → f ≡ get_or fields i f
    → again ≡ list_any (λ g. same_name f.name g.name) (take (length fields - (i + 1)) (drop (i + 1) fields))
    → are_distinct (field_names_of (drop i fields)) ≡ (not again && are_distinct (field_names_of (drop (i + 1) fields)))
are_distinct-drop fields i f again within is found =
    let rest : List FieldInfo = drop (suc i) fields in
    rw
    (found, take_rest fields (i + 1), add-one, drop-cons fields i f, ← is)
    (ap (λ b. not b && are_distinct (field_names_of rest)) (list_any-map (same_name f.name) (λ (g : FieldInfo). g.name) rest))

-- how the tests of names round one more name regroup
regrouped : (a s d b : Bool) → (not (a || (s || false)) && (d && not b)) ≡ ((not a && d) && not (s || b))
regrouped true s d b = refl
regrouped false true true b = refl
regrouped false true false b = refl
regrouped false false d b = refl

-- one more name leaves names distinct exactly where it is none of them
pub are_distinct-push : (names : List (List ℕ)) (name : List ℕ)
    → are_distinct (names ++ name ∷ []) ≡ (are_distinct names && not (list_any (same_name name) names))
are_distinct-push [] name = refl
are_distinct-push (x ∷ xs) name =
    rw
    (list_any-append (same_name x) xs (name ∷ []), are_distinct-push xs name, nat_list_eq_equiv.symm name x)
    (regrouped (list_any (same_name x) xs) (same_name x name) (are_distinct xs) (list_any (same_name name) xs))

fewer : (a b d e : Bool) → (not (a || b) && d) ≡ true → (d ≡ true → e ≡ true) → (not a && e) ≡ true
fewer true b d e h rest = h
fewer false true d e h rest = absurd (true≢false (sym h))
fewer false false d e h rest = rest h

-- the first of some distinct names are distinct
pub are_distinct-front : (xs ys : List (List ℕ)) → are_distinct (xs ++ ys) ≡ true → are_distinct xs ≡ true
are_distinct-front [] ys h = refl
are_distinct-front (x ∷ xs) ys h =
    fewer
    (list_any (same_name x) xs)
    (list_any (same_name x) ys)
    (are_distinct (xs ++ ys))
    (are_distinct xs)
    (rw (list_any-append (same_name x) xs ys) at h)
    (are_distinct-front xs ys)
