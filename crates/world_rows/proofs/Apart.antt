-- That a row which moves gets another home.
use Rattle.std.proofs.Common.{ℕ, ◌≡◌, ◌≢◌, ◌<◌, ◌∙◌, ◌&&◌, ◌||◌, inl, inr, Bool, true, false, cond, nat_eq, nat_lt, sym, ap, refl, subst, List, [], ◌∷◌, map, Some, arith}
use Rattle.std.specs.List.{list_any}
use Rattle.std.specs.Prelude.{option_map}
use Rattle.std.specs.Cmp.Lexicographic.{pointwise}
use Rattle.std.proofs.lemmas.Bool.{cases_eq, eq-eqb, eqb-true, ne_eqb}
use Rattle.std.proofs.lemmas.Bool.Decides.{Decides-int_eq}
use Rattle.ent_types.specs.declared.type_info.TypeInfo.{TypeInfo}
use Rattle.ent_types.specs.declared.value.Value.{Value}
use Rattle.ent_types.specs.declared.value.Value.TheVariants.{Int, Ref}
use Rattle.ent_types.specs.TypeLookups.{is_shared_at}
use Rattle.ent_types.specs.TypeSets.{has_type, with_type}
use Rattle.world_model.specs.Members.{In, IsRising}
use Rattle.world_model.specs.Part.{PartOf, part_type, at_type, same_value, same_part, with_typed}
use Rattle.world_model.specs.Found.{part_at}
use Rattle.world_model.specs.World.{Home}
use Rattle.world_model.specs.Operations.{home_kept, home_with, home_with_shared}
use Rattle.world_laws.proofs.Members.{map_in}
use Rattle.world_laws.proofs.Same.{entity_self}
use Rattle.world_laws.proofs.NodeRows.{in_has}
use Rattle.world_rows.specs.Types.{IsPart, home_taking}

-- ---- some of the types

pub kept_apart : (home : Home) (ts : List ℕ) → IsPart ts home.types → home ≢ home_kept (has_type ts) home
kept_apart home ts part e = part.fewer (part.kept ∙ sym (ap (λ (h : Home). h.types) e))

-- ---- a type more

in_with_type : (ts : List ℕ) (t : ℕ) → In t (with_type ts t)
in_with_type [] t = inl refl
in_with_type (u ∷ us) t = by (nat_lt t u) (nat_eq u t) refl (in_with_type us t)
  where
    by : (b d : Bool) → nat_eq u t ≡ d → In t (with_type us t) → In t (cond b (t ∷ u ∷ us) (cond d (u ∷ us) (u ∷ with_type us t)))
    by true d e rest = inl refl
    by false true e rest = inl (sym (eqb-true u t e))
    by false false e rest = inr rest

-- ---- another part of a shared type

in_with_typed : (p : PartOf Value) (ps : List (PartOf Value)) → In p (with_typed part_type p ps)
in_with_typed p [] = inl refl
in_with_typed p (q ∷ qs) = by (nat_lt p.type_id q.type_id) (nat_eq q.type_id p.type_id) (in_with_typed p qs)
  where
    by : (b d : Bool) → In p (with_typed part_type p qs) → In p (cond b (p ∷ q ∷ qs) (cond d (p ∷ qs) (q ∷ with_typed part_type p qs)))
    by true d rest = inl refl
    by false true rest = inl refl
    by false false rest = inr rest

value_self : (v : Value) → same_value v v ≡ true
value_self (Int z) = (Decides-int_eq z z).1 refl
value_self (Ref e) = entity_self e

values_self : (vs : List Value) → pointwise same_value vs vs ≡ true
values_self [] = refl
values_self (v ∷ vs) = ap (λ b. b && pointwise same_value vs vs) (value_self v) ∙ values_self vs

part_self : (p : PartOf Value) → same_part p p ≡ true
part_self p = ap (λ b. b && pointwise same_value p.values p.values) (eq-eqb p.type_id p.type_id refl) ∙ values_self p.values

any_in : (p : PartOf Value) (ps : List (PartOf Value)) → In p ps → list_any (same_part p) ps ≡ true
any_in p [] i = absurd i
any_in p (q ∷ qs) (inl e) = ap (λ b. b || list_any (same_part p) qs) (ap (same_part p) (sym e) ∙ part_self p)
any_in p (q ∷ qs) (inr i) = ap (λ b. same_part p q || b) (any_in p qs i) ∙ or_true (same_part p q)
  where
    or_true : (b : Bool) → (b || true) ≡ true
    or_true true = refl
    or_true false = refl

module _ (registry : List TypeInfo) (p : PartOf Value) (home : Home) where
  -- other values of a shared type
  pub shared_apart : is_shared_at registry p.type_id ≡ true → list_any (same_part p) home.shared ≡ false → home ≢ home_taking registry p home
  shared_apart shared other e =
      let same : home.shared ≡ with_typed part_type p home.shared =
      ap (λ (h : Home). h.shared) (e ∙ ap (λ b. cond b (home_with_shared p home) (home_with p.type_id home)) shared) in
      absurd (cc (sym other ∙ any_in p home.shared (subst (In p) (sym same) (in_with_typed p home.shared))))

  -- a type that isn't there
  pub more_apart : has_type home.types p.type_id ≡ false → home ≢ home_taking registry p home
  more_apart lacks e = absurd (cc (sym lacks ∙ in_has p.type_id home.types (subst (In p.type_id) (sym (types (is_shared_at registry p.type_id) e)) (in_with_type home.types p.type_id))))
    where
      types : (b : Bool) → home ≡ cond b (home_with_shared p home) (home_with p.type_id home) → home.types ≡ with_type home.types p.type_id
      types true f = ap (λ (h : Home). h.types) f
      types false f = ap (λ (h : Home). h.types) f

-- ---- whether values of a shared type are the same

same_absent : (p : PartOf Value) (ps : List (PartOf Value)) → ((q : PartOf Value) → In q ps → p.type_id ≢ q.type_id) → list_any (same_part p) ps ≡ false
same_absent p [] apart = refl
same_absent p (q ∷ qs) apart =
    ap (λ b. (b && pointwise same_value p.values q.values) || list_any (same_part p) qs) (ne_eqb p.type_id q.type_id (apart q (inl refl))) ∙ same_absent p qs (λ r i. apart r (inr i))

pub same_shared : (p : PartOf Value) (vs : List Value) (ps : List (PartOf Value)) → IsRising (map part_type ps) → part_at p.type_id ps ≡ Some vs
    → list_any (same_part p) ps ≡ pointwise same_value p.values vs
same_shared p vs [] rising at = absurd (cc at)
same_shared p vs (q ∷ qs) rising at =
    elim (cases_eq q.type_id p.type_id) [
      | inl same ↦
          let is : Some q.values ≡ Some vs =
          sym (ap (λ b. option_map (λ (r : PartOf Value). r.values) (cond b (Some q) (at_type part_type p.type_id qs))) (eq-eqb q.type_id p.type_id same)) ∙ at in
          let values : q.values ≡ vs = cc in
          ap (λ b. (b && pointwise same_value p.values q.values) || list_any (same_part p) qs) (eq-eqb p.type_id q.type_id (sym same))
          ∙ ap (λ b. pointwise same_value p.values q.values || b)
          (same_absent p qs (λ r i e. let up : q.type_id < r.type_id = rising.0 r.type_id (map_in part_type r qs i) in omega (arith, up, e, same)))
          ∙ or_false (pointwise same_value p.values q.values)
          ∙ ap (pointwise same_value p.values) values
      | inr apart ↦
          ap (λ b. (b && pointwise same_value p.values q.values) || list_any (same_part p) qs) (ne_eqb p.type_id q.type_id (λ e. apart (sym e)))
          ∙ same_shared p vs qs rising.1
          (sym (ap (λ b. option_map (λ (r : PartOf Value). r.values) (cond b (Some q) (at_type part_type p.type_id qs))) (ne_eqb q.type_id p.type_id apart)) ∙ at)
    ]
  where
    or_false : (b : Bool) → (b || false) ≡ b
    or_false true = refl
    or_false false = refl
