-- The scope of a real place has what the theory of the language asks of it.
use Rattle.std.proofs.Common.{ℕ, zero, suc, ◌≡◌, ◌<◌, ◌≤◌, List, [], ◌∷◌, Bool, true, false, ◌&&◌, cond, Option, Some, None, length, map, get_or, ltb, refl, sym, ap, ◌∙◌, arith, length-take}
use Rattle.std.specs.Prelude.{codes, position, option_map, option_and_then}
use Rattle.std.specs.List.{list_any, position_or_len}
use Rattle.std.specs.Cmp.Lexicographic.{nat_list_eq_equiv}
use Rattle.std.proofs.lemmas.Bool.{and_parts, lt-ltb, ltb-true, not-true, both_ways, false_from_ne_true}
use Rattle.std.proofs.lemmas.List.{get_or_default}
use Rattle.std.proofs.lemmas.List.Folds.{list_any_at, Any-from_list_any}
use Rattle.std.proofs.lemmas.List.Sums.{position_or_len_is}
use Rattle.std.proofs.lemmas.List.Quantifiers.{position-Some}
use Rattle.ent_types.specs.declared.entity.TypeId.{TypeId}
use Rattle.ent_types.specs.declared.kinds.FieldKind.TheVariants.{I32}
use Rattle.ent_types.specs.declared.type_info.FieldInfo.{FieldInfo}
use Rattle.ent_types.specs.declared.type_info.TypeInfo.{TypeInfo}
use Rattle.ent_types.specs.Types.{same_name, are_distinct, field_names_of, field_named, kind_of_field}
use Rattle.ent_types.specs.Registries.{type_at, plain_tag, type_named, type_id_named, built_in_types, IsLawfulRegistry}
use Rattle.ent_types.proofs.Lookups.{list_any-map}
use Rattle.ent_types.proofs.LawfulTypes.{are_distinct-lawful, is_lawful_type-at, disabled-at, scene_tag-at}
use Rattle.expr_read.specs.declared.scope.TextPlace.{TextPlace}
use Rattle.expr_read.specs.declared.scope.Made.{Made}
use Rattle.expr_grammar.specs.declared.words.FieldUse.{FieldUse}
use Rattle.expr_grammar.specs.declared.words.FieldUse.TheVariants.{Looked}
use Rattle.expr_grammar.specs.declared.words.TypeUse.TheVariants.{Asked, Own}
use Rattle.expr_grammar.specs.Scopes.{IsLawful}
use Rattle.expr_read.specs.ScopeOf.{suits, suited_field, is_open, field_of, has_field, allows_of, scope_of}

-- ---- what bears one of some distinct names is found by it
module _ {X : Type 0} (name : X → List ℕ) (d : X) where
  other_name : (x : X) (xs : List X) (k : ℕ) → k < length xs → list_any (same_name (name x)) (map name xs) ≡ false
      → same_name (name x) (name (get_or xs k d)) ≡ false
  other_name x xs k within none =
      false_from_ne_true _ (λ same. both_ways _ none (list_any-map (same_name (name x)) name xs ∙ list_any_at (λ y. same_name (name x) (name y)) xs k d within same))

  apart : (xs : List X) (j k : ℕ) → are_distinct (map name xs) ≡ true → j < k → k < length xs
      → same_name (name (get_or xs k d)) (name (get_or xs j d)) ≡ false
  apart [] j k distinct below within = absurd (omega arith)
  apart (x ∷ xs) j zero distinct below within = absurd (omega arith)
  apart (x ∷ xs) zero (suc k) distinct below within =
      nat_list_eq_equiv.symm (name (get_or xs k d)) (name x)
      ∙ other_name x xs k (omega arith) (not-true _ (and_parts _ _ distinct).0)
  apart (x ∷ xs) (suc j) (suc k) distinct below within =
      apart xs j k (and_parts _ _ distinct).1 (omega arith) (omega arith)

  pub place_of : (xs : List X) (k : ℕ) → are_distinct (map name xs) ≡ true → k < length xs
      → position (λ x. same_name (name (get_or xs k d)) (name x)) xs ≡ Some k
  place_of xs k distinct within =
      let there : position_or_len (λ x. same_name (name (get_or xs k d)) (name x)) xs ≡ k =
      position_or_len_is (λ x. same_name (name (get_or xs k d)) (name x)) xs k d (omega arith)
      (λ j below. apart xs j k distinct below within)
      (λ _. nat_list_eq_equiv.refl (name (get_or xs k d))) in
      rw (there, lt-ltb k (length xs) within) refl

-- ---- fields
no_field : FieldInfo
no_field = record { name = []; kind = I32 }

module _ (role : FieldUse) (info : TypeInfo) where
  -- a field that is found suits
  suited_known : (f : List ℕ) (i : ℕ) → suited_field role info f ≡ Some i → list_any (λ g. suits role g.kind) info.fields ≡ true
  unfolding field_named no_field
  suited_known f i = by (field_named info f) refl
    where
      at : (k : ℕ) → field_named info f ≡ Some k → (b : Bool) → suits role (kind_of_field info k) ≡ b → cond b (Some k) None ≡ Some i
          → list_any (λ g. suits role g.kind) info.fields ≡ true
      at k found true suited is =
          list_any_at (λ g. suits role g.kind) info.fields k no_field (position-Some _ info.fields k no_field found).0 suited
      at k found false suited is = cc

      by : (place : Option ℕ) → field_named info f ≡ place → option_and_then (λ k. cond (suits role (kind_of_field info k)) (Some k) None) place ≡ Some i
          → list_any (λ g. suits role g.kind) info.fields ≡ true
      by None found is = cc
      by (Some k) found is = at k found (suits role (kind_of_field info k)) refl is

  -- a field that suits is found by its name
  suited_there : are_distinct (field_names_of info.fields) ≡ true → list_any (λ g. suits role g.kind) info.fields ≡ true
      → (f : List ℕ) × (i : ℕ) × (suited_field role info f ≡ Some i)
  unfolding field_named no_field
  suited_there distinct some =
      let (k, f, within, is, suited) = Any-from_list_any (λ g. suits role g.kind) info.fields some in
      let kind : kind_of_field info k ≡ f.kind = ap (λ (g : FieldInfo). g.kind) (get_or_default info.fields k no_field f within ∙ is) in (
        (get_or info.fields k no_field).name,
        k,
        ap (option_and_then (λ (i : ℕ). cond (suits role (kind_of_field info i)) (Some i) None)) (place_of (λ (g : FieldInfo). g.name) no_field info.fields k distinct within)
            ∙ ap (λ (b : Bool). cond b (Some k) None) (ap (suits role) kind ∙ suited),
      )

module _ (types : List TypeInfo) (lawful : IsLawfulRegistry types) (place : TextPlace) (bound : List ℕ) (made : List Made) where
  enough : 3 ≤ length types
  unfolding built_in_types
  enough = omega (arith, length-take 3 types, ap length lawful.built_in)

  -- a type is found by its own name
  pub found : (n : ℕ) → n < length types → type_id_named types (type_at types n).name ≡ Some (record { 0 = n })
  unfolding type_named
  found n within =
      ap (option_map (λ (k : ℕ). let id : TypeId = record { 0 = k } in id)) (place_of (λ (t : TypeInfo). t.name) (plain_tag []) types n lawful.distinct within)

  field_known : (role : FieldUse) (ty : TypeId) (f : List ℕ) (i : ℕ) → field_of types place bound role ty f ≡ Some i → has_field types place bound role ty ≡ true
  field_known role ty f i = by (is_open types place bound role ty)
    where
      by : (may : Bool) → cond may (suited_field role (type_at types ty.0) f) None ≡ Some i
          → (may && list_any (λ g. suits role g.kind) (type_at types ty.0).fields) ≡ true
      by true is = suited_known role (type_at types ty.0) f i is
      by false is = cc

  field_there : (role : FieldUse) (ty : TypeId) → has_field types place bound role ty ≡ true
      → (f : List ℕ) × (i : ℕ) × (field_of types place bound role ty f ≡ Some i)
  field_there role ty some =
      let (open_known, suited) = and_parts _ _ some in
      let known : ty.0 < length types = ltb-true _ _ (and_parts _ _ open_known).0 in
      let (f, i, is) = suited_there role (type_at types ty.0) (are_distinct-lawful (type_at types ty.0) (is_lawful_type-at types lawful ty.0 known)) suited in
      (f, i, ap (λ (b : Bool). cond b (suited_field role (type_at types ty.0) f) None) open_known ∙ is)

  number : ℕ → TypeId
  number n = record { 0 = n }

  disabled_found : type_id_named types (codes "Disabled") ≡ Some (number 0)
  unfolding number
  disabled_found = ap (λ (t : TypeInfo). type_id_named types t.name) (sym (disabled-at types lawful)) ∙ found 0 (omega (arith, enough))

  scene_tag_found : type_id_named types (codes "SceneTag") ≡ Some (number 2)
  unfolding number
  scene_tag_found = ap (λ (t : TypeInfo). type_id_named types t.name) (sym (scene_tag-at types lawful)) ∙ found 2 (omega (arith, enough))

  known : (n : ℕ) → n < 3 → ltb n (length types) ≡ true
  known n below = lt-ltb n (length types) (omega (arith, enough))

  scene_tag_looked : has_field types place bound Looked (number 2) ≡ true
  unfolding number
  scene_tag_looked = rw (known 2 (omega arith), scene_tag-at types lawful) refl

  disabled_asked : allows_of types place bound Asked (number 0) ≡ true
  unfolding number
  disabled_asked = rw (known 0 (omega arith)) refl

  disabled_own : allows_of types place bound Own (number 0) ≡ true
  unfolding number
  disabled_own = rw (known 0 (omega arith), disabled-at types lawful) refl

  pub scope_is_lawful : IsLawful (scope_of types place bound made)
  scope_is_lawful =
      record {
        field_known = field_known;
        field_there = field_there;
        null = λ fits. refl;
        looked = λ name call. (codes "SceneTag", number 2, scene_tag_found, scene_tag_looked);
        asked = λ name call. (codes "Disabled", number 0, disabled_found, disabled_asked);
        owned = λ name call. (codes "Disabled", number 0, disabled_found, disabled_own);
      }
