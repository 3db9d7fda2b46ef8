-- What follows from a registry's list of types for its list of names, and back.
use Rattle.std.proofs.Common.{ℕ, ◌≡◌, ◌+◌, ◌<◌, ◌≤◌, List, [], ◌∷◌, ◌++◌, Bool, true, false, not, ◌&&◌, length, get_or, take, drop, refl, ap, sym, ◌∙◌, arith, add-one, true≢false, is_some, Option, Some, None}
use Rattle.std.specs.Prelude.{position, option_map}
use Rattle.std.specs.List.{list_any}
use Rattle.std.proofs.lemmas.List.{length-take, length-append, map-append, take-append-le, take-append-drop}
use Rattle.std.proofs.lemmas.List.Folds.{list_all-append}
use Rattle.std.proofs.lemmas.Bool.{and_parts, le-leb}
use Rattle.std.proofs.Math.Seq.{take-suc}
use Rattle.indexmap.specs.IndexSet.{insert_key}
use Rattle.ent_types.specs.declared.entity.TypeId.{TypeId}
use Rattle.ent_types.specs.declared.type_info.TypeInfo.{TypeInfo}
use Rattle.ent_types.specs.Types.{same_name, are_distinct, is_lawful_type}
use Rattle.ent_types.specs.Registries.{type_named, type_id_named, type_names, built_in_types, is_admissible, IsLawfulRegistry}
use Rattle.ent_types.proofs.Lookups.{position-map, is_some-position}
use Rattle.ent_types.proofs.DistinctNames.{are_distinct-front, are_distinct-push}

module _ (types : List TypeInfo) (names : List (List ℕ)) (name : List ℕ) (same : names ≡ type_names types) where
  -- a type's number is the place of its name
  pub type_named-position : type_named types name ≡ position (same_name name) names
  unfolding type_named
  type_named-position = sym (ap (position (same_name name)) same ∙ position-map (same_name name) (λ (t : TypeInfo). t.name) types)

  -- a name has a number exactly where it is one of the names
  pub is_some-type_named : is_some (type_named types name) ≡ list_any (same_name name) names
  is_some-type_named = ap is_some type_named-position ∙ is_some-position (same_name name) names

  -- the same, as a type id of the registry that these types are
  pub type_id-position : (registry : List TypeInfo) (place : Option ℕ) → types ≡ registry → place ≡ position (same_name name) names
      → type_id_named registry name ≡ option_map (λ n. record { 0 = n }) place
  type_id-position registry place is found =
      ap (λ (ts : List TypeInfo). type_id_named ts name) (sym is) ∙ ap (option_map (λ (n : ℕ). let id : TypeId = record { 0 = n } in id)) (type_named-position ∙ sym found)

-- the names after one more type
pub type_names-push : (types : List TypeInfo) (names : List (List ℕ)) (info : TypeInfo) → names ≡ type_names types
    → names ++ info.name ∷ [] ≡ type_names (types ++ info ∷ [])
type_names-push types names info same =
    ap (λ (front : List (List ℕ)). front ++ info.name ∷ []) same ∙ sym (map-append (λ (t : TypeInfo). t.name) types (info ∷ []))

module _ (types : List TypeInfo) (lawful : IsLawfulRegistry types) where
  -- the built-in types are there
  pub least_types : 3 ≤ length types
  unfolding built_in_types
  least_types = omega (arith, length-take 3 types, ap length lawful.built_in)

  pub IsLawfulRegistry-push : (info : TypeInfo) → is_lawful_type info ≡ true → length info.fields ≤ 64
      → is_some (type_named types info.name) ≡ false → length types < 256
      → IsLawfulRegistry (types ++ info ∷ [])
  IsLawfulRegistry-push info is narrow new few =
      let within : 3 ≤ length types = least_types in
      record {
        built_in = rw (take-append-le 3 types (info ∷ []) within) lawful.built_in;
        admissible = rw (list_all-append is_admissible types (info ∷ []), lawful.admissible, le-leb (length info.fields) 64 narrow, is) refl;
        distinct = rw (map-append (λ (t : TypeInfo). t.name) types (info ∷ []), are_distinct-push (type_names types) info.name, lawful.distinct, sym (is_some-type_named types (type_names types) info.name refl) ∙ new) refl;
        most = omega (arith, length-append types (info ∷ []));
      }

pub IsLawfulRegistry-built_in : IsLawfulRegistry built_in_types
unfolding built_in_types is_lawful_type
IsLawfulRegistry-built_in =
    record {
      built_in = refl;
      admissible = refl;
      distinct = refl;
      most = omega arith;
    }

-- the names of the types before a place, and after the type there is put in
module _ (types : List TypeInfo) (i : ℕ) (info : TypeInfo) (within : i < length types) (is : info ≡ get_or types i info)
    (distinct : are_distinct (type_names types) ≡ true) where
  one_more : type_names (take (i + 1) types) ≡ type_names (take i types) ++ info.name ∷ []
  one_more = rw (add-one, take-suc types i info within, ← is) (map-append (λ (t : TypeInfo). t.name) (take i types) (info ∷ []))

  some_distinct : are_distinct (type_names (take (i + 1) types)) ≡ true
  some_distinct =
      are_distinct-front
      (type_names (take (i + 1) types))
      (type_names (drop (i + 1) types))
      (rw (← map-append (λ (t : TypeInfo). t.name) (take (i + 1) types) (drop (i + 1) types), take-append-drop (i + 1) types) distinct)

  is_new : list_any (same_name info.name) (type_names (take i types)) ≡ false
  is_new = not-true _ ((and_parts _ _ (sym (are_distinct-push (type_names (take i types)) info.name) ∙ ap are_distinct (sym one_more) ∙ some_distinct)).1)
    where
      not-true : (b : Bool) → not b ≡ true → b ≡ false
      not-true true h = absurd (true≢false (sym h))
      not-true false h = refl

  pub insert_key-next : (keys new : List (List ℕ)) → keys ≡ type_names (take i types) → new ≡ insert_key same_name keys info.name
      → new ≡ type_names (take (i + 1) types)
  insert_key-next keys new so_far inserted =
      inserted ∙ ap (λ (ks : List (List ℕ)). insert_key same_name ks info.name) so_far ∙ rw (is_new, one_more) refl
