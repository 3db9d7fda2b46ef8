-- Lists of types as a registry holds them: the type at place n has the number n.
use Rattle.std.specs.Prelude.{ℕ, ◌≡◌, ◌≤◌, List, [], ◌∷◌, Bool, true, false, ◌&&◌, nat_le, length, take, Option, map, position, option_map, slice_index_or, codes}
use Rattle.std.specs.List.{list_all}
use Rattle.ent_types.specs.declared.kinds.Kind.TheVariants.{Tag, Shared}
use Rattle.ent_types.specs.declared.kinds.FieldKind.TheVariants.{I64}
use Rattle.ent_types.specs.declared.entity.TypeId.{TypeId}
use Rattle.ent_types.specs.declared.type_info.FieldInfo.{FieldInfo}
use Rattle.ent_types.specs.declared.type_info.TypeInfo.{TypeInfo}
use Rattle.ent_types.specs.declared.limits.TheConstants.{MOST_FIELDS, MOST_TYPES}
use Rattle.ent_types.specs.declared.entity.TheConstants.{BUILT_IN_TYPES}
use Rattle.ent_types.specs.Types.{same_name, are_distinct, is_lawful_type}

-- the number of the type with this name
unfoldable pub type_named : List TypeInfo → List ℕ → Option ℕ
type_named types name = position (λ t. same_name name t.name) types

-- the same, as a type id
abbrev pub type_id_named : List TypeInfo → List ℕ → Option TypeId
type_id_named types name = option_map (λ n. record { 0 = n }) (type_named types name)

-- a tag that is always enabled
abbrev pub plain_tag : List ℕ → TypeInfo
plain_tag name = record { name = name; kind = Tag; fields = []; enableable = false }

-- the type with this number; a tag without a name where there is none
abbrev pub type_at : List TypeInfo → ℕ → TypeInfo
type_at types n = slice_index_or types n (plain_tag [])

-- the shared type whose value is the number of the load that a row came with
abbrev pub scene_tag_type : TypeInfo
scene_tag_type =
    record {
      name = codes "SceneTag";
      kind = Shared;
      fields = record { name = codes "scene"; kind = I64 } ∷ [];
      enableable = false;
    }

-- the types that each registry begins with
unfoldable pub built_in_types : List TypeInfo
built_in_types = plain_tag (codes "Disabled") ∷ (plain_tag (codes "Prefab") ∷ (scene_tag_type ∷ []))

abbrev pub type_names : List TypeInfo → List (List ℕ)
type_names types = map (λ t. t.name) types

-- well formed, and with no more fields than a registry takes
abbrev pub is_admissible : TypeInfo → Bool
is_admissible t = nat_le (length t.fields) MOST_FIELDS && is_lawful_type t

-- what every registry holds
pub record IsLawfulRegistry (types : List TypeInfo) : Type 0 where
  pub built_in : take BUILT_IN_TYPES types ≡ built_in_types
  pub admissible : list_all is_admissible types ≡ true
  pub distinct : are_distinct (type_names types) ≡ true
  pub most : length types ≤ MOST_TYPES
