-- What lawful types are like, and the types of a registry.
use Rattle.std.proofs.Common.{ℕ, ◌≡◌, ◌+◌, ◌*◌, ◌<◌, ◌≤◌, List, [], ◌∷◌, Bool, true, false, not, length, ap, sym, ◌∙◌, arith}
use Rattle.std.specs.Prelude.{sum_by, codes, if◌then◌else◌}
use Rattle.std.specs.List.{list_any}
use Rattle.std.proofs.lemmas.Bool.{and_parts, leb-true, eqb-true, not-true}
use Rattle.std.proofs.lemmas.List.{get_or-take}
use Rattle.std.proofs.lemmas.List.Elements.{All-get_or}
use Rattle.std.proofs.lemmas.List.Sums.{AllPass-from_list_all, sum_by-cons}
use Rattle.ent_types.specs.declared.kinds.Kind.{Kind}
use Rattle.ent_types.specs.declared.kinds.Kind.TheVariants.{Plain, Tag, Shared}
use Rattle.ent_types.specs.declared.kinds.FieldKind.{FieldKind}
use Rattle.ent_types.specs.declared.kinds.FieldKind.TheVariants.{I32, I64, Ref}
use Rattle.ent_types.specs.declared.type_info.FieldInfo.{FieldInfo}
use Rattle.ent_types.specs.declared.type_info.TypeInfo.{TypeInfo}
use Rattle.ent_types.specs.Types.{are_distinct, field_names_of, field_size, column_size, has_column, has_shape, is_ref, is_lawful_type, may_be_enableable}
use Rattle.ent_types.specs.Registries.{type_at, plain_tag, scene_tag_type, built_in_types, is_admissible, IsLawfulRegistry}

module _ (t : TypeInfo) (lawful : is_lawful_type t ≡ true) where
  has_shape-lawful : has_shape t.kind t.fields ≡ true
  unfolding is_lawful_type
  has_shape-lawful = (and_parts _ _ lawful).0

  shape_at : (kind : Kind) → t.kind ≡ kind → has_shape kind t.fields ≡ true
  shape_at kind is = sym (ap (λ (k : Kind). has_shape k t.fields) is) ∙ has_shape-lawful

  -- no two fields of a lawful type have one name
  pub are_distinct-lawful : are_distinct (field_names_of t.fields) ≡ true
  unfolding is_lawful_type
  are_distinct-lawful = (and_parts _ _ (and_parts _ _ lawful).1).1

  pub plain_has_field : t.kind ≡ Plain → 1 ≤ length t.fields
  plain_has_field is = leb-true 1 (length t.fields) (shape_at Plain is)

  pub tag_has_no_field : t.kind ≡ Tag → length t.fields ≡ 0
  tag_has_no_field is = eqb-true (length t.fields) 0 (shape_at Tag is)

  pub shared_has_field : t.kind ≡ Shared → 1 ≤ length t.fields
  shared_has_field is = leb-true 1 (length t.fields) (and_parts _ _ (and_parts _ _ (shape_at Shared is)).0).0

  pub shared_is_narrow : t.kind ≡ Shared → length t.fields ≤ 8
  shared_is_narrow is = leb-true (length t.fields) 8 (and_parts _ _ (and_parts _ _ (shape_at Shared is)).0).1

  pub shared_has_no_ref : t.kind ≡ Shared → list_any is_ref t.fields ≡ false
  shared_has_no_ref is = not-true (list_any is_ref t.fields) ((and_parts _ _ (shape_at Shared is)).1)

field_size-le : (kind : FieldKind) → field_size kind ≤ 8
field_size-le I32 = omega arith
field_size-le I64 = omega arith
field_size-le Ref = omega arith

sum_of_sizes : (fields : List FieldInfo) → sum_by (λ f. field_size f.kind) fields ≤ 8 * length fields
sum_of_sizes [] = omega arith
sum_of_sizes (f ∷ fs) =
    omega (arith, sum_by-cons (λ (g : FieldInfo). field_size g.kind) f fs, sum_of_sizes fs, field_size-le f.kind)

chosen : (b : Bool) (n : ℕ) → n ≤ 512 → (if b then n else 0) ≤ 512
chosen true n h = h
chosen false n h = omega arith

-- a row of a type in a registry takes at most 512 bytes of a column
pub column_size-le : (t : TypeInfo) → length t.fields ≤ 64 → column_size t ≤ 512
unfolding column_size
column_size-le t narrow =
    chosen (has_column t.kind) (sum_by (λ f. field_size f.kind) t.fields) (omega (arith, sum_of_sizes t.fields))

module _ (types : List TypeInfo) (lawful : IsLawfulRegistry types) where
  module _ (n : ℕ) (within : n < length types) where
    is_admissible-at : is_admissible (type_at types n) ≡ true
    is_admissible-at = All-get_or (λ (t : TypeInfo). is_admissible t ≡ true) types n (plain_tag []) within (AllPass-from_list_all is_admissible types lawful.admissible)

    -- each type of a registry is lawful
    pub is_lawful_type-at : is_lawful_type (type_at types n) ≡ true
    is_lawful_type-at = (and_parts _ _ is_admissible-at).1

    -- and has at most 64 fields
    pub narrow-at : length (type_at types n).fields ≤ 64
    narrow-at = leb-true (length (type_at types n).fields) 64 (and_parts _ _ is_admissible-at).0

  built_in-at : (n : ℕ) → n < 3 → type_at types n ≡ type_at built_in_types n
  built_in-at n within = sym (get_or-take 3 types n (plain_tag []) within) ∙ ap (λ (ts : List TypeInfo). type_at ts n) lawful.built_in

  -- the built-in types have the first numbers
  pub disabled-at : type_at types 0 ≡ plain_tag (codes "Disabled")
  unfolding built_in_types
  disabled-at = built_in-at 0 (omega arith)

  pub prefab-at : type_at types 1 ≡ plain_tag (codes "Prefab")
  unfolding built_in_types
  prefab-at = built_in-at 1 (omega arith)

  pub scene_tag-at : type_at types 2 ≡ scene_tag_type
  unfolding built_in_types
  scene_tag-at = built_in-at 2 (omega arith)
