-- The table of a type: `name`, `kind`, `fields`, `enableable`.
use Rattle.std.specs.Prelude.{ℕ, ◌-◌, false, not, if◌then◌else◌, List, [], ◌∷◌, ◌++◌, length, take, drop, codes, Option, None, Some, is_some, option_map, Ok}
use Rattle.std.specs.List.{list_any}
use Rattle.toml.specs.Data.{Data, Members}
use Rattle.ent_types.specs.declared.limits.TheConstants.{MOST_FIELDS, MOST_TYPES}
use Rattle.ent_types.specs.declared.kinds.Kind.{Kind}
use Rattle.ent_types.specs.declared.kinds.Kind.TheVariants.{Plain, Tag, Shared, Cleanup}
use Rattle.ent_types.specs.declared.kinds.FieldKind.{FieldKind}
use Rattle.ent_types.specs.declared.kinds.FieldKind.TheVariants.{I32, I64, Ref}
use Rattle.ent_types.specs.declared.type_info.FieldInfo.{FieldInfo}
use Rattle.ent_types.specs.declared.type_info.TypeInfo.{TypeInfo}
use Rattle.ent_types.specs.declared.entity.TheConstants.{BUILT_IN_TYPES}
use Rattle.ent_types.specs.Names.{name_of}
use Rattle.ent_types.specs.Types.{same_name, is_lawful_type}
use Rattle.ent_types.specs.Registries.{type_named, built_in_types}
use Rattle.scenario_record.specs.declared.fault.Cause.TheVariants.{BadWord, BadShape, DuplicateName}
use Rattle.scenario_record.specs.Readings.{Reading, under, ◌>>=◌, unless, or_fault, fault_if}
use Rattle.scenario_tables.specs.ReadKeys.{known_table, required, optional, truth, text, name, list_up_to, each_over}

-- ---- `kind`

abbrev pub kind_named : List ℕ → Option Kind
kind_named s =
    if same_name s (codes "plain") then Some Plain
    else if same_name s (codes "tag") then Some Tag
    else if same_name s (codes "shared") then Some Shared
    else if same_name s (codes "cleanup") then Some Cleanup
    else None

abbrev pub kind : Data → Reading Kind
kind d = text d >>= λ s. or_fault BadWord (kind_named s)

-- ---- `fields`

abbrev pub field_kind_named : List ℕ → Option FieldKind
field_kind_named s =
    if same_name s (codes ":i32") then Some I32
    else if same_name s (codes ":i64") then Some I64
    else if same_name s (codes ":ref") then Some Ref
    else None

abbrev pub field_of_kind : List ℕ → Option FieldKind → Option FieldInfo
field_of_kind s None = None
field_of_kind s (Some kind) = option_map (λ n. record { name = n; kind = kind }) (name_of s)

-- `name:kind`; each kind has three letters
abbrev pub field_named : List ℕ → Option FieldInfo
field_named s = field_of_kind (take (length s - 4) s) (field_kind_named (drop (length s - 4) s))

-- no earlier field has the name
abbrev pub new_field : List FieldInfo → FieldInfo → Reading FieldInfo
new_field earlier f = unless (fault_if (list_any (λ g. same_name f.name g.name) earlier) DuplicateName) (Ok f)

abbrev pub field_in : List FieldInfo → List ℕ → Reading FieldInfo
field_in earlier s = or_fault BadWord (field_named s) >>= new_field earlier

-- the fields with one more
abbrev pub one_more_field : List FieldInfo → Data → Reading (List FieldInfo)
one_more_field earlier d = text d >>= λ s. field_in earlier s >>= λ f. Ok (earlier ++ f ∷ [])

abbrev pub fields : Data → Reading (List FieldInfo)
fields d = list_up_to MOST_FIELDS d >>= each_over one_more_field [] 0

-- ---- the table

-- a type of a good shape, with a name that no type before it has
abbrev pub new_type : List TypeInfo → TypeInfo → Reading TypeInfo
new_type registry t =
    unless (fault_if (not (is_lawful_type t)) BadShape)
    (under (codes "name") (unless (fault_if (is_some (type_named registry t.name)) DuplicateName) (Ok t)))

abbrev pub type_keys : Members → Reading TypeInfo
type_keys ms =
    required (codes "name") name ms >>= λ n.
    optional (codes "kind") Plain kind ms >>= λ k.
    optional (codes "fields") [] fields ms >>= λ fs.
    optional (codes "enableable") false truth ms >>= λ e.
    Ok (record { name = n; kind = k; fields = fs; enableable = e })

abbrev pub type_key_names : List (List ℕ)
type_key_names = codes "name" ∷ codes "kind" ∷ codes "fields" ∷ codes "enableable" ∷ []

-- a type as it stands alone
unfoldable pub type_table : Data → Reading TypeInfo
type_table d = known_table type_key_names d >>= type_keys

unfoldable pub type_in : List TypeInfo → Data → Reading TypeInfo
type_in registry d =
    known_table type_key_names d >>= λ ms.
    type_keys ms >>= new_type registry

-- the registry with this type, too
abbrev pub added : List TypeInfo → TypeInfo → Reading (List TypeInfo)
added registry t = new_type registry t >>= λ new. Ok (registry ++ new ∷ [])

-- ---- the list of types

-- the registry with one more type, read over those before it
abbrev pub one_more_type : List TypeInfo → Data → Reading (List TypeInfo)
one_more_type registry d = type_in registry d >>= λ t. Ok (registry ++ t ∷ [])

-- the built-in types count, too
abbrev pub registry_of : Data → Reading (List TypeInfo)
registry_of d = list_up_to (MOST_TYPES - BUILT_IN_TYPES) d >>= each_over one_more_type built_in_types 0
