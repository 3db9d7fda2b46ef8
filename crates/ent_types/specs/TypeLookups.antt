-- What a list of types says of the type with a number. A number that no type has is that of a tag without a name.
use Rattle.std.specs.Prelude.{ℕ, List, Bool}
use Rattle.ent_types.specs.declared.kinds.Kind.{Kind}
use Rattle.ent_types.specs.declared.kinds.FieldKind.{FieldKind}
use Rattle.ent_types.specs.declared.type_info.FieldInfo.{FieldInfo}
use Rattle.ent_types.specs.declared.type_info.TypeInfo.{TypeInfo}
use Rattle.ent_types.specs.Registries.{type_at}
use Rattle.ent_types.specs.Types.{kind_of_field, column_size, has_column, is_shared, is_cleanup, is_buffer}

abbrev pub kind_at : List TypeInfo → ℕ → Kind
kind_at types n = (type_at types n).kind

abbrev pub fields_at : List TypeInfo → ℕ → List FieldInfo
fields_at types n = (type_at types n).fields

-- the kind of the field at a place; i32 where there is none
abbrev pub field_kind_at : List TypeInfo → ℕ → ℕ → FieldKind
field_kind_at types n at = kind_of_field (type_at types n) at

-- the bytes that a row takes in the type's column; 0 where it has none
abbrev pub column_size_at : List TypeInfo → ℕ → ℕ
column_size_at types n = column_size (type_at types n)

abbrev pub has_column_at : List TypeInfo → ℕ → Bool
has_column_at types n = has_column (kind_at types n)

abbrev pub is_shared_at : List TypeInfo → ℕ → Bool
is_shared_at types n = is_shared (kind_at types n)

abbrev pub is_cleanup_at : List TypeInfo → ℕ → Bool
is_cleanup_at types n = is_cleanup (kind_at types n)

abbrev pub is_buffer_at : List TypeInfo → ℕ → Bool
is_buffer_at types n = is_buffer (kind_at types n)

abbrev pub is_enableable_at : List TypeInfo → ℕ → Bool
is_enableable_at types n = (type_at types n).enableable
