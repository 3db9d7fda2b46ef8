-- Which types are well formed, and how many bytes their columns take.
use Rattle.std.specs.Prelude.{ℕ, List, [], ◌∷◌, Bool, true, false, not, ◌&&◌, ◌||◌, nat_eq, nat_le, ◌==◌, length, Option, if◌then◌else◌, map, position, sum_by, slice_index_or}
use Rattle.std.specs.List.{list_any}
use Rattle.std.specs.Cmp.Lexicographic.{pointwise}
use Rattle.ent_types.specs.declared.kinds.Kind.{Kind}
use Rattle.ent_types.specs.declared.kinds.Kind.TheVariants.{Plain, Tag, Shared, Cleanup, Buffer}
use Rattle.ent_types.specs.declared.kinds.FieldKind.{FieldKind}
use Rattle.ent_types.specs.declared.kinds.FieldKind.TheVariants.{I32, I64, Ref}
use Rattle.ent_types.specs.declared.type_info.FieldInfo.{FieldInfo}
use Rattle.ent_types.specs.declared.type_info.TypeInfo.{TypeInfo}
use Rattle.ent_types.specs.declared.limits.TheConstants.{MOST_SHARED_FIELDS, MOST_BUFFER_FIELDS}

-- whether two names are equal
abbrev pub same_name : List ℕ → List ℕ → Bool
same_name = pointwise nat_eq

-- whether no name is there twice
abbrev pub are_distinct : List (List ℕ) → Bool
are_distinct [] = true
are_distinct (name ∷ names) = not (list_any (same_name name) names) && are_distinct names

abbrev pub is_ref_kind : FieldKind → Bool
is_ref_kind I32 = false
is_ref_kind I64 = false
is_ref_kind Ref = true

abbrev pub is_ref : FieldInfo → Bool
is_ref f = is_ref_kind f.kind

-- whether a type of this kind may have these fields
abbrev pub has_shape : Kind → List FieldInfo → Bool
has_shape Plain fields = nat_le 1 (length fields)
has_shape Tag fields = length fields == 0
has_shape Shared fields = (nat_le 1 (length fields) && nat_le (length fields) MOST_SHARED_FIELDS) && not (list_any is_ref fields)
has_shape Cleanup fields = true
has_shape Buffer fields = nat_le 1 (length fields) && nat_le (length fields) MOST_BUFFER_FIELDS

-- whether a type of this kind may be disabled in a row
abbrev pub may_be_enableable : Kind → Bool
may_be_enableable Plain = true
may_be_enableable Tag = true
may_be_enableable Shared = false
may_be_enableable Cleanup = false
may_be_enableable Buffer = false

-- whether all rows of a block have one value of a type of this kind
abbrev pub is_shared : Kind → Bool
is_shared Plain = false
is_shared Tag = false
is_shared Shared = true
is_shared Cleanup = false
is_shared Buffer = false

-- whether a destroyed row stays while it has a type of this kind
abbrev pub is_cleanup : Kind → Bool
is_cleanup Plain = false
is_cleanup Tag = false
is_cleanup Shared = false
is_cleanup Cleanup = true
is_cleanup Buffer = false

-- whether a row has a list of elements of a type of this kind
abbrev pub is_buffer : Kind → Bool
is_buffer Plain = false
is_buffer Tag = false
is_buffer Shared = false
is_buffer Cleanup = false
is_buffer Buffer = true

abbrev pub field_names_of : List FieldInfo → List (List ℕ)
field_names_of fields = map (λ f. f.name) fields

-- whether a type is well formed
unfoldable pub is_lawful_type : TypeInfo → Bool
is_lawful_type t = has_shape t.kind t.fields && ((not t.enableable || may_be_enableable t.kind) && are_distinct (field_names_of t.fields))

-- the place of the field with this name
unfoldable pub field_named : TypeInfo → List ℕ → Option ℕ
field_named t name = position (λ f. same_name name f.name) t.fields

-- the kind of the field at this place; i32 where there is none
abbrev pub kind_of_field : TypeInfo → ℕ → FieldKind
kind_of_field t at = (slice_index_or t.fields at (record { name = []; kind = I32 })).kind

-- the bytes of a field in a row
abbrev pub field_size : FieldKind → ℕ
field_size I32 = 4
field_size I64 = 8
field_size Ref = 8

-- whether a type of this kind has a column in a block
abbrev pub has_column : Kind → Bool
has_column Plain = true
has_column Tag = false
has_column Shared = false
has_column Cleanup = true
has_column Buffer = false

-- the bytes that a row takes in the type's column; 0 where it has none
unfoldable pub column_size : TypeInfo → ℕ
column_size t = if has_column t.kind then sum_by (λ f. field_size f.kind) t.fields else 0
