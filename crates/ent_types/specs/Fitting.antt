-- Which values a field or a type may hold, and what a field keeps of a value.
use Rattle.std.specs.Prelude.{ℕ, ◌≡◌, ◌≤◌, zero, suc, ℤ, pos, negsuc, List, [], ◌∷◌, Bool, true, false, ◌&&◌, int_le, length, take, drop, flat_map, if◌then◌else◌}
use Rattle.std.specs.List.{list_all}
use Rattle.std.specs.Int.{int_wrap, w32, w64}
use Rattle.ent_types.specs.declared.entity.Entity.{Entity}
use Rattle.ent_types.specs.declared.value.Value.{Value}
use Rattle.ent_types.specs.declared.value.Value.TheVariants.{Int, Ref}
use Rattle.ent_types.specs.declared.kinds.FieldKind.{FieldKind}
use Rattle.ent_types.specs.declared.kinds.FieldKind.TheVariants.{I32, I64, Ref as RefKind}
use Rattle.ent_types.specs.declared.type_info.FieldInfo.{FieldInfo}
use Rattle.ent_types.specs.declared.type_info.TypeInfo.{TypeInfo}
use Rattle.ent_types.specs.declared.limits.TheConstants.{MOST_ELEMENTS}
use Rattle.ent_types.specs.Types.{is_buffer}

-- the entity that is never alive
abbrev pub null_entity : Entity
null_entity = record { index = 0; version = 0 }

-- whether a number lies between these two, both counted in
abbrev pub is_between : ℤ → ℤ → ℤ → Bool
is_between low high z = int_le low z && int_le z high

-- whether a field of this kind may hold the value
abbrev pub fits_field : FieldKind → Value → Bool
fits_field I32 (Int z) = is_between (negsuc 2147483647) (pos 2147483647) z
fits_field I64 (Int z) = is_between (negsuc 9223372036854775807) (pos 9223372036854775807) z
fits_field RefKind (Int z) = false
fits_field I32 (Ref e) = false
fits_field I64 (Ref e) = false
fits_field RefKind (Ref e) = true

abbrev pub fits_fields : List FieldInfo → List Value → Bool
fits_fields [] [] = true
fits_fields [] (v ∷ vs) = false
fits_fields (f ∷ fs) [] = false
fits_fields (f ∷ fs) (v ∷ vs) = fits_field f.kind v && fits_fields fs vs

-- whether these are the values of elements, one element after another, and of no more elements than this number
unfoldable pub fits_elements : ℕ → List FieldInfo → List Value → Bool
fits_elements most fields [] = true
fits_elements zero fields (v ∷ vs) = false
fits_elements (suc most) fields (v ∷ vs) =
    fits_fields fields (take (length fields) (v ∷ vs)) && fits_elements most fields (drop (length fields) (v ∷ vs))

-- Whether these are values of the type: one for each field, of the field's kind and in its range. Those of a buffer
-- are the values of its elements.
unfoldable pub fits_type : TypeInfo → List Value → Bool
fits_type t values =
    if is_buffer t.kind then fits_elements MOST_ELEMENTS t.fields values else fits_fields t.fields values

-- the same of a buffer, by the list of its elements
pub record AreElements (most : ℕ) (fields : List FieldInfo) (values : List Value) : Type 0 where
  pub elements : List (List Value)
  pub few : length elements ≤ most
  pub each : list_all (fits_fields fields) elements ≡ true
  pub joined : flat_map (λ element. element) elements ≡ values

-- the number that a field of this kind keeps of a number: its low bits, as a signed number
abbrev pub fit_number : FieldKind → ℤ → ℤ
fit_number I32 z = int_wrap w32 z
fit_number I64 z = int_wrap w64 z
fit_number RefKind z = pos 0

-- what a field of this kind keeps of a value; 0 or the null entity where the value is of the other sort
abbrev pub fit : FieldKind → Value → Value
fit I32 (Int z) = Int (fit_number I32 z)
fit I64 (Int z) = Int (fit_number I64 z)
fit RefKind (Int z) = Ref null_entity
fit I32 (Ref e) = Int (pos 0)
fit I64 (Ref e) = Int (pos 0)
fit RefKind (Ref e) = Ref e

-- what a type's fields hold before they are set: 0 or the null entity
abbrev pub default_value : FieldKind → Value
default_value I32 = Int (pos 0)
default_value I64 = Int (pos 0)
default_value RefKind = Ref null_entity
