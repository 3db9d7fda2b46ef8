-- What the names of a printed expression mean.
use Rattle.std.proofs.Common.{ℕ, ◌≡◌, ◌<◌, List, Bool, true, cond, Some, None, length, [], ap, ◌∙◌}
use Rattle.std.proofs.lemmas.Bool.{and_parts, ltb-true}
use Rattle.ent_types.specs.declared.entity.TypeId.{TypeId}
use Rattle.ent_types.specs.declared.kinds.FieldKind.TheVariants.{I32}
use Rattle.ent_types.specs.declared.type_info.FieldInfo.{FieldInfo}
use Rattle.ent_types.specs.declared.type_info.TypeInfo.{TypeInfo}
use Rattle.ent_types.specs.Types.{field_named}
use Rattle.ent_types.specs.Registries.{type_at, type_id_named, IsLawfulRegistry}
use Rattle.ent_types.proofs.LawfulTypes.{are_distinct-lawful, is_lawful_type-at}
use Rattle.expr_read.specs.declared.scope.TextPlace.TheVariants.{System}
use Rattle.expr_grammar.specs.declared.words.FieldUse.{FieldUse}
use Rattle.expr_read.specs.ScopeOf.{is_known}
use Rattle.expr_read.specs.Printing.{any_field}
use Rattle.expr_read.specs.PrintedTexts.{field_at, is_field, type_name}
use Rattle.expr_read.proofs.ScopeLaws.{found, place_of}

abbrev no_field : FieldInfo
no_field = record { name = []; kind = I32 }

module _ (types : List TypeInfo) (lawful : IsLawfulRegistry types) where
  -- a type is found by its name
  pub type_found : (ty : TypeId) → is_known types ty ≡ true → type_id_named types (type_name types ty) ≡ Some ty
  type_found ty known = found types lawful System [] [] ty.0 (ltb-true _ _ known)

  -- a field is found by its name
  pub field_found : (role : FieldUse) (ty : TypeId) (i : ℕ) → is_field types ty i ≡ true → any_field types role ty (field_at types ty i).name ≡ Some i
  unfolding field_named
  field_found role ty i there =
      let both = and_parts _ _ there in
      let within : ty.0 < length types = ltb-true _ _ both.0 in
      let info : TypeInfo = type_at types ty.0 in
      ap (λ (b : Bool). cond b (field_named info (field_at types ty i).name) None) both.0
      ∙ place_of (λ (g : FieldInfo). g.name) no_field info.fields i (are_distinct-lawful info (is_lawful_type-at types lawful ty.0 within)) (ltb-true _ _ both.1)
