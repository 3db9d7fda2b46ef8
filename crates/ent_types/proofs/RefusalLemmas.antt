-- When a registry refuses a type, where `found` is what a look-up of its name gave.
use Rattle.std.proofs.Common.{ℕ, ◌≡◌, ◌<◌, ◌≤◌, List, Bool, true, false, length, refl, ap, sym, ◌∙◌, is_some, Option, Some, None}
use Rattle.std.specs.Prelude.{option_map}
use Rattle.std.proofs.lemmas.Bool.{lt-ltb, le-ltb, le-leb, lt-leb}
use Rattle.ent_types.specs.declared.entity.TypeId.{TypeId}
use Rattle.ent_types.specs.declared.type_info.TypeInfo.{TypeInfo}
use Rattle.ent_types.specs.declared.registry.RegistryFault.TheVariants.{TooWide, Duplicate, TooManyTypes}
use Rattle.ent_types.specs.Registries.{type_named, type_id_named}
use Rattle.ent_types.specs.Refusals.{refusal}

is_some-type_id_named : (types : List TypeInfo) (name : List ℕ) → is_some (type_id_named types name) ≡ is_some (type_named types name)
is_some-type_id_named types name = by (type_named types name)
  where
    by : (place : Option ℕ) → is_some (option_map (λ (n : ℕ). let id : TypeId = record { 0 = n } in id) place) ≡ is_some place
    by None = refl
    by (Some n) = refl

module _ (types : List TypeInfo) (info : TypeInfo) where
  pub too_wide : 64 < length info.fields → refusal types info ≡ Some TooWide
  unfolding refusal
  too_wide wide = rw (lt-ltb 64 (length info.fields) wide) refl

  module _ (found : Option TypeId) (is : found ≡ type_id_named types info.name) (narrow : length info.fields ≤ 64) where
    -- what the look-up says of the name's number
    told : (b : Bool) → b ≡ is_some found → is_some (type_named types info.name) ≡ b
    told b h = sym (h ∙ ap is_some is ∙ is_some-type_id_named types info.name)

    pub duplicate : true ≡ is_some found → refusal types info ≡ Some Duplicate
    unfolding refusal
    duplicate there = rw (le-ltb 64 (length info.fields) narrow, told true there) refl

    pub is_new : (own : List TypeInfo) → own ≡ types → false ≡ is_some found → is_some (type_named own info.name) ≡ false
    is_new own same new = ap (λ (ts : List TypeInfo). is_some (type_named ts info.name)) same ∙ told false new

    pub too_many : false ≡ is_some found → 256 ≤ length types → refusal types info ≡ Some TooManyTypes
    unfolding refusal
    too_many new full = rw (le-ltb 64 (length info.fields) narrow, told false new, le-leb 256 (length types) full) refl

    pub none_due : false ≡ is_some found → length types < 256 → refusal types info ≡ None
    unfolding refusal
    none_due new few = rw (le-ltb 64 (length info.fields) narrow, told false new, lt-leb 256 (length types) few) refl
