-- The fields of the rows to try.
use Rattle.std.specs.Prelude.{ℕ, ℤ, Bool, List, map, ◌==◌, ◌&&◌, nat_lt, if◌then◌else◌}
use Rattle.ent_types.specs.declared.entity.Entity.{Entity}
use Rattle.ent_types.specs.declared.entity.TypeId.{TypeId}
use Rattle.ent_types.specs.declared.value.Value.{Value}
use Rattle.ent_types.specs.declared.value.Value.TheVariants.{Int, Ref}

-- type 6 is shared
abbrev pub has_own : TypeId → ℕ → Bool
has_own ty field = if ty.0 == 6 then field == 0 else ty.0 == 3 && nat_lt field 3

abbrev pub values_of : ℕ → List ℤ → List ℤ → List Entity → List Value
values_of field narrow wide refs =
    if field == 0 then map (λ z. Int z) narrow
    else if field == 1 then map (λ z. Int z) wide
    else map (λ e. Ref e) refs
