-- What the rows of the table have.
use Rattle.std.specs.Prelude.{ℕ, Bool, false, not, ◌==◌, nat_lt, if◌then◌else◌}
use Rattle.ent_types.specs.declared.entity.TypeId.{TypeId}

-- whether the own row has this field
abbrev pub has_own : TypeId → ℕ → Bool
has_own ty i = if ty.0 == 4 then false else nat_lt i 2

-- whether the other rows can be read by this type
abbrev pub can_look : TypeId → Bool
can_look ty = not (ty.0 == 4)
