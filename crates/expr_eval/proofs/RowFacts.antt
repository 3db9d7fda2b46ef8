-- What follows from what other rows are, for those who read them.
use Rattle.std.proofs.Common.{ℕ, ◌≡◌, false, Option, Some, None, refl, ap, arith}
use Rattle.std.specs.Prelude.{is_some, option_and_then, slice_get}
use Rattle.ent_types.specs.declared.entity.Entity.{Entity}
use Rattle.ent_types.specs.declared.entity.TypeId.{TypeId}
use Rattle.world_model.specs.Found.{Found, values_of}
use Rattle.expr_eval.specs.Rows.{others_of, values_seen}

-- nothing follows from nothing
none_after : {T U : Type 0} (f : T → Option U) (o : Option T) → is_some o ≡ false → option_and_then f o ≡ None
none_after f None nothing = refl
none_after f (Some x) nothing = grind (arith)

-- an entity that isn't alive has no type
pub dead_has_nothing : (found : Entity → Option Found) (e : Entity) (ty : TypeId)
    → (others_of found).alive e ≡ false → (others_of found).has e ty ≡ false
dead_has_nothing found e ty dead = ap is_some (none_after (values_of ty.0) (found e) dead)

-- a type that isn't there has no value
pub lacking_has_no_value : (found : Entity → Option Found) (e : Entity) (ty : TypeId) (i : ℕ)
    → (others_of found).has e ty ≡ false → (others_of found).value e ty i ≡ None
lacking_has_no_value found e ty i lacks = none_after (λ values. slice_get values i) (values_seen found e ty) lacks
