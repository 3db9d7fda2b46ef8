-- What an expression sees of other rows, where it is known how the row of an entity is found.
use Rattle.std.specs.Prelude.{List, slice_get, Option, is_some, option_and_then}
use Rattle.ent_types.specs.declared.entity.Entity.{Entity}
use Rattle.ent_types.specs.declared.entity.TypeId.{TypeId}
use Rattle.ent_types.specs.declared.value.Value.{Value}
use Rattle.world_model.specs.Found.{Found, values_of}
use Rattle.expr_eval.specs.Values.{OtherRows}

-- the values of a type in the row of an entity; none where the entity isn't alive or its row lacks the type
abbrev pub values_seen : (Entity → Option Found) → Entity → TypeId → Option (List Value)
values_seen found e ty = option_and_then (values_of ty.0) (found e)

abbrev pub others_of : (Entity → Option Found) → OtherRows
others_of found = record {
  value = λ e ty i. option_and_then (λ values. slice_get values i) (values_seen found e ty);
  has = λ e ty. is_some (values_seen found e ty);
  alive = λ e. is_some (found e);
}
