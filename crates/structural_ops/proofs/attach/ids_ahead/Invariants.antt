use Rattle.std.proofs.Common.{◌≡◌}
use Rattle.entity_table.specs.Table.{made}
use Rattle.world_model.specs.Ids.{next_ids}
use Rattle.structural_ops.proofs.attach.ids_ahead.Given as goal

-- the first ids
abbrev pub invariant-loop-k : goal.invariant-loop-k
invariant-loop-k l = l.ids.items ≡ next_ids l.k l.table.table.free (made l.table.table) l.table.table.first_version
