use Rattle.std.proofs.Common.{◌≡◌, ◌*◌, ◌≤◌, take}
use Rattle.std.specs.Prelude.{sum_by}
use Rattle.ent_types.specs.Types.{field_size}
use Rattle.ent_types.proofs.type_info.total_size.Given as goal

abbrev pub invariant-loop-field : goal.invariant-loop-field
invariant-loop-field l =
    (l.total ≡ sum_by (λ f. field_size f.kind) (take l.field-index l.fields)) × (l.total ≤ 8 * l.field-index)
