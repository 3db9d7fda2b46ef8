use Rattle.std.proofs.Common.{◌+◌, length, ap, sym, subst, arith}
use Rattle.world_rows.specs.Writes.{CanWrite, Field, field_writes}
use Rattle.world_rows.proofs.Composed.{can_first, can_rest}
use Rattle.structural_ops.proofs.writes.+write_fields.Goals as goal

pub field_set-requires : goal.field_set-requires
field_set-requires t c =
    can_first c.args.number c.args.row (Field c.args.ty.0 c.args.from c.in-Some.value.now) (field_writes c.args.ty.0 (c.args.from + 1) c.in-Some.rest.now) c.args.store.now
    (subst (λ vs. CanWrite c.args.number c.args.row (field_writes c.args.ty.0 c.args.from vs) c.args.store.now) c.in-Some.ensures.cases.0 c.requires.room)

pub write_fields-requires : goal.write_fields-requires
write_fields-requires t c = (
  omega (arith, c.decreases, ap length c.in-Some.ensures.cases.0),
  (
    subst (λ s. CanWrite c.args.number c.args.row (field_writes c.args.ty.0 (c.args.from + 1) c.in-Some.rest.now) s) (sym c.field_set.ensures)
        (can_rest c.args.number c.args.row (Field c.args.ty.0 c.args.from c.in-Some.value.now) (field_writes c.args.ty.0 (c.args.from + 1) c.in-Some.rest.now) c.args.store.now
        (subst (λ vs. CanWrite c.args.number c.args.row (field_writes c.args.ty.0 c.args.from vs) c.args.store.now) c.in-Some.ensures.cases.0 c.requires.room)),
    omega (arith, c.requires.few, ap length c.in-Some.ensures.cases.0),
  ),
)
