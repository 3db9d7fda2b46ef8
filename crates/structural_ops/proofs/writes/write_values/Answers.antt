use Rattle.std.proofs.Common.{cond, [], sym, ap, subst, map, length, arith}
use Rattle.ent_types.specs.TypeLookups.{is_buffer_at}
use Rattle.world_model.specs.Part.{part_of as seen}
use Rattle.world_rows.specs.Rows.{values_at}
use Rattle.world_rows.specs.Writes.{CanWrite, field_writes}
use Rattle.world_rows.proofs.Filled.{values_length}
use Rattle.structural_ops.proofs.writes.write_values.Goals as goal

pub write_fields-requires-clause-room : goal.write_fields-requires-clause-room
write_fields-requires-clause-room c =
    subst (λ vs. CanWrite c.args.number c.args.row (field_writes c.args.ty.0 0 vs) c.args.store.now) (sym c.values_of.ensures)
    (subst (λ b. CanWrite c.args.number c.args.row (cond b [] (field_writes c.args.ty.0 0 (values_at c.args.ty.0 (map seen c.args.parts.now)))) c.args.store.now) (sym c.if-is_buffer.ensures)
    (subst (λ b. CanWrite c.args.number c.args.row (cond b [] (cond (is_buffer_at c.args.registry.now c.args.ty.0) [] (field_writes c.args.ty.0 0 (values_at c.args.ty.0 (map seen c.args.parts.now))))) c.args.store.now)
    (sym c.if-is_shared.ensures) c.requires.room))

pub write_fields-requires-clause-few : goal.write_fields-requires-clause-few
write_fields-requires-clause-few c =
    omega (
      arith,
      values_length c.args.registry.now c.args.ty.0 (values_at c.args.ty.0 (map seen c.args.parts.now)) (sym c.if-is_buffer.ensures) c.requires.fit,
      c.fields.ensures.width,
      ap length c.fields.ensures.value,
      ap length c.values_of.ensures,
    )
