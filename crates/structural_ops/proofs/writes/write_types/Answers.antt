use Rattle.std.proofs.Common.{◌≡◌, ◌∙◌, inl, inr, ap, refl, sym, subst, map}
use Rattle.world_model.specs.Members.{In}
use Rattle.world_model.specs.Part.{part_of as seen}
use Rattle.world_rows.specs.Writes.{CanWrite, written, value_writes, bit_writes, all_type_writes}
use Rattle.world_rows.proofs.Composed.{one_type, can_values, can_bits, can_types}
use Rattle.structural_ops.proofs.Sets.{set_below}
use Rattle.structural_ops.proofs.writes.write_types.Goals as goal

pub loop-ty-init : goal.loop-ty-init
loop-ty-init c =
    let parts = map seen c.args.parts.now in
    let is : c.into_iter-ty-iterator.result ≡ c.args.types.now = c.into_iter-ty-iterator.ensures.into_iter_gives ∙ c.iter-ty-items.ensures.value in (
      ap (λ ts. written c.args.number c.args.row (all_type_writes c.args.registry.now parts c.args.off.now ts) c.args.store.now) is,
      (
        subst (λ ts. CanWrite c.args.number c.args.row (all_type_writes c.args.registry.now parts c.args.off.now ts) c.args.store.now) (sym is) c.requires.room,
        ((λ t i. c.requires.fit t (subst (In t) is i)), λ t i. set_below c.args.types.now c.iter-ty-items.ensures.rising t (subst (In t) is i)),
      ),
    )

pub write_values-requires-clause-room : goal.write_values-requires-clause-room
write_values-requires-clause-room c =
    let parts = map seen c.args.parts.now in
    can_values c.args.registry.now parts c.args.off.now c.in-Some.ty.0 c.next.new.self c.args.number c.args.row c.loop-ty.store
    (subst (λ ts. CanWrite c.args.number c.args.row (all_type_writes c.args.registry.now parts c.args.off.now ts) c.loop-ty.store) c.in-Some.ensures.steps c.loop-ty.invariant.1.0)

pub write_bit-requires-clause-room : goal.write_bit-requires-clause-room
write_bit-requires-clause-room c =
    let parts = map seen c.args.parts.now in
    subst (λ s. CanWrite c.args.number c.args.row (bit_writes c.args.registry.now c.args.off.now c.in-Some.ty.0) s) (sym c.write_values.ensures)
    (can_bits c.args.registry.now parts c.args.off.now c.in-Some.ty.0 c.next.new.self c.args.number c.args.row c.loop-ty.store
    (subst (λ ts. CanWrite c.args.number c.args.row (all_type_writes c.args.registry.now parts c.args.off.now ts) c.loop-ty.store) c.in-Some.ensures.steps c.loop-ty.invariant.1.0))

pub write_bit-requires-clause-known : goal.write_bit-requires-clause-known
write_bit-requires-clause-known c = c.loop-ty.invariant.1.1.1 c.in-Some.ty.0 (subst (In c.in-Some.ty.0) (sym c.in-Some.ensures.steps) (inl refl))

pub loop-ty-preserved : goal.loop-ty-preserved
loop-ty-preserved c =
    let parts = map seen c.args.parts.now in
    let room = subst (λ ts. CanWrite c.args.number c.args.row (all_type_writes c.args.registry.now parts c.args.off.now ts) c.loop-ty.store) c.in-Some.ensures.steps c.loop-ty.invariant.1.0 in
    let store : c.write_bit.new.store ≡ written c.args.number c.args.row (bit_writes c.args.registry.now c.args.off.now c.in-Some.ty.0) (written c.args.number c.args.row (value_writes c.args.registry.now parts c.in-Some.ty.0) c.loop-ty.store) =
    c.write_bit.ensures ∙ ap (written c.args.number c.args.row (bit_writes c.args.registry.now c.args.off.now c.in-Some.ty.0)) c.write_values.ensures in (
      ap (written c.args.number c.args.row (all_type_writes c.args.registry.now parts c.args.off.now c.next.new.self)) store
          ∙ sym (one_type c.args.registry.now parts c.args.off.now c.in-Some.ty.0 c.next.new.self c.args.number c.args.row c.loop-ty.store)
          ∙ ap (λ ts. written c.args.number c.args.row (all_type_writes c.args.registry.now parts c.args.off.now ts) c.loop-ty.store) (sym c.in-Some.ensures.steps)
          ∙ c.loop-ty.invariant.0,
      (
        subst (λ s. CanWrite c.args.number c.args.row (all_type_writes c.args.registry.now parts c.args.off.now c.next.new.self) s) (sym store)
            (can_types c.args.registry.now parts c.args.off.now c.in-Some.ty.0 c.next.new.self c.args.number c.args.row c.loop-ty.store room),
        ((λ t i. c.loop-ty.invariant.1.1.0 t (subst (In t) (sym c.in-Some.ensures.steps) (inr i))), (λ t i. c.loop-ty.invariant.1.1.1 t (subst (In t) (sym c.in-Some.ensures.steps) (inr i)))),
      ),
    )
