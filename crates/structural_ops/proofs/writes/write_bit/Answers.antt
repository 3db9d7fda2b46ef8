use Rattle.std.proofs.Common.{true, cond, [], ◌∷◌, sym, subst}
use Rattle.ent_types.specs.TypeSets.{has_type}
use Rattle.world_rows.specs.Writes.{CanWrite, Switch}
use Rattle.world_rows.proofs.Composed.{can_first}
use Rattle.structural_ops.proofs.writes.write_bit.Goals as goal

pub set_enabled-requires : goal.set_enabled-requires
set_enabled-requires c =
    can_first c.args.number c.args.row (Switch c.args.ty.0 true) [] c.args.store.now
    (subst (λ b. CanWrite c.args.number c.args.row (cond b (Switch c.args.ty.0 true ∷ []) []) c.args.store.now) (sym c.if-has.ensures.value)
    (subst (λ b. CanWrite c.args.number c.args.row (cond b [] (cond (has_type c.args.off.now c.args.ty.0) (Switch c.args.ty.0 true ∷ []) [])) c.args.store.now) (sym c.if-is_shared.ensures) c.requires.room))
