use Rattle.std.proofs.Common.{◌∙◌, not, ap, sym, subst}
use Rattle.ent_types.specs.declared.entity.TheConstants.TypeId.{PREFAB}
use Rattle.ent_types.specs.TypeSets.{without_type}
use Rattle.structural_ops.proofs.Chosen.{Leave, stays_in_copy, stripped, begun, next_below, stays, goes, ended, copied_is}
use Rattle.structural_ops.proofs.operations.copied_among.Goals as goal

pub loop-ty-init : goal.loop-ty-init
loop-ty-init c =
    subst (λ set. Leave (stays_in_copy c.args.registry.now) c.into_iter-ty-iterator.result c.without-copied.result (stripped (stays_in_copy c.args.registry.now) c.args.types.now set)) c.without-copied.ensures.value
    (begun (stays_in_copy c.args.registry.now) c.args.types.now c.into_iter-ty-iterator.result c.without-copied.result c.iter-ty-items.ensures.rising
    (c.into_iter-ty-iterator.ensures.into_iter_gives ∙ c.iter-ty-items.ensures.value))

pub without-copied-requires-then-is_cleanup : goal.without-copied-requires-then-is_cleanup
without-copied-requires-then-is_cleanup c =
    next_below (stays_in_copy c.args.registry.now) c.in-Some.ty.0 c.loop-ty.ty-iterator c.next.new.self c.loop-ty.copied
    (stripped (stays_in_copy c.args.registry.now) c.args.types.now (without_type c.args.types.now PREFAB.0)) c.in-Some.ensures.steps c.loop-ty.invariant

pub loop-ty-preserved-then-is_cleanup : goal.loop-ty-preserved-then-is_cleanup
loop-ty-preserved-then-is_cleanup c =
    goes (stays_in_copy c.args.registry.now) c.in-Some.ty.0 c.loop-ty.ty-iterator c.next.new.self c.loop-ty.copied
    (stripped (stays_in_copy c.args.registry.now) c.args.types.now (without_type c.args.types.now PREFAB.0)) c.in-Some.ensures.steps c.loop-ty.invariant
    (ap not (sym c.is_cleanup.ensures ∙ c.if-is_cleanup.true)) c.without-copied-then-is_cleanup.result c.without-copied-then-is_cleanup.ensures.value

pub loop-ty-preserved : goal.loop-ty-preserved
loop-ty-preserved c =
    stays (stays_in_copy c.args.registry.now) c.in-Some.ty.0 c.loop-ty.ty-iterator c.next.new.self c.loop-ty.copied
    (stripped (stays_in_copy c.args.registry.now) c.args.types.now (without_type c.args.types.now PREFAB.0)) c.in-Some.ensures.steps c.loop-ty.invariant
    (ap not (sym c.is_cleanup.ensures ∙ c.if-is_cleanup.false))

pub returns : goal.returns
returns c =
    ended (stays_in_copy c.args.registry.now) c.loop-ty.ty-iterator c.loop-ty.copied
    (stripped (stays_in_copy c.args.registry.now) c.args.types.now (without_type c.args.types.now PREFAB.0)) c.in-None.ensures.steps.0 c.loop-ty.invariant
    ∙ copied_is c.args.registry.now c.args.types.now c.iter-ty-items.ensures.rising
