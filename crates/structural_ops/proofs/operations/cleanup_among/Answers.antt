use Rattle.std.proofs.Common.{◌∙◌, sym}
use Rattle.ent_types.specs.TypeLookups.{is_cleanup_at}
use Rattle.structural_ops.proofs.Chosen.{stripped, begun, next_below, stays, goes, ended, cleanup_is}
use Rattle.structural_ops.proofs.operations.cleanup_among.Goals as goal

pub loop-ty-init : goal.loop-ty-init
loop-ty-init c =
    begun (is_cleanup_at c.args.registry.now) c.args.types.now c.into_iter-ty-iterator.result c.args.types.now c.iter-ty-items.ensures.rising
    (c.into_iter-ty-iterator.ensures.into_iter_gives ∙ c.iter-ty-items.ensures.value)

pub without-cleanup-requires : goal.without-cleanup-requires
without-cleanup-requires c =
    next_below (is_cleanup_at c.args.registry.now) c.in-Some.ty.0 c.loop-ty.ty-iterator c.next.new.self c.loop-ty.cleanup
    (stripped (is_cleanup_at c.args.registry.now) c.args.types.now c.args.types.now) c.in-Some.ensures.steps c.loop-ty.invariant

pub loop-ty-preserved-then-not-is_cleanup : goal.loop-ty-preserved-then-not-is_cleanup
loop-ty-preserved-then-not-is_cleanup c =
    goes (is_cleanup_at c.args.registry.now) c.in-Some.ty.0 c.loop-ty.ty-iterator c.next.new.self c.loop-ty.cleanup
    (stripped (is_cleanup_at c.args.registry.now) c.args.types.now c.args.types.now) c.in-Some.ensures.steps c.loop-ty.invariant
    (sym c.is_cleanup.ensures ∙ c.if-not-is_cleanup.true) c.without-cleanup.result c.without-cleanup.ensures.value

pub loop-ty-preserved : goal.loop-ty-preserved
loop-ty-preserved c =
    stays (is_cleanup_at c.args.registry.now) c.in-Some.ty.0 c.loop-ty.ty-iterator c.next.new.self c.loop-ty.cleanup
    (stripped (is_cleanup_at c.args.registry.now) c.args.types.now c.args.types.now) c.in-Some.ensures.steps c.loop-ty.invariant
    (sym c.is_cleanup.ensures ∙ c.if-not-is_cleanup.false)

pub returns : goal.returns
returns c =
    ended (is_cleanup_at c.args.registry.now) c.loop-ty.ty-iterator c.loop-ty.cleanup
    (stripped (is_cleanup_at c.args.registry.now) c.args.types.now c.args.types.now) c.in-None.ensures.steps.0 c.loop-ty.invariant
    ∙ cleanup_is c.args.registry.now c.args.types.now c.iter-ty-items.ensures.rising
