use Rattle.std.proofs.Common.{◌≡◌, ◌<◌, ◌∙◌, inl, inr, [], refl, sym, subst, length}
use Rattle.world_model.specs.Members.{In}
use Rattle.chunk_block.specs.Blocks.{BlockState, IsNotLent, IsWhole, is_off, row_in}
use Rattle.archetype_store.specs.Stores.{Numbered}
use Rattle.world_places.proofs.Numbers.{of_more}
use Rattle.world_rows.specs.Reading.{AreOff}
use Rattle.structural_ops.proofs.Readable.{Collected, at_block, collected_all, collected_on, collected_off, is_on, is_off as is_not_on, whole_not_lent}
use Rattle.structural_ops.proofs.Sets.{set_below}
use Rattle.structural_ops.proofs.reading.disabled_in.Goals as goal

pub block-block-requires : goal.block-block-requires
block-block-requires c = of_more c.args.place.block _ _ c.args.store.now.blocks (λ b is. tt) c.requires

pub loop-ty-init : goal.loop-ty-init
loop-ty-init c =
    let is : c.into_iter-ty-iterator.result ≡ c.args.types.now = c.into_iter-ty-iterator.ensures.into_iter_gives ∙ c.iter-ty-items.ensures.value in
    let row = row_in c.args.place.row c.block-block.result.now.rows in (
      subst (λ off. Collected (λ t. is_off t row) c.args.types.now off c.into_iter-ty-iterator.result) (sym c.empty-off.ensures)
          (subst (Collected (λ t. is_off t row) c.args.types.now []) (sym is) (λ t. refl)),
      λ t i. set_below c.args.types.now c.iter-ty-items.ensures.rising t (subst (In t) is i),
    )

pub enabled-requires-clause-within : goal.enabled-requires-clause-within
enabled-requires-clause-within c =
    at_block c.args.place.block (λ (b : Numbered). (c.args.place.row < length b.block.rows) × IsWhole b.block.columns) c.args.store.now.blocks c.block-block.result.now c.block-block.ensures c.requires
    (λ b is h. subst (λ (s : BlockState). c.args.place.row < length s.rows) (sym is) h.0)

pub enabled-requires-clause-there : goal.enabled-requires-clause-there
enabled-requires-clause-there c =
    at_block c.args.place.block (λ (b : Numbered). (c.args.place.row < length b.block.rows) × IsWhole b.block.columns) c.args.store.now.blocks c.block-block.result.now c.block-block.ensures c.requires
    (λ b is h. subst (λ (s : BlockState). IsNotLent c.in-Some.ty.0 s.columns) (sym is) (whole_not_lent c.in-Some.ty.0 b.block.columns h.1))

pub with-off-requires : goal.with-off-requires
with-off-requires c = c.loop-ty.invariant.1 c.in-Some.ty.0 (subst (In c.in-Some.ty.0) (sym c.in-Some.ensures.steps) (inl refl))

pub loop-ty-preserved-then-not-enabled : goal.loop-ty-preserved-then-not-enabled
loop-ty-preserved-then-not-enabled c =
    let row = row_in c.args.place.row c.block-block.result.now.rows in
    let before = subst (Collected (λ t. is_off t row) c.args.types.now c.loop-ty.off) c.in-Some.ensures.steps c.loop-ty.invariant.0 in (
      subst (λ off. Collected (λ t. is_off t row) c.args.types.now off c.next.new.self) (sym c.with-off.ensures.value)
          (collected_off (λ t. is_off t row) c.args.types.now c.loop-ty.off c.in-Some.ty.0 c.next.new.self before (is_not_on (is_off c.in-Some.ty.0 row) c.if-not-enabled.ensures)),
      λ t i. c.loop-ty.invariant.1 t (subst (In t) (sym c.in-Some.ensures.steps) (inr i)),
    )

pub loop-ty-preserved : goal.loop-ty-preserved
loop-ty-preserved c =
    let row = row_in c.args.place.row c.block-block.result.now.rows in
    let before = subst (Collected (λ t. is_off t row) c.args.types.now c.loop-ty.off) c.in-Some.ensures.steps c.loop-ty.invariant.0 in (
      collected_on (λ t. is_off t row) c.args.types.now c.loop-ty.off c.in-Some.ty.0 c.next.new.self before (is_on (is_off c.in-Some.ty.0 row) c.if-not-enabled.ensures),
      λ t i. c.loop-ty.invariant.1 t (subst (In t) (sym c.in-Some.ensures.steps) (inr i)),
    )

pub returns : goal.returns
returns c =
    of_more c.args.place.block _ _ c.args.store.now.blocks
    (λ b is.
    subst (λ (s : BlockState). AreOff c.args.place.row c.args.types.now c.loop-ty.off (record b { block = s })) is
    (collected_all (λ t. is_off t (row_in c.args.place.row c.block-block.result.now.rows)) c.args.types.now c.loop-ty.off
    (subst (Collected (λ t. is_off t (row_in c.args.place.row c.block-block.result.now.rows)) c.args.types.now c.loop-ty.off) c.in-None.ensures.steps.0 c.loop-ty.invariant.0)))
    c.block-block.ensures
