use Rattle.std.proofs.Common.{◌≡◌, ◌∙◌, sym, ap, subst, map}
use Rattle.std.specs.Prelude.{⊤}
use Rattle.world_model.specs.World.{mark_type}
use Rattle.archetype_store.specs.Stores.{OfBlock, with_block_in}
use Rattle.world_places.specs.Placing.{order_marked}
use Rattle.world_places.proofs.Marks.{rising_distinct}
use Rattle.world_places.proofs.Numbers.{of_both, of_more}
use Rattle.world_rows.proofs.Composed.{still_there}
use Rattle.structural_ops.proofs.Marked.{marked_is}
use Rattle.structural_ops.proofs.Sets.{set_rises}
use Rattle.structural_ops.proofs.attach.mark_block.Goals as goal

pub block-requires : goal.block-requires
block-requires c = of_more c.args.number _ (λ _. ⊤) c.args.store.now.blocks (λ b same. tt) c.requires

pub mark_types-requires : goal.mark_types-requires
mark_types-requires c = of_more c.args.number _ (λ _. ⊤) c.args.store.now.blocks (λ b same. tt) c.requires

pub mark_order-requires : goal.mark_order-requires
mark_order-requires c =
    subst (λ s. OfBlock c.args.number (λ _. ⊤) s.blocks) (sym c.mark_types.ensures)
    (still_there c.args.number c.args.version.0 c.types.result.now c.args.store.now (of_more c.args.number _ (λ _. ⊤) c.args.store.now.blocks (λ b same. tt) c.requires))

pub returns : goal.returns
returns c =
    let n = c.args.number in
    let now = c.args.version.0 in
    let types = c.types.result.now in
    let blocks = c.args.store.now.blocks in
    let are : OfBlock n (λ b. types ≡ b.types) blocks =
    of_more n (λ b. c.block.result.now ≡ b.block) (λ b. types ≡ b.block.types) blocks (λ b same. c.types.ensures.value ∙ ap (λ x. x.types) same) c.block.ensures in
    c.mark_order.ensures
    ∙ ap (with_block_in n (order_marked now)) c.mark_types.ensures
    ∙ marked_is n now types c.args.store.now c.is_sound.ensures.numbers (rising_distinct types (set_rises types c.len.ensures.rising)) are
    (of_both n (λ b. types ≡ b.block.types) (λ b. map mark_type b.block.marks ≡ b.block.types) (λ b. map mark_type b.block.marks ≡ types) blocks (λ b same marked. marked ∙ sym same) are c.requires)
