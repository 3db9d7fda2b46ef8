use Rattle.std.proofs.Common.{◌++◌, ◌∙◌, ap, sym}
use Rattle.ent_io.proofs.Exits.{exit_writes}
use Rattle.world_text.specs.Layout.{block_lines, layout_line}
use Rattle.world_text.proofs.Appended.{prefix_of_first, writes_behind}
use Rattle.world_text.proofs.Listing.{as_many_blocks, layout_text-is}
use Rattle.world_text.proofs.layout.write_layout.Goals as goal

pub returns-in_err-write_head-clause-text : goal.returns-in_err-write_head-clause-text
returns-in_err-write_head-clause-text g c =
    let w = c.args.world.now.world in
    exit_writes _ _ _ _ c.from_residual.ensures.0
    (prefix_of_first _ _ (block_lines w.registry 0 w.blocks) _ _
    (layout_text-is w ∙ ap (λ n. layout_line n ++ block_lines w.registry 0 w.blocks) (sym (c.count_blocks.ensures ∙ as_many_blocks c.args.world.now c.store.result.now c.store.ensures)))
    c.in_err-write_head.ensures.text)

pub returns-clause-text : goal.returns-clause-text
returns-clause-text g c =
    let w = c.args.world.now.world in
    writes_behind _ _ _ (block_lines w.registry 0 w.blocks) _ _ _
    (layout_text-is w ∙ ap (λ n. layout_line n ++ block_lines w.registry 0 w.blocks) (sym (c.count_blocks.ensures ∙ as_many_blocks c.args.world.now c.store.result.now c.store.ensures)))
    c.in_ok-write_head.ensures.text c.write_blocks.ensures.text
