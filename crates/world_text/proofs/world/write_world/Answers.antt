use Rattle.std.proofs.Common.{◌++◌, ◌∙◌, ap, sym}
use Rattle.std.specs.List.{flat_map}
use Rattle.ent_io.proofs.Exits.{exit_writes}
use Rattle.world_model.specs.Found.{found_by_index}
use Rattle.world_text.specs.Lines.{row_line, world_line}
use Rattle.world_text.proofs.Appended.{prefix_of_first, writes_behind}
use Rattle.world_text.proofs.WorldLines.{world_text-is}
use Rattle.world_text.proofs.world.write_world.Goals as goal

pub returns-in_err-write_head-clause-text : goal.returns-in_err-write_head-clause-text
returns-in_err-write_head-clause-text g c =
    let w = c.args.world.now.world in
    exit_writes _ _ _ _ c.from_residual.ensures.0
    (prefix_of_first _ _ (flat_map (row_line w.registry) (found_by_index w)) _ _
    (world_text-is c.args.frames w ∙ ap (λ n. world_line c.args.frames n ++ flat_map (row_line w.registry) (found_by_index w)) (sym c.alive_count.ensures)) c.in_err-write_head.ensures.text)

pub returns-clause-text : goal.returns-clause-text
returns-clause-text g c =
    let w = c.args.world.now.world in
    writes_behind _ _ _ (flat_map (row_line w.registry) (found_by_index w)) _ _ _
    (world_text-is c.args.frames w ∙ ap (λ n. world_line c.args.frames n ++ flat_map (row_line w.registry) (found_by_index w)) (sym c.alive_count.ensures)) c.in_ok-write_head.ensures.text c.write_rows.ensures.text
