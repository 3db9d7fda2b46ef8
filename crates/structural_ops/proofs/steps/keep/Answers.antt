use Rattle.ent_types.specs.TypeSets.{has_type}
use Rattle.chunk_block.specs.Blocks.{row_in}
use Rattle.world_model.specs.Operations.{home_kept}
use Rattle.world_places.specs.Placing.{home_of}
use Rattle.world_rows.specs.Types.{row_kept}
use Rattle.structural_ops.specs.Worlds.{state_of}
use Rattle.structural_ops.proofs.Rehomed.{row_whole, readable, unmoved, part_among, kept_are, kept_away, kept_moves}
use Rattle.structural_ops.proofs.steps.keep.Goals as goal

pub read_parts-requires : goal.read_parts-requires
read_parts-requires c =
    readable c.args.w.now c.requires.consistent c.args.e c.args.place c.requires.there c.args.types.now
    (part_among c.args.w.now c.requires.consistent c.args.e c.args.place c.requires.there c.args.types.now c.requires.fewer)

pub returns-in_err-read_parts-clause-moves : goal.returns-in_err-read_parts-clause-moves
returns-in_err-read_parts-clause-moves c =
    unmoved c.args.w.now c.requires.consistent c.args.e c.args.place c.requires.there (λ b. home_kept (has_type c.args.types.now) (home_of b))
    (λ b. row_kept c.args.types.now c.args.e c.args.dying (row_in c.args.place.row b.block.rows)) c.from_residual.result c.from_residual.ensures.1

pub disabled_in-off-requires : goal.disabled_in-off-requires
disabled_in-off-requires c = row_whole c.args.w.now c.requires.consistent c.args.e c.args.place c.requires.there

pub move_row-requires-clause-parts : goal.move_row-requires-clause-parts
move_row-requires-clause-parts c =
    kept_are c.args.w.now c.requires.consistent c.args.e c.args.place c.requires.there c.args.types.now c.requires.fewer c.disabled_in-off.result c.disabled_in-off.ensures
    c.new-parts.result.items c.read_parts.new.parts.items c.deref.result.now c.new-parts.ensures.items c.deref.ensures.value c.in_ok-read_parts.ensures

pub move_row-requires-clause-apart : goal.move_row-requires-clause-apart
move_row-requires-clause-apart c =
    kept_away c.args.w.now c.requires.consistent c.args.e c.args.place c.requires.there c.args.types.now c.requires.fewer c.disabled_in-off.result c.disabled_in-off.ensures
    c.new-parts.result.items c.read_parts.new.parts.items c.deref.result.now c.new-parts.ensures.items c.deref.ensures.value c.in_ok-read_parts.ensures

pub returns-clause-moves : goal.returns-clause-moves
returns-clause-moves c =
    kept_moves c.args.w.now c.requires.consistent c.args.e c.args.place c.requires.there c.args.types.now c.requires.fewer c.disabled_in-off.result c.disabled_in-off.ensures
    c.new-parts.result.items c.read_parts.new.parts.items c.deref.result.now c.new-parts.ensures.items c.deref.ensures.value c.in_ok-read_parts.ensures
    (state_of c.move_row.new.w) c.args.dying c.move_row.result c.move_row.ensures.moves
