use Rattle.std.proofs.Common.{◌<◌, ◌∙◌, ap, sym, subst, length}
use Rattle.chunk_block.specs.Blocks.{BlockState, row_in}
use Rattle.world_model.specs.Members.{In}
use Rattle.world_model.specs.Part.{part_of as seen}
use Rattle.world_places.specs.Placing.{home_of}
use Rattle.world_rows.specs.Types.{home_taking, row_taking}
use Rattle.structural_ops.specs.Worlds.{state_of}
use Rattle.structural_ops.proofs.Looked.{row_there}
use Rattle.structural_ops.proofs.Rehomed.{block_is, block_there, row_whole, readable, unmoved, more_are, more_away, more_moves}
use Rattle.structural_ops.proofs.steps.take.Goals as goal

pub block-block-requires : goal.block-block-requires
block-block-requires c = block_there c.args.w.now c.requires.consistent c.args.e c.args.place c.requires.there

pub dying-dying-requires : goal.dying-dying-requires
dying-dying-requires c =
    subst (λ (b : BlockState). c.args.place.row < length b.rows) (sym (block_is c.args.w.now c.requires.consistent c.args.e c.args.place c.requires.there c.block-block.result.now c.block-block.ensures))
    (row_there c.args.w.now c.requires.consistent c.args.e c.args.place c.requires.there)

pub returns-in_err-add_copy-clause-moves : goal.returns-in_err-add_copy-clause-moves
returns-in_err-add_copy-clause-moves c =
    unmoved c.args.w.now c.requires.consistent c.args.e c.args.place c.requires.there (λ b. home_taking c.args.w.now.registry (seen c.args.part.now) (home_of b))
    (λ b. row_taking c.args.w.now.registry (seen c.args.part.now) c.args.e (row_in c.args.place.row b.block.rows)) c.from_residual.result c.from_residual.ensures.1

pub read_parts-requires : goal.read_parts-requires
read_parts-requires c =
    readable c.args.w.now c.requires.consistent c.args.e c.args.place c.requires.there c.types.result.now
    (λ t i. subst (In t) (c.types.ensures.value ∙ ap (λ (b : BlockState). b.types) (block_is c.args.w.now c.requires.consistent c.args.e c.args.place c.requires.there c.block-block.result.now c.block-block.ensures)) i)

pub returns-in_err-read_parts-clause-moves : goal.returns-in_err-read_parts-clause-moves
returns-in_err-read_parts-clause-moves c =
    unmoved c.args.w.now c.requires.consistent c.args.e c.args.place c.requires.there (λ b. home_taking c.args.w.now.registry (seen c.args.part.now) (home_of b))
    (λ b. row_taking c.args.w.now.registry (seen c.args.part.now) c.args.e (row_in c.args.place.row b.block.rows)) c.from_residual-in_err-read_parts.result c.from_residual-in_err-read_parts.ensures.1

pub disabled_in-off-requires : goal.disabled_in-off-requires
disabled_in-off-requires c = row_whole c.args.w.now c.requires.consistent c.args.e c.args.place c.requires.there

pub move_row-requires-clause-parts : goal.move_row-requires-clause-parts
move_row-requires-clause-parts c =
    more_are c.args.w.now c.requires.consistent c.args.e c.args.place c.requires.there (seen c.args.part.now) c.requires.fit c.block-block.result.now c.block-block.ensures c.types.result.now c.with.result c.types.ensures.value c.with.ensures.value
    c.disabled_in-off.result c.disabled_in-off.ensures c.new-parts.result.items c.add_copy.new.parts.items c.read_parts.new.parts.items c.deref.result.now c.new-parts.ensures.items c.in_ok-add_copy.ensures c.deref.ensures.value
    c.in_ok-read_parts.ensures

pub move_row-requires-clause-apart : goal.move_row-requires-clause-apart
move_row-requires-clause-apart c =
    more_away c.args.w.now c.requires.consistent c.args.e c.args.place c.requires.there (seen c.args.part.now) c.requires.fit c.block-block.result.now c.block-block.ensures c.types.result.now c.with.result c.types.ensures.value c.with.ensures.value
    c.disabled_in-off.result c.disabled_in-off.ensures c.new-parts.result.items c.add_copy.new.parts.items c.read_parts.new.parts.items c.deref.result.now c.new-parts.ensures.items c.in_ok-add_copy.ensures c.deref.ensures.value
    c.in_ok-read_parts.ensures
    c.requires.new c.requires.apart

pub returns-clause-moves : goal.returns-clause-moves
returns-clause-moves c =
    more_moves c.args.w.now c.requires.consistent c.args.e c.args.place c.requires.there (seen c.args.part.now) c.requires.fit c.block-block.result.now c.block-block.ensures c.types.result.now c.with.result c.types.ensures.value c.with.ensures.value
    c.disabled_in-off.result c.disabled_in-off.ensures c.new-parts.result.items c.add_copy.new.parts.items c.read_parts.new.parts.items c.deref.result.now c.new-parts.ensures.items c.in_ok-add_copy.ensures c.deref.ensures.value
    c.in_ok-read_parts.ensures
    c.requires.new (state_of c.move_row.new.w) c.dying-dying.result c.move_row.result c.dying-dying.ensures c.move_row.ensures.moves
