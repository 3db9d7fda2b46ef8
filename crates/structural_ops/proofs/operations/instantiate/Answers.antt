use Rattle.std.proofs.Common.{◌∙◌, ap, sym}
use Rattle.chunk_block.specs.Blocks.{BlockState}
use Rattle.world_model.specs.Operations.{On, Instantiate, is_copied}
use Rattle.world_places.proofs.Looking.{none_is}
use Rattle.world_rows.specs.Types.{copied_types}
use Rattle.structural_ops.specs.Worlds.{made, state_of}
use Rattle.structural_ops.proofs.After.{stands}
use Rattle.structural_ops.proofs.Decided.{none_gives}
use Rattle.structural_ops.proofs.Outcomes.{copy_made}
use Rattle.structural_ops.proofs.Rehomed.{block_is, block_there, row_whole, readable, some_among, some_are, some_make}
use Rattle.structural_ops.proofs.operations.instantiate.Goals as goal

pub returns-in_default-clause-gives : goal.returns-in_default-clause-gives
returns-in_default-clause-gives c =
    none_gives (state_of c.args.w.now) c.args.e Instantiate (none_is c.requires.consistent.agrees.placed c.args.e (sym c.place_of.ensures.value ∙ c.in_default.is))

pub block-requires : goal.block-requires
block-requires c = block_there c.args.w.now c.requires.consistent c.args.e c.in-Some.place (sym c.place_of.ensures.value ∙ c.in-Some.is)

pub read_parts-requires : goal.read_parts-requires
read_parts-requires c =
    readable c.args.w.now c.requires.consistent c.args.e c.in-Some.place (sym c.place_of.ensures.value ∙ c.in-Some.is) c.copied_among-types.result
    (some_among c.args.w.now c.requires.consistent c.args.e c.in-Some.place (sym c.place_of.ensures.value ∙ c.in-Some.is) (is_copied c.args.w.now.registry) c.copied_among-types.result
    (c.copied_among-types.ensures ∙ ap (copied_types c.args.w.now.registry) (c.types.ensures.value ∙ ap (λ (b : BlockState). b.types) (block_is c.args.w.now c.requires.consistent c.args.e c.in-Some.place (sym c.place_of.ensures.value ∙ c.in-Some.is) c.block.result.now c.block.ensures))))

pub disabled_in-off-requires : goal.disabled_in-off-requires
disabled_in-off-requires c = row_whole c.args.w.now c.requires.consistent c.args.e c.in-Some.place (sym c.place_of.ensures.value ∙ c.in-Some.is)

pub make-requires-clause-parts : goal.make-requires-clause-parts
make-requires-clause-parts c =
    some_are c.args.w.now c.requires.consistent c.args.e c.in-Some.place (sym c.place_of.ensures.value ∙ c.in-Some.is) (is_copied c.args.w.now.registry) c.copied_among-types.result
    (c.copied_among-types.ensures ∙ ap (copied_types c.args.w.now.registry) (c.types.ensures.value ∙ ap (λ (b : BlockState). b.types) (block_is c.args.w.now c.requires.consistent c.args.e c.in-Some.place (sym c.place_of.ensures.value ∙ c.in-Some.is) c.block.result.now c.block.ensures)))
    c.disabled_in-off.result c.disabled_in-off.ensures c.new-parts.result.items c.read_parts.new.parts.items c.deref.result.now c.new-parts.ensures.items c.deref.ensures.value c.in_ok-read_parts.ensures

pub returns : goal.returns
returns c =
    let gives = copy_made c.args.w.now c.requires.consistent c.args.e c.in-Some.place (sym c.place_of.ensures.value ∙ c.in-Some.is) (state_of c.make.new.w) c.make.result
    (some_make c.args.w.now c.requires.consistent c.args.e c.in-Some.place (sym c.place_of.ensures.value ∙ c.in-Some.is) (is_copied c.args.w.now.registry) c.copied_among-types.result
    (c.copied_among-types.ensures ∙ ap (copied_types c.args.w.now.registry) (c.types.ensures.value ∙ ap (λ (b : BlockState). b.types) (block_is c.args.w.now c.requires.consistent c.args.e c.in-Some.place (sym c.place_of.ensures.value ∙ c.in-Some.is) c.block.result.now c.block.ensures)))
    c.disabled_in-off.result c.disabled_in-off.ensures c.new-parts.result.items c.read_parts.new.parts.items c.deref.result.now c.new-parts.ensures.items c.deref.ensures.value c.in_ok-read_parts.ensures
    (state_of c.make.new.w) c.make.result c.make.ensures.made) in
    record {
      consistent = stands c.args.w.now c.make.new.w c.requires.consistent (On c.args.e Instantiate) (made c.make.result) tt c.make.ensures.agrees gives;
      gives = gives;
    }
