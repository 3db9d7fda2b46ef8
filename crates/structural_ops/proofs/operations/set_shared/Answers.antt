use Rattle.std.proofs.Common.{◌∙◌, sym}
use Rattle.world_model.specs.Operations.{On, SetShared}
use Rattle.world_model.specs.Part.{part_of as seen}
use Rattle.world_places.proofs.Looking.{none_is}
use Rattle.structural_ops.specs.Worlds.{done, state_of}
use Rattle.structural_ops.proofs.After.{stands}
use Rattle.structural_ops.proofs.Decided.{none_gives}
use Rattle.structural_ops.proofs.Outcomes.{lacks_gives, has_there, set_gives}
use Rattle.structural_ops.proofs.Rehomed.{block_there}
use Rattle.structural_ops.proofs.Written.{has_is}
use Rattle.structural_ops.proofs.operations.set_shared.Goals as goal

pub returns-in_default-clause-gives : goal.returns-in_default-clause-gives
returns-in_default-clause-gives c =
    none_gives (state_of c.args.w.now) c.args.e (SetShared (seen c.args.part.now)) (none_is c.requires.consistent.agrees.placed c.args.e (sym c.place_of.ensures.value ∙ c.in_default.is))

pub block-requires : goal.block-requires
block-requires c = block_there c.args.w.now c.requires.consistent c.args.e c.in-Some.place (sym c.place_of.ensures.value ∙ c.in-Some.is)

pub returns-then-not-has-clause-gives : goal.returns-then-not-has-clause-gives
returns-then-not-has-clause-gives c =
    lacks_gives c.args.w.now c.requires.consistent c.args.e c.in-Some.place (sym c.place_of.ensures.value ∙ c.in-Some.is) (seen c.args.part.now)
    (has_is c.args.w.now c.requires.consistent c.args.e c.in-Some.place (sym c.place_of.ensures.value ∙ c.in-Some.is) c.block.result.now c.types.result.now c.args.part.now.ty.0 _ c.block.ensures c.types.ensures.value c.if-not-has.ensures.value)

pub share-requires-clause-has : goal.share-requires-clause-has
share-requires-clause-has c =
    has_there c.args.w.now c.requires.consistent c.args.e c.in-Some.place (sym c.place_of.ensures.value ∙ c.in-Some.is) (seen c.args.part.now)
    (has_is c.args.w.now c.requires.consistent c.args.e c.in-Some.place (sym c.place_of.ensures.value ∙ c.in-Some.is) c.block.result.now c.types.result.now c.args.part.now.ty.0 _ c.block.ensures c.types.ensures.value c.if-not-has.ensures.value)

pub returns : goal.returns
returns c =
    let gives = set_gives c.args.w.now c.requires.consistent c.args.e c.in-Some.place (sym c.place_of.ensures.value ∙ c.in-Some.is) (seen c.args.part.now)
    (has_is c.args.w.now c.requires.consistent c.args.e c.in-Some.place (sym c.place_of.ensures.value ∙ c.in-Some.is) c.block.result.now c.types.result.now c.args.part.now.ty.0 _ c.block.ensures c.types.ensures.value c.if-not-has.ensures.value)
    (state_of c.share.new.w) (done c.share.result) c.share.ensures.gives in
    record {
      consistent = stands c.args.w.now c.share.new.w c.requires.consistent (On c.args.e (SetShared (seen c.args.part.now))) (done c.share.result) c.requires.suits c.share.ensures.agrees gives;
      gives = gives;
    }
