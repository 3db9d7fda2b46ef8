use Rattle.std.proofs.Common.{◌∙◌, sym, Ok}
use Rattle.world_model.specs.Operations.{On, Add, Done}
use Rattle.world_model.specs.Part.{part_of as seen}
use Rattle.world_places.proofs.Looking.{none_is}
use Rattle.structural_ops.specs.Worlds.{done, state_of}
use Rattle.structural_ops.proofs.After.{stands}
use Rattle.structural_ops.proofs.Decided.{none_gives}
use Rattle.structural_ops.proofs.Outcomes.{lacks_there, lacks_apart, more_gives, has_there, added_shared, put_gives}
use Rattle.structural_ops.proofs.Rehomed.{block_there}
use Rattle.structural_ops.proofs.Written.{has_is, put_there}
use Rattle.structural_ops.proofs.operations.add.Goals as goal

pub returns-in_default-clause-gives : goal.returns-in_default-clause-gives
returns-in_default-clause-gives c =
    none_gives (state_of c.args.w.now) c.args.e (Add (seen c.args.part.now)) (none_is c.requires.consistent.agrees.placed c.args.e (sym c.place_of.ensures.value ∙ c.in_default.is))

pub block-requires : goal.block-requires
block-requires c = block_there c.args.w.now c.requires.consistent c.args.e c.in-Some.place (sym c.place_of.ensures.value ∙ c.in-Some.is)

pub take-requires-clause-new : goal.take-requires-clause-new
take-requires-clause-new c =
    lacks_there c.args.w.now c.requires.consistent c.args.e c.in-Some.place (sym c.place_of.ensures.value ∙ c.in-Some.is) (seen c.args.part.now)
    (has_is c.args.w.now c.requires.consistent c.args.e c.in-Some.place (sym c.place_of.ensures.value ∙ c.in-Some.is) c.block.result.now c.types.result.now c.args.part.now.ty.0 _ c.block.ensures c.types.ensures.value c.if-not-has.ensures.value)

pub take-requires-clause-apart : goal.take-requires-clause-apart
take-requires-clause-apart c =
    lacks_apart c.args.w.now c.requires.consistent c.args.e c.in-Some.place (sym c.place_of.ensures.value ∙ c.in-Some.is) (seen c.args.part.now)
    (has_is c.args.w.now c.requires.consistent c.args.e c.in-Some.place (sym c.place_of.ensures.value ∙ c.in-Some.is) c.block.result.now c.types.result.now c.args.part.now.ty.0 _ c.block.ensures c.types.ensures.value c.if-not-has.ensures.value)

pub returns-then-not-has : goal.returns-then-not-has
returns-then-not-has c =
    let gives = more_gives c.args.w.now c.requires.consistent c.args.e c.in-Some.place (sym c.place_of.ensures.value ∙ c.in-Some.is) (seen c.args.part.now)
    (has_is c.args.w.now c.requires.consistent c.args.e c.in-Some.place (sym c.place_of.ensures.value ∙ c.in-Some.is) c.block.result.now c.types.result.now c.args.part.now.ty.0 _ c.block.ensures c.types.ensures.value c.if-not-has.ensures.value)
    (state_of c.take.new.w) c.take.result c.take.ensures.moves in
    record {
      consistent = stands c.args.w.now c.take.new.w c.requires.consistent (On c.args.e (Add (seen c.args.part.now))) (done c.take.result) c.requires.suits c.take.ensures.agrees gives;
      gives = gives;
    }

pub share-requires-clause-has : goal.share-requires-clause-has
share-requires-clause-has c =
    has_there c.args.w.now c.requires.consistent c.args.e c.in-Some.place (sym c.place_of.ensures.value ∙ c.in-Some.is) (seen c.args.part.now)
    (has_is c.args.w.now c.requires.consistent c.args.e c.in-Some.place (sym c.place_of.ensures.value ∙ c.in-Some.is) c.block.result.now c.types.result.now c.args.part.now.ty.0 _ c.block.ensures c.types.ensures.value c.if-not-has.ensures.value)

pub returns-then-is_shared : goal.returns-then-is_shared
returns-then-is_shared c =
    let gives = added_shared c.args.w.now c.requires.consistent c.args.e c.in-Some.place (sym c.place_of.ensures.value ∙ c.in-Some.is) (seen c.args.part.now)
    (has_is c.args.w.now c.requires.consistent c.args.e c.in-Some.place (sym c.place_of.ensures.value ∙ c.in-Some.is) c.block.result.now c.types.result.now c.args.part.now.ty.0 _ c.block.ensures c.types.ensures.value c.if-not-has.ensures.value)
    (state_of c.share.new.w) (done c.share.result) c.share.ensures.gives (sym c.is_shared.ensures ∙ c.if-is_shared.true) in
    record {
      consistent = stands c.args.w.now c.share.new.w c.requires.consistent (On c.args.e (Add (seen c.args.part.now))) (done c.share.result) c.requires.suits c.share.ensures.agrees gives;
      gives = gives;
    }

pub put_buffer-requires-clause-there : goal.put_buffer-requires-clause-there
put_buffer-requires-clause-there c =
    put_there c.args.w.now c.requires.consistent c.args.e c.in-Some.place (sym c.place_of.ensures.value ∙ c.in-Some.is) c.args.part.now.ty.0
    (has_is c.args.w.now c.requires.consistent c.args.e c.in-Some.place (sym c.place_of.ensures.value ∙ c.in-Some.is) c.block.result.now c.types.result.now c.args.part.now.ty.0 _ c.block.ensures c.types.ensures.value c.if-not-has.ensures.value)

pub returns-then-is_buffer : goal.returns-then-is_buffer
returns-then-is_buffer c =
    let gives = put_gives c.args.w.now c.requires.consistent c.args.e c.in-Some.place (sym c.place_of.ensures.value ∙ c.in-Some.is) (seen c.args.part.now)
    (has_is c.args.w.now c.requires.consistent c.args.e c.in-Some.place (sym c.place_of.ensures.value ∙ c.in-Some.is) c.block.result.now c.types.result.now c.args.part.now.ty.0 _ c.block.ensures c.types.ensures.value c.if-not-has.ensures.value)
    (state_of c.put_buffer.new.w) (sym c.is_shared.ensures ∙ c.if-is_shared.false) c.in_ok-put_buffer.ensures.puts in
    record {
      consistent = stands c.args.w.now c.put_buffer.new.w c.requires.consistent (On c.args.e (Add (seen c.args.part.now))) (Ok Done) c.requires.suits c.put_buffer.ensures.agrees gives;
      gives = gives;
    }

pub put_values-requires-clause-there : goal.put_values-requires-clause-there
put_values-requires-clause-there c =
    put_there c.args.w.now c.requires.consistent c.args.e c.in-Some.place (sym c.place_of.ensures.value ∙ c.in-Some.is) c.args.part.now.ty.0
    (has_is c.args.w.now c.requires.consistent c.args.e c.in-Some.place (sym c.place_of.ensures.value ∙ c.in-Some.is) c.block.result.now c.types.result.now c.args.part.now.ty.0 _ c.block.ensures c.types.ensures.value c.if-not-has.ensures.value)

pub returns : goal.returns
returns c =
    let gives = put_gives c.args.w.now c.requires.consistent c.args.e c.in-Some.place (sym c.place_of.ensures.value ∙ c.in-Some.is) (seen c.args.part.now)
    (has_is c.args.w.now c.requires.consistent c.args.e c.in-Some.place (sym c.place_of.ensures.value ∙ c.in-Some.is) c.block.result.now c.types.result.now c.args.part.now.ty.0 _ c.block.ensures c.types.ensures.value c.if-not-has.ensures.value)
    (state_of c.put_values.new.w) (sym c.is_shared.ensures ∙ c.if-is_shared.false) c.put_values.ensures.puts in
    record {
      consistent = stands c.args.w.now c.put_values.new.w c.requires.consistent (On c.args.e (Add (seen c.args.part.now))) (Ok Done) c.requires.suits c.put_values.ensures.agrees gives;
      gives = gives;
    }
