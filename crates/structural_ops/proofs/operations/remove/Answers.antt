use Rattle.std.proofs.Common.{◌≡◌, ◌<◌, ◌∙◌, ap, sym, subst, length, true, [], Ok}
use Rattle.std.proofs.lemmas.Bool.{iff_false, false≢true}
use Rattle.chunk_block.specs.Blocks.{BlockState, row_in}
use Rattle.world_model.specs.Operations.{On, Remove, Done}
use Rattle.world_places.proofs.Looking.{none_is}
use Rattle.structural_ops.specs.Worlds.{done, state_of}
use Rattle.structural_ops.proofs.After.{stands}
use Rattle.structural_ops.proofs.Decided.{none_gives}
use Rattle.structural_ops.proofs.Looked.{row_there}
use Rattle.structural_ops.proofs.Outcomes.{absent_gives, last_gives, rest_part, rest_gives}
use Rattle.structural_ops.proofs.Rehomed.{block_is, block_there}
use Rattle.structural_ops.proofs.Written.{has_is}
use Rattle.structural_ops.proofs.operations.remove.Goals as goal
use Rattle.structural_ops.proofs.operations.remove.Goals.{else-dying-via-then-dying+else-is_empty, else-dying-via-else-dying}

pub returns-in_default-clause-gives : goal.returns-in_default-clause-gives
returns-in_default-clause-gives c =
    none_gives (state_of c.args.w.now) c.args.e (Remove c.args.ty.0) (none_is c.requires.consistent.agrees.placed c.args.e (sym c.place_of.ensures.value ∙ c.in_default.is))

pub block-block-requires : goal.block-block-requires
block-block-requires c = block_there c.args.w.now c.requires.consistent c.args.e c.in-Some.place (sym c.place_of.ensures.value ∙ c.in-Some.is)

pub dying-dying-requires : goal.dying-dying-requires
dying-dying-requires c =
    subst (λ (b : BlockState). c.in-Some.place.row < length b.rows) (sym (block_is c.args.w.now c.requires.consistent c.args.e c.in-Some.place (sym c.place_of.ensures.value ∙ c.in-Some.is) c.block-block.result.now c.block-block.ensures))
    (row_there c.args.w.now c.requires.consistent c.args.e c.in-Some.place (sym c.place_of.ensures.value ∙ c.in-Some.is))

pub returns-then-not-has-clause-gives : goal.returns-then-not-has-clause-gives
returns-then-not-has-clause-gives c =
    absent_gives c.args.w.now c.requires.consistent c.args.e c.in-Some.place (sym c.place_of.ensures.value ∙ c.in-Some.is) c.args.ty.0
    (has_is c.args.w.now c.requires.consistent c.args.e c.in-Some.place (sym c.place_of.ensures.value ∙ c.in-Some.is) c.block-block.result.now c.types.result.now c.args.ty.0 _ c.block-block.ensures c.types.ensures.value c.if-not-has.ensures.value)

pub returns-then-is_empty : goal.returns-then-is_empty
returns-then-is_empty c =
    let gives = last_gives c.args.w.now c.requires.consistent c.args.e c.in-Some.place (sym c.place_of.ensures.value ∙ c.in-Some.is) c.args.ty.0 c.types.result.now c.without-rest.result
    (c.types.ensures.value ∙ ap (λ (b : BlockState). b.types) (block_is c.args.w.now c.requires.consistent c.args.e c.in-Some.place (sym c.place_of.ensures.value ∙ c.in-Some.is) c.block-block.result.now c.block-block.ensures)) c.without-rest.ensures.value
    (sym c.if-not-has.ensures.value)
    (state_of c.end.new.w) (sym (c.dying-dying.ensures ∙ ap (λ (b : BlockState). (row_in c.in-Some.place.row b.rows).dying) (block_is c.args.w.now c.requires.consistent c.args.e c.in-Some.place (sym c.place_of.ensures.value ∙ c.in-Some.is) c.block-block.result.now c.block-block.ensures)) ∙ c.if-dying.true) (c.is_empty.ensures.0 c.if-is_empty.true) c.end.ensures.ends in
    record {
      consistent = stands c.args.w.now c.end.new.w c.requires.consistent (On c.args.e (Remove c.args.ty.0)) (Ok Done) c.requires.suits c.end.ensures.agrees gives;
      gives = gives;
    }

pub keep-requires-clause-fewer : goal.keep-requires-clause-fewer
keep-requires-clause-fewer c =
    rest_part c.args.w.now c.requires.consistent c.args.e c.in-Some.place (sym c.place_of.ensures.value ∙ c.in-Some.is) c.args.ty.0 c.types.result.now c.without-rest.result
    (c.types.ensures.value ∙ ap (λ (b : BlockState). b.types) (block_is c.args.w.now c.requires.consistent c.args.e c.in-Some.place (sym c.place_of.ensures.value ∙ c.in-Some.is) c.block-block.result.now c.block-block.ensures)) c.without-rest.ensures.value
    (sym c.if-not-has.ensures.value)

pub returns : goal.returns
returns c =
    let stays : c.dying-dying.result ≡ true → c.without-rest.result ≡ [] → ⊥ =
    elim c.else-dying.branch [
      | else-dying-via-then-dying+else-is_empty w ↦ λ dies none. iff_false w.is_empty.ensures w.if-is_empty.false none
      | else-dying-via-else-dying w ↦ λ dies none. false≢true (sym w.if-dying.false ∙ dies)
    ] in
    let gives = rest_gives c.args.w.now c.requires.consistent c.args.e c.in-Some.place (sym c.place_of.ensures.value ∙ c.in-Some.is) c.args.ty.0 c.types.result.now c.without-rest.result
    (c.types.ensures.value ∙ ap (λ (b : BlockState). b.types) (block_is c.args.w.now c.requires.consistent c.args.e c.in-Some.place (sym c.place_of.ensures.value ∙ c.in-Some.is) c.block-block.result.now c.block-block.ensures)) c.without-rest.ensures.value
    (sym c.if-not-has.ensures.value)
    (state_of c.keep.new.w) c.dying-dying.result c.keep.result (c.dying-dying.ensures ∙ ap (λ (b : BlockState). (row_in c.in-Some.place.row b.rows).dying) (block_is c.args.w.now c.requires.consistent c.args.e c.in-Some.place (sym c.place_of.ensures.value ∙ c.in-Some.is) c.block-block.result.now c.block-block.ensures)) stays c.keep.ensures.moves in
    record {
      consistent = stands c.args.w.now c.keep.new.w c.requires.consistent (On c.args.e (Remove c.args.ty.0)) (done c.keep.result) c.requires.suits c.keep.ensures.agrees gives;
      gives = gives;
    }
