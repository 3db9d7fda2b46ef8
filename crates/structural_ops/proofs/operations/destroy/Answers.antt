use Rattle.std.proofs.Common.{◌<◌, ◌∙◌, ap, sym, length, Ok}
use Rattle.std.proofs.lemmas.Bool.{iff_false, false≢true}
use Rattle.std.proofs.lemmas.Bool.Decides.{Decides-eqb}
use Rattle.std.proofs.lemmas.Slice.Eq.{slice_eq-Decides}
use Rattle.chunk_block.specs.Blocks.{BlockState}
use Rattle.world_model.specs.Operations.{On, Destroy, Done}
use Rattle.world_places.proofs.Looking.{none_is}
use Rattle.structural_ops.specs.Worlds.{done, state_of}
use Rattle.structural_ops.proofs.After.{stands}
use Rattle.structural_ops.proofs.Decided.{none_gives}
use Rattle.structural_ops.proofs.Looked.{of_block, row_there}
use Rattle.structural_ops.proofs.Outcomes.{end_gives, dying_gives, cleanup_part, cleanup_gives}
use Rattle.structural_ops.proofs.Rehomed.{block_is, block_there}
use Rattle.structural_ops.proofs.Written.{dies_agrees}
use Rattle.structural_ops.proofs.operations.destroy.Goals as goal

pub returns-in_default-clause-gives : goal.returns-in_default-clause-gives
returns-in_default-clause-gives c =
    none_gives (state_of c.args.w.now) c.args.e Destroy (none_is c.requires.consistent.agrees.placed c.args.e (sym c.place_of.ensures.value ∙ c.in_default.is))

pub block-requires : goal.block-requires
block-requires c = block_there c.args.w.now c.requires.consistent c.args.e c.in-Some.place (sym c.place_of.ensures.value ∙ c.in-Some.is)

pub returns-then-is_empty : goal.returns-then-is_empty
returns-then-is_empty c =
    let gives = end_gives c.args.w.now c.requires.consistent c.args.e c.in-Some.place (sym c.place_of.ensures.value ∙ c.in-Some.is) c.types.result.now c.cleanup_among-cleanup.result
    (c.types.ensures.value ∙ ap (λ (b : BlockState). b.types) (block_is c.args.w.now c.requires.consistent c.args.e c.in-Some.place (sym c.place_of.ensures.value ∙ c.in-Some.is) c.block.result.now c.block.ensures)) c.cleanup_among-cleanup.ensures
    (state_of c.end.new.w) (c.is_empty.ensures.0 c.if-is_empty.true) c.end.ensures.ends in
    record { consistent = stands c.args.w.now c.end.new.w c.requires.consistent (On c.args.e Destroy) (Ok Done) tt c.end.ensures.agrees gives; gives = gives }

pub set_dying-requires : goal.set_dying-requires
set_dying-requires c =
    of_block c.args.w.now c.requires.consistent c.args.e c.in-Some.place (sym c.place_of.ensures.value ∙ c.in-Some.is) (λ b. c.in-Some.place.row < length b.block.rows)
    (row_there c.args.w.now c.requires.consistent c.args.e c.in-Some.place (sym c.place_of.ensures.value ∙ c.in-Some.is))

pub returns-then-eq : goal.returns-then-eq
returns-then-eq c =
    let w = record (c.args.w.now) { store = c.set_dying.new.self } in
    let gives = dying_gives c.args.w.now c.requires.consistent c.args.e c.in-Some.place (sym c.place_of.ensures.value ∙ c.in-Some.is) c.types.result.now c.cleanup_among-cleanup.result
    (c.types.ensures.value ∙ ap (λ (b : BlockState). b.types) (block_is c.args.w.now c.requires.consistent c.args.e c.in-Some.place (sym c.place_of.ensures.value ∙ c.in-Some.is) c.block.result.now c.block.ensures)) c.cleanup_among-cleanup.ensures (iff_false c.is_empty.ensures c.if-is_empty.false)
    c.set_dying.new.self ((slice_eq-Decides Decides-eqb c.cleanup_among-cleanup.result c.types.result.now c.eq.result c.eq.ensures).0 c.if-eq.true) c.set_dying.ensures in
    record {
      consistent = stands c.args.w.now w c.requires.consistent (On c.args.e Destroy) (Ok Done) tt (dies_agrees c.args.w.now c.requires.consistent c.args.e c.in-Some.place (sym c.place_of.ensures.value ∙ c.in-Some.is) c.set_dying.new.self c.set_dying.ensures) gives;
      gives = gives;
    }

pub keep-requires-clause-fewer : goal.keep-requires-clause-fewer
keep-requires-clause-fewer c =
    cleanup_part c.args.w.now c.requires.consistent c.args.e c.in-Some.place (sym c.place_of.ensures.value ∙ c.in-Some.is) c.types.result.now c.cleanup_among-cleanup.result
    (c.types.ensures.value ∙ ap (λ (b : BlockState). b.types) (block_is c.args.w.now c.requires.consistent c.args.e c.in-Some.place (sym c.place_of.ensures.value ∙ c.in-Some.is) c.block.result.now c.block.ensures)) c.cleanup_among-cleanup.ensures (iff_false c.is_empty.ensures c.if-is_empty.false)
    (λ all. false≢true (sym c.if-eq.false ∙ (slice_eq-Decides Decides-eqb c.cleanup_among-cleanup.result c.types.result.now c.eq.result c.eq.ensures).1 all))

pub returns : goal.returns
returns c =
    let gives = cleanup_gives c.args.w.now c.requires.consistent c.args.e c.in-Some.place (sym c.place_of.ensures.value ∙ c.in-Some.is) c.types.result.now c.cleanup_among-cleanup.result
    (c.types.ensures.value ∙ ap (λ (b : BlockState). b.types) (block_is c.args.w.now c.requires.consistent c.args.e c.in-Some.place (sym c.place_of.ensures.value ∙ c.in-Some.is) c.block.result.now c.block.ensures)) c.cleanup_among-cleanup.ensures (iff_false c.is_empty.ensures c.if-is_empty.false)
    (λ all. false≢true (sym c.if-eq.false ∙ (slice_eq-Decides Decides-eqb c.cleanup_among-cleanup.result c.types.result.now c.eq.result c.eq.ensures).1 all))
    (state_of c.keep.new.w) c.keep.result c.keep.ensures.moves in
    record { consistent = stands c.args.w.now c.keep.new.w c.requires.consistent (On c.args.e Destroy) (done c.keep.result) tt c.keep.ensures.agrees gives; gives = gives }
