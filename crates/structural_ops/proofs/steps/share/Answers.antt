use Rattle.std.proofs.Common.{◌∙◌, inl, ap₂, ◌⊎◌, ◌≡◌, true, false}
use Rattle.std.specs.Cmp.Lexicographic.{pointwise}
use Rattle.ent_types.specs.contracts.value.ValuePartialEq.TheImpl as value_eq
use Rattle.ent_types.specs.TypeLookups.{is_shared_at}
use Rattle.ent_types.specs.TypeSets.{has_type}
use Rattle.world_model.specs.Part.{part_of as seen}
use Rattle.structural_ops.specs.Worlds.{state_of}
use Rattle.structural_ops.proofs.Looked.{of_block}
use Rattle.structural_ops.proofs.SharedValues.{values_there, set_same, set_apart, set_other}
use Rattle.structural_ops.proofs.steps.share.Goals as goal

pub shared_of-requires : goal.shared_of-requires
shared_of-requires c = values_there c.args.w.now c.requires.consistent c.args.e c.args.place c.requires.there (seen c.args.part.now) c.requires.shared c.requires.has

pub returns-then-eq-clause-gives : goal.returns-then-eq-clause-gives
returns-then-eq-clause-gives c =
    set_same c.args.w.now c.requires.consistent c.args.e c.args.place c.requires.there (seen c.args.part.now) c.requires.shared c.requires.has c.shared_of.result.now c.shared_of.ensures c.eq.result
    (c.eq.ensures ∙ ap₂ (pointwise value_eq.ghosts.eq) c.as_slice.ensures c.as_slice-2.ensures) c.if-eq.true

pub take-requires-clause-new : goal.take-requires-clause-new
take-requires-clause-new c =
    of_block c.args.w.now c.requires.consistent c.args.e c.args.place c.requires.there (λ b. (is_shared_at c.args.w.now.registry c.args.part.now.ty.0 ≡ true) ⊎ (has_type b.block.types c.args.part.now.ty.0 ≡ false)) (inl c.requires.shared)

pub take-requires-clause-apart : goal.take-requires-clause-apart
take-requires-clause-apart c =
    set_apart c.args.w.now c.requires.consistent c.args.e c.args.place c.requires.there (seen c.args.part.now) c.requires.shared c.requires.has c.shared_of.result.now c.shared_of.ensures c.eq.result
    (c.eq.ensures ∙ ap₂ (pointwise value_eq.ghosts.eq) c.as_slice.ensures c.as_slice-2.ensures) c.if-eq.false

pub returns-clause-gives : goal.returns-clause-gives
returns-clause-gives c =
    set_other c.args.w.now c.requires.consistent c.args.e c.args.place c.requires.there (seen c.args.part.now) c.requires.shared c.requires.has c.shared_of.result.now c.shared_of.ensures c.eq.result
    (c.eq.ensures ∙ ap₂ (pointwise value_eq.ghosts.eq) c.as_slice.ensures c.as_slice-2.ensures) c.if-eq.false (state_of c.take.new.w) c.take.result c.take.ensures.moves
