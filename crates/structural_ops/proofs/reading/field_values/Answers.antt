use Rattle.std.proofs.Common.{◌++◌, ◌∷◌, [], ◌∙◌, ap₂, sym, pos, arith}
use Rattle.std.proofs.lemmas.List.{take_more, take_all}
use Rattle.ent_types.specs.declared.value.Value.TheVariants.{Int}
use Rattle.chunk_block.specs.Blocks.{content_at, row_in}
use Rattle.structural_ops.proofs.reading.field_values.Goals as goal

pub field_get-requires-clause-there : goal.field_get-requires-clause-there
field_get-requires-clause-there c = c.requires.there c.loop-field.field c.loop-field-test.true

pub loop-field-preserved : goal.loop-field-preserved
loop-field-preserved c =
    let values = (content_at c.args.ty.0 (row_in c.args.row c.args.block.now.rows).cells).values in
    c.in_ok-push.ensures.ok
    ∙ ap₂ (λ vs v. vs ++ v ∷ []) c.loop-field.invariant c.field_get.ensures
    ∙ sym (take_more values c.loop-field.field (Int (pos 0)) (omega (arith, c.loop-field-test.true, c.requires.all)))

pub returns : goal.returns
returns c =
    let values = (content_at c.args.ty.0 (row_in c.args.row c.args.block.now.rows).cells).values in
    c.loop-field.invariant ∙ take_all c.loop-field.field values (omega (arith, c.loop-field-test.false, c.requires.all))
