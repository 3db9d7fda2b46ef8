use Rattle.std.proofs.Common.{◌∙◌, Ok, sym, ap, arith}
use Rattle.std.proofs.lemmas.Grind.{common_steps}
use Rattle.scenario_tables.proofs.TypeLemmas.{adds}
use Rattle.scenario_tables.proofs.types.add.Goals as goal

pub unreachable-requires : goal.unreachable-requires
unreachable-requires c =
    (adds c.args.registry.now c.args.info c.requires.few c.requires.room).no_width (rw c.in-Err-TooWide.field-0-is at c.in-Err-TooWide.ensures.answer)

pub unreachable-requires-in-Err-TooManyTypes : goal.unreachable-requires-in-Err-TooManyTypes
unreachable-requires-in-Err-TooManyTypes c =
    (adds c.args.registry.now c.args.info c.requires.few c.requires.room).no_count (rw c.in-Err-TooManyTypes.field-0-is at c.in-Err-TooManyTypes.ensures.answer)

pub returns-in-Ok : goal.returns-in-Ok
returns-in-Ok c =
    (adds c.args.registry.now c.args.info c.requires.few c.requires.room).is_added (sym c.if-not-is_lawful.ensures) c.in-Ok.ensures.answer.0
    ∙ ap Ok (sym c.in-Ok.ensures.ok)

pub returns-in-Err-Duplicate : goal.returns-in-Err-Duplicate
returns-in-Err-Duplicate c =
    let refused = rw c.in-Err-Duplicate.field-0-is at c.in-Err-Duplicate.ensures.answer in
    let taken = (adds c.args.registry.now c.args.info c.requires.few c.requires.room).taken (sym c.if-not-is_lawful.ensures) refused in
    grind (arith, common_steps, taken)
