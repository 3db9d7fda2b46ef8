use Rattle.std.proofs.Common.{◌∙◌, ap}
use Rattle.block_columns.specs.Fields.{fields_of}
use Rattle.block_columns.specs.Types.{all_rows, with_enabled_in}
use Rattle.block_columns.proofs.Seen.{after_enable}
use Rattle.block_columns.proofs.type_rows.TypeRows.store_enabled.Goals as goal

pub returns : goal.returns
returns c =
    let l = c.self.inside in
    let fs = fields_of l.fields in
    let inv = c.self.invariant in
    after_enable l.capacity l.rows c.args.rows.now c.args.on.now l.off _ l.shape fs c.disabled_in-self-inside.ensures.here
    ∙ ap (all_rows (with_enabled_in c.args.rows.now c.args.on.now)) c.self.view_is
