use Rattle.std.proofs.Common.{◌<◌, ◌∙◌, ap, sym, subst, length, get_or, []}
use Rattle.std.proofs.lemmas.List.{length-map}
use Rattle.ent_types.specs.declared.value.Value.{Value}
use Rattle.buffer_store.specs.Buffers.{Buffer, buffer}
use Rattle.block_columns.specs.Buffers.{BuffersState}
use Rattle.block_columns.proofs.Widths.{at_row}
use Rattle.block_columns.proofs.buffers.Buffers.get.Goals as goal

pub returns : goal.returns
returns c =
    let b = c.self.inside in
    let within : c.args.row < length b.rows.items = subst (λ m. c.args.row < m) (length-map b.rows.items (λ (x : Buffer Value). x.values)) (subst (λ (s : BuffersState). c.args.row < length s.lists) (sym c.self.view_is) c.requires) in
    c.index.ensures
    ∙ (at_row b.width c.args.row b.rows.items c.index.result.now within c.self.invariant.1.1.1
    ∙ ap (λ (s : BuffersState). buffer s.width (get_or s.lists c.args.row [])) c.self.view_is)
