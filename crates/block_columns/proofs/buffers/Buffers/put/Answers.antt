use Rattle.std.proofs.Common.{◌<◌, ◌∙◌, ap, sym, subst, length, map, get_or, [], List}
use Rattle.std.proofs.Math.ListN.{set}
use Rattle.std.proofs.lemmas.List.{length-map, map-set}
use Rattle.ent_types.specs.declared.value.Value.{Value}
use Rattle.buffer_store.specs.Buffers.{Buffer, buffer}
use Rattle.block_columns.specs.Buffers.{BuffersState}
use Rattle.block_columns.proofs.Widths.{at_row, set_width}
use Rattle.block_columns.proofs.buffers.Buffers.put.Goals as goal

pub invariant_of-self : goal.invariant_of-self
invariant_of-self c =
    let b = c.self.inside in (
      c.self.invariant.0,
      (
        c.self.invariant.1.0,
        (
          rw c.replace_row.ensures.room c.self.invariant.1.1.0,
          rw c.replace_row.ensures.items (set_width b.width c.args.row b.rows.items c.args.new (c.requires.width ∙ ap (λ (s : BuffersState). s.width) (sym c.self.view_is)) c.self.invariant.1.1.1),
        ),
      ),
    )

pub returns-clause-old : goal.returns-clause-old
returns-clause-old c =
    let b = c.self.inside in
    let within : c.args.row < length b.rows.items = subst (λ m. c.args.row < m) (length-map b.rows.items (λ (x : Buffer Value). x.values)) (subst (λ (s : BuffersState). c.args.row < length s.lists) (sym c.self.view_is) c.requires.within) in
    c.replace_row.ensures.old
    ∙ (at_row b.width c.args.row b.rows.items c.replace_row.result within c.self.invariant.1.1.1
    ∙ ap (λ (s : BuffersState). buffer s.width (get_or s.lists c.args.row [])) c.self.view_is)

pub returns-clause-new : goal.returns-clause-new
returns-clause-new c =
    let b = c.self.inside in
    ap (λ (ls : List (List Value)). record { width = b.width; room = b.room; lists = ls })
    (ap (map (λ (x : Buffer Value). x.values)) c.replace_row.ensures.items ∙ map-set (λ (x : Buffer Value). x.values) b.rows.items c.args.row c.args.new)
    ∙ ap (λ (s : BuffersState). record s { lists = set s.lists c.args.row c.args.new.values }) c.self.view_is
