use Rattle.std.proofs.Common.{◌<◌, ◌∙◌, ap, sym, subst, length, map, [], List}
use Rattle.std.specs.List.{swap_remove}
use Rattle.std.proofs.lemmas.List.{length-map}
use Rattle.ent_types.specs.declared.value.Value.{Value}
use Rattle.buffer_store.specs.Buffers.{Buffer}
use Rattle.block_columns.specs.Buffers.{BuffersState}
use Rattle.block_columns.proofs.Lists.{map-swap_remove}
use Rattle.block_columns.proofs.Widths.{removed_width}
use Rattle.block_columns.proofs.buffers.Buffers.swap_remove.Goals as goal

pub invariant_of-self : goal.invariant_of-self
invariant_of-self c =
    let b = c.self.inside in
    let within : c.args.row < length b.rows.items = subst (λ m. c.args.row < m) (length-map b.rows.items (λ (x : Buffer Value). x.values)) (subst (λ (s : BuffersState). c.args.row < length s.lists) (sym c.self.view_is) c.requires) in (
      c.self.invariant.0,
      (
        c.self.invariant.1.0,
        (
          rw c.swap_remove.ensures.capacity c.self.invariant.1.1.0,
          rw c.swap_remove.ensures.items (removed_width b.width c.args.row b.rows.items c.swap_remove.result within c.self.invariant.1.1.1),
        ),
      ),
    )

pub returns : goal.returns
returns c =
    let b = c.self.inside in
    let within : c.args.row < length b.rows.items = subst (λ m. c.args.row < m) (length-map b.rows.items (λ (x : Buffer Value). x.values)) (subst (λ (s : BuffersState). c.args.row < length s.lists) (sym c.self.view_is) c.requires) in
    ap (λ (ls : List (List Value)). record { width = b.width; room = b.room; lists = ls })
    (ap (map (λ (x : Buffer Value). x.values)) c.swap_remove.ensures.items ∙ map-swap_remove (λ (x : Buffer Value). x.values) b.rows.items c.args.row c.swap_remove.result [] within)
    ∙ ap (λ (s : BuffersState). record s { lists = swap_remove s.lists c.args.row [] }) c.self.view_is
