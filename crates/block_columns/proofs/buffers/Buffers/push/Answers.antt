use Rattle.std.proofs.Common.{◌≤◌, ap, arith}
use Rattle.ent_types.specs.declared.value.Value.{Value}
use Rattle.buffer_store.specs.Buffers.{Buffer}
use Rattle.block_columns.proofs.Widths.{pushed_width}
use Rattle.block_columns.proofs.buffers.Buffers.push.Goals as goal

pub invariant_of-self : goal.invariant_of-self
invariant_of-self c =
    let kept : c.self.inside.room ≤ _ = c.self.invariant.1.1.0 in
    let room : c.self.inside.room ≤ _ = omega (arith, c.push_row.ensures.room, kept) in (
      c.self.invariant.0,
      (
        c.self.invariant.1.0,
        (
          room,
          rw c.push_row.ensures.items (pushed_width c.self.inside.width c.self.inside.rows.items c.new.result (ap (λ (x : Buffer Value). x.width) c.new.ensures) c.self.invariant.1.1.1),
        ),
      ),
    )
