use Rattle.std.proofs.Common.{ℕ, ◌≡◌, drop}
use Rattle.world_model.specs.Members.{In}
use Rattle.archetype_store.specs.Stores.{OfBlock}
use Rattle.structural_ops.specs.Attaching.{all_noted}
use Rattle.structural_ops.proofs.Noting.{AllAlive}
use Rattle.structural_ops.proofs.attach.note_blocks.Given as goal

-- the blocks that are left make the table what all blocks make of it
abbrev pub invariant-loop-number : goal.invariant-loop-number
invariant-loop-number l = record {
  noted : all_noted l.store.blocks (drop l.number-index l.numbers) l.table.table ≡ all_noted l.store.blocks l.numbers l.initial.table.table;
  alive : (n : ℕ) → In n (drop l.number-index l.numbers) → OfBlock n (λ b. AllAlive b.rows l.table.table) l.store.blocks;
}
