use Rattle.std.proofs.Common.{ℕ, ◌≡◌, drop, map}
use Rattle.world_model.specs.Members.{In}
use Rattle.world_model.specs.World.{mark_type}
use Rattle.archetype_store.specs.Stores.{OfBlock}
use Rattle.structural_ops.specs.Attaching.{each_written}
use Rattle.structural_ops.proofs.attach.mark_blocks.Given as goal

-- the blocks that are left to mark make the store what all marks make of it
abbrev pub invariant-loop-number : goal.invariant-loop-number
invariant-loop-number l = record {
  written : each_written l.version.0 (drop l.number-index l.numbers) l.store ≡ each_written l.version.0 l.numbers l.initial.store;
  marked : (n : ℕ) → In n (drop l.number-index l.numbers) → OfBlock n (λ b. map mark_type b.marks ≡ b.types) l.store.blocks;
}
