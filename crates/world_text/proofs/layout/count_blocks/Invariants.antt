use Rattle.std.proofs.Common.{◌≡◌, ◌+◌, length}
use Rattle.world_text.proofs.layout.count_blocks.Given as goal

-- the blocks so far, and those that are left
abbrev pub invariant-loop : goal.invariant-loop
invariant-loop l = l.count + length l.iterator' ≡ length l.store.blocks
