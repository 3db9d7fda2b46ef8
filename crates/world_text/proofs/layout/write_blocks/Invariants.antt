use Rattle.std.proofs.Common.{ℕ, ◌≡◌, ◌+◌, ◌≤◌, length}
use Rattle.ent_io.specs.Text.{Leaves}
use Rattle.archetype_store.specs.declared.numbers.TheConstants.{MOST_NUMBERS}
use Rattle.world_model.specs.Members.{In}
use Rattle.chunk_block.specs.Blocks.{BlockState}
use Rattle.world_text.specs.Layout.{block_lines}
use Rattle.world_text.specs.Listed.{IsListed}
use Rattle.world_text.proofs.Listing.{lines_from}
use Rattle.world_text.proofs.layout.write_blocks.Given as goal

-- the lines so far, and those of the blocks that are left
abbrev pub invariant-loop-block : goal.invariant-loop-block
invariant-loop-block g l = record {
  text : Leaves (block_lines l.world.world.registry 0 l.world.world.blocks) (lines_from l.world.world.registry l.k l.block-iterator) (g.W.Sink.text l.fn.out) (g.W.Sink.text l.out);
  faults : g.W.Sink.faults l.out ≡ g.W.Sink.faults l.fn.out;
  listed : (e : ℕ × BlockState) → In e l.block-iterator → IsListed l.world.world.registry e.1;
  count : l.k + length l.block-iterator ≤ MOST_NUMBERS;
}
