-- Marks of one block of a store.
use Rattle.std.specs.Prelude.{ℕ, List, [], ◌∷◌}
use Rattle.chunk_block.specs.Blocks.{BlockState, with_mark}
use Rattle.archetype_store.specs.Stores.{StoreState, with_block_in}

abbrev pub block_marked : ℕ → ℕ → BlockState → BlockState
block_marked t now b = record b { marks = with_mark t now b.marks }

-- the store with these types of block n marked
abbrev pub all_marked : ℕ → ℕ → List ℕ → StoreState → StoreState
all_marked n now [] s = s
all_marked n now (t ∷ ts) s = all_marked n now ts (with_block_in n (block_marked t now) s)
