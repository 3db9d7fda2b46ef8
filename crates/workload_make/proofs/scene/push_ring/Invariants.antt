use Rattle.std.proofs.Common.{◌≡◌, ◌++◌}
use Rattle.workload_make.specs.Scene.{node_bytes}
use Rattle.std.specs.List.{flat_map, range_with_len}
use Rattle.workload_make.proofs.scene.push_ring.Given as goal

abbrev pub invariant-loop-index : goal.invariant-loop-index
invariant-loop-index l = l.bytes.items ≡ l.fn.bytes.items ++ flat_map (node_bytes l.k l.count) (range_with_len 0 l.index)
