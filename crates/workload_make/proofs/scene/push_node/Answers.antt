use Rattle.std.proofs.Common.{rules, append_assoc}
use Rattle.workload_make.specs.Scene.{node_bytes}
use Rattle.workload_make.proofs.scene.push_node.Goals as goal

pub returns : goal.returns
unfolding node_bytes
returns c = search (rules, append_assoc)
