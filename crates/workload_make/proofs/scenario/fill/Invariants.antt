use Rattle.std.proofs.Common.{◌≡◌, take}
use Rattle.std.specs.List.{flat_map}
use Rattle.workload_make.specs.Scenario.{shown}
use Rattle.workload_make.proofs.scenario.fill.Given as goal

abbrev pub invariant-loop-byte : goal.invariant-loop-byte
invariant-loop-byte l = l.text.items ≡ flat_map (shown l.numbers) (take l.byte-index l.template)
