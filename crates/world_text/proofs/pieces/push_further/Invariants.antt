use Rattle.std.proofs.Common.{◌≡◌, ◌++◌, codes, take}
use Rattle.std.specs.List.{flat_map}
use Rattle.world_text.specs.Lines.{value_text}
use Rattle.world_text.proofs.pieces.push_further.Given as goal

-- the values so far
abbrev pub invariant-loop-value : goal.invariant-loop-value
invariant-loop-value l = l.line.items ≡ l.fn.line.items ++ flat_map (λ v. codes "," ++ value_text v) (take l.value-index l.values)
