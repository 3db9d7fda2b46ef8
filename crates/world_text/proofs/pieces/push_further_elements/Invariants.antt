use Rattle.std.proofs.Common.{◌≡◌, ◌++◌, ◌/◌, codes, length}
use Rattle.std.specs.List.{flat_map}
use Rattle.world_text.specs.Lines.{elements_of, values_text}
use Rattle.world_text.proofs.pieces.push_further_elements.Given as goal

-- the elements so far, and those that are left
abbrev pub invariant-loop-left : goal.invariant-loop-left
invariant-loop-left l =
    l.line.items ++ flat_map (λ element. codes "," ++ values_text element) (elements_of l.width (length l.left / l.width) l.left)
    ≡ l.fn.line.items ++ flat_map (λ element. codes "," ++ values_text element) (elements_of l.width (length l.values / l.width) l.values)

abbrev pub decreases-loop-left : goal.decreases-loop-left
decreases-loop-left l = length l.left
