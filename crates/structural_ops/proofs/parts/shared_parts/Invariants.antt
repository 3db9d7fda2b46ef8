use Rattle.std.proofs.Common.{◌≡◌, ◌++◌, map}
use Rattle.world_model.specs.Part.{part_of as seen}
use Rattle.world_rows.specs.Rows.{shared_from}
use Rattle.structural_ops.proofs.parts.shared_parts.Given as goal

-- the parts so far, and those of the types that are left
abbrev pub invariant-loop-ty : goal.invariant-loop-ty
invariant-loop-ty l = map seen l.shared.items ++ shared_from l.registry l.ty-iterator (map seen l.parts) ≡ shared_from l.registry l.types (map seen l.parts)
