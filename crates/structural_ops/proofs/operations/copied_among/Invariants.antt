use Rattle.ent_types.specs.declared.entity.TheConstants.TypeId.{PREFAB}
use Rattle.ent_types.specs.TypeSets.{without_type}
use Rattle.structural_ops.proofs.Chosen.{Leave, stays_in_copy, stripped}
use Rattle.structural_ops.proofs.operations.copied_among.Given as goal

-- the types that are left take out of the set what all of them take out
abbrev pub invariant-loop-ty : goal.invariant-loop-ty
invariant-loop-ty l = Leave (stays_in_copy l.registry) l.ty-iterator l.copied (stripped (stays_in_copy l.registry) l.types (without_type l.types PREFAB.0))
