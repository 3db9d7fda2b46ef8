use Rattle.ent_types.specs.TypeLookups.{is_cleanup_at}
use Rattle.structural_ops.proofs.Chosen.{Leave, stripped}
use Rattle.structural_ops.proofs.operations.cleanup_among.Given as goal

-- the types that are left take out of the set what all of them take out
abbrev pub invariant-loop-ty : goal.invariant-loop-ty
invariant-loop-ty l = Leave (is_cleanup_at l.registry) l.ty-iterator l.cleanup (stripped (is_cleanup_at l.registry) l.types l.types)
