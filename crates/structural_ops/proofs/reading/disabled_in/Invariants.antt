use Rattle.std.proofs.Common.{ℕ, ◌<◌}
use Rattle.ent_types.specs.declared.limits.TheConstants.{MOST_TYPES}
use Rattle.world_model.specs.Members.{In}
use Rattle.chunk_block.specs.Blocks.{is_off, row_in}
use Rattle.structural_ops.proofs.Readable.{Collected}
use Rattle.structural_ops.proofs.reading.disabled_in.Given as goal

-- what is disabled so far, and what is disabled among the types that are left
abbrev pub invariant-loop-ty : goal.invariant-loop-ty
invariant-loop-ty l = Collected (λ t. is_off t (row_in l.place.row l.block.rows)) l.types l.off l.ty-iterator × ((t : ℕ) → In t l.ty-iterator → t < MOST_TYPES)
