use Rattle.std.proofs.Common.{◌≡◌, ℕ, ◌++◌, map}
use Rattle.world_model.specs.Fits.{Fits}
use Rattle.world_model.specs.Members.{In}
use Rattle.world_model.specs.Part.{part_of as seen}
use Rattle.world_rows.specs.Rows.{values_at}
use Rattle.world_rows.specs.Writes.{buffer_writes}
use Rattle.structural_ops.specs.Buffers.{prepared_write}
use Rattle.structural_ops.proofs.buffers.prepare.Given as goal

-- the elements so far, and those of the types that are left
abbrev pub invariant-loop-ty : goal.invariant-loop-ty
invariant-loop-ty l =
    (map prepared_write l.prepared.items ++ buffer_writes l.registry l.ty-iterator (map seen l.parts) ≡ buffer_writes l.registry l.types (map seen l.parts))
    × ((t : ℕ) → In t l.ty-iterator → Fits l.registry t (values_at t (map seen l.parts)))
