use Rattle.std.proofs.Common.{◌≡◌, ℕ, ◌<◌, map}
use Rattle.ent_types.specs.declared.limits.TheConstants.{MOST_TYPES}
use Rattle.world_model.specs.Fits.{Fits}
use Rattle.world_model.specs.Members.{In}
use Rattle.world_rows.specs.Rows.{values_at}
use Rattle.world_model.specs.Part.{part_of as seen}
use Rattle.world_rows.specs.Writes.{CanWrite, written, all_type_writes}
use Rattle.structural_ops.proofs.writes.write_types.Given as goal

-- what is left to write makes the store what all writes make of it
abbrev pub invariant-loop-ty : goal.invariant-loop-ty
invariant-loop-ty l =
    (written l.number l.row (all_type_writes l.registry (map seen l.parts) l.off l.ty-iterator) l.store
    ≡ written l.number l.row (all_type_writes l.registry (map seen l.parts) l.off l.types) l.initial.store)
    × (CanWrite l.number l.row (all_type_writes l.registry (map seen l.parts) l.off l.ty-iterator) l.store
    × (((t : ℕ) → In t l.ty-iterator → Fits l.registry t (values_at t (map seen l.parts))) × ((t : ℕ) → In t l.ty-iterator → t < MOST_TYPES)))
