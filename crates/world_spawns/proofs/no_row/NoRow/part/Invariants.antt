use Rattle.std.proofs.Common.{◌≡◌, ◌++◌, drop}
use Rattle.run_model.specs.Job.{no_row}
use Rattle.world_spawns.proofs.Given.{values_from}
use Rattle.world_spawns.proofs.no_row.NoRow.part.Given as goal

-- the values so far, and those of the texts that are left
abbrev pub invariant-loop-at : goal.invariant-loop-at
invariant-loop-at l =
    l.values ++ values_from l.registry (no_row l.self.n l.self.frame) l.from.ty.0 l.at (drop l.at l.text-items)
    ≡ values_from l.registry (no_row l.self.n l.self.frame) l.from.ty.0 0 l.text-items
