use Rattle.std.proofs.Common.{◌≡◌, ◌++◌, drop, map}
use Rattle.world_model.specs.Part.{part_of as seen}
use Rattle.run_model.specs.Job.{no_row}
use Rattle.world_spawns.specs.Parts.{part_for}
use Rattle.world_spawns.proofs.no_row.NoRow.fill.Given as goal

-- the parts so far, and those that are left
abbrev pub invariant-loop-part : goal.invariant-loop-part
invariant-loop-part l =
    map seen l.parts.items ++ map (part_for l.registry (no_row l.self.n l.self.frame)) (drop l.part-index l.from) ≡ map (part_for l.registry (no_row l.self.n l.self.frame)) l.from
