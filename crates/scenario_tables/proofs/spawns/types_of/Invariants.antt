use Rattle.std.proofs.Common.{◌≡◌, drop, fold}
use Rattle.ent_types.specs.TypeSets.{with_type}
use Rattle.scenario_tables.specs.ReadSpawns.{part_types}
use Rattle.scenario_tables.proofs.spawns.types_of.Given as goal

abbrev pub invariant-loop-part : goal.invariant-loop-part
invariant-loop-part l =
    fold (λ set p. with_type set p.ty.0) l.types (drop l.part-index l.parts) ≡ part_types l.parts
