use Rattle.std.proofs.Common.{◌≡◌, fold}
use Rattle.ent_types.specs.TypeSets.{with_type, IsRisingBelow}
use Rattle.scenario_tables.specs.ReadQueries.{bound_types}
use Rattle.scenario_tables.proofs.queries.bound_types.Given as goal

abbrev pub invariant-loop-ty : goal.invariant-loop-ty
invariant-loop-ty l =
    record {
      left : fold (λ set ty. with_type set ty) l.bound l.ty-iterator ≡ bound_types l.clauses;
      rising : IsRisingBelow 256 l.ty-iterator;
    }
