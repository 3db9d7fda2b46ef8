use Rattle.std.proofs.Common.{ℕ, ◌≡◌, ◌||◌, ◌++◌, drop}
use Rattle.ent_types.specs.TypeSets.{has_type}
use Rattle.phase_run.specs.Queries.{switched_types}
use Rattle.phase_run.proofs.system_query.with_switched.Given as goal

-- the types so far, and those of the texts that are left
abbrev pub invariant-loop-text : goal.invariant-loop-text
invariant-loop-text l =
    (t : ℕ) → (has_type l.written t || has_type (switched_types (drop l.text-index l.texts)) t) ≡ has_type (l.fn.types ++ switched_types l.texts) t
