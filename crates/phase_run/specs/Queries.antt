-- The query, the filter and the written types of a system.
use Rattle.std.specs.Prelude.{ℕ, ◌≡◌, List, map}
use Rattle.ent_types.specs.TypeSets.{has_type}
use Rattle.expr_trees.specs.declared.tree.Assign.{Assign}
use Rattle.expr_trees.specs.declared.tree.Switch.{Switch}
use Rattle.scenario_record.specs.declared.record.SystemEntry.{SystemEntry}
use Rattle.run_model.specs.Job.{writes}
use Rattle.query_select.specs.Entries.{IsEntryOf}
use Rattle.phase_run.specs.declared.system_query.SystemQuery.{SystemQuery}

abbrev pub assigned_types : List Assign → List ℕ
assigned_types texts = map (λ a. a.ty.0) texts

abbrev pub switched_types : List Switch → List ℕ
switched_types texts = map (λ w. w.ty.0) texts

pub record IsQueryOf (s : SystemEntry) (q : SystemQuery) : Type 0 where
  pub entry : IsEntryOf q.query q.filter s
  pub written : (t : ℕ) → has_type q.written t ≡ has_type (writes s) t
