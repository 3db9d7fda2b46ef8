-- How many rows of spawns there are.
use Rattle.std.specs.Prelude.{ℕ, List, sum_by}
use Rattle.scenario_record.specs.declared.record.SpawnEntry.{SpawnEntry}

-- the number of rows of some spawns
abbrev pub rows_of : List SpawnEntry → ℕ
rows_of spawns = sum_by (λ s. s.count) spawns
