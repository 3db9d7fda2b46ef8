-- The line of a scenario that passes its checks.
use Rattle.std.specs.Prelude.{ℕ, ◌-◌, List, ◌++◌, codes, length}
use Rattle.std.specs.Fmt.{decimal}
use Rattle.ent_types.specs.declared.entity.TheConstants.{BUILT_IN_TYPES}
use Rattle.scenario_record.specs.declared.record.Scenario.{Scenario}

-- its own types, its systems and its frames
unfoldable pub ok_line : Scenario → List ℕ
ok_line s =
    codes "ok types=" ++ (decimal (length s.registry - BUILT_IN_TYPES) ++ (codes " systems=" ++ (decimal (length s.system) ++ (codes " frames=" ++ (decimal s.frames ++ codes "\n")))))
