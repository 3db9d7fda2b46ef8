-- The types that a system touches.
use Rattle.std.specs.Prelude.{ℕ, List, ◌++◌, map, filter, flat_map}
use Rattle.ent_types.specs.declared.type_info.TypeInfo.{TypeInfo}
use Rattle.ent_types.specs.Registries.{type_at}
use Rattle.scenario_record.specs.declared.plan.Access.{Access}
use Rattle.scenario_record.specs.declared.record.SystemEntry.{SystemEntry}
use Rattle.scenario_record.specs.Uses.{read_types, uses_of}
use Rattle.scenario_faults.specs.Found.{looked_up_types, set_of}

-- the types that its texts read: those of own fields, of `on` and of `get`
abbrev pub read_by : SystemEntry → List ℕ
read_by y = flat_map read_types (uses_of y)

-- the types that it looks up by `get`
abbrev pub looked_up_by : SystemEntry → List ℕ
looked_up_by y = flat_map looked_up_types (uses_of y)

-- the types that it writes
abbrev pub written : SystemEntry → List ℕ
written y = map (λ a. a.ty.0) y.set ++ map (λ w. w.ty.0) y.enable

-- the enableable types of its clauses
abbrev pub named_types : List TypeInfo → SystemEntry → List ℕ
named_types registry y =
    filter (λ ty. (type_at registry ty).enableable) (y.all ++ (y.any ++ (y.none ++ (y.disabled ++ y.absent))))

abbrev pub access_of : List TypeInfo → SystemEntry → Access
access_of registry y = record {
  reads = set_of (read_by y ++ y.changed);
  writes = set_of (written y);
  named = set_of (named_types registry y);
}
