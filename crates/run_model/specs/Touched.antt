-- The types that the texts and the lists of a system name.
use Rattle.std.specs.Prelude.{ℕ, List, ◌++◌, filter, flat_map}
use Rattle.ent_types.specs.declared.type_info.TypeInfo.{TypeInfo}
use Rattle.ent_types.specs.TypeLookups.{is_enableable_at}
use Rattle.scenario_record.specs.declared.record.SystemEntry.{SystemEntry}
use Rattle.scenario_record.specs.Uses.{read_types, uses_of}

-- the types that its texts read
abbrev pub read_by : SystemEntry → List ℕ
read_by s = flat_map read_types (uses_of s)

-- the types of its lists that can be disabled
abbrev pub named_types : List TypeInfo → SystemEntry → List ℕ
named_types registry s =
    filter (is_enableable_at registry) (s.all ++ (s.any ++ (s.none ++ (s.disabled ++ s.absent))))
