use Rattle.std.proofs.Common.{◌≡◌, drop}
use Rattle.ent_types.specs.Types.{are_distinct, field_names_of}
use Rattle.ent_types.proofs.type_info.are_distinct.Given as goal

abbrev pub invariant-loop-i : goal.invariant-loop-i
invariant-loop-i l = are_distinct (field_names_of l.fields) ≡ are_distinct (field_names_of (drop l.i l.fields))
