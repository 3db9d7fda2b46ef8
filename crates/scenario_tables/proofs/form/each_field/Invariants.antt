use Rattle.std.proofs.Common.{◌≡◌, drop}
use Rattle.toml.specs.View.{items_view}
use Rattle.scenario_tables.specs.ReadKeys.{field_values_from}
use Rattle.scenario_tables.proofs.ListLemmas.{onto}
use Rattle.scenario_tables.proofs.form.each_field.Given as goal

abbrev pub invariant-loop-i : goal.invariant-loop-i
invariant-loop-i g l =
    onto l.found (field_values_from (g.F.FieldForm.reads l.form) l.i (drop l.i l.fields) (items_view (drop l.i l.values))) ≡ field_values_from (g.F.FieldForm.reads l.form) 0 l.fields (items_view l.values)
