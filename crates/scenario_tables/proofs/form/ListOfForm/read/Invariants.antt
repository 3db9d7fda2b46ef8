use Rattle.std.proofs.Common.{◌≡◌, drop}
use Rattle.toml.specs.View.{items_view}
use Rattle.scenario_tables.specs.ReadKeys.{each_from}
use Rattle.scenario_tables.proofs.ListLemmas.{onto}
use Rattle.scenario_tables.proofs.form.ListOfForm.read.Given as goal

abbrev pub invariant-loop-i : goal.invariant-loop-i
invariant-loop-i g l =
    onto l.found (each_from (g.F.Form.reads l.self.form.now) l.i (items_view (drop l.i l.values))) ≡ each_from (g.F.Form.reads l.self.form.now) 0 (items_view l.values)
