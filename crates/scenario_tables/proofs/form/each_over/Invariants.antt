use Rattle.std.proofs.Common.{◌≡◌, drop}
use Rattle.toml.specs.View.{items_view}
use Rattle.scenario_tables.specs.ReadKeys.{each_over}
use Rattle.scenario_tables.proofs.form.each_over.Given as goal

abbrev pub invariant-loop-i : goal.invariant-loop-i
invariant-loop-i g l =
    record {
      left : each_over (g.F.Step.steps l.form) l.state l.i (items_view (drop l.i l.values)) ≡ each_over (g.F.Step.steps l.form) l.fn.first 0 (items_view l.values);
      counts : g.F.Step.counts l.i l.state;
    }
