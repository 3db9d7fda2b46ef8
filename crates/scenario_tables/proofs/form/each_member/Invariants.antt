use Rattle.std.proofs.Common.{◌≡◌, All}
use Rattle.toml.specs.View.{members_view, table_view}
use Rattle.scenario_tables.specs.ReadKeys.{each_member}
use Rattle.scenario_tables.proofs.ListLemmas.{onto}
use Rattle.scenario_tables.proofs.form.each_member.Given as goal

abbrev pub invariant-loop-key : goal.invariant-loop-key
invariant-loop-key g l =
    record {
      left : onto l.found (each_member (g.F.KeyForm.reads l.form) (members_view l.key-iterator)) ≡ each_member (g.F.KeyForm.reads l.form) (table_view l.table);
      sound : All (λ x. g.F.KeyForm.sound x) l.found;
    }
