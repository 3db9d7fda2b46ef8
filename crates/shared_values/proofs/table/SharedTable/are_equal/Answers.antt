use Rattle.std.proofs.Common.{◌≡◌, sym, ap, ◌∙◌}
use Rattle.std.proofs.lemmas.Bool.{eqb-true, eq-eqb}
use Rattle.shared_values.specs.Holds.{type_of, values_of}
use Rattle.shared_values.proofs.table.SharedTable.are_equal.Goals as goal

pub returns-clause-same : goal.returns-clause-same
returns-clause-same c = (
  λ h. let same : c.args.a ≡ c.args.b = eqb-true c.args.a c.args.b (sym c.eq.ensures ∙ h) in
      (ap (type_of c.args.self.now) same, ap (values_of c.args.self.now) same),
  λ h. c.eq.ensures ∙ eq-eqb c.args.a c.args.b (c.has_one_each.ensures c.args.a c.args.b c.requires.a_held c.requires.b_held h.0 h.1),
)
