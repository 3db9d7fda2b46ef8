use Rattle.std.proofs.Common.{Some, None, sym, ◌∙◌}
use Rattle.ent_types.proofs.RegistryLemmas.{type_id-position}
use Rattle.ent_types.proofs.registry.Registry.find.Goals as goal

pub returns-in_err-at-clause-place : goal.returns-in_err-at-clause-place
returns-in_err-at-clause-place c =
    c.from_residual.ensures
    ∙ sym (type_id-position c.self.inside.types.items c.self.inside.names.keys c.args.name.now c.self.invariant.1 c.args.self.now None c.self.view_is c.in_err-at.ensures.index)

pub returns-clause-place : goal.returns-clause-place
returns-clause-place c =
    sym
    (type_id-position c.self.inside.types.items c.self.inside.names.keys c.args.name.now c.self.invariant.1 c.args.self.now (Some c.in_ok-at.at) c.self.view_is c.in_ok-at.ensures.index)
