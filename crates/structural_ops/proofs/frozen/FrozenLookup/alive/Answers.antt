use Rattle.std.proofs.Common.{◌∙◌, ap}
use Rattle.std.specs.Prelude.{is_some}
use Rattle.world_model.specs.Found.{found}
use Rattle.structural_ops.specs.Freezing.{FrozenState}
use Rattle.structural_ops.proofs.Sighted.{sees_alive}
use Rattle.structural_ops.proofs.frozen.FrozenLookup.alive.Goals as goal

pub returns : goal.returns
returns c =
    c.is_some.ensures ∙ ap is_some c.place_of.ensures.value ∙ sees_alive c.self.inside.tables c.self.invariant c.args.e
    ∙ ap (λ (f : FrozenState). is_some (found c.args.e f.state.world.blocks)) c.self.view_is
