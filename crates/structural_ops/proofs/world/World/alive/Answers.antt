use Rattle.std.proofs.Common.{◌∙◌, ap}
use Rattle.std.specs.Prelude.{is_some}
use Rattle.world_model.specs.Found.{found}
use Rattle.world_places.proofs.Looking.{alive_is}
use Rattle.structural_ops.specs.Worlds.{WorldState}
use Rattle.structural_ops.proofs.world.World.alive.Goals as goal

pub returns : goal.returns
returns c =
    c.is_some.ensures ∙ ap is_some c.place_of.ensures.value ∙ alive_is c.self.invariant.agrees.placed c.args.e
    ∙ ap (λ (w : WorldState). is_some (found c.args.e w.world.blocks)) c.self.view_is
