use Rattle.std.proofs.Common.{subst}
use Rattle.structural_ops.specs.Worlds.{WorldState}
use Rattle.structural_ops.specs.Numbered.{IsStoreOf}
use Rattle.structural_ops.proofs.Numbered.{is_store_of}
use Rattle.structural_ops.proofs.world.World.store.Goals as goal

pub returns : goal.returns
returns c =
    subst (λ (w : WorldState). IsStoreOf w c.self.inside.tables.store) c.self.view_is
    (is_store_of c.self.inside.tables c.self.invariant c.is_sound.ensures)
