use Rattle.std.proofs.Common.{◌≡◌, sym, subst}
use Rattle.std.specs.Prelude.{⊤}
use Rattle.structural_ops.specs.Worlds.{WorldState}
use Rattle.structural_ops.specs.Numbered.{HasBlock, whole_block}
use Rattle.structural_ops.proofs.Numbered.{of_numbered, block_seen}
use Rattle.structural_ops.proofs.world.World.block.Goals as goal

pub block-requires : goal.block-requires
block-requires c = of_numbered c.args.number (λ _. ⊤) c.self.inside.tables.store.blocks (subst (HasBlock c.args.number (λ _. ⊤)) (sym c.self.view_is) c.requires)

pub returns : goal.returns
returns c =
    subst (λ (w : WorldState). HasBlock c.args.number (λ b. c.block.result.now ≡ whole_block w.world.registry b) w) c.self.view_is
    (block_seen c.self.inside.tables c.self.invariant c.is_sound.ensures c.args.number c.block.result.now c.block.ensures)
