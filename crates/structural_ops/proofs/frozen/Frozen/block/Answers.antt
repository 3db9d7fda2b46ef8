use Rattle.std.proofs.Common.{◌≡◌, sym, subst}
use Rattle.std.specs.Prelude.{⊤}
use Rattle.world_model.specs.Lawful.{IsLawfulHome}
use Rattle.structural_ops.specs.Freezing.{AreBlank, FrozenState, lent_block, lent_of}
use Rattle.structural_ops.specs.Numbered.{HasBlock}
use Rattle.structural_ops.proofs.Freezing.{lent_seen}
use Rattle.structural_ops.proofs.Homes.{blank_seen, home_seen}
use Rattle.structural_ops.proofs.Numbered.{of_numbered}
use Rattle.structural_ops.proofs.frozen.Frozen.block.Goals as goal

pub block-requires : goal.block-requires
block-requires c =
    of_numbered c.args.number (λ _. ⊤) c.self.inside.tables.store.blocks (subst (λ (f : FrozenState). HasBlock c.args.number (λ _. ⊤) f.state) (sym c.self.view_is) c.requires)

pub returns-clause-block : goal.returns-clause-block
returns-clause-block c =
    subst (λ (f : FrozenState). HasBlock c.args.number (λ b. c.block.result.now ≡ lent_block f.state.world.registry (lent_of f c.args.number) b) f.state) c.self.view_is
    (lent_seen c.self.inside.tables c.self.invariant c.is_sound.ensures c.args.number (λ b. c.block.result.now ≡ b) c.block.ensures)

pub returns-clause-blank : goal.returns-clause-blank
returns-clause-blank c =
    subst (λ (f : FrozenState). HasBlock c.args.number (λ b. AreBlank (lent_of f c.args.number) b.rows) f.state) c.self.view_is
    (blank_seen c.self.inside.tables c.self.invariant c.args.number (subst (λ (f : FrozenState). HasBlock c.args.number (λ _. ⊤) f.state) (sym c.self.view_is) c.requires))

pub returns-clause-home : goal.returns-clause-home
returns-clause-home c =
    subst (λ (f : FrozenState). HasBlock c.args.number (λ b. IsLawfulHome f.state.world.registry b.home) f.state) c.self.view_is
    (home_seen c.self.inside.tables c.self.invariant c.args.number (subst (λ (f : FrozenState). HasBlock c.args.number (λ _. ⊤) f.state) (sym c.self.view_is) c.requires))
