use Rattle.std.proofs.Common.{◌≡◌, ◌∙◌, true, ap, sym, subst, Some}
use Rattle.ent_types.specs.TypeLookups.{is_shared_at}
use Rattle.ent_types.specs.TypeSets.{has_type}
use Rattle.world_model.specs.Found.{part_at}
use Rattle.structural_ops.specs.Freezing.{FrozenState}
use Rattle.structural_ops.specs.Numbered.{HasBlock}
use Rattle.structural_ops.proofs.Homes.{shared_seen}
use Rattle.structural_ops.proofs.Numbered.{to_numbered}
use Rattle.structural_ops.proofs.frozen.Frozen.shared_of.Goals as goal

pub shared_of-requires : goal.shared_of-requires
shared_of-requires c =
    shared_seen c.self.inside.tables c.self.invariant c.args.number c.args.ty.0
    (ap (λ (f : FrozenState). is_shared_at f.state.world.registry c.args.ty.0) c.self.view_is ∙ c.requires.shared)
    (subst (λ (f : FrozenState). HasBlock c.args.number (λ b. has_type b.home.types c.args.ty.0 ≡ true) f.state) (sym c.self.view_is) c.requires.there)

pub returns : goal.returns
returns c =
    subst (λ (f : FrozenState). HasBlock c.args.number (λ b. part_at c.args.ty.0 b.home.shared ≡ Some c.shared_of.result.now) f.state) c.self.view_is
    (to_numbered c.args.number (λ b. part_at c.args.ty.0 b.home.shared ≡ Some c.shared_of.result.now) c.self.inside.tables.store.blocks c.shared_of.ensures)
