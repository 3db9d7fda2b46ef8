use Rattle.std.proofs.Common.{◌≡◌, ◌∙◌, ap, refl}
use Rattle.std.specs.Prelude.{option_and_then}
use Rattle.world_model.specs.Found.{values_of}
use Rattle.world_model.specs.Reads.{value_of}
use Rattle.structural_ops.specs.Reads.{field_seen}
use Rattle.structural_ops.specs.Worlds.{WorldState}
use Rattle.structural_ops.proofs.Found.{all_seen, seen_found}
use Rattle.structural_ops.proofs.Seen.{seen_values}
use Rattle.structural_ops.proofs.world.World.get.Goals as goal

pub field_of-requires-clause-there : goal.field_of-requires-clause-there
field_of-requires-clause-there c = all_seen c.self.inside.tables c.self.invariant c.args.e c.args.ty.0

pub returns : goal.returns
returns c =
    seen_found c.self.inside.tables c.self.invariant c.args.e c.args.ty.0 c.field_of.result (field_seen c.args.field) (λ o. field_seen c.args.field (option_and_then (values_of c.args.ty.0) o)) refl
    (λ k b can. ap (field_seen c.args.field) (seen_values c.self.inside.tables.registry c.args.ty.0 k b can)) c.field_of.ensures
    ∙ ap (λ (w : WorldState). value_of w.world c.args.e c.args.ty.0 c.args.field) c.self.view_is
