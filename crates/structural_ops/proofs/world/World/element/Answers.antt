use Rattle.std.proofs.Common.{◌≡◌, true, ◌∙◌, Option, None, option_map, ap, refl, sym, subst}
use Rattle.std.specs.Prelude.{option_and_then}
use Rattle.ent_types.specs.TypeLookups.{is_buffer_at}
use Rattle.world_model.specs.Found.{Found, cell_at}
use Rattle.world_model.specs.Row.{Cell}
use Rattle.world_model.specs.Reads.{element_of}
use Rattle.structural_ops.specs.Reads.{element_seen}
use Rattle.structural_ops.specs.Worlds.{WorldState}
use Rattle.structural_ops.proofs.Found.{all_seen, seen_found}
use Rattle.structural_ops.proofs.Seen.{element_none, seen_buffer}
use Rattle.structural_ops.proofs.world.World.element.Goals as goal

pub element_of-requires-clause-there : goal.element_of-requires-clause-there
element_of-requires-clause-there c = all_seen c.self.inside.tables c.self.invariant c.args.e c.args.ty.0

pub returns : goal.returns
returns c =
    let registry = c.self.inside.tables.registry in
    let t = c.args.ty.0 in
    let buffers = subst (λ (w : WorldState). is_buffer_at w.world.registry t ≡ true) (sym c.self.view_is) c.requires in
    seen_found c.self.inside.tables c.self.invariant c.args.e t c.element_of.result (element_seen registry t c.args.k c.args.field)
    (λ (o : Option Found). element_seen registry t c.args.k c.args.field (option_map (λ (d : Cell). d.values) (option_and_then (λ x. cell_at t x.row.cells) o)))
    (element_none registry t c.args.k c.args.field None refl)
    (λ k b can. ap (element_seen registry t c.args.k c.args.field) (seen_buffer registry t k b can buffers)) c.element_of.ensures
    ∙ ap (λ (w : WorldState). element_of w.world c.args.e t c.args.k c.args.field) c.self.view_is
