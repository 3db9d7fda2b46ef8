use Rattle.std.proofs.Common.{ℕ, ◌≡◌, true, ◌∙◌, Option, Some, None, option_map, ap, length, refl, sym, subst}
use Rattle.std.specs.Prelude.{option_and_then}
use Rattle.ent_types.specs.TypeLookups.{fields_at, is_buffer_at}
use Rattle.buffer_store.specs.Buffers.{buffer, count_of}
use Rattle.world_model.specs.Found.{Found, cell_at}
use Rattle.world_model.specs.Row.{Cell}
use Rattle.world_model.specs.Reads.{buffer_of, elements_of}
use Rattle.structural_ops.specs.Worlds.{WorldState, state_of}
use Rattle.structural_ops.proofs.Found.{all_seen, counted_are, seen_found}
use Rattle.structural_ops.proofs.Seen.{seen_buffer}
use Rattle.structural_ops.proofs.world.World.elements.Goals as goal

pub buffer_of-requires-clause-there : goal.buffer_of-requires-clause-there
buffer_of-requires-clause-there c = all_seen c.self.inside.tables c.self.invariant c.args.e c.args.ty.0

pub returns-in_err-elements : goal.returns-in_err-elements
returns-in_err-elements c =
    let registry = c.self.inside.tables.registry in
    let t = c.args.ty.0 in
    let width = length (fields_at registry t) in
    let buffers = subst (λ (w : WorldState). is_buffer_at w.world.registry t ≡ true) (sym c.self.view_is) c.requires in
    c.from_residual.ensures
    ∙ ap (option_map count_of)
    (seen_found c.self.inside.tables c.self.invariant c.args.e t None (option_map (buffer width))
    (λ (o : Option Found). option_map (buffer width) (option_map (λ (d : Cell). d.values) (option_and_then (λ x. cell_at t x.row.cells) o))) refl
    (λ k b can. ap (option_map (buffer width)) (seen_buffer registry t k b can buffers)) c.in_err-elements.ensures)
    ∙ counted_are width (buffer_of (state_of c.self.inside.tables).world c.args.e t)
    ∙ ap (λ (w : WorldState). elements_of w.world c.args.e t) c.self.view_is

pub returns : goal.returns
returns c =
    let registry = c.self.inside.tables.registry in
    let t = c.args.ty.0 in
    let width = length (fields_at registry t) in
    let buffers = subst (λ (w : WorldState). is_buffer_at w.world.registry t ≡ true) (sym c.self.view_is) c.requires in
    ap Some c.len.ensures.value
    ∙ ap (option_map count_of)
    (seen_found c.self.inside.tables c.self.invariant c.args.e t (Some c.in_ok-elements.elements.now) (option_map (buffer width))
    (λ (o : Option Found). option_map (buffer width) (option_map (λ (d : Cell). d.values) (option_and_then (λ x. cell_at t x.row.cells) o))) refl
    (λ k b can. ap (option_map (buffer width)) (seen_buffer registry t k b can buffers)) c.in_ok-elements.ensures)
    ∙ counted_are width (buffer_of (state_of c.self.inside.tables).world c.args.e t)
    ∙ ap (λ (w : WorldState). elements_of w.world c.args.e t) c.self.view_is
