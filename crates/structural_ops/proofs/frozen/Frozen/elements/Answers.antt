use Rattle.std.proofs.Common.{◌≡◌, ◌∙◌, ◌/◌, false, ap, ap₂, sym, subst, List, Some, length}
use Rattle.std.specs.Prelude.{option_map}
use Rattle.ent_types.specs.declared.value.Value.{Value}
use Rattle.ent_types.specs.TypeLookups.{fields_at, is_buffer_at}
use Rattle.world_model.specs.Reads.{elements_of}
use Rattle.structural_ops.specs.Freezing.{FrozenState, is_lent}
use Rattle.structural_ops.proofs.Sighted.{can_read_type, has_buffer, lacks_buffer, no_buffer}
use Rattle.structural_ops.proofs.frozen.Frozen.elements.Goals as goal

pub returns-in_err-place : goal.returns-in_err-place
returns-in_err-place c =
    let w = c.self.inside.tables in
    c.from_residual.ensures
    ∙ sym (ap (option_map (λ (vs : List Value). length vs / length (fields_at w.registry c.args.ty.0))) (no_buffer w c.self.invariant c.args.e c.args.ty.0 (sym c.place_of.ensures.value ∙ c.in_err-place.was)))
    ∙ ap (λ (f : FrozenState). elements_of f.state.world c.args.e c.args.ty.0) c.self.view_is

pub elements_in-requires-clause-buffer : goal.elements_in-requires-clause-buffer
elements_in-requires-clause-buffer c = ap (λ (f : FrozenState). is_buffer_at f.state.world.registry c.args.ty.0) c.self.view_is ∙ c.requires.buffer

pub elements_in-requires-clause-there : goal.elements_in-requires-clause-there
elements_in-requires-clause-there c =
    can_read_type c.self.inside.tables c.self.invariant c.args.e c.in_ok-place.place (sym c.place_of.ensures.value ∙ c.in_ok-place.was) c.args.ty.0
    (ap (λ (f : FrozenState). is_lent f c.args.ty.0) c.self.view_is ∙ c.requires.held)

pub returns-in_err-elements : goal.returns-in_err-elements
returns-in_err-elements c =
    let w = c.self.inside.tables in
    c.from_residual-in_err-elements.ensures
    ∙ sym (ap (option_map (λ (vs : List Value). length vs / length (fields_at w.registry c.args.ty.0)))
    (lacks_buffer w c.self.invariant c.args.e c.args.ty.0 c.in_ok-place.place (sym c.place_of.ensures.value ∙ c.in_ok-place.was) c.in_err-elements.ensures))
    ∙ ap (λ (f : FrozenState). elements_of f.state.world c.args.e c.args.ty.0) c.self.view_is

pub returns : goal.returns
returns c =
    let w = c.self.inside.tables in
    let d = c.in_ok-elements.elements.now in
    let got = has_buffer w c.self.invariant c.args.e c.args.ty.0 c.in_ok-place.place (sym c.place_of.ensures.value ∙ c.in_ok-place.was) d c.in_ok-elements.ensures in
    ap Some (c.len.ensures.value ∙ ap (λ n. length d.values / n) got.0)
    ∙ sym (ap (option_map (λ (vs : List Value). length vs / length (fields_at w.registry c.args.ty.0))) got.1)
    ∙ ap (λ (f : FrozenState). elements_of f.state.world c.args.e c.args.ty.0) c.self.view_is
