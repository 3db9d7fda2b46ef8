use Rattle.std.proofs.Common.{ℕ, ◌≡◌, ◌∙◌, ◌+◌, ◌*◌, ◌/◌, false, cond, nat_lt, None, ap, subst, sym, List, length, slice_get}
use Rattle.std.specs.Prelude.{is_some, option_and_then, option_map}
use Rattle.ent_types.specs.declared.value.Value.{Value}
use Rattle.ent_types.specs.TypeLookups.{fields_at}
use Rattle.world_model.specs.Found.{Found, found, values_of}
use Rattle.world_model.specs.Reads.{element_of, elements_of, is_alive, types_of, value_of}
use Rattle.world_model.specs.Row.{Cell}
use Rattle.structural_ops.specs.Freezing.{FrozenState, frozen_by, is_lent}
use Rattle.structural_ops.specs.Worlds.{WorldState}
use Rattle.structural_ops.proofs.Agreeing.{alive_same, cells_same, has_same, types_same, values_same}
use Rattle.structural_ops.proofs.Freezing.{frozen_state}
use Rattle.structural_ops.proofs.frozen_laws.the_rest_reads_as_before.Goals as goal

pub returns-clause-alive : goal.returns-clause-alive
returns-clause-alive c plan e =
    let w = c.world.inside.tables in
    let same = frozen_state w c.world.invariant plan ∙ ap (frozen_by plan) c.world.view_is in
    sym (ap (λ (f : FrozenState). is_alive f.state.world e) same) ∙ alive_same w c.world.invariant plan e ∙ ap (λ (s : WorldState). is_alive s.world e) c.world.view_is

pub returns-clause-types : goal.returns-clause-types
returns-clause-types c plan e =
    let w = c.world.inside.tables in
    let same = frozen_state w c.world.invariant plan ∙ ap (frozen_by plan) c.world.view_is in
    sym (ap (λ (f : FrozenState). types_of f.state.world e) same) ∙ types_same w c.world.invariant plan e ∙ ap (λ (s : WorldState). types_of s.world e) c.world.view_is

pub returns-clause-has : goal.returns-clause-has
returns-clause-has c plan e t =
    let w = c.world.inside.tables in
    let same = frozen_state w c.world.invariant plan ∙ ap (frozen_by plan) c.world.view_is in
    sym (ap (λ (f : FrozenState). is_some (option_and_then (values_of t) (found e f.state.world.blocks))) same)
    ∙ has_same w c.world.invariant plan t e
    ∙ ap (λ (s : WorldState). is_some (option_and_then (values_of t) (found e s.world.blocks))) c.world.view_is

pub returns-clause-value : goal.returns-clause-value
returns-clause-value c plan t held e field =
    let w = c.world.inside.tables in
    let same = frozen_state w c.world.invariant plan ∙ ap (frozen_by plan) c.world.view_is in
    sym (ap (λ (f : FrozenState). value_of f.state.world e t field) same)
    ∙ ap (option_and_then (λ (vs : List Value). slice_get vs field)) (values_same w c.world.invariant plan t (ap (λ (f : FrozenState). is_lent f t) same ∙ held) e)
    ∙ ap (λ (s : WorldState). value_of s.world e t field) c.world.view_is

pub returns-clause-elements : goal.returns-clause-elements
returns-clause-elements c plan t held e =
    let w = c.world.inside.tables in
    let same = frozen_state w c.world.invariant plan ∙ ap (frozen_by plan) c.world.view_is in
    sym (ap (λ (f : FrozenState). elements_of f.state.world e t) same)
    ∙ ap (λ o. option_map (λ (vs : List Value). length vs / length (fields_at w.registry t)) (option_map (λ (d : Cell). d.values) o))
    (cells_same w c.world.invariant plan t (ap (λ (f : FrozenState). is_lent f t) same ∙ held) e)
    ∙ ap (λ (s : WorldState). elements_of s.world e t) c.world.view_is

pub returns-clause-element : goal.returns-clause-element
returns-clause-element c plan t held e k field =
    let w = c.world.inside.tables in
    let same = frozen_state w c.world.invariant plan ∙ ap (frozen_by plan) c.world.view_is in
    let width = length (fields_at w.registry t) in
    sym (ap (λ (f : FrozenState). element_of f.state.world e t k field) same)
    ∙ ap (λ o. cond (nat_lt field width) (option_and_then (λ (vs : List Value). slice_get vs (k * width + field)) (option_map (λ (d : Cell). d.values) o)) None)
    (cells_same w c.world.invariant plan t (ap (λ (f : FrozenState). is_lent f t) same ∙ held) e)
    ∙ ap (λ (s : WorldState). element_of s.world e t k field) c.world.view_is
