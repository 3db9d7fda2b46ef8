use Rattle.std.proofs.Common.{◌≡◌, ◌∙◌, ◌&&◌, Bool, true, false, not, ap, sym, subst, List, slice_get}
use Rattle.std.specs.Prelude.{option_and_then}
use Rattle.ent_types.specs.declared.value.Value.{Value}
use Rattle.ent_types.specs.TypeLookups.{is_buffer_at}
use Rattle.world_model.specs.Found.{found, values_of}
use Rattle.archetype_store.specs.Stores.{Numbered}
use Rattle.world_rows.specs.Reading.{found_at}
use Rattle.structural_ops.specs.Freezing.{FrozenState, is_lent}
use Rattle.structural_ops.proofs.Sighted.{can_read_type, of_seen, sees, sees_none}
use Rattle.structural_ops.proofs.frozen.FrozenLookup.value.Goals as goal

neither : (a b : Bool) → (not a && not b) ≡ true → (a ≡ false) × (b ≡ false)
neither true b is = absurd (cc is)
neither false true is = absurd (cc is)
neither false false is = (cc, cc)

pub returns-in_err-place : goal.returns-in_err-place
returns-in_err-place c =
    c.from_residual.ensures
    ∙ sym (ap (λ o. option_and_then (λ (vs : List Value). slice_get vs c.args.field) (option_and_then (values_of c.args.ty.0) o))
    (sees_none c.self.inside.tables c.self.invariant c.args.e (sym c.place_of.ensures.value ∙ c.in_err-place.was)))
    ∙ ap (λ (f : FrozenState). option_and_then (λ (vs : List Value). slice_get vs c.args.field) (option_and_then (values_of c.args.ty.0) (found c.args.e f.state.world.blocks))) c.self.view_is

pub value_in-requires-clause-plain : goal.value_in-requires-clause-plain
value_in-requires-clause-plain c =
    (neither _ _ (subst (λ (f : FrozenState). (not (is_lent f c.args.ty.0) && not (is_buffer_at f.state.world.registry c.args.ty.0)) ≡ true) (sym c.self.view_is) c.requires)).1

pub value_in-requires-clause-there : goal.value_in-requires-clause-there
value_in-requires-clause-there c =
    can_read_type c.self.inside.tables c.self.invariant c.args.e c.in_ok-place.place (sym c.place_of.ensures.value ∙ c.in_ok-place.was) c.args.ty.0
    (neither _ _ (subst (λ (f : FrozenState). (not (is_lent f c.args.ty.0) && not (is_buffer_at f.state.world.registry c.args.ty.0)) ≡ true) (sym c.self.view_is) c.requires)).0

pub returns : goal.returns
returns c =
    let w = c.self.inside.tables in
    let at = sym c.place_of.ensures.value ∙ c.in_ok-place.was in
    of_seen w c.self.invariant c.args.e c.in_ok-place.place at
    (λ (b : Numbered). c.value_in.result ≡ option_and_then (λ (vs : List Value). slice_get vs c.args.field) (values_of c.args.ty.0 (found_at c.in_ok-place.place.row b))) c.value_in.ensures
    ∙ sym (ap (λ o. option_and_then (λ (vs : List Value). slice_get vs c.args.field) (option_and_then (values_of c.args.ty.0) o)) (sees w c.self.invariant c.args.e c.in_ok-place.place at).is_found)
    ∙ ap (λ (f : FrozenState). option_and_then (λ (vs : List Value). slice_get vs c.args.field) (option_and_then (values_of c.args.ty.0) (found c.args.e f.state.world.blocks))) c.self.view_is
