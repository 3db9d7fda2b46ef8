use Rattle.std.proofs.Common.{◌≡◌, ◌∙◌, ap, sym}
use Rattle.std.specs.Prelude.{is_some, option_and_then}
use Rattle.world_model.specs.Found.{found, values_of}
use Rattle.archetype_store.specs.Stores.{Numbered}
use Rattle.world_rows.specs.Reading.{found_at}
use Rattle.structural_ops.specs.Freezing.{FrozenState}
use Rattle.structural_ops.proofs.Sighted.{can_find, of_seen, sees, sees_none}
use Rattle.structural_ops.proofs.frozen.FrozenLookup.has.Goals as goal

pub has_in-requires : goal.has_in-requires
has_in-requires c = can_find c.self.inside.tables c.self.invariant c.args.e c.in-Some.place (sym c.place_of.ensures.value ∙ c.in-Some.is)

pub returns-in-None : goal.returns-in-None
returns-in-None c =
    sym (ap (λ o. is_some (option_and_then (values_of c.args.ty.0) o)) (sees_none c.self.inside.tables c.self.invariant c.args.e (sym c.place_of.ensures.value ∙ c.in-None.is)))
    ∙ ap (λ (f : FrozenState). is_some (option_and_then (values_of c.args.ty.0) (found c.args.e f.state.world.blocks))) c.self.view_is

pub returns-in-Some : goal.returns-in-Some
returns-in-Some c =
    let w = c.self.inside.tables in
    let at = sym c.place_of.ensures.value ∙ c.in-Some.is in
    of_seen w c.self.invariant c.args.e c.in-Some.place at (λ (b : Numbered). c.has_in.result ≡ is_some (values_of c.args.ty.0 (found_at c.in-Some.place.row b))) c.has_in.ensures
    ∙ sym (ap (λ o. is_some (option_and_then (values_of c.args.ty.0) o)) (sees w c.self.invariant c.args.e c.in-Some.place at).is_found)
    ∙ ap (λ (f : FrozenState). is_some (option_and_then (values_of c.args.ty.0) (found c.args.e f.state.world.blocks))) c.self.view_is
