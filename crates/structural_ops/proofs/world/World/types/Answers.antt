use Rattle.std.proofs.Common.{◌≡◌, ◌∙◌, ap, sym, Some}
use Rattle.std.specs.Prelude.{⊤, option_map}
use Rattle.world_model.specs.Found.{Found, found}
use Rattle.world_places.proofs.Looking.{none_is}
use Rattle.structural_ops.specs.Worlds.{WorldState}
use Rattle.structural_ops.proofs.Looked.{found_there, of_block, of_number}
use Rattle.structural_ops.proofs.world.World.types.Goals as goal

pub returns-in_err-place : goal.returns-in_err-place
returns-in_err-place c =
    ap (option_map _) c.from_residual.ensures
    ∙ sym (ap (option_map (λ (x : Found). x.home.types)) (none_is c.self.invariant.agrees.placed c.args.e (sym c.place_of.ensures.value ∙ c.in_err-place.was)))
    ∙ ap (λ (w : WorldState). option_map (λ (x : Found). x.home.types) (found c.args.e w.world.blocks)) c.self.view_is

pub block-requires : goal.block-requires
block-requires c = of_block c.self.inside.tables c.self.invariant c.args.e c.in_ok-place.place (sym c.place_of.ensures.value ∙ c.in_ok-place.was) (λ _. ⊤) tt

pub returns : goal.returns
returns c =
    let at = sym c.place_of.ensures.value ∙ c.in_ok-place.was in
    ap Some (c.types.ensures.value ∙ ap (λ b. b.types) (of_number c.self.inside.tables c.self.invariant c.args.e c.in_ok-place.place at (λ b. c.block.result.now ≡ b.block) c.block.ensures))
    ∙ sym (ap (option_map (λ (x : Found). x.home.types)) (found_there c.self.inside.tables c.self.invariant c.args.e c.in_ok-place.place at))
    ∙ ap (λ (w : WorldState). option_map (λ (x : Found). x.home.types) (found c.args.e w.world.blocks)) c.self.view_is
