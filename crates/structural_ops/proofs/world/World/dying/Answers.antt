use Rattle.std.proofs.Common.{ℕ, ◌≡◌, ◌<◌, ◌∙◌, Bool, true, false, Option, option_map, is_some, ap, length, sym, subst}
use Rattle.std.specs.Prelude.{⊤, unwrap_or}
use Rattle.chunk_block.specs.Blocks.{BlockState, row_in}
use Rattle.world_model.specs.Found.{Found}
use Rattle.world_model.specs.Reads.{is_alive, is_dying}
use Rattle.world_places.proofs.Looking.{none_is}
use Rattle.structural_ops.specs.Worlds.{WorldState}
use Rattle.structural_ops.proofs.Looked.{found_there, of_block, of_number, row_there}
use Rattle.structural_ops.proofs.world.World.dying.Goals as goal

pub unreachable-requires : goal.unreachable-requires
unreachable-requires c =
    let alive = subst (λ (w : WorldState). is_alive w.world c.args.e ≡ true) (sym c.self.view_is) c.requires.alive in
    let no_way : false ≡ true = sym (ap (λ (o : Option Found). is_some o) (none_is c.self.invariant.agrees.placed c.args.e (sym c.place_of.ensures.value ∙ c.in-None.is))) ∙ alive in
    cc

pub block-requires : goal.block-requires
block-requires c = of_block c.self.inside.tables c.self.invariant c.args.e c.in-Some.place (sym c.place_of.ensures.value ∙ c.in-Some.is) (λ _. ⊤) tt

pub dying-requires : goal.dying-requires
dying-requires c =
    let at = sym c.place_of.ensures.value ∙ c.in-Some.is in
    subst (λ (b : BlockState). c.in-Some.place.row < length b.rows)
    (sym (of_number c.self.inside.tables c.self.invariant c.args.e c.in-Some.place at (λ b. c.block.result.now ≡ b.block) c.block.ensures))
    (row_there c.self.inside.tables c.self.invariant c.args.e c.in-Some.place at)

pub returns : goal.returns
returns c =
    let at = sym c.place_of.ensures.value ∙ c.in-Some.is in
    c.dying.ensures
    ∙ ap (λ (b : BlockState). (row_in c.in-Some.place.row b.rows).dying)
    (of_number c.self.inside.tables c.self.invariant c.args.e c.in-Some.place at (λ b. c.block.result.now ≡ b.block) c.block.ensures)
    ∙ sym (ap (λ (o : Option Found). unwrap_or (option_map (λ x. x.row.dying) o) false) (found_there c.self.inside.tables c.self.invariant c.args.e c.in-Some.place at))
    ∙ ap (λ (w : WorldState). is_dying w.world c.args.e) c.self.view_is
