use Rattle.std.proofs.Common.{◌≡◌, ◌∙◌, ap, map, subst, Some}
use Rattle.ent_types.specs.declared.entity.Entity.{Entity}
use Rattle.entity_table.specs.declared.table.Place.{Place}
use Rattle.world_model.specs.Found.{entities_by_index, found_by_index}
use Rattle.structural_ops.specs.Places.{found_at_place}
use Rattle.structural_ops.specs.Worlds.{WorldState, state_of}
use Rattle.structural_ops.proofs.Walked.{entities_walked, rows_walked}
use Rattle.structural_ops.proofs.world.World.living.Goals as goal

pub returns-clause-rows : goal.returns-clause-rows
returns-clause-rows c =
    let tables = c.self.inside.tables in
    subst (λ (w : WorldState). map (λ (p : Entity × Place). found_at_place w p.1) c.living.result ≡ map Some (found_by_index w.world)) c.self.view_is
    (ap (map (λ (p : Entity × Place). found_at_place (state_of tables) p.1)) c.living.ensures ∙ rows_walked tables c.self.invariant)

pub returns-clause-entities : goal.returns-clause-entities
returns-clause-entities c =
    let tables = c.self.inside.tables in
    subst (λ (w : WorldState). map (λ (p : Entity × Place). p.0) c.living.result ≡ entities_by_index w.world) c.self.view_is
    (ap (map (λ (p : Entity × Place). p.0)) c.living.ensures ∙ entities_walked tables c.self.invariant)
