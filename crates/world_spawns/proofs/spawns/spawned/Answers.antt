use Rattle.std.proofs.Common.{◌≡◌, ◌∙◌, List, ap, subst, sym}
use Rattle.std.specs.Prelude.{fold}
use Rattle.ent_types.specs.declared.type_info.TypeInfo.{TypeInfo}
use Rattle.scenario_record.specs.declared.record.SpawnEntry.{SpawnEntry}
use Rattle.world_model.specs.Members.{In}
use Rattle.world_model.specs.World.{World, capacity, empty_world}
use Rattle.run_model.specs.Tasks.{after_spawn}
use Rattle.run_laws.specs.Runnable.{SpawnRuns}
use Rattle.structural_ops.specs.Worlds.{WorldState}
use Rattle.world_spawns.proofs.Made.{spawned_is}
use Rattle.world_spawns.proofs.spawns.spawned.Goals as goal

pub spawn_all-requires-clause-run : goal.spawn_all-requires-clause-run
spawn_all-requires-clause-run c = λ s i.
    let copied : c.in_ok-registry.registry ≡ c.args.scenario.now.registry = (let is = c.in_ok-registry.ensures in cc) in
    subst (λ (r : List TypeInfo). SpawnRuns r s) (sym (ap (λ (w : WorldState). w.world.registry) c.new-world.ensures ∙ copied)) (c.requires.spawns s (subst (In s) c.as_slice.ensures i))

pub returns : goal.returns
returns c =
    let s = c.args.scenario.now in
    let copied : c.in_ok-registry.registry ≡ s.registry = (let is = c.in_ok-registry.ensures in cc) in
    let first : c.new-world.result.world ≡ empty_world s.registry s.first_entity_version s.first_system_version =
    ap (λ (w : WorldState). w.world) c.new-world.ensures ∙ ap (λ (r : List TypeInfo). empty_world r s.first_entity_version s.first_system_version) copied in
    c.in_ok-spawn_all.ensures
    ∙ ap (λ (w : World). fold (after_spawn (capacity w.registry)) w c.as_slice.result.now) first
    ∙ ap (λ (spawns : List SpawnEntry). fold (after_spawn (capacity s.registry)) (empty_world s.registry s.first_entity_version s.first_system_version) spawns) c.as_slice.ensures
    ∙ sym (spawned_is (capacity s.registry) s s.first_system_version)
