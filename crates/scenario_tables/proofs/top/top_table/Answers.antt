use Rattle.std.proofs.Common.{◌≡◌, refl}
use Rattle.ent_types.specs.Registries.{built_in_types}
use Rattle.scenario_tables.specs.ReadTop.{top_table}
use Rattle.scenario_tables.proofs.FirstFaultLemmas.{reads, then, done, leaves, settles, passes, answered}
use Rattle.scenario_tables.proofs.top.top_table.Goals as goal

pub returns : goal.returns
unfolding top_table
returns c =
    let built_in : c.in_ok-built_in.built_in ≡ built_in_types = cc (c.in_ok-built_in.ensures) in
    let registry = rw built_in at c.optional-registry.ensures.answer in
    answered (passes c.in_ok-only_known.ensures
    (leaves _ (then _ (reads c.in_ok-frames.ensures) (then _ c.optional-first_system_version.ensures.answer (then _ c.optional-first_entity_version.ensures.answer done)))
    (leaves _ registry (leaves _ c.list_under-spawn.ensures.answer
    (leaves _ (then _ c.list_under-group.ensures.answer (then _ c.list_under-system.ensures.answer (then _ c.list_under-event.ensures.answer done)))
    (settles _ (rw (c.is_placed.ensures, c.is_unbuilt.ensures) refl) c.settled.ensures))))))
