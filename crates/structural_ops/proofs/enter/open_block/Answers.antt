use Rattle.std.proofs.Common.{ℕ, [], ◌∙◌, ap, sym, map, List, Result, Ok, Err, IfOk}
use Rattle.std.specs.Prelude.{unwrap_or}
use Rattle.ent_types.specs.declared.memory.Memory.{Memory}
use Rattle.ent_types.specs.declared.value.Part.{Part}
use Rattle.world_model.specs.Part.{part_type, part_of as seen}
use Rattle.archetype_store.specs.Stores.{OfBlock, Opens, shared_types}
use Rattle.world_rows.specs.Entering.{IsOpen}
use Rattle.world_rows.proofs.Opened.{opened_is}
use Rattle.structural_ops.proofs.Shared.{shared_are, seen_types}
use Rattle.structural_ops.proofs.enter.open_block.Goals as goal

pub place_for-requires-clause-parts : goal.place_for-requires-clause-parts
place_for-requires-clause-parts c =
    ap (λ (ps : List Part). map (λ p. part_type (seen p)) ps) c.deref.ensures.value
    ∙ seen_types c.in_ok-shared.shared.items
    ∙ ap (map part_type) c.in_ok-shared.ensures
    ∙ shared_are (map seen c.args.parts.now) (shared_types c.args.registry.now c.args.types.now)
    ∙ sym (ap (λ r. shared_types (unwrap_or r []) c.args.types.now) c.requires.registered)
    ∙ sym (ap (shared_types (unwrap_or c.args.store.now.registry [])) c.requires.types)

pub returns-clause-open : goal.returns-clause-open
returns-clause-open c = by c.place_for.result c.place_for.ensures.ok
  where
    by : (r : Result ℕ Memory) → IfOk r (Opens c.args.store.now c.place_for.new.self c.args.a (map seen c.deref.result.now))
        → IfOk r (λ n. OfBlock n (IsOpen c.args.registry.now c.args.types.now) c.place_for.new.self.blocks)
    by (Ok n) opens =
        opened_is c.args.registry.now c.args.store.now c.place_for.new.self c.args.a (map seen c.deref.result.now) n c.args.types.now c.is_sound.ensures c.requires.whole
        (ap (λ r. unwrap_or r []) c.requires.registered) c.requires.there c.requires.types opens
    by (Err f) opens = tt
