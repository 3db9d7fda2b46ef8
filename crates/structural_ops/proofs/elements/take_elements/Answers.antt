use Rattle.std.proofs.Common.{◌≤◌, ◌<◌, ◌∷◌, [], ◌∙◌, ap, sym, subst, length, List}
use Rattle.ent_types.specs.declared.type_info.FieldInfo.{FieldInfo}
use Rattle.ent_types.specs.declared.value.Value.{Value}
use Rattle.buffer_store.specs.Buffers.{Buffer, buffer}
use Rattle.block_columns.specs.Types.{TakesElements}
use Rattle.chunk_block.specs.Blocks.{OfType}
use Rattle.chunk_block.proofs.New.{width_at}
use Rattle.archetype_store.specs.Stores.{OfBlock}
use Rattle.ent_types.specs.TypeLookups.{fields_at}
use Rattle.world_rows.specs.Writes.{Elements, written}
use Rattle.world_rows.proofs.Composed.{can_first}
use Rattle.structural_ops.proofs.elements.take_elements.Goals as goal

pub new-requires-clause-some : goal.new-requires-clause-some
new-requires-clause-some c = subst (λ fs. 1 ≤ length fs) (sym c.fields.ensures.value) (width_at c.args.registry.now c.types.ensures.lawful c.args.ty.0 c.requires.buffer).0

pub new-requires-clause-narrow : goal.new-requires-clause-narrow
new-requires-clause-narrow c = subst (λ fs. length fs ≤ 8) (sym c.fields.ensures.value) (width_at c.args.registry.now c.types.ensures.lawful c.args.ty.0 c.requires.buffer).1

pub put_elements-requires : goal.put_elements-requires
put_elements-requires c =
    subst (λ (new : Buffer Value). OfBlock c.args.place.block (λ b. (c.args.place.row < length b.rows) × OfType c.args.ty.0 (TakesElements new) b.columns) c.args.store.now.blocks)
    (sym (c.new.ensures ∙ ap (λ (fs : List FieldInfo). buffer (length fs) []) c.fields.ensures.value))
    (can_first c.args.place.block c.args.place.row (Elements c.args.ty.0 (length (fields_at c.args.registry.now c.args.ty.0)) []) [] c.args.store.now c.requires.there)

pub returns-clause-store : goal.returns-clause-store
returns-clause-store c =
    c.put_elements.ensures.new
    ∙ ap (λ (new : Buffer Value). written c.args.place.block c.args.place.row (Elements c.args.ty.0 (length (fields_at c.args.registry.now c.args.ty.0)) new.values ∷ []) c.args.store.now) c.new.ensures
