use Rattle.std.proofs.Common.{ℕ, ◌<◌, length, ◌∙◌, refl, arith}
use Rattle.std.specs.Prelude.{slice_set}
use Rattle.ent_types.specs.declared.entity.TypeId.{TypeId}
use Rattle.ent_types.specs.declared.value.Value.{Value}
use Rattle.block_columns.specs.Types.{with_value, TakesValue}
use Rattle.chunk_block.specs.Blocks.{BlockState, OfType, changed, row_in}
use Rattle.archetype_store.proofs.Writes.{number-below, slot-found, slot-used, block-is, store-written, consistent-written}
use Rattle.std.proofs.lemmas.List.{length-set}
use Rattle.archetype_store.proofs.store.ArchetypeStore.field_set.Goals as goal

abbrev Asked : ℕ → TypeId → ℕ → Value → BlockState → Type 0
Asked row ty field value b = (row < length b.rows) × OfType ty.0 (TakesValue field value) b.columns

abbrev after : ℕ → TypeId → ℕ → Value → BlockState → BlockState
after row ty field value b = record b { rows = slice_set b.rows row (changed ty.0 (with_value field value) (row_in row b.rows)) }

pub index_mut-requires : goal.index_mut-requires
index_mut-requires c = omega (arith, number-below c.self.inside c.args.self.now c.self.view_is c.args.number (Asked c.args.row c.args.ty c.args.field c.args.value) c.requires)

pub field_set-requires-clause-within : goal.field_set-requires-clause-within
field_set-requires-clause-within c = (block-is c.self.inside c.args.self.now c.self.view_is c.args.number (Asked c.args.row c.args.ty c.args.field c.args.value) c.requires c.in-Some.held (slot-found c.self.inside c.args.self.now c.self.view_is c.args.number (Asked c.args.row c.args.ty c.args.field c.args.value) c.requires c.index_mut.result.now c.index_mut.ensures.value ∙ c.in-Some.is)).0

pub field_set-requires-clause-there : goal.field_set-requires-clause-there
field_set-requires-clause-there c = (block-is c.self.inside c.args.self.now c.self.view_is c.args.number (Asked c.args.row c.args.ty c.args.field c.args.value) c.requires c.in-Some.held (slot-found c.self.inside c.args.self.now c.self.view_is c.args.number (Asked c.args.row c.args.ty c.args.field c.args.value) c.requires c.index_mut.result.now c.index_mut.ensures.value ∙ c.in-Some.is)).1

pub unreachable-requires : goal.unreachable-requires
unreachable-requires c = slot-used c.self.inside c.args.self.now c.self.view_is c.args.number (Asked c.args.row c.args.ty c.args.field c.args.value) c.requires c.index_mut.result.now c.index_mut.ensures.value c.in-None.is

pub invariant_of-self : goal.invariant_of-self
invariant_of-self c = consistent-written c.self.inside c.args.self.now c.self.view_is c.args.number (Asked c.args.row c.args.ty c.args.field c.args.value) c.requires c.in-Some.held (after c.args.row c.args.ty c.args.field c.args.value) c.field_set.new.self (slot-found c.self.inside c.args.self.now c.self.view_is c.args.number (Asked c.args.row c.args.ty c.args.field c.args.value) c.requires c.index_mut.result.now c.index_mut.ensures.value ∙ c.in-Some.is) c.field_set.ensures refl (length-set c.in-Some.held.block.rows c.args.row _) c.self.invariant

pub returns : goal.returns
returns c = store-written c.self.inside c.args.self.now c.self.view_is c.args.number (Asked c.args.row c.args.ty c.args.field c.args.value) c.requires c.in-Some.held (after c.args.row c.args.ty c.args.field c.args.value) c.field_set.new.self (slot-found c.self.inside c.args.self.now c.self.view_is c.args.number (Asked c.args.row c.args.ty c.args.field c.args.value) c.requires c.index_mut.result.now c.index_mut.ensures.value ∙ c.in-Some.is) c.field_set.ensures
