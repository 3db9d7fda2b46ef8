use Rattle.std.proofs.Common.{◌≡◌, ℕ, ◌<◌, length, ◌∙◌, refl, arith}
use Rattle.std.specs.Prelude.{slice_set}
use Rattle.buffer_store.specs.Buffers.{Buffer, buffer}
use Rattle.ent_types.specs.declared.entity.TypeId.{TypeId}
use Rattle.ent_types.specs.declared.value.Value.{Value}
use Rattle.block_columns.specs.Types.{with_values, TakesElements}
use Rattle.chunk_block.specs.Blocks.{BlockState, OfType, changed, content_at, row_in}
use Rattle.archetype_store.proofs.Writes.{number-below, slot-found, slot-used, block-is, of-block, store-written, consistent-written}
use Rattle.std.proofs.lemmas.List.{length-set}
use Rattle.archetype_store.proofs.store.ArchetypeStore.put_elements.Goals as goal

abbrev Asked : ℕ → TypeId → Buffer Value → BlockState → Type 0
Asked row ty new b = (row < length b.rows) × OfType ty.0 (TakesElements new) b.columns

abbrev after : ℕ → TypeId → Buffer Value → BlockState → BlockState
after row ty new b = record b { rows = slice_set b.rows row (changed ty.0 (with_values new.values) (row_in row b.rows)) }

pub index_mut-requires : goal.index_mut-requires
index_mut-requires c = omega (arith, number-below c.self.inside c.args.self.now c.self.view_is c.args.number (Asked c.args.row c.args.ty c.args.new) c.requires)

pub unreachable-requires : goal.unreachable-requires
unreachable-requires c = slot-used c.self.inside c.args.self.now c.self.view_is c.args.number (Asked c.args.row c.args.ty c.args.new) c.requires c.index_mut.result.now c.index_mut.ensures.value c.in-None.is

pub put_elements-requires-clause-within : goal.put_elements-requires-clause-within
put_elements-requires-clause-within c = (block-is c.self.inside c.args.self.now c.self.view_is c.args.number (Asked c.args.row c.args.ty c.args.new) c.requires c.in-Some.held (slot-found c.self.inside c.args.self.now c.self.view_is c.args.number (Asked c.args.row c.args.ty c.args.new) c.requires c.index_mut.result.now c.index_mut.ensures.value ∙ c.in-Some.is)).0

pub put_elements-requires-clause-there : goal.put_elements-requires-clause-there
put_elements-requires-clause-there c = (block-is c.self.inside c.args.self.now c.self.view_is c.args.number (Asked c.args.row c.args.ty c.args.new) c.requires c.in-Some.held (slot-found c.self.inside c.args.self.now c.self.view_is c.args.number (Asked c.args.row c.args.ty c.args.new) c.requires c.index_mut.result.now c.index_mut.ensures.value ∙ c.in-Some.is)).1

pub invariant_of-self : goal.invariant_of-self
invariant_of-self c = consistent-written c.self.inside c.args.self.now c.self.view_is c.args.number (Asked c.args.row c.args.ty c.args.new) c.requires c.in-Some.held (after c.args.row c.args.ty c.args.new) c.put_elements.new.self (slot-found c.self.inside c.args.self.now c.self.view_is c.args.number (Asked c.args.row c.args.ty c.args.new) c.requires c.index_mut.result.now c.index_mut.ensures.value ∙ c.in-Some.is) c.put_elements.ensures.new refl (length-set c.in-Some.held.block.rows c.args.row _) c.self.invariant

pub returns-clause-new : goal.returns-clause-new
returns-clause-new c = store-written c.self.inside c.args.self.now c.self.view_is c.args.number (Asked c.args.row c.args.ty c.args.new) c.requires c.in-Some.held (after c.args.row c.args.ty c.args.new) c.put_elements.new.self (slot-found c.self.inside c.args.self.now c.self.view_is c.args.number (Asked c.args.row c.args.ty c.args.new) c.requires c.index_mut.result.now c.index_mut.ensures.value ∙ c.in-Some.is) c.put_elements.ensures.new

pub returns-clause-old : goal.returns-clause-old
returns-clause-old c =
    of-block c.self.inside c.args.self.now c.self.view_is c.args.number (Asked c.args.row c.args.ty c.args.new) c.requires (λ b. OfType c.args.ty.0 (λ shape. c.put_elements.result ≡ buffer (length shape.kinds) (content_at c.args.ty.0 (row_in c.args.row b.rows).cells).values) b.columns)
    c.in-Some.held (slot-found c.self.inside c.args.self.now c.self.view_is c.args.number (Asked c.args.row c.args.ty c.args.new) c.requires c.index_mut.result.now c.index_mut.ensures.value ∙ c.in-Some.is) c.put_elements.ensures.old
