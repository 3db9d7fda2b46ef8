use Rattle.std.proofs.Common.{ℕ, ◌<◌, length, ◌∙◌, refl, arith}
use Rattle.std.specs.Prelude.{slice_set}
use Rattle.ent_types.specs.declared.entity.Entity.{Entity}
use Rattle.chunk_block.specs.Blocks.{BlockState, row_in}
use Rattle.archetype_store.proofs.Writes.{number-below, slot-found, slot-used, block-is, store-written, consistent-written}
use Rattle.std.proofs.lemmas.List.{length-set}
use Rattle.archetype_store.proofs.store.ArchetypeStore.put_entity.Goals as goal

abbrev Asked : ℕ → BlockState → Type 0
Asked row b = row < length b.rows

abbrev after : ℕ → Entity → BlockState → BlockState
after row e b = record b { rows = slice_set b.rows row (record (row_in row b.rows) { entity = e }) }

pub index_mut-requires : goal.index_mut-requires
index_mut-requires c = omega (arith, number-below c.self.inside c.args.self.now c.self.view_is c.args.number (Asked c.args.row) c.requires)

pub put_entity-requires : goal.put_entity-requires
put_entity-requires c = (block-is c.self.inside c.args.self.now c.self.view_is c.args.number (Asked c.args.row) c.requires c.in-Some.held (slot-found c.self.inside c.args.self.now c.self.view_is c.args.number (Asked c.args.row) c.requires c.index_mut.result.now c.index_mut.ensures.value ∙ c.in-Some.is))

pub unreachable-requires : goal.unreachable-requires
unreachable-requires c = slot-used c.self.inside c.args.self.now c.self.view_is c.args.number (Asked c.args.row) c.requires c.index_mut.result.now c.index_mut.ensures.value c.in-None.is

pub invariant_of-self : goal.invariant_of-self
invariant_of-self c = consistent-written c.self.inside c.args.self.now c.self.view_is c.args.number (Asked c.args.row) c.requires c.in-Some.held (after c.args.row c.args.e) c.put_entity.new.self (slot-found c.self.inside c.args.self.now c.self.view_is c.args.number (Asked c.args.row) c.requires c.index_mut.result.now c.index_mut.ensures.value ∙ c.in-Some.is) c.put_entity.ensures refl (length-set c.in-Some.held.block.rows c.args.row _) c.self.invariant

pub returns : goal.returns
returns c = store-written c.self.inside c.args.self.now c.self.view_is c.args.number (Asked c.args.row) c.requires c.in-Some.held (after c.args.row c.args.e) c.put_entity.new.self (slot-found c.self.inside c.args.self.now c.self.view_is c.args.number (Asked c.args.row) c.requires c.index_mut.result.now c.index_mut.ensures.value ∙ c.in-Some.is) c.put_entity.ensures
