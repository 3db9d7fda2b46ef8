use Rattle.std.proofs.Common.{ℕ, ◌<◌, Bool, length, ◌∙◌, refl, arith}
use Rattle.std.specs.Prelude.{slice_set}
use Rattle.chunk_block.specs.Blocks.{BlockState, row_in}
use Rattle.archetype_store.proofs.Writes.{number-below, slot-found, slot-used, block-is, store-written, consistent-written}
use Rattle.std.proofs.lemmas.List.{length-set}
use Rattle.archetype_store.proofs.store.ArchetypeStore.set_dying.Goals as goal

abbrev Asked : ℕ → BlockState → Type 0
Asked row b = row < length b.rows

abbrev after : ℕ → Bool → BlockState → BlockState
after row on b = record b { rows = slice_set b.rows row (record (row_in row b.rows) { dying = on }) }

pub index_mut-requires : goal.index_mut-requires
index_mut-requires c = omega (arith, number-below c.self.inside c.args.self.now c.self.view_is c.args.number (Asked c.args.row) c.requires)

pub set_dying-requires : goal.set_dying-requires
set_dying-requires c = (block-is c.self.inside c.args.self.now c.self.view_is c.args.number (Asked c.args.row) c.requires c.in-Some.held (slot-found c.self.inside c.args.self.now c.self.view_is c.args.number (Asked c.args.row) c.requires c.index_mut.result.now c.index_mut.ensures.value ∙ c.in-Some.is))

pub unreachable-requires : goal.unreachable-requires
unreachable-requires c = slot-used c.self.inside c.args.self.now c.self.view_is c.args.number (Asked c.args.row) c.requires c.index_mut.result.now c.index_mut.ensures.value c.in-None.is

pub invariant_of-self : goal.invariant_of-self
invariant_of-self c = consistent-written c.self.inside c.args.self.now c.self.view_is c.args.number (Asked c.args.row) c.requires c.in-Some.held (after c.args.row c.args.on) c.set_dying.new.self (slot-found c.self.inside c.args.self.now c.self.view_is c.args.number (Asked c.args.row) c.requires c.index_mut.result.now c.index_mut.ensures.value ∙ c.in-Some.is) c.set_dying.ensures refl (length-set c.in-Some.held.block.rows c.args.row _) c.self.invariant

pub returns : goal.returns
returns c = store-written c.self.inside c.args.self.now c.self.view_is c.args.number (Asked c.args.row) c.requires c.in-Some.held (after c.args.row c.args.on) c.set_dying.new.self (slot-found c.self.inside c.args.self.now c.self.view_is c.args.number (Asked c.args.row) c.requires c.index_mut.result.now c.index_mut.ensures.value ∙ c.in-Some.is) c.set_dying.ensures
