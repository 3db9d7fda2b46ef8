use Rattle.std.proofs.Common.{ℕ, ◌<◌, Bool, not, length, ◌∙◌, refl, arith}
use Rattle.std.specs.Prelude.{slice_set}
use Rattle.ent_types.specs.declared.entity.TypeId.{TypeId}
use Rattle.block_columns.specs.Types.{with_off, IsEnableable}
use Rattle.chunk_block.specs.Blocks.{BlockState, OfType, changed, row_in}
use Rattle.archetype_store.proofs.Writes.{number-below, slot-found, slot-used, block-is, store-written, consistent-written}
use Rattle.std.proofs.lemmas.List.{length-set}
use Rattle.archetype_store.proofs.store.ArchetypeStore.set_enabled.Goals as goal

abbrev Asked : ℕ → TypeId → BlockState → Type 0
Asked row ty b = (row < length b.rows) × OfType ty.0 IsEnableable b.columns

abbrev after : ℕ → TypeId → Bool → BlockState → BlockState
after row ty on b = record b { rows = slice_set b.rows row (changed ty.0 (with_off (not on)) (row_in row b.rows)) }

pub index_mut-requires : goal.index_mut-requires
index_mut-requires c = omega (arith, number-below c.self.inside c.args.self.now c.self.view_is c.args.number (Asked c.args.row c.args.ty) c.requires)

pub set_enabled-requires-clause-within : goal.set_enabled-requires-clause-within
set_enabled-requires-clause-within c = (block-is c.self.inside c.args.self.now c.self.view_is c.args.number (Asked c.args.row c.args.ty) c.requires c.in-Some.held (slot-found c.self.inside c.args.self.now c.self.view_is c.args.number (Asked c.args.row c.args.ty) c.requires c.index_mut.result.now c.index_mut.ensures.value ∙ c.in-Some.is)).0

pub set_enabled-requires-clause-there : goal.set_enabled-requires-clause-there
set_enabled-requires-clause-there c = (block-is c.self.inside c.args.self.now c.self.view_is c.args.number (Asked c.args.row c.args.ty) c.requires c.in-Some.held (slot-found c.self.inside c.args.self.now c.self.view_is c.args.number (Asked c.args.row c.args.ty) c.requires c.index_mut.result.now c.index_mut.ensures.value ∙ c.in-Some.is)).1

pub unreachable-requires : goal.unreachable-requires
unreachable-requires c = slot-used c.self.inside c.args.self.now c.self.view_is c.args.number (Asked c.args.row c.args.ty) c.requires c.index_mut.result.now c.index_mut.ensures.value c.in-None.is

pub invariant_of-self : goal.invariant_of-self
invariant_of-self c = consistent-written c.self.inside c.args.self.now c.self.view_is c.args.number (Asked c.args.row c.args.ty) c.requires c.in-Some.held (after c.args.row c.args.ty c.args.on) c.set_enabled.new.self (slot-found c.self.inside c.args.self.now c.self.view_is c.args.number (Asked c.args.row c.args.ty) c.requires c.index_mut.result.now c.index_mut.ensures.value ∙ c.in-Some.is) c.set_enabled.ensures refl (length-set c.in-Some.held.block.rows c.args.row _) c.self.invariant

pub returns : goal.returns
returns c = store-written c.self.inside c.args.self.now c.self.view_is c.args.number (Asked c.args.row c.args.ty) c.requires c.in-Some.held (after c.args.row c.args.ty c.args.on) c.set_enabled.new.self (slot-found c.self.inside c.args.self.now c.self.view_is c.args.number (Asked c.args.row c.args.ty) c.requires c.index_mut.result.now c.index_mut.ensures.value ∙ c.in-Some.is) c.set_enabled.ensures
