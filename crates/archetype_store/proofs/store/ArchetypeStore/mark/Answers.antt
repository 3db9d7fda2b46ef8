use Rattle.std.proofs.Common.{◌∙◌, refl, arith}
use Rattle.ent_types.specs.declared.entity.TypeId.{TypeId}
use Rattle.system_version.specs.declared.version.SystemVersion.{SystemVersion}
use Rattle.chunk_block.specs.Blocks.{BlockState, with_mark}
use Rattle.archetype_store.proofs.Writes.{number-below, slot-found, slot-used, store-written, consistent-written}
use Rattle.archetype_store.proofs.store.ArchetypeStore.mark.Goals as goal

abbrev Asked : BlockState → Type 0
Asked b = Unit {0}

abbrev after : TypeId → SystemVersion → BlockState → BlockState
after ty version b = record b { marks = with_mark ty.0 version.0 b.marks }

pub index_mut-requires : goal.index_mut-requires
index_mut-requires c = omega (arith, number-below c.self.inside c.args.self.now c.self.view_is c.args.number Asked c.requires)

pub unreachable-requires : goal.unreachable-requires
unreachable-requires c = slot-used c.self.inside c.args.self.now c.self.view_is c.args.number Asked c.requires c.index_mut.result.now c.index_mut.ensures.value c.in-None.is

pub invariant_of-self : goal.invariant_of-self
invariant_of-self c = consistent-written c.self.inside c.args.self.now c.self.view_is c.args.number Asked c.requires c.in-Some.held (after c.args.ty c.args.version) c.mark.new.self (slot-found c.self.inside c.args.self.now c.self.view_is c.args.number Asked c.requires c.index_mut.result.now c.index_mut.ensures.value ∙ c.in-Some.is) c.mark.ensures refl refl c.self.invariant

pub returns : goal.returns
returns c = store-written c.self.inside c.args.self.now c.self.view_is c.args.number Asked c.requires c.in-Some.held (after c.args.ty c.args.version) c.mark.new.self (slot-found c.self.inside c.args.self.now c.self.view_is c.args.number Asked c.requires c.index_mut.result.now c.index_mut.ensures.value ∙ c.in-Some.is) c.mark.ensures
