use Rattle.std.proofs.Common.{◌≡◌, ap, ◌∙◌, arith}
use Rattle.std.specs.Prelude.{fold}
use Rattle.chunk_block.specs.Blocks.{BlockState, LoanState, IsLoanOf, given_rows, given_type}
use Rattle.archetype_store.specs.declared.slots.Held.{Held}
use Rattle.archetype_store.specs.Inside.{beside}
use Rattle.archetype_store.proofs.Shapes.{shapes-given}
use Rattle.archetype_store.proofs.Writes.{number-below, slot-found, slot-used, block-is, of-new-block, store-written, consistent-written}
use Rattle.archetype_store.proofs.Shapes.{rows-given}
use Rattle.archetype_store.proofs.store.ArchetypeStore.give_back.Goals as goal

abbrev Asked : LoanState → BlockState → Type 0
Asked loan b = IsLoanOf b loan

abbrev after : LoanState → BlockState → BlockState
after loan b = record b { columns = fold given_type b.columns loan.pieces; rows = fold given_rows b.rows loan.pieces }

same_beside : (loan : LoanState) (h : Held) → beside (record h { block = after loan h.block }) ≡ beside h
same_beside loan h = ap (λ shapes. record (beside h) { shapes = shapes }) (shapes-given loan.pieces h.block.columns)

pub index_mut-requires : goal.index_mut-requires
index_mut-requires c = omega (arith, number-below c.self.inside c.args.self.now c.self.view_is c.args.number (Asked c.args.loan) c.requires)

pub unreachable-requires : goal.unreachable-requires
unreachable-requires c = slot-used c.self.inside c.args.self.now c.self.view_is c.args.number (Asked c.args.loan) c.requires c.index_mut.result.now c.index_mut.ensures.value c.in-None.is

pub give_back-requires : goal.give_back-requires
give_back-requires c = block-is c.self.inside c.args.self.now c.self.view_is c.args.number (Asked c.args.loan) c.requires c.in-Some.held (slot-found c.self.inside c.args.self.now c.self.view_is c.args.number (Asked c.args.loan) c.requires c.index_mut.result.now c.index_mut.ensures.value ∙ c.in-Some.is)

pub invariant_of-self : goal.invariant_of-self
invariant_of-self c = consistent-written c.self.inside c.args.self.now c.self.view_is c.args.number (Asked c.args.loan) c.requires c.in-Some.held (after c.args.loan) c.give_back.new.self (slot-found c.self.inside c.args.self.now c.self.view_is c.args.number (Asked c.args.loan) c.requires c.index_mut.result.now c.index_mut.ensures.value ∙ c.in-Some.is) c.give_back.ensures.block (same_beside c.args.loan c.in-Some.held) (rows-given c.args.loan.pieces c.in-Some.held.block.rows) c.self.invariant

pub returns-clause-store : goal.returns-clause-store
returns-clause-store c = store-written c.self.inside c.args.self.now c.self.view_is c.args.number (Asked c.args.loan) c.requires c.in-Some.held (after c.args.loan) c.give_back.new.self (slot-found c.self.inside c.args.self.now c.self.view_is c.args.number (Asked c.args.loan) c.requires c.index_mut.result.now c.index_mut.ensures.value ∙ c.in-Some.is) c.give_back.ensures.block

pub returns-clause-others : goal.returns-clause-others
returns-clause-others c other is =
    of-new-block c.self.inside c.args.self.now c.self.view_is c.args.number (Asked c.args.loan) c.requires (λ b. IsLoanOf b other) c.in-Some.held (after c.args.loan) c.give_back.new.self (slot-found c.self.inside c.args.self.now c.self.view_is c.args.number (Asked c.args.loan) c.requires c.index_mut.result.now c.index_mut.ensures.value ∙ c.in-Some.is) c.give_back.ensures.block
    (c.give_back.ensures.others other (block-is c.self.inside c.args.self.now c.self.view_is c.args.number (λ b. IsLoanOf b other) is c.in-Some.held (slot-found c.self.inside c.args.self.now c.self.view_is c.args.number (Asked c.args.loan) c.requires c.index_mut.result.now c.index_mut.ensures.value ∙ c.in-Some.is)))
