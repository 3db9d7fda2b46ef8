use Rattle.std.proofs.Common.{◌≡◌, ℕ, List, map, ap, ◌∙◌, arith}
use Rattle.std.specs.List.{flat_map}
use Rattle.chunk_block.specs.Blocks.{BlockState, IsLoanOf, AreHeld, lent_piece, lent_row, lent_type}
use Rattle.archetype_store.specs.declared.slots.Held.{Held}
use Rattle.archetype_store.specs.Inside.{beside}
use Rattle.archetype_store.proofs.Shapes.{shapes-lent}
use Rattle.archetype_store.proofs.Writes.{number-below, slot-found, slot-used, block-is, of-block, of-new-block, store-written, consistent-written}
use Rattle.std.proofs.lemmas.List.{length-map}
use Rattle.archetype_store.proofs.store.ArchetypeStore.lend.Goals as goal

abbrev Asked : List ℕ → BlockState → Type 0
Asked types b = AreHeld types b.columns

abbrev after : List ℕ → BlockState → BlockState
after types b = record b { columns = map (lent_type types) b.columns; rows = map (lent_row types) b.rows }

same_beside : (types : List ℕ) (h : Held) → beside (record h { block = after types h.block }) ≡ beside h
same_beside types h = ap (λ shapes. record (beside h) { shapes = shapes }) (shapes-lent types h.block.columns)

pub index_mut-requires : goal.index_mut-requires
index_mut-requires c = omega (arith, number-below c.self.inside c.args.self.now c.self.view_is c.args.number (Asked c.args.types.now) c.requires)

pub unreachable-requires : goal.unreachable-requires
unreachable-requires c = slot-used c.self.inside c.args.self.now c.self.view_is c.args.number (Asked c.args.types.now) c.requires c.index_mut.result.now c.index_mut.ensures.value c.in-None.is

pub lend-requires : goal.lend-requires
lend-requires c = block-is c.self.inside c.args.self.now c.self.view_is c.args.number (Asked c.args.types.now) c.requires c.in-Some.held (slot-found c.self.inside c.args.self.now c.self.view_is c.args.number (Asked c.args.types.now) c.requires c.index_mut.result.now c.index_mut.ensures.value ∙ c.in-Some.is)

pub invariant_of-self : goal.invariant_of-self
invariant_of-self c = consistent-written c.self.inside c.args.self.now c.self.view_is c.args.number (Asked c.args.types.now) c.requires c.in-Some.held (after c.args.types.now) c.lend.new.self (slot-found c.self.inside c.args.self.now c.self.view_is c.args.number (Asked c.args.types.now) c.requires c.index_mut.result.now c.index_mut.ensures.value ∙ c.in-Some.is) c.lend.ensures.block (same_beside c.args.types.now c.in-Some.held) (length-map c.in-Some.held.block.rows (lent_row c.args.types.now)) c.self.invariant

pub returns-clause-store : goal.returns-clause-store
returns-clause-store c = store-written c.self.inside c.args.self.now c.self.view_is c.args.number (Asked c.args.types.now) c.requires c.in-Some.held (after c.args.types.now) c.lend.new.self (slot-found c.self.inside c.args.self.now c.self.view_is c.args.number (Asked c.args.types.now) c.requires c.index_mut.result.now c.index_mut.ensures.value ∙ c.in-Some.is) c.lend.ensures.block

pub returns-clause-loan : goal.returns-clause-loan
returns-clause-loan c =
    of-block c.self.inside c.args.self.now c.self.view_is c.args.number (Asked c.args.types.now) c.requires (λ b. c.lend.result ≡ record { number = c.args.number; types = c.args.types.now; pieces = flat_map (lent_piece c.args.types.now b.capacity b.rows) b.columns })
    c.in-Some.held (slot-found c.self.inside c.args.self.now c.self.view_is c.args.number (Asked c.args.types.now) c.requires c.index_mut.result.now c.index_mut.ensures.value ∙ c.in-Some.is) c.lend.ensures.loan

pub returns-clause-own : goal.returns-clause-own
returns-clause-own c =
    of-new-block c.self.inside c.args.self.now c.self.view_is c.args.number (Asked c.args.types.now) c.requires (λ b. IsLoanOf b c.lend.result) c.in-Some.held (after c.args.types.now) c.lend.new.self (slot-found c.self.inside c.args.self.now c.self.view_is c.args.number (Asked c.args.types.now) c.requires c.index_mut.result.now c.index_mut.ensures.value ∙ c.in-Some.is) c.lend.ensures.block c.lend.ensures.own

pub returns-clause-others : goal.returns-clause-others
returns-clause-others c other is =
    of-new-block c.self.inside c.args.self.now c.self.view_is c.args.number (Asked c.args.types.now) c.requires (λ b. IsLoanOf b other) c.in-Some.held (after c.args.types.now) c.lend.new.self (slot-found c.self.inside c.args.self.now c.self.view_is c.args.number (Asked c.args.types.now) c.requires c.index_mut.result.now c.index_mut.ensures.value ∙ c.in-Some.is) c.lend.ensures.block
    (c.lend.ensures.others other (block-is c.self.inside c.args.self.now c.self.view_is c.args.number (λ b. IsLoanOf b other) is c.in-Some.held (slot-found c.self.inside c.args.self.now c.self.view_is c.args.number (Asked c.args.types.now) c.requires c.index_mut.result.now c.index_mut.ensures.value ∙ c.in-Some.is)))
