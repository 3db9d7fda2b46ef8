use Rattle.std.proofs.Common.{◌≡◌, length}
use Rattle.std.specs.Vec.Iter.{into_iter_items, into_iter_len}
use Rattle.world_model.specs.Members.{In}
use Rattle.chunk_block.specs.Blocks.{LoanState, IsLoanOf}
use Rattle.archetype_store.specs.Stores.{OfBlock}
use Rattle.world_loans.specs.Returns.{after_returns}
use Rattle.structural_ops.proofs.loans.give_each.Given as goal

-- what is left to give back makes the store what all loans make of it
abbrev pub invariant-loop-loan : goal.invariant-loop-loan
invariant-loop-loan l =
    (after_returns (into_iter_items l.loan-iterator) l.store ≡ after_returns l.fn.loans.items l.fn.store)
    × (((x : LoanState) → In x (into_iter_items l.loan-iterator) → OfBlock x.number (λ b. IsLoanOf b x) l.store.blocks)
    × (into_iter_len l.loan-iterator ≡ length (into_iter_items l.loan-iterator)))
