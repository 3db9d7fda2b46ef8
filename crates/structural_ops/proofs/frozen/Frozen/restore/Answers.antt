use Rattle.std.proofs.Common.{◌∙◌, ap, sym, subst, map, List}
use Rattle.chunk_block.specs.Blocks.{IsLoanOf}
use Rattle.archetype_store.specs.Stores.{Numbered, StoreState}
use Rattle.world_loans.proofs.Returned.{returns_are}
use Rattle.structural_ops.specs.Freezing.{AreLoansOf, FrozenState, with_loans}
use Rattle.structural_ops.specs.Worlds.{IsConsistent, state_of}
use Rattle.structural_ops.proofs.Freezing.{lent_unseen}
use Rattle.structural_ops.proofs.Restoring.{blocks_back, restored_consistent, restored_state}
use Rattle.structural_ops.proofs.frozen.Frozen.restore.Goals as goal

pub give_back-requires : goal.give_back-requires
give_back-requires c l i =
    let w = c.self.inside.tables in
    let of = subst (λ (f : FrozenState). AreLoansOf f c.args.loans.loans) (sym c.self.view_is) c.requires in
    lent_unseen w c.self.invariant c.is_sound.ensures l.number (λ b. IsLoanOf b l) (of.each l i)

pub invariant_of-result : goal.invariant_of-result
invariant_of-result c =
    let w = c.self.inside.tables in
    let ls = c.args.loans.loans in
    let of = subst (λ (f : FrozenState). AreLoansOf f ls) (sym c.self.view_is) c.requires in
    let stored = c.give_back.ensures ∙ returns_are ls w.store ∙ ap (λ (bs : List Numbered). record (w.store) { blocks = bs }) (blocks_back w c.self.invariant ls of.once) in
    subst (λ (s : StoreState). IsConsistent (record w { store = s })) (sym stored) (restored_consistent w c.self.invariant ls of c.is_sound.ensures)

pub returns : goal.returns
returns c =
    let w = c.self.inside.tables in
    let ls = c.args.loans.loans in
    let of = subst (λ (f : FrozenState). AreLoansOf f ls) (sym c.self.view_is) c.requires in
    ap (λ (s : StoreState). state_of (record w { store = s })) (c.give_back.ensures ∙ returns_are ls w.store)
    ∙ restored_state w c.self.invariant ls
    ∙ ap (λ (f : FrozenState). with_loans ls f.state) c.self.view_is
