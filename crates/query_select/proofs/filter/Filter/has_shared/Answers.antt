use Rattle.std.proofs.Common.{◌≡◌, false, true, subst, drop_of_length-le}
use Rattle.world_model.specs.Members.{In}
use Rattle.archetype_store.specs.Stores.{OfNumber}
use Rattle.world_places.proofs.Numbers.{of_more}
use Rattle.query_select.specs.Filters.{CanCompare, CanCompareAll}
use Rattle.query_select.proofs.ByNumber.{decide_first, decide_next, decide_lacking, decide_all, have_parts}
use Rattle.query_select.proofs.Walks.{part_in}
use Rattle.query_select.proofs.filter.Filter.has_shared.Goals as goal

pub loop-part-init : goal.loop-part-init
loop-part-init c = decide_first c.args.number c.args.store.now.blocks c.as_slice-part-items.result.now (CanCompareAll c.args.self.now.shared) c.requires

pub has_part-requires : goal.has_part-requires
has_part-requires c =
    of_more c.args.number (CanCompareAll c.args.self.now.shared) (CanCompare c.part-item.result) c.args.store.now.blocks
    (λ b h. h c.part-item.result (subst (In c.part-item.result) c.as_slice-part-items.ensures (part_in c.as_slice-part-items.result.now c.loop-part.part-index c.part-item.result c.loop-part-test.true c.part-item.is))) c.requires

pub loop-part-preserved : goal.loop-part-preserved
loop-part-preserved c =
    decide_next c.args.number c.args.store.now.blocks c.as_slice-part-items.result.now c.loop-part.part-index c.part-item.result c.loop-part-test.true c.part-item.is
    c.has_part.result c.has_part.ensures c.loop-part.invariant c.if-not-has_part.false

pub returns-then-not-has_part : goal.returns-then-not-has_part
returns-then-not-has_part c =
    subst (λ ps. OfNumber c.args.number (λ b. false ≡ have_parts ps b) c.args.store.now.blocks) c.as_slice-part-items.ensures
    (decide_lacking c.args.number c.args.store.now.blocks c.as_slice-part-items.result.now c.loop-part.part-index c.part-item.result c.loop-part-test.true c.part-item.is
    c.has_part.result c.has_part.ensures c.loop-part.invariant c.if-not-has_part.true)

pub returns : goal.returns
returns c =
    subst (λ ps. OfNumber c.args.number (λ b. true ≡ have_parts ps b) c.args.store.now.blocks) c.as_slice-part-items.ensures
    (decide_all c.args.number c.args.store.now.blocks c.as_slice-part-items.result.now c.loop-part.part-index
    (drop_of_length-le c.as_slice-part-items.result.now c.loop-part-test.false) c.loop-part.invariant)
