use Rattle.std.proofs.Common.{◌≡◌, ℕ, ◌+◌, ◌<◌, List, length, cond, Option, refl, sym, ap, ◌∙◌, arith}
use Rattle.std.specs.Prelude.{is_some}
use Rattle.archetype_store.specs.declared.slots.Held.{Held}
use Rattle.archetype_store.specs.Slots.{slot_at}
use Rattle.archetype_store.specs.Inside.{rank_at}
use Rattle.archetype_store.specs.Gaps.{all_unranked, ranked, taken}
use Rattle.archetype_store.proofs.Orders.{below_of}
use Rattle.archetype_store.proofs.Closed.{ranks-next, same-next, taken-most, taken-next, used-place}
use Rattle.archetype_store.proofs.gaps.rank_blocks.Goals as goal

pub rank_block-rank-requires-clause-there : goal.rank_block-rank-requires-clause-there
rank_block-rank-requires-clause-there c =
    used-place c.args.slots.now.items c.loop-place.slots.items c.args.order.now c.requires c.loop-place.invariant.1.0 c.loop-place.place (slot_at c.args.order.now c.loop-place.place) refl

pub rank_block-rank-requires-clause-fits : goal.rank_block-rank-requires-clause-fits
rank_block-rank-requires-clause-fits c = omega (arith, c.loop-place.invariant.0, taken-most c.loop-place.place c.args.order.now, c.loop-place-test.true)

pub loop-place-preserved : goal.loop-place-preserved
loop-place-preserved c =
    let first : List (Option Held) = c.args.slots.now.items in
    let slots : List (Option Held) = c.loop-place.slots.items in
    let order : List (Option ℕ) = c.args.order.now in
    let p : ℕ = c.loop-place.place in
    let o : Option ℕ = slot_at order p in
    let below : p < length order = c.loop-place-test.true in
    let rank : c.loop-place.rank ≡ taken p order = c.loop-place.invariant.0 in
    let is : c.rank_block-rank.new.slots.items ≡ ranked o (taken p order) slots = c.rank_block-rank.ensures.slots ∙ ap (λ k. ranked o k slots) rank in (
      c.rank_block-rank.ensures.next ∙ ap (λ k. cond (is_some o) (k + 1) k) rank ∙ sym (taken-next p order below),
      (
        ap all_unranked is ∙ same-next first slots order c.requires c.loop-place.invariant.1.0 p below c.loop-place.invariant.1.1 o,
        λ k n less at. ap (λ ss. rank_at ss n) is ∙ ranks-next first slots order c.requires c.loop-place.invariant.1.0 p below c.loop-place.invariant.1.1 o refl k n less at,
      ),
    )

pub returns : goal.returns
returns c = record {
  same = c.loop-place.invariant.1.0;
  ranks = λ k n at. c.loop-place.invariant.1.1 k n (omega (arith, below_of c.args.order.now k n at, c.loop-place-test.false)) at;
}
