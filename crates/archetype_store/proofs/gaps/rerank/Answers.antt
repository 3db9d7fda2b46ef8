use Rattle.std.proofs.Common.{ℕ, ◌<◌, List, length, set, ap, ◌∙◌, arith}
use Rattle.std.proofs.lemmas.List.Edits.{map_over_more}
use Rattle.archetype_store.specs.Slots.{slot_at}
use Rattle.archetype_store.specs.Gaps.{rank_there}
use Rattle.archetype_store.proofs.gaps.rerank.Goals as goal

pub loop-i-preserved : goal.loop-i-preserved
loop-i-preserved c =
    let first : List ℕ = c.args.places.now.items in
    let places : List ℕ = c.loop-i.places.items in
    let i : ℕ = c.loop-i.i in
    let below : i < length first = omega (arith, c.loop-i-test.true, c.len-i-end.ensures, c.args.places.now.ok.0) in (
      ap (set places i) c.rank_at.ensures
          ∙ map_over_more (λ place. rank_there c.args.slots.now (slot_at c.args.order.now place)) first places i c.index.result.now below c.loop-i.invariant.0 c.index.ensures,
      c.loop-i.invariant.1,
    )
