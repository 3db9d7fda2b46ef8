use Rattle.std.proofs.Common.{ℕ, ◌+◌, ◌-◌, ◌/◌, ◌<◌, length, arith}
use Rattle.archetype_store.proofs.Ranks.{place-before, place-found, place-from, rank-is, used-at}
use Rattle.archetype_store.proofs.slots.place_in.Goals as goal

pub held_at-requires : goal.held_at-requires
held_at-requires c =
    used-at c.args.slots.now c.args.numbers.now (c.loop-high.low + (c.loop-high.high - c.loop-high.low) / 2) c.requires.used
    (omega (arith, c.loop-high.invariant.0, c.loop-high.invariant.1.0, c.loop-high-test.true))

pub loop-high-preserved-then-held_at-rank : goal.loop-high-preserved-then-held_at-rank
loop-high-preserved-then-held_at-rank c =
    let mid : ℕ = c.loop-high.low + (c.loop-high.high - c.loop-high.low) / 2 in
    let below : mid < length c.args.numbers.now = omega (arith, c.loop-high.invariant.0, c.loop-high.invariant.1.0, c.loop-high-test.true) in (
      c.loop-high.invariant.0,
      (
        omega (arith, c.loop-high.invariant.1.0, c.loop-high-test.true),
        λ k within is. (
          place-from c.args.slots.now c.args.numbers.now c.requires.rising c.args.rank mid k below
              (omega (arith, rank-is c.args.slots.now _ c.held_at.result.now c.held_at.ensures, c.if-held_at-rank.true)) within is,
          (c.loop-high.invariant.1.1 k within is).1,
        ),
      ),
    )

pub loop-high-preserved : goal.loop-high-preserved
loop-high-preserved c =
    let mid : ℕ = c.loop-high.low + (c.loop-high.high - c.loop-high.low) / 2 in
    let below : mid < length c.args.numbers.now = omega (arith, c.loop-high.invariant.0, c.loop-high.invariant.1.0, c.loop-high-test.true) in (
      omega (arith, below),
      (
        omega (arith, c.loop-high.invariant.1.0, c.loop-high-test.true),
        λ k within is. (
          (c.loop-high.invariant.1.1 k within is).0,
          place-before c.args.slots.now c.args.numbers.now c.requires.rising c.args.rank mid k below
              (omega (arith, rank-is c.args.slots.now _ c.held_at.result.now c.held_at.ensures, c.if-held_at-rank.false)) within is,
        ),
      ),
    )

pub returns-clause-rank : goal.returns-clause-rank
returns-clause-rank c =
    place-found c.args.slots.now c.args.numbers.now c.requires.rising c.args.rank c.loop-high.low c.loop-high.high c.requires.there c.loop-high.invariant.1.1
    (omega (arith, c.loop-high.invariant.1.0, c.loop-high-test.false))
