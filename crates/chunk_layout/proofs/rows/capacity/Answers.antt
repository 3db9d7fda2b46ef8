use Rattle.std.proofs.Common.{ℕ, ◌-◌, ◌/◌, ◌<◌, List, inl, inr, sym, arith}
use Rattle.std.proofs.lemmas.Bool.{cases_lt, leb-false}
use Rattle.chunk_layout.specs.Capacity.{block_bytes, Fits}
use Rattle.chunk_layout.proofs.Rounding.{block_bytes-mono}
use Rattle.chunk_layout.proofs.CapacityLemmas.{block_bytes-zero, IsCapacity-only}
use Rattle.chunk_layout.proofs.rows.capacity.Goals as goal

-- where n rows don't fit, what fits is below n
below_full : (sizes : List ℕ) (n m : ℕ) → 16320 < block_bytes sizes n → Fits sizes m → m < n
below_full sizes n m full fits =
    elim (cases_lt m n) [ inl below ↦ below | inr above ↦ absurd (omega (arith, block_bytes-mono sizes n m above)) ]

pub loop-fitting-init : goal.loop-fitting-init
loop-fitting-init c =
    record {
      ordered = omega arith;
      bounded = omega arith;
      fits = omega (arith, block_bytes-zero c.args.sizes.now);
      none_above = λ m h _. h;
    }

pub loop-fitting-preserved : goal.loop-fitting-preserved
loop-fitting-preserved c =
    let l = c.loop-fitting in
    let middle : ℕ = l.limit - (l.limit - l.fitting) / 2 in
    let full : 16320 < block_bytes c.args.sizes.now middle = leb-false _ _ (sym c.if-fit.ensures) in
    record {
      ordered = omega arith;
      bounded = omega arith;
      fits = l.invariant.fits;
      none_above = λ m _ fits. omega (arith, below_full c.args.sizes.now middle m full fits);
    }

pub returns-clause-value : goal.returns-clause-value
returns-clause-value c =
    let l = c.loop-fitting in
    IsCapacity-only c.args.sizes.now l.fitting (record {
      bounded = omega arith;
      fits = l.invariant.fits;
      greatest = λ m h fits. omega (arith, l.invariant.none_above m h fits);
    })
