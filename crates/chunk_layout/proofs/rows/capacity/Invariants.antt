use Rattle.std.proofs.Common.{ℕ, ◌-◌, ◌≤◌}
use Rattle.chunk_layout.specs.Capacity.{Fits}
use Rattle.chunk_layout.proofs.rows.capacity.Given as goal

abbrev pub invariant-loop-fitting : goal.invariant-loop-fitting
invariant-loop-fitting l =
    record {
      ordered : l.fitting ≤ l.limit;
      bounded : l.limit ≤ 128;
      fits : Fits l.sizes l.fitting;
      none_above : (m : ℕ) → m ≤ 128 → Fits l.sizes m → m ≤ l.limit;
    }

abbrev pub decreases-loop-fitting : goal.decreases-loop-fitting
decreases-loop-fitting l = l.limit - l.fitting
