use Rattle.std.proofs.Common.{◌≡◌, ℕ, ◌<◌, ◌≤◌, ◌||◌, false, get_or}
use Rattle.system_order.proofs.cycle.mark_all.Given as goal

abbrev pub invariant-loop-at : goal.invariant-loop-at
invariant-loop-at l = record {
  done : (k : ℕ) → k < l.at → get_or l.marks k false ≡ (get_or l.initial.marks k false || get_or l.more k false);
  rest : (k : ℕ) → l.at ≤ k → get_or l.marks k false ≡ get_or l.initial.marks k false;
}
