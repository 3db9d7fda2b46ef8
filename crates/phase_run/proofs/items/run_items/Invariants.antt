use Rattle.std.proofs.Common.{◌≡◌, ◌+◌, ◌≤◌, length}
use Rattle.phase_run.proofs.Turns.{AreRunning}
use Rattle.phase_run.proofs.items.run_items.Given as goal

-- the loans that wait are the first ones, those after them have run, and there is room for those that wait
abbrev pub invariant-loop : goal.invariant-loop
invariant-loop l =
    AreRunning l.frozen l.system l.frame l.visits l.fn.lent.loans l.waiting.loans l.done.loans
    × (length l.waiting.loans + l.counter ≡ length l.visits)
    × (length l.waiting.loans ≤ l.done.spare)
