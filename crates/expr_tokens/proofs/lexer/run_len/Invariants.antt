use Rattle.std.proofs.Common.{ℕ, ◌≡◌, ◌<◌, ◌≤◌, ◌-◌, length, get_or, true}
use Rattle.expr_tokens.specs.Seen.{belongs}
use Rattle.expr_tokens.proofs.lexer.run_len.Given as goal

abbrev pub invariant-loop-n : goal.invariant-loop-n
invariant-loop-n l = record { within : l.n ≤ length l.bytes; same : (k : ℕ) → k < l.n → belongs l.kind (get_or l.bytes k 0) ≡ true }

abbrev pub decreases-loop-n : goal.decreases-loop-n
decreases-loop-n l = length l.bytes - l.n
