use Rattle.std.proofs.Common.{◌-◌, ◌≤◌, List, ◌++◌, drop, length, map}
use Rattle.expr_tokens.specs.Tokens.{Placed, AreTokens}
use Rattle.expr_tokens.specs.Seen.{seen}
use Rattle.expr_tokens.proofs.lexer.tokens.Given as goal

abbrev pub invariant-loop-at : goal.invariant-loop-at
invariant-loop-at l = record {
  within : l.at ≤ length l.text;
  whole : (rest : List Placed) → AreTokens l.at (drop l.at l.text) rest → AreTokens 0 l.text (map seen l.out.items ++ rest);
}

abbrev pub decreases-loop-at : goal.decreases-loop-at
decreases-loop-at l = length l.text - l.at
