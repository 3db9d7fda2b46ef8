-- What a test claims of a reader's answer follows from what the reader ensures.
use Rattle.std.proofs.Common.{ℕ, ◌≡◌, List, sym, subst}
use Rattle.std.specs.Prelude.{Result, Ok, Err, MatchResult}
use Rattle.expr_grammar.specs.declared.fault.ExprFault.{ExprFault}
use Rattle.expr_grammar.specs.Faults.{Texts}
use Rattle.expr_grammar.specs.Readings.{ReadsText}
use Rattle.text_cases.specs.declared.answer.Answer.{Answer}
use Rattle.text_cases.specs.declared.answer.Answer.TheVariants.{Tree as IsTree, Fault}
use Rattle.text_cases.specs.Claims.{ClaimsOf}

module _ {Tree Meaning : Type 0} (texts : Texts Tree Meaning) where
  pub claimed : (text : List ℕ) (read : Result Meaning ExprFault) (answer : Answer) → ReadsText texts text read
      → MatchResult read (λ _. answer ≡ IsTree) (λ f. answer ≡ Fault f) → ClaimsOf texts text answer
  claimed text (Ok meaning) answer reads is = subst (λ (a : Answer). ClaimsOf texts text a) (sym is) (meaning, reads)
  claimed text (Err f) answer reads is = subst (λ (a : Answer). ClaimsOf texts text a) (sym is) reads
