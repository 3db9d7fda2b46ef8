-- The reader of commands returns the result of the definitions, which follows from the grammar.
use Rattle.std.proofs.Common.{ℕ, ◌≡◌, List, [], ◌∷◌, Ok, Err, sym, ap, ◌∙◌}
use Rattle.std.specs.Prelude.{IfErr}
use Rattle.expr_grammar.specs.declared.fault.ExprFault.{ExprFault}
use Rattle.expr_grammar.specs.declared.fault.ExprCause.TheVariants.{Memory}
use Rattle.expr_grammar.specs.declared.symbol.Symbol.TheVariants as wait
use Rattle.expr_grammar.specs.declared.symbol.Built.{Built}
use Rattle.expr_grammar.specs.declared.symbol.Built.TheVariants as built
use Rattle.expr_trees.specs.declared.tree.CommandText.{CommandText}
use Rattle.expr_grammar.specs.Answers.{the_command, command_answer, ButMemory}
use Rattle.expr_grammar.specs.CommandScopes.{ServesCommands}
use Rattle.expr_grammar.specs.Languages.{commands}
use Rattle.expr_grammar.specs.Readings.{ReadsText, Reads, Refuses}
use Rattle.expr_grammar.specs.Scopes.{Scope, IsLawful}
use Rattle.expr_grammar.proofs.Answering.{tree_told, fault_told}
use Rattle.expr_grammar.proofs.ByGrammar.{reads_text, no_want}
use Rattle.expr_grammar.proofs.CommandStarts.{command_refused, command_there, command_meant}

module _ (s : Scope) (text : List ℕ) where
  pub command_told : (ws : List Built) (c : CommandText) → Reads s (wait.Verb ∷ []) text ws → ws ≡ built.Command c ∷ [] → command_answer s text ≡ Ok c
  unfolding command_answer
  command_told ws c k is = tree_told the_command s (wait.Verb ∷ []) text ws c k (ap (λ bs. the_command bs) is)

  pub command_fault_told : (f : ExprFault) → Refuses s (wait.Verb ∷ []) text f → ButMemory f.cause (command_answer s text ≡ Err f)
  unfolding command_answer
  command_fault_told f k = fault_told the_command s (wait.Verb ∷ []) text f k

  pub command_no_want : IfErr (command_answer s text) (λ f. f.cause ≡ Memory → ⊥)
  unfolding command_answer
  command_no_want = no_want (λ bs. the_command bs) s (wait.Verb ∷ []) text

  pub command_by_grammar : IsLawful s → ServesCommands s → ReadsText (commands s) text (command_answer s text)
  unfolding command_answer
  command_by_grammar lawful serves =
      reads_text (commands s) (λ bs. the_command bs) s (wait.Verb ∷ []) text
      (λ ws k. let r = command_there s lawful serves text ws k in command_meant s lawful serves text ws (the_command ws) k (r.1 ∙ ap (λ c. built.Command c ∷ []) (sym (ap (λ bs. the_command bs) r.1))))
      (λ f k. command_refused s lawful serves text f k)
