-- Each text is answered by the grammar.
use Rattle.std.proofs.Common.{ℕ, ◌≡◌, List, [], ◌∷◌, false, Result, Ok, Err, sym, ap, ◌∙◌}
use Rattle.std.specs.Prelude.{IfErr}
use Rattle.expr_grammar.specs.declared.fault.ExprFault.{ExprFault}
use Rattle.expr_grammar.specs.declared.fault.ExprCause.TheVariants.{Memory}
use Rattle.expr_grammar.specs.declared.symbol.Symbol.{Symbol}
use Rattle.expr_grammar.specs.declared.symbol.Symbol.TheVariants as wait
use Rattle.expr_grammar.specs.declared.symbol.Built.{Built}
use Rattle.expr_grammar.specs.declared.symbol.Built.TheVariants as built
use Rattle.expr_grammar.specs.declared.words.FieldUse.TheVariants.{Assigned}
use Rattle.expr_grammar.specs.declared.words.TypeUse.TheVariants.{Switched}
use Rattle.expr_grammar.specs.Answers.{answer, made_by, the_expr, the_ref, the_assign, the_switch, expr_answer, ref_answer, assign_answer, switch_answer}
use Rattle.expr_grammar.specs.Faults.{Texts}
use Rattle.expr_grammar.specs.Languages.{exprs, refs, assigns, switches}
use Rattle.expr_grammar.specs.Stops.{built_assign, built_switch}
use Rattle.expr_grammar.specs.Readings.{IsMeant, IsFault, ReadsText, Reads, Refuses}
use Rattle.expr_grammar.specs.Scopes.{Scope, IsLawful}
use Rattle.expr_grammar.proofs.Answered.{expr_refused, expr_there, expr_meant, ref_refused, ref_there, ref_meant, assign_refused, assign_there, assign_meant, switch_refused, switch_there, switch_meant}
use Rattle.expr_grammar.proofs.Outcomes.{Decides, decides}
use Rattle.expr_grammar.proofs.TreeAnswers.{assign_back}

module _ {Tree Meaning : Type 0} (texts : Texts Tree Meaning) (tree : List Built → Meaning) (s : Scope) (waits : List Symbol) (text : List ℕ)
    (meant : (ws : List Built) → Reads s waits text ws → IsMeant texts text (tree ws))
    (refused : (f : ExprFault) → Refuses s waits text f → IsFault texts text f.cause f.at) where
  -- the answer of the machine, as a tree, is that of the grammar
  pub reads_text : ReadsText texts text (made_by tree (answer s waits text))
  reads_text = by (answer s waits text) (decides s waits text) where
    by : (r : Result (List Built) ExprFault) → Decides s waits text r → ReadsText texts text (made_by tree r)
    by (Ok ws) k = meant ws k
    by (Err f) k = refused f k.0

-- no result is that memory ran out
pub no_want : {A : Type 0} (tree : List Built → A) (s : Scope) (waits : List Symbol) (text : List ℕ) → IfErr (made_by tree (answer s waits text)) (λ f. f.cause ≡ Memory → ⊥)
no_want {A = A} tree s waits text = by (answer s waits text) (decides s waits text) where
  by : (r : Result (List Built) ExprFault) → Decides s waits text r → IfErr (made_by tree r) (λ f. f.cause ≡ Memory → ⊥)
  by (Ok ws) k = tt
  by (Err f) k = k.1

module _ (s : Scope) (lawful : IsLawful s) (text : List ℕ) where
  pub expr_by_grammar : ReadsText (exprs s) text (expr_answer s text)
  unfolding expr_answer
  expr_by_grammar =
      reads_text (exprs s) (λ bs. the_expr bs) s (wait.Level 5 0 ∷ []) text
      (λ ws k. let r = expr_there s lawful text ws k in expr_meant s lawful text ws (the_expr ws) k (r.1 ∙ ap (λ e. built.Int e ∷ []) (sym (ap (λ bs. the_expr bs) r.1))))
      (λ f k. expr_refused s lawful text f k)

  pub expr_no_want : IfErr (expr_answer s text) (λ f. f.cause ≡ Memory → ⊥)
  unfolding expr_answer
  expr_no_want = no_want (λ bs. the_expr bs) s (wait.Level 5 0 ∷ []) text

  pub ref_by_grammar : ReadsText (refs s) text (ref_answer s text)
  unfolding ref_answer
  ref_by_grammar =
      reads_text (refs s) (λ bs. the_ref bs) s (wait.Ref false ∷ []) text
      (λ ws k. let r = ref_there s lawful text ws k in ref_meant s lawful text ws (the_ref ws) k (r.1 ∙ ap (λ e. built.Ref e ∷ []) (sym (ap (λ bs. the_ref bs) r.1))))
      (λ f k. ref_refused s lawful text f k)

  pub ref_no_want : IfErr (ref_answer s text) (λ f. f.cause ≡ Memory → ⊥)
  unfolding ref_answer
  ref_no_want = no_want (λ bs. the_ref bs) s (wait.Ref false ∷ []) text

  pub assign_by_grammar : ReadsText (assigns s) text (assign_answer s text)
  unfolding assign_answer
  assign_by_grammar =
      reads_text (assigns s) (λ bs. the_assign bs) s (wait.TypeField Assigned ∷ []) text
      (λ ws k. let r = assign_there s lawful text ws k in assign_meant s lawful text ws (the_assign ws) k (r.1 ∙ ap (λ a. built_assign a) (sym (ap (λ bs. the_assign bs) r.1 ∙ assign_back r.0))))
      (λ f k. assign_refused s lawful text f k)

  pub assign_no_want : IfErr (assign_answer s text) (λ f. f.cause ≡ Memory → ⊥)
  unfolding assign_answer
  assign_no_want = no_want (λ bs. the_assign bs) s (wait.TypeField Assigned ∷ []) text

  pub switch_by_grammar : ReadsText (switches s) text (switch_answer s text)
  unfolding switch_answer
  switch_by_grammar =
      reads_text (switches s) (λ bs. the_switch bs) s (wait.Type Switched ∷ wait.Becomes ∷ wait.Level 5 0 ∷ []) text
      (λ ws k. let r = switch_there s lawful text ws k in switch_meant s lawful text ws (the_switch ws) k (r.1 ∙ ap (λ w. built_switch w) (sym (ap (λ bs. the_switch bs) r.1))))
      (λ f k. switch_refused s lawful text f k)

  pub switch_no_want : IfErr (switch_answer s text) (λ f. f.cause ≡ Memory → ⊥)
  unfolding switch_answer
  switch_no_want = no_want (λ bs. the_switch bs) s (wait.Type Switched ∷ wait.Becomes ∷ wait.Level 5 0 ∷ []) text
