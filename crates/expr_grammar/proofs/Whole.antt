-- A whole text: the machine takes exactly the tokens of the trees that fit, and builds what they mean.
use Rattle.std.proofs.Common.{ℕ, ◌≡◌, List, [], ◌∷◌, Bool, Some, refl, sym, ap, ◌∙◌}
use Rattle.expr_tokens.specs.Tokens.{Token}
use Rattle.expr_grammar.specs.declared.symbol.Symbol.TheVariants as wait
use Rattle.expr_grammar.specs.declared.symbol.Built.{Built}
use Rattle.expr_grammar.specs.declared.symbol.Built.TheVariants as built
use Rattle.expr_grammar.specs.Fitting.{FitsExpr, FitsRef}
use Rattle.expr_grammar.specs.Grammar.{Syntax, expr, Ref, spell, spell_ref}
use Rattle.expr_grammar.specs.Meaning.{meaning, meaning_ref}
use Rattle.expr_grammar.specs.Scopes.{Scope, IsLawful}
use Rattle.expr_grammar.specs.Machine.{run, settle, finish}
use Rattle.expr_grammar.proofs.Complete.{complete, complete_ref}
use Rattle.expr_grammar.proofs.ReadRefs.{read_ref}
use Rattle.expr_grammar.proofs.ReadExprs.{read_level}

module _ (s : Scope) (lawful : IsLawful s) (limit : ℕ) where
  pub nothing_left : (bs : List Built) (ts : List Token) (ws : List Built) → run s limit [] bs ts ≡ Some ws → ts ≡ []
  unfolding run settle finish
  nothing_left bs [] ws h = refl
  nothing_left bs (t ∷ ts) ws h = absurd cc

  pub run_nothing : (bs : List Built) → run s limit [] bs [] ≡ Some bs
  unfolding run finish
  run_nothing bs = refl

  pub expr_built : (e : Syntax expr) → FitsExpr s limit 0 e → run s limit (wait.Level 5 0 ∷ []) [] (spell e []) ≡ Some (built.Int (meaning e) ∷ [])
  expr_built e fits = complete s lawful limit e 5 0 [] [] [] fits refl ∙ run_nothing (built.Int (meaning e) ∷ [])

  pub expr_read : (ts : List Token) (ws : List Built) → run s limit (wait.Level 5 0 ∷ []) [] ts ≡ Some ws
      → (e : Syntax expr) × FitsExpr s limit 0 e × (spell e [] ≡ ts) × (ws ≡ built.Int (meaning e) ∷ [])
  expr_read ts ws h =
      let r = read_level s limit 5 0 [] [] ts ws h in
      let ended = nothing_left r.built r.rest ws r.goes_on in
      let tokens : spell r.tree [] ≡ ts = sym (r.tokens ∙ ap (λ x. spell r.tree x) ended) in
      let both : Some ws ≡ Some (built.Int (meaning r.tree) ∷ []) = sym h ∙ ap (λ x. run s limit (wait.Level 5 0 ∷ []) [] x) (sym tokens) ∙ expr_built r.tree r.fits in
      (r.tree, r.fits, tokens, cc)

  pub ref_built : (r : Ref) (made : Bool) → FitsRef s made r → run s limit (wait.Ref made ∷ []) [] (spell_ref r []) ≡ Some (built.Ref (meaning_ref r) ∷ [])
  ref_built r made fits = complete_ref s lawful limit r made [] [] [] fits refl ∙ run_nothing (built.Ref (meaning_ref r) ∷ [])

  pub ref_read : (made : Bool) (ts : List Token) (ws : List Built) → run s limit (wait.Ref made ∷ []) [] ts ≡ Some ws
      → (r : Ref) × FitsRef s made r × (spell_ref r [] ≡ ts) × (ws ≡ built.Ref (meaning_ref r) ∷ [])
  ref_read made ts ws h =
      let r = read_ref s limit made [] [] ts ws h in
      let ended = nothing_left r.built r.rest ws r.goes_on in
      let tokens : spell_ref r.tree [] ≡ ts = sym (r.tokens ∙ ap (λ x. spell_ref r.tree x) ended) in
      let both : Some ws ≡ Some (built.Ref (meaning_ref r.tree) ∷ []) = sym h ∙ ap (λ x. run s limit (wait.Ref made ∷ []) [] x) (sym tokens) ∙ ref_built r.tree made r.fits in
      (r.tree, r.fits, tokens, cc)
