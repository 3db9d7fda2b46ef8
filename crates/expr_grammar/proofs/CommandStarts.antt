-- The commands that the machine reads, and what a reader of them returns.
use Rattle.std.proofs.Common.{ℕ, ◌≡◌, List, [], ◌∷◌, ◌++◌, ◌↔◌, map, Some, refl, sym, ap, ◌∙◌, subst}
use Rattle.expr_tokens.specs.Tokens.{Token, Placed}
use Rattle.expr_grammar.specs.declared.fault.ExprFault.{ExprFault}
use Rattle.expr_grammar.specs.declared.fault.ExprCause.{ExprCause}
use Rattle.expr_grammar.specs.declared.symbol.Symbol.{Symbol}
use Rattle.expr_grammar.specs.declared.symbol.Symbol.TheVariants as wait
use Rattle.expr_grammar.specs.declared.symbol.Built.{Built}
use Rattle.expr_grammar.specs.declared.symbol.Built.TheVariants as built
use Rattle.expr_trees.specs.declared.tree.CommandText.{CommandText}
use Rattle.expr_grammar.specs.CommandScopes.{ServesCommands}
use Rattle.expr_grammar.specs.Meaning.{meaning_command}
use Rattle.expr_grammar.specs.Faults.{IsText, CanGoOn, IsOnly, IsFirstFault}
use Rattle.expr_grammar.specs.Languages.{commands}
use Rattle.expr_grammar.specs.Scopes.{Scope, IsLawful}
use Rattle.expr_grammar.specs.Machine.{State, run, steps}
use Rattle.expr_grammar.specs.Stops.{Stops}
use Rattle.expr_grammar.specs.Readings.{IsMeant, IsFault, Reads, Refuses}
use Rattle.expr_grammar.proofs.Answered.{refused}
use Rattle.expr_grammar.proofs.CommandBuilt.{command_built}
use Rattle.expr_grammar.proofs.CommandRead.{command_read}
use Rattle.expr_grammar.proofs.CommandUnique.{command_unique}
use Rattle.expr_grammar.proofs.Completions.{Good}
use Rattle.expr_grammar.proofs.FirstFaults.{first_fault}
use Rattle.expr_grammar.proofs.Prefixes.{run_append, stood, completed}

same_built : (a b : List Built) → Some a ≡ Some b → a ≡ b
same_built a b e = cc

same_command : (a b : CommandText) → built.Command a ∷ [] ≡ built.Command b ∷ [] → a ≡ b
same_command a b e = cc

module _ (s : Scope) (lawful : IsLawful s) (serves : ServesCommands s) where
  abbrev start : List Symbol
  start = wait.Verb ∷ []

  command_runs : (limit : ℕ) (ts : List Token) → IsText (commands s) limit ts → (ws : List Built) × (run s limit start [] ts ≡ Some ws)
  command_runs limit ts text =
      (built.Command (meaning_command text.0) ∷ [], ap (λ k. run s limit start [] k) (sym text.2) ∙ command_built s lawful serves limit text.0 text.1)

  command_good : (limit : ℕ) → Good s lawful limit start
  command_good limit = (serves, refl, tt)

  -- some tokens of a command go on exactly where the machine takes them
  pub commands_go_on : (limit : ℕ) (front : List Token) → CanGoOn (commands s) limit front ↔ ((st : State) × (steps s limit (record { waits = start; built = [] }) front ≡ Some st))
  commands_go_on limit front = (
    λ c. let r = command_runs limit (front ++ c.0) c.1 in
        stood s limit (steps s limit (record { waits = start; built = [] }) front) (λ st. run s limit st.waits st.built c.0) r.0
        (sym (run_append s limit front c.0 (record { waits = start; built = [] })) ∙ r.1),
    λ p. let d = completed s lawful limit front start p.0 (command_good limit) p.1 in
        let e = command_read s lawful serves limit (front ++ d.0) d.1 d.2 in
        (d.0, (e.command, e.fits, e.tokens)),
  )

  pub command_fault : (limit : ℕ) (tokens : List Placed) (end : ℕ) (cause : ExprCause) (at : ℕ) → Stops s limit start tokens end cause at → IsFirstFault (commands s) limit tokens end cause at
  command_fault limit = first_fault (commands s) s lawful limit start (λ t ts st h. command_good limit) (λ l t ts. commands_go_on l (t ∷ ts)) (command_runs limit)

  -- the one command that was read
  pub command_only : (limit : ℕ) (ts : List Token) (ws : List Built) → run s limit start [] ts ≡ Some ws → (c : CommandText) × (ws ≡ built.Command c ∷ []) × IsOnly (commands s) limit ts c
  command_only limit ts ws h =
      let r = command_read s lawful serves limit ts ws h in
      let made = command_built s lawful serves limit r.command r.fits in (
        meaning_command r.command,
        same_built ws _ (sym h ∙ ap (λ k. run s limit start [] k) (sym r.tokens) ∙ made),
        record {
          tree = r.command;
          fits = r.fits;
          spelled = r.tokens;
          means = refl;
          only = λ other fits same. command_unique s lawful limit other r.command fits r.fits (same ∙ sym r.tokens);
        },
      )

  module _ (text : List ℕ) where
    pub command_refused : (f : ExprFault) → Refuses s start text f → IsFault (commands s) text f.cause f.at
    command_refused f k = refused (commands s) s start text f (command_fault 64) k

    pub command_there : (ws : List Built) → Reads s start text ws → (c : CommandText) × (ws ≡ built.Command c ∷ [])
    command_there ws k = let r = command_only 64 (map (λ p. p.token) k.tokens) ws k.runs in (r.0, r.1)

    pub command_meant : (ws : List Built) (c : CommandText) → Reads s start text ws → ws ≡ built.Command c ∷ [] → IsMeant (commands s) text c
    command_meant ws c k is =
        let r = command_only 64 (map (λ p. p.token) k.tokens) ws k.runs in
        record {
          within = k.within;
          tokens = k.tokens;
          tokens_are = k.tokens_are;
          only = subst (λ x. IsOnly (commands s) 64 (map (λ p. p.token) k.tokens) x) (same_command r.0 c (sym r.1 ∙ is)) r.2;
        }
