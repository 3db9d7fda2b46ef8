-- The texts that the machine reads from a symbol.
use Rattle.std.proofs.Common.{ℕ, ◌≡◌, List, [], ◌∷◌, ◌++◌, ◌↔◌, false, Some, refl, sym, ap, ◌∙◌}
use Rattle.expr_tokens.specs.Tokens.{Token, Placed}
use Rattle.expr_grammar.specs.declared.fault.ExprCause.{ExprCause}
use Rattle.expr_grammar.specs.declared.symbol.Symbol.TheVariants as wait
use Rattle.expr_grammar.specs.declared.symbol.Built.{Built}
use Rattle.expr_grammar.specs.declared.symbol.Built.TheVariants as built
use Rattle.expr_grammar.specs.Meaning.{meaning, meaning_ref, meaning_value, meaning_assign, meaning_switch}
use Rattle.expr_grammar.specs.Faults.{IsText, CanGoOn, IsOnly, IsFirstFault}
use Rattle.expr_grammar.specs.Languages.{exprs, refs, assigns, switches}
use Rattle.expr_grammar.specs.Scopes.{Scope, IsLawful}
use Rattle.expr_grammar.specs.Machine.{State, run, steps}
use Rattle.expr_grammar.specs.Stops.{Stops, built_of, built_assign, built_switch}
use Rattle.expr_grammar.specs.declared.symbol.Symbol.{Symbol}
use Rattle.expr_trees.specs.declared.tree.Assign.{Assign}
use Rattle.expr_trees.specs.declared.tree.Switch.{Switch}
use Rattle.expr_grammar.specs.declared.words.FieldUse.TheVariants.{Assigned}
use Rattle.expr_grammar.specs.declared.words.TypeUse.TheVariants.{Switched}
use Rattle.expr_grammar.specs.Grammar.{AssignText, Value, int, ref}
use Rattle.expr_grammar.proofs.Completions.{Good}
use Rattle.expr_grammar.proofs.Assigning.{built_value, assign_built, assign_read, assign_unique, assign_begins, switch_built, switch_read, switch_unique, switch_begins}
use Rattle.expr_grammar.proofs.FirstFaults.{first_fault}
use Rattle.expr_grammar.proofs.Prefixes.{exprs_go_on, refs_go_on, run_append, stood, completed}
use Rattle.expr_grammar.proofs.Unique.{unique, unique_ref}
use Rattle.expr_grammar.proofs.Whole.{expr_built, expr_read, ref_built, ref_read}

-- what was built of a value
value_kind : (a : AssignText) → built_value a.value ∷ built.Field a.ty a.place ∷ [] ≡ built_assign (meaning_assign a)
value_kind a = by a.value where
  by : (v : Value) → built_value v ∷ built.Field a.ty a.place ∷ [] ≡ built_of (meaning_value v) ∷ built.Field a.ty a.place ∷ []
  by (int e) = refl
  by (ref r) = refl

module _ (s : Scope) (lawful : IsLawful s) (limit : ℕ) where
  expr_runs : (ts : List Token) → IsText (exprs s) limit ts → (ws : List Built) × (run s limit (wait.Level 5 0 ∷ []) [] ts ≡ Some ws)
  expr_runs ts text = (built.Int (meaning text.0) ∷ [], ap (λ k. run s limit (wait.Level 5 0 ∷ []) [] k) (sym text.2) ∙ expr_built s lawful limit text.0 text.1)

  ref_runs : (ts : List Token) → IsText (refs s) limit ts → (ws : List Built) × (run s limit (wait.Ref false ∷ []) [] ts ≡ Some ws)
  ref_runs ts text = (built.Ref (meaning_ref text.0) ∷ [], ap (λ k. run s limit (wait.Ref false ∷ []) [] k) (sym text.2) ∙ ref_built s lawful limit text.0 false text.1)

  pub expr_fault : (tokens : List Placed) (end : ℕ) (cause : ExprCause) (at : ℕ) → Stops s limit (wait.Level 5 0 ∷ []) tokens end cause at → IsFirstFault (exprs s) limit tokens end cause at
  expr_fault = first_fault (exprs s) s lawful limit (wait.Level 5 0 ∷ []) (λ t ts st h. (tt, refl, tt)) (λ l t ts. exprs_go_on s lawful l (t ∷ ts)) expr_runs

  pub ref_fault : (tokens : List Placed) (end : ℕ) (cause : ExprCause) (at : ℕ) → Stops s limit (wait.Ref false ∷ []) tokens end cause at → IsFirstFault (refs s) limit tokens end cause at
  ref_fault = first_fault (refs s) s lawful limit (wait.Ref false ∷ []) (λ t ts st h. (tt, refl, tt)) (λ l t ts. refs_go_on s lawful l (t ∷ ts)) ref_runs

  -- the one tree that was read
  pub expr_only : (ts : List Token) (ws : List Built) → run s limit (wait.Level 5 0 ∷ []) [] ts ≡ Some ws → (e : _) × (ws ≡ built.Int e ∷ []) × IsOnly (exprs s) limit ts e
  expr_only ts ws h =
      let r = expr_read s lawful limit ts ws h in (
        meaning r.0,
        r.3,
        record {
          tree = r.0;
          fits = r.1;
          spelled = r.2;
          means = refl;
          only = λ other fits same. (unique s lawful limit other r.0 5 0 [] [] fits r.1 refl refl (same ∙ sym r.2)).0;
        },
      )

  pub ref_only : (ts : List Token) (ws : List Built) → run s limit (wait.Ref false ∷ []) [] ts ≡ Some ws → (e : _) × (ws ≡ built.Ref e ∷ []) × IsOnly (refs s) limit ts e
  ref_only ts ws h =
      let r = ref_read s lawful limit false ts ws h in (
        meaning_ref r.0,
        r.3,
        record {
          tree = r.0;
          fits = r.1;
          spelled = r.2;
          means = refl;
          only = λ other fits same. (unique_ref s other r.0 false [] [] fits r.1 refl refl (same ∙ sym r.2)).0;
        },
      )

  abbrev assign_start : List Symbol
  assign_start = wait.TypeField Assigned ∷ []

  abbrev switch_start : List Symbol
  switch_start = wait.Type Switched ∷ wait.Becomes ∷ wait.Level 5 0 ∷ []

  assign_runs : (ts : List Token) → IsText (assigns s) limit ts → (ws : List Built) × (run s limit assign_start [] ts ≡ Some ws)
  assign_runs ts text =
      (built_value text.0.value ∷ built.Field text.0.ty text.0.place ∷ [], ap (λ k. run s limit assign_start [] k) (sym text.2) ∙ assign_built s lawful limit text.0 text.1)

  switch_runs : (ts : List Token) → IsText (switches s) limit ts → (ws : List Built) × (run s limit switch_start [] ts ≡ Some ws)
  switch_runs ts text =
      (built.Int (meaning text.0.value) ∷ built.Type text.0.ty ∷ [], ap (λ k. run s limit switch_start [] k) (sym text.2) ∙ switch_built s lawful limit text.0 text.1)

  assign_good : (t : Token) (ts : List Token) (st : State) → steps s limit (record { waits = assign_start; built = [] }) (t ∷ ts) ≡ Some st → Good s lawful limit assign_start
  assign_good t ts st h = (assign_begins s limit t ts st h, refl, tt)

  switch_good : (t : Token) (ts : List Token) (st : State) → steps s limit (record { waits = switch_start; built = [] }) (t ∷ ts) ≡ Some st → Good s lawful limit switch_start
  switch_good t ts st h = (switch_begins s limit t ts st h, tt, (tt, tt, (tt, refl, tt)))

  -- some tokens of an assign or of a switch go on exactly where the machine takes them
  pub assigns_go_on : (t : Token) (ts : List Token) → CanGoOn (assigns s) limit (t ∷ ts) ↔ ((st : State) × (steps s limit (record { waits = assign_start; built = [] }) (t ∷ ts) ≡ Some st))
  assigns_go_on t ts = (
    λ c. let r = assign_runs (t ∷ (ts ++ c.0)) c.1 in
        stood s limit (steps s limit (record { waits = assign_start; built = [] }) (t ∷ ts)) (λ st. run s limit st.waits st.built c.0) r.0
        (sym (run_append s limit (t ∷ ts) c.0 (record { waits = assign_start; built = [] })) ∙ r.1),
    λ p. let d = completed s lawful limit (t ∷ ts) assign_start p.0 (assign_good t ts p.0 p.1) p.1 in
        let e = assign_read s lawful limit (t ∷ (ts ++ d.0)) d.1 d.2 in
        (d.0, (e.text, e.fits, e.tokens)),
  )

  pub switches_go_on : (t : Token) (ts : List Token) → CanGoOn (switches s) limit (t ∷ ts) ↔ ((st : State) × (steps s limit (record { waits = switch_start; built = [] }) (t ∷ ts) ≡ Some st))
  switches_go_on t ts = (
    λ c. let r = switch_runs (t ∷ (ts ++ c.0)) c.1 in
        stood s limit (steps s limit (record { waits = switch_start; built = [] }) (t ∷ ts)) (λ st. run s limit st.waits st.built c.0) r.0
        (sym (run_append s limit (t ∷ ts) c.0 (record { waits = switch_start; built = [] })) ∙ r.1),
    λ p. let d = completed s lawful limit (t ∷ ts) switch_start p.0 (switch_good t ts p.0 p.1) p.1 in
        let e = switch_read s lawful limit (t ∷ (ts ++ d.0)) d.1 d.2 in
        (d.0, (e.text, e.fits, e.tokens)),
  )

module _ (s : Scope) (lawful : IsLawful s) (limit : ℕ) where
  pub assign_fault : (tokens : List Placed) (end : ℕ) (cause : ExprCause) (at : ℕ) → Stops s limit (wait.TypeField Assigned ∷ []) tokens end cause at → IsFirstFault (assigns s) limit tokens end cause at
  assign_fault = first_fault (assigns s) s lawful limit (wait.TypeField Assigned ∷ []) (assign_good s lawful limit) (λ l t ts. assigns_go_on s lawful l t ts) (assign_runs s lawful limit)

  pub switch_fault : (tokens : List Placed) (end : ℕ) (cause : ExprCause) (at : ℕ)
      → Stops s limit (wait.Type Switched ∷ wait.Becomes ∷ wait.Level 5 0 ∷ []) tokens end cause at → IsFirstFault (switches s) limit tokens end cause at
  switch_fault = first_fault (switches s) s lawful limit (wait.Type Switched ∷ wait.Becomes ∷ wait.Level 5 0 ∷ []) (switch_good s lawful limit) (λ l t ts. switches_go_on s lawful l t ts) (switch_runs s lawful limit)

  pub assign_only : (ts : List Token) (ws : List Built) → run s limit (wait.TypeField Assigned ∷ []) [] ts ≡ Some ws
      → (a : Assign) × (ws ≡ built_assign a) × IsOnly (assigns s) limit ts a
  assign_only ts ws h =
      let r = assign_read s lawful limit ts ws h in (
        meaning_assign r.text,
        r.built ∙ value_kind r.text,
        record {
          tree = r.text;
          fits = r.fits;
          spelled = r.tokens;
          means = refl;
          only = λ other fits same. assign_unique s lawful limit other r.text fits r.fits (same ∙ sym r.tokens);
        },
      )

  pub switch_only : (ts : List Token) (ws : List Built) → run s limit (wait.Type Switched ∷ wait.Becomes ∷ wait.Level 5 0 ∷ []) [] ts ≡ Some ws
      → (w : Switch) × (ws ≡ built_switch w) × IsOnly (switches s) limit ts w
  switch_only ts ws h =
      let r = switch_read s lawful limit ts ws h in (
        meaning_switch r.text,
        r.built,
        record {
          tree = r.text;
          fits = r.fits;
          spelled = r.tokens;
          means = refl;
          only = λ other fits same. switch_unique s lawful limit other r.text fits r.fits (same ∙ sym r.tokens);
        },
      )
