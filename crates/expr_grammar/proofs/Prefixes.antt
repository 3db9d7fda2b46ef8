-- The front of a text: the machine takes it exactly where a text goes on so.
use Rattle.std.proofs.Common.{ℕ, ◌≡◌, List, [], ◌∷◌, ◌++◌, false, ◌↔◌, Option, Some, None, refl, sym, ap, ◌∙◌, subst}
use Rattle.expr_tokens.specs.Tokens.{Token}
use Rattle.expr_grammar.specs.declared.symbol.Symbol.{Symbol}
use Rattle.expr_grammar.specs.declared.symbol.Symbol.TheVariants as wait
use Rattle.expr_grammar.specs.declared.symbol.Built.{Built}
use Rattle.expr_grammar.specs.Faults.{CanGoOn}
use Rattle.expr_grammar.specs.Languages.{exprs, refs}
use Rattle.expr_grammar.specs.Scopes.{Scope, IsLawful}
use Rattle.expr_grammar.specs.Machine.{State, run, settle, steps, go_on, and_then}
use Rattle.expr_grammar.proofs.Completions.{Good, completes}
use Rattle.expr_grammar.proofs.Keeps.{keeps}
use Rattle.expr_grammar.proofs.Whole.{expr_built, expr_read, ref_built, ref_read}

abbrev waits_of : State → List Symbol
waits_of st = st.waits

module _ (s : Scope) (limit : ℕ) where
  -- a run over a front and a rest is the steps over the front, and a run over the rest
  pub run_append : (front rest : List Token) (state : State)
      → run s limit state.waits state.built (front ++ rest) ≡ go_on (steps s limit state front) (λ st. run s limit st.waits st.built rest)
  unfolding run steps
  run_append [] rest state = refl
  run_append (t ∷ ts) rest state = by (settle s limit state.waits state.built t) (λ next. run_append ts rest next) where
    by : (r : Option State) → ((next : State) → run s limit next.waits next.built (ts ++ rest) ≡ go_on (steps s limit next ts) (λ st. run s limit st.waits st.built rest))
        → go_on r (λ st. run s limit st.waits st.built (ts ++ rest)) ≡ go_on (and_then r (λ next. steps s limit next ts)) (λ st. run s limit st.waits st.built rest)
    by None later = refl
    by (Some next) later = later next

  pub stood : (o : Option State) (f : State → Option (List Built)) (ws : List Built) → go_on o f ≡ Some ws → (st : State) × (o ≡ Some st)
  stood None f ws h = absurd cc
  stood (Some st) f ws h = (st, refl)

module _ (s : Scope) (lawful : IsLawful s) (limit : ℕ) where
  keeps_all : (front : List Token) (state last : State) → Good s lawful limit state.waits → steps s limit state front ≡ Some last → Good s lawful limit last.waits
  unfolding steps
  keeps_all [] state last g h = let same_state : state ≡ last = cc in subst (λ st. Good s lawful limit (waits_of st)) same_state g
  keeps_all (t ∷ ts) state last g h = by (settle s limit state.waits state.built t) refl h (λ next. keeps_all ts next last) where
    by : (r : Option State) → settle s limit state.waits state.built t ≡ r → and_then r (λ next. steps s limit next ts) ≡ Some last
        → ((next : State) → Good s lawful limit next.waits → steps s limit next ts ≡ Some last → Good s lawful limit last.waits) → Good s lawful limit last.waits
    by None e k later = absurd cc
    by (Some next) e k later = later next (keeps s lawful limit state.waits state.built t next g e) k

  -- what the machine has taken can be completed
  pub completed : (front : List Token) (waits : List Symbol) (st : State) → Good s lawful limit waits → steps s limit (record { waits = waits; built = [] }) front ≡ Some st
      → (rest : List Token) × (ws : List Built) × (run s limit waits [] (front ++ rest) ≡ Some ws)
  completed front waits st g h =
      let c = completes s lawful limit st.waits (keeps_all front (record { waits = waits; built = [] }) st g h) in
      let w = c.builds st.built in
      (c.us, w.0, run_append s limit front c.us (record { waits = waits; built = [] }) ∙ ap (λ o. go_on o (λ k. run s limit k.waits k.built c.us)) h ∙ w.1)

  pub exprs_go_on : (front : List Token) → CanGoOn (exprs s) limit front ↔ ((st : State) × (steps s limit (record { waits = wait.Level 5 0 ∷ []; built = [] }) front ≡ Some st))
  exprs_go_on front = (
    λ c. stood s limit (steps s limit (record { waits = wait.Level 5 0 ∷ []; built = [] }) front) (λ st. run s limit st.waits st.built c.0) _
        (sym (run_append s limit front c.0 (record { waits = wait.Level 5 0 ∷ []; built = [] })) ∙ ap (λ ts. run s limit (wait.Level 5 0 ∷ []) [] ts) (sym c.1.2) ∙ expr_built s lawful limit c.1.0 c.1.1),
    λ p. let d = completed front (wait.Level 5 0 ∷ []) p.0 (tt, refl, tt) p.1 in
        let e = expr_read s lawful limit (front ++ d.0) d.1 d.2 in
        (d.0, (e.0, e.1, e.2)),
  )

  pub refs_go_on : (front : List Token) → CanGoOn (refs s) limit front ↔ ((st : State) × (steps s limit (record { waits = wait.Ref false ∷ []; built = [] }) front ≡ Some st))
  refs_go_on front = (
    λ c. stood s limit (steps s limit (record { waits = wait.Ref false ∷ []; built = [] }) front) (λ st. run s limit st.waits st.built c.0) _
        (sym (run_append s limit front c.0 (record { waits = wait.Ref false ∷ []; built = [] })) ∙ ap (λ ts. run s limit (wait.Ref false ∷ []) [] ts) (sym c.1.2) ∙ ref_built s lawful limit c.1.0 false c.1.1),
    λ p. let d = completed front (wait.Ref false ∷ []) p.0 (tt, refl, tt) p.1 in
        let e = ref_read s lawful limit false (front ++ d.0) d.1 d.2 in
        (d.0, (e.0, e.1, e.2)),
  )
