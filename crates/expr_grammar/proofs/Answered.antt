-- What a reader returns, from what the machine does.
use Rattle.std.proofs.Common.{ℕ, ◌≡◌, List, [], ◌∷◌, map, length, false, sym, ap, ◌∙◌, subst}
use Rattle.expr_tokens.specs.Tokens.{Token, Placed}
use Rattle.expr_grammar.specs.declared.fault.ExprFault.{ExprFault}
use Rattle.expr_grammar.specs.declared.fault.ExprCause.{ExprCause}
use Rattle.expr_grammar.specs.declared.fault.ExprCause.TheVariants.{TooLong, BadChar, NumberRange, TooDeep, UnknownName, Unexpected, Memory}
use Rattle.expr_grammar.specs.declared.symbol.Symbol.{Symbol}
use Rattle.expr_grammar.specs.declared.symbol.Symbol.TheVariants as wait
use Rattle.expr_grammar.specs.declared.symbol.Built.{Built}
use Rattle.expr_grammar.specs.declared.symbol.Built.TheVariants as built
use Rattle.expr_trees.specs.declared.tree.ValueExpr.{ValueExpr}
use Rattle.expr_trees.specs.declared.tree.ValueExpr.TheVariants as values
use Rattle.expr_trees.specs.declared.tree.Assign.{Assign}
use Rattle.expr_trees.specs.declared.tree.Switch.{Switch}
use Rattle.expr_grammar.specs.declared.words.FieldUse.TheVariants.{Assigned}
use Rattle.expr_grammar.specs.declared.words.TypeUse.TheVariants.{Switched}
use Rattle.expr_grammar.specs.Faults.{Texts, IsOnly, IsStuck, IsFirstFault}
use Rattle.expr_grammar.specs.Languages.{exprs, refs, assigns, switches}
use Rattle.expr_grammar.specs.Readings.{IsMeant, IsFaulty, IsFault, Reads, Refuses, too_long, no_memory, stopped}
use Rattle.expr_grammar.specs.Stops.{Stops, built_of, built_assign, built_switch}
use Rattle.expr_grammar.specs.Scopes.{Scope, IsLawful}
use Rattle.expr_grammar.proofs.Starts.{expr_fault, ref_fault, assign_fault, switch_fault, expr_only, ref_only, assign_only, switch_only}

module _ {Tree Meaning : Type 0} (texts : Texts Tree Meaning) where
  -- TooLong and Memory are no faults at a token
  not_too_long : (front : List Token) (rest : List Placed) (end at : ℕ) → IsStuck texts 64 front rest end TooLong at → ⊥
  not_too_long front [] end at k = let e : TooLong ≡ Unexpected = k.1 in cc
  not_too_long front (p ∷ rest) end at k = k.1

  not_memory : (front : List Token) (rest : List Placed) (end at : ℕ) → IsStuck texts 64 front rest end Memory at → ⊥
  not_memory front [] end at k = let e : Memory ≡ Unexpected = k.1 in cc
  not_memory front (p ∷ rest) end at k = k.1

  pub faulty : (text : List ℕ) (cause : ExprCause) (at : ℕ) → IsFaulty texts text cause at → IsFault texts text cause at
  faulty text TooLong at k = absurd (not_too_long (map (λ p. p.token) k.first.front) k.first.rest (length text) at k.first.stuck)
  faulty text Memory at k = absurd (not_memory (map (λ p. p.token) k.first.front) k.first.rest (length text) at k.first.stuck)
  faulty text BadChar at k = k
  faulty text NumberRange at k = k
  faulty text TooDeep at k = k
  faulty text UnknownName at k = k
  faulty text Unexpected at k = k

  pub refused : (s : Scope) (waits : List Symbol) (text : List ℕ) (f : ExprFault)
      → ((tokens : List Placed) (end : ℕ) (cause : ExprCause) (at : ℕ) → Stops s 64 waits tokens end cause at → IsFirstFault texts 64 tokens end cause at)
      → Refuses s waits text f → IsFault texts text f.cause f.at
  refused s waits text f first (too_long long is at) = subst (λ c. IsFault texts text c f.at) (sym is) (long, at)
  refused s waits text f first (no_memory m) = subst (λ c. IsFault texts text c f.at) (sym m.0) m.1
  refused s waits text f first (stopped k) = faulty text f.cause f.at (record {
    within = k.within;
    tokens = k.tokens;
    tokens_are = k.tokens_are;
    first = first k.tokens (length text) f.cause f.at k.stops;
  })

value_same : (v w : ValueExpr) → built_of v ≡ built_of w → v ≡ w
value_same (values.Int a) (values.Int b) h = let same : a ≡ b = cc in ap (λ e. values.Int e) same
value_same (values.Int a) (values.Ref b) h = absurd cc
value_same (values.Ref a) (values.Int b) h = absurd cc
value_same (values.Ref a) (values.Ref b) h = let same : a ≡ b = cc in ap (λ r. values.Ref r) same

assign_same : (a b : Assign) → built_assign a ≡ built_assign b → a ≡ b
assign_same a b h =
    let tops : built_of a.value ≡ built_of b.value = cc in
    let ty : a.ty ≡ b.ty = cc in
    let place : a.field ≡ b.field = cc in
    let value = value_same a.value b.value tops in
    λ i. record { ty = ty i; field = place i; value = value i }

switch_same : (a b : Switch) → built_switch a ≡ built_switch b → a ≡ b
switch_same a b h =
    let ty : a.ty ≡ b.ty = cc in
    let value : a.value ≡ b.value = cc in
    λ i. record { ty = ty i; value = value i }

module _ (s : Scope) (lawful : IsLawful s) (text : List ℕ) where
  pub expr_refused : (f : ExprFault) → Refuses s (wait.Level 5 0 ∷ []) text f → IsFault (exprs s) text f.cause f.at
  expr_refused f k = refused (exprs s) s (wait.Level 5 0 ∷ []) text f (expr_fault s lawful 64) k

  pub ref_refused : (f : ExprFault) → Refuses s (wait.Ref false ∷ []) text f → IsFault (refs s) text f.cause f.at
  ref_refused f k = refused (refs s) s (wait.Ref false ∷ []) text f (ref_fault s lawful 64) k

  pub expr_there : (ws : List Built) → Reads s (wait.Level 5 0 ∷ []) text ws → (e : _) × (ws ≡ built.Int e ∷ [])
  expr_there ws k = let r = expr_only s lawful 64 (map (λ p. p.token) k.tokens) ws k.runs in (r.0, r.1)

  pub ref_there : (ws : List Built) → Reads s (wait.Ref false ∷ []) text ws → (e : _) × (ws ≡ built.Ref e ∷ [])
  ref_there ws k = let r = ref_only s lawful 64 (map (λ p. p.token) k.tokens) ws k.runs in (r.0, r.1)

  pub expr_meant : (ws : List Built) (e : _) → Reads s (wait.Level 5 0 ∷ []) text ws → ws ≡ built.Int e ∷ [] → IsMeant (exprs s) text e
  expr_meant ws e k is =
      let r = expr_only s lawful 64 (map (λ p. p.token) k.tokens) ws k.runs in
      let there : ws ≡ built.Int r.0 ∷ [] = r.1 in
      let same : r.0 ≡ e = cc in
      record {
        within = k.within;
        tokens = k.tokens;
        tokens_are = k.tokens_are;
        only = subst (λ x. IsOnly (exprs s) 64 (map (λ p. p.token) k.tokens) x) same r.2;
      }

  pub ref_meant : (ws : List Built) (e : _) → Reads s (wait.Ref false ∷ []) text ws → ws ≡ built.Ref e ∷ [] → IsMeant (refs s) text e
  ref_meant ws e k is =
      let r = ref_only s lawful 64 (map (λ p. p.token) k.tokens) ws k.runs in
      let there : ws ≡ built.Ref r.0 ∷ [] = r.1 in
      let same : r.0 ≡ e = cc in
      record {
        within = k.within;
        tokens = k.tokens;
        tokens_are = k.tokens_are;
        only = subst (λ x. IsOnly (refs s) 64 (map (λ p. p.token) k.tokens) x) same r.2;
      }

  pub assign_refused : (f : ExprFault) → Refuses s (wait.TypeField Assigned ∷ []) text f → IsFault (assigns s) text f.cause f.at
  assign_refused f k = refused (assigns s) s (wait.TypeField Assigned ∷ []) text f (assign_fault s lawful 64) k

  pub assign_there : (ws : List Built) → Reads s (wait.TypeField Assigned ∷ []) text ws → (e : _) × (ws ≡ built_assign e)
  assign_there ws k = let r = assign_only s lawful 64 (map (λ p. p.token) k.tokens) ws k.runs in (r.0, r.1)

  pub assign_meant : (ws : List Built) (e : _) → Reads s (wait.TypeField Assigned ∷ []) text ws → ws ≡ built_assign e → IsMeant (assigns s) text e
  assign_meant ws e k is =
      let r = assign_only s lawful 64 (map (λ p. p.token) k.tokens) ws k.runs in
      record {
        within = k.within;
        tokens = k.tokens;
        tokens_are = k.tokens_are;
        only = subst (λ x. IsOnly (assigns s) 64 (map (λ p. p.token) k.tokens) x) (assign_same r.0 e (sym r.1 ∙ is)) r.2;
      }

  pub switch_refused : (f : ExprFault) → Refuses s (wait.Type Switched ∷ wait.Becomes ∷ wait.Level 5 0 ∷ []) text f → IsFault (switches s) text f.cause f.at
  switch_refused f k = refused (switches s) s (wait.Type Switched ∷ wait.Becomes ∷ wait.Level 5 0 ∷ []) text f (switch_fault s lawful 64) k

  pub switch_there : (ws : List Built) → Reads s (wait.Type Switched ∷ wait.Becomes ∷ wait.Level 5 0 ∷ []) text ws → (e : _) × (ws ≡ built_switch e)
  switch_there ws k = let r = switch_only s lawful 64 (map (λ p. p.token) k.tokens) ws k.runs in (r.0, r.1)

  pub switch_meant : (ws : List Built) (e : _) → Reads s (wait.Type Switched ∷ wait.Becomes ∷ wait.Level 5 0 ∷ []) text ws → ws ≡ built_switch e → IsMeant (switches s) text e
  switch_meant ws e k is =
      let r = switch_only s lawful 64 (map (λ p. p.token) k.tokens) ws k.runs in
      record {
        within = k.within;
        tokens = k.tokens;
        tokens_are = k.tokens_are;
        only = subst (λ x. IsOnly (switches s) 64 (map (λ p. p.token) k.tokens) x) (switch_same r.0 e (sym r.1 ∙ is)) r.2;
      }
