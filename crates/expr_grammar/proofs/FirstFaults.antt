-- Where the machine stops there is the first fault of the text.
use Rattle.std.proofs.Common.{ℕ, ◌≡◌, ◌<◌, ◌+◌, ◌^◌, ◌↔◌, ◌⊎◌, inl, inr, ⊎_elim, List, [], ◌∷◌, ◌++◌, map, Bool, true, false, ◌||◌, cond, Option, Some, None, refl, sym, ap, ◌∙◌, subst, arith}
use Rattle.std.proofs.lemmas.Bool.{leb-true, leb-false}
use Rattle.std.proofs.lemmas.List.{append-nil}
use Rattle.std.specs.Prelude.{is_some, nat_le}
use Rattle.expr_tokens.specs.Tokens.{Token, word, number as numeral, sign, bad, Placed}
use Rattle.expr_grammar.specs.declared.fault.ExprCause.{ExprCause}
use Rattle.expr_grammar.specs.declared.fault.ExprCause.TheVariants.{NumberRange, UnknownName, Unexpected}
use Rattle.expr_grammar.specs.declared.symbol.Symbol.{Symbol}
use Rattle.expr_grammar.specs.declared.symbol.Built.{Built}
use Rattle.expr_grammar.specs.Faults.{Texts, IsText, CanGoOn, HasCause, IsOutOfRange, IsStuck, IsFirstFault}
use Rattle.expr_grammar.specs.Scopes.{Scope, IsLawful}
use Rattle.expr_grammar.specs.Machine.{State, run, settle, finish, steps, go_on, and_then}
use Rattle.expr_grammar.specs.Stops.{cause_at, deep_or, Halts, Stops}
use Rattle.expr_grammar.proofs.Completions.{Good}
use Rattle.expr_grammar.proofs.Prefixes.{run_append}
use Rattle.expr_grammar.proofs.Raised.{raised}

module _ (s : Scope) (limit : ℕ) where
  -- steps over a front and a rest are those over the front, and then over the rest
  pub steps_append : (front rest : List Token) (state : State) → steps s limit state (front ++ rest) ≡ and_then (steps s limit state front) (λ st. steps s limit st rest)
  unfolding steps
  steps_append [] rest state = refl
  steps_append (t ∷ ts) rest state = by (settle s limit state.waits state.built t) (λ next. steps_append ts rest next) where
    by : (r : Option State) → ((next : State) → steps s limit next (ts ++ rest) ≡ and_then (steps s limit next ts) (λ st. steps s limit st rest))
        → and_then r (λ next. steps s limit next (ts ++ rest)) ≡ and_then (and_then r (λ next. steps s limit next ts)) (λ st. steps s limit st rest)
    by None later = refl
    by (Some next) later = later next

  one_step : (t : Token) (state : State) → steps s limit state (t ∷ []) ≡ settle s limit state.waits state.built t
  unfolding steps
  one_step t state = by (settle s limit state.waits state.built t) where
    by : (r : Option State) → and_then r (λ next. Some next) ≡ r
    by None = refl
    by (Some next) = refl

  -- the step after some steps
  pub one_more : (front : List Token) (t : Token) (state st : State) → steps s limit state front ≡ Some st → steps s limit state (front ++ t ∷ []) ≡ settle s limit st.waits st.built t
  one_more front t state st h =
      steps_append front (t ∷ []) state ∙ ap (λ o. and_then o (λ k. steps s limit k (t ∷ []))) h ∙ one_step t st

  run_none : (st : State) → run s limit st.waits st.built [] ≡ finish st.waits st.built
  unfolding run
  run_none st = refl

  -- a run over what was taken ends as the state does
  pub run_taken : (front : List Token) (state st : State) → steps s limit state front ≡ Some st → run s limit state.waits state.built front ≡ finish st.waits st.built
  run_taken front state st h =
      ap (λ ts. run s limit state.waits state.built ts) (sym (append-nil front)) ∙ run_append s limit front [] state
      ∙ ap (λ o. go_on o (λ k. run s limit k.waits k.built [])) h ∙ run_none st

module _ {Tree Meaning : Type 0} (texts : Texts Tree Meaning) (s : Scope) (lawful : IsLawful s) (limit : ℕ) (start : List Symbol)
    (good : (t : Token) (ts : List Token) (st : State) → steps s limit (record { waits = start; built = [] }) (t ∷ ts) ≡ Some st → Good s lawful limit start)
    (on : (l : ℕ) (t : Token) (ts : List Token) → CanGoOn texts l (t ∷ ts) ↔ ((st : State) × (steps s l (record { waits = start; built = [] }) (t ∷ ts) ≡ Some st)))
    (reads : (ts : List Token) → IsText texts limit ts → (ws : List Built) × (run s limit start [] ts ≡ Some ws)) where
  abbrev Stands : ℕ → List Token → State → Type 0
  Stands l front st = steps s l (record { waits = start; built = [] }) front ≡ Some st

  on_more : (l : ℕ) (front : List Token) (t : Token)
      → CanGoOn texts l (front ++ t ∷ []) ↔ ((st : State) × (steps s l (record { waits = start; built = [] }) (front ++ t ∷ []) ≡ Some st))
  on_more l [] t = on l t []
  on_more l (x ∷ xs) t = on l x (xs ++ t ∷ [])

  goes : (l : ℕ) (front : List Token) (t : Token) (st next : State) → Stands l front st → settle s l st.waits st.built t ≡ Some next → CanGoOn texts l (front ++ t ∷ [])
  goes l front t st next h k = (on_more l front t).1 (next, one_more s l front t (record { waits = start; built = [] }) st h ∙ k)

  stays : (l : ℕ) (front : List Token) (t : Token) (st : State) → Stands l front st → settle s l st.waits st.built t ≡ None → CanGoOn texts l (front ++ t ∷ []) → ⊥
  stays l front t st h k can =
      let p = (on_more l front t).0 can in
      let taken : steps s l (record { waits = start; built = [] }) (front ++ t ∷ []) ≡ Some p.0 = p.1 in
      let none = one_more s l front t (record { waits = start; built = [] }) st h ∙ k in
      cc

  -- under a greater limit the machine has the same state
  deeper_by : (front : List Token) (st : State) → Stands limit front st → Stands (limit + 1) front st
  unfolding steps
  deeper_by [] st h = h
  deeper_by (t ∷ ts) st h =
      raised s lawful limit (limit + 1) (omega arith) (t ∷ ts) (record { waits = start; built = [] }) st (good t ts st h) h

  -- what was taken can go on, unless it is nothing
  taken_on : (front : List Placed) (st : State) → Stands limit (map (λ p. p.token) front) st → (front ≡ []) ⊎ CanGoOn texts limit (map (λ p. p.token) front)
  taken_on [] st h = inl refl
  taken_on (p ∷ ps) st h = inr ((on limit p.token (map (λ p. p.token) ps)).1 (st, h))

  module _ (front : List Token) (st : State) (h : Stands limit front st) where
    deeper : Stands (limit + 1) front st
    deeper = deeper_by front st h

    abbrev Deep : Token → Option State
    Deep t = settle s (limit + 1) st.waits st.built t

    word_cause : (name : List ℕ) (o : Option State) → Deep (word name) ≡ o → HasCause texts limit front (word name) (deep_or (is_some o) UnknownName)
    word_cause name None e = (stays (limit + 1) front (word name) st deeper e, tt)
    word_cause name (Some next) e = (λ x. x, goes (limit + 1) front (word name) st next deeper e)

    sign_cause : (g : _) (o : Option State) → Deep (sign g) ≡ o → HasCause texts limit front (sign g) (deep_or (is_some o) Unexpected)
    sign_cause g None e = (λ x. x, stays (limit + 1) front (sign g) st deeper e, tt)
    sign_cause g (Some next) e = (λ x. x, goes (limit + 1) front (sign g) st next deeper e)

    number_deep : (n : ℕ) (o : Option State) → (IsOutOfRange texts limit front (numeral n) → ⊥) → Deep (numeral n) ≡ o → HasCause texts limit front (numeral n) (deep_or (is_some o) Unexpected)
    number_deep n None never e = (never, stays (limit + 1) front (numeral n) st deeper e, tt)
    number_deep n (Some next) never e = (never, goes (limit + 1) front (numeral n) st next deeper e)

    number_cause : (n : ℕ) (b : Bool) (z : Option State) → nat_le (2 ^ 63) n ≡ b → settle s limit st.waits st.built (numeral 0) ≡ z
        → HasCause texts limit front (numeral n) (cond (b || is_some z) NumberRange (deep_or (is_some (Deep (numeral n))) Unexpected))
    number_cause n true z large e = inl (leb-true (2 ^ 63) n large)
    number_cause n false (Some next) small e = inr (goes limit front (numeral 0) st next h e)
    number_cause n false None small e =
        number_deep n (Deep (numeral n)) (λ x. ⊎_elim (λ large. let less : n < 2 ^ 63 = leb-false (2 ^ 63) n small in omega arith) (λ can. stays limit front (numeral 0) st h e can) x) refl

    caused : (t : Token) → HasCause texts limit front t (cause_at s limit st.waits st.built t)
    caused bad = refl
    caused (word name) = word_cause name (Deep (word name)) refl
    caused (sign g) = sign_cause g (Deep (sign g)) refl
    caused (numeral n) = number_cause n (nat_le (2 ^ 63) n) (settle s limit st.waits st.built (numeral 0)) refl refl

    no_text : finish st.waits st.built ≡ None → IsText texts limit front → ⊥
    no_text none text =
        let w = reads front text in
        let built : run s limit start [] front ≡ Some w.0 = w.1 in
        let ends = run_taken s limit front (record { waits = start; built = [] }) st h ∙ none in
        cc

    halted : (rest : List Placed) (end : ℕ) (cause : ExprCause) (at : ℕ) → Halts s limit st rest end cause at → IsStuck texts limit front rest end cause at
    halted [] end cause at k = (no_text k.0, k.1, k.2)
    halted (p ∷ rest) end cause at k =
        (stays limit front p.token st h k.0, subst (λ c. HasCause texts limit front p.token c) (sym k.1) (caused p.token), k.2)

  pub first_fault : (tokens : List Placed) (end : ℕ) (cause : ExprCause) (at : ℕ) → Stops s limit start tokens end cause at → IsFirstFault texts limit tokens end cause at
  first_fault tokens end cause at k = record {
    front = k.front;
    rest = k.rest;
    split = k.split;
    goes_on = taken_on k.front k.state k.taken;
    stuck = halted (map (λ p. p.token) k.front) k.state k.taken k.rest end cause at k.halts;
  }
