-- Each result is what the machine does: it reads the text, or it refuses it for a fault other than Memory.
use Rattle.std.proofs.Common.{ℕ, ◌≡◌, ◌≤◌, ◌<◌, ◌+◌, ◌^◌, List, [], ◌∷◌, ◌++◌, map, Bool, true, false, ◌||◌, cond, length, Option, None, Some, Result, Err, refl, sym, ap, ◌∙◌}
use Rattle.std.specs.Prelude.{nat_lt, nat_le, is_some, MatchResult}
use Rattle.std.proofs.lemmas.Bool.{ltb-true, ltb-false}
use Rattle.std.proofs.lemmas.Result.{MatchResult-weaker}
use Rattle.expr_tokens.specs.Tokens.{Token, word, number as numeral, sign, bad, Placed}
use Rattle.expr_tokens.specs.Lexing.{tokens_of}
use Rattle.expr_tokens.proofs.Lexed.{are_tokens}
use Rattle.expr_grammar.specs.declared.fault.ExprFault.{ExprFault}
use Rattle.expr_grammar.specs.declared.fault.ExprCause.{ExprCause}
use Rattle.expr_grammar.specs.declared.fault.ExprCause.TheVariants.{TooLong, BadChar, NumberRange, TooDeep, UnknownName, Unexpected, Memory}
use Rattle.expr_grammar.specs.declared.symbol.Symbol.{Symbol}
use Rattle.expr_grammar.specs.declared.symbol.Built.{Built}
use Rattle.expr_grammar.specs.Answers.{or_fault, goes_on, stopped, answer}
use Rattle.expr_grammar.specs.Machine.{State, run, settle, finish, steps, go_on, and_then}
use Rattle.expr_grammar.specs.Stops.{cause_at, deep_or, Halts}
use Rattle.expr_grammar.specs.Readings.{Reads, Refuses, too_long, stopped as stops_in}
use Rattle.expr_grammar.specs.Scopes.{Scope}

-- ---- a fault at a token isn't Memory

deep_not_memory : (b : Bool) (c : ExprCause) → (c ≡ Memory → ⊥) → deep_or b c ≡ Memory → ⊥
deep_not_memory true c not h = let e : TooDeep ≡ Memory = h in cc
deep_not_memory false c not h = not h

range_not_memory : (b : Bool) (c : ExprCause) → (c ≡ Memory → ⊥) → cond b NumberRange c ≡ Memory → ⊥
range_not_memory true c not h = let e : NumberRange ≡ Memory = h in cc
range_not_memory false c not h = not h

name_not_memory : UnknownName ≡ Memory → ⊥
name_not_memory h = cc

unexpected_not_memory : Unexpected ≡ Memory → ⊥
unexpected_not_memory h = cc

module _ (s : Scope) (limit : ℕ) where
  cause_not_memory : (waits : List Symbol) (bs : List Built) (t : Token) → cause_at s limit waits bs t ≡ Memory → ⊥
  cause_not_memory waits bs bad h = let e : BadChar ≡ Memory = h in cc
  cause_not_memory waits bs (word name) h = deep_not_memory (is_some (settle s (limit + 1) waits bs (word name))) UnknownName name_not_memory h
  cause_not_memory waits bs (sign g) h = deep_not_memory (is_some (settle s (limit + 1) waits bs (sign g))) Unexpected unexpected_not_memory h
  cause_not_memory waits bs (numeral n) h =
      range_not_memory (nat_le (2 ^ 63) n || is_some (settle s limit waits bs (numeral 0))) _
      (λ e. deep_not_memory (is_some (settle s (limit + 1) waits bs (numeral n))) Unexpected unexpected_not_memory e) h

  halt_not_memory : (st : State) (rest : List Placed) (end at : ℕ) (cause : ExprCause) → Halts s limit st rest end cause at → cause ≡ Memory → ⊥
  halt_not_memory st [] end at cause h e = unexpected_not_memory (sym h.1 ∙ e)
  halt_not_memory st (p ∷ rest) end at cause h e = cause_not_memory st.waits st.built p.token (sym h.1 ∙ e)

-- the machine takes a front of the tokens from a state on, and stops there
record StopsFrom (s : Scope) (limit : ℕ) (st : State) (tokens : List Placed) (end : ℕ) (f : ExprFault) : Type 0 where
  front : List Placed
  rest : List Placed
  last : State
  split : tokens ≡ front ++ rest
  taken : steps s limit st (map (λ p. p.token) front) ≡ Some last
  halts : Halts s limit last rest end f.cause f.at

module _ (s : Scope) (limit : ℕ) (end : ℕ) where
  abbrev Outcome : State → List Placed → Result (List Built) ExprFault → Type 0
  Outcome st ps r = MatchResult r (λ ws. run s limit st.waits st.built (map (λ p. p.token) ps) ≡ Some ws) (λ f. StopsFrom s limit st ps end f)

  stands : (st : State) → steps s limit st [] ≡ Some st
  unfolding steps
  stands st = refl

  outcome : (ps : List Placed) (st : State) → Outcome st ps (stopped s limit st ps end)
  unfolding run steps stopped
  outcome [] st = by (finish st.waits st.built) refl where
    by : (o : Option (List Built)) → finish st.waits st.built ≡ o → Outcome st [] (or_fault o (record { cause = Unexpected; at = end }))
    by None e = record { front = []; rest = []; last = st; split = refl; taken = stands st; halts = (e, refl, refl) }
    by (Some ws) e = e
  outcome (p ∷ ps) st = by (settle s limit st.waits st.built p.token) refl (λ next. outcome ps next) where
    by : (o : Option State) → settle s limit st.waits st.built p.token ≡ o → ((next : State) → Outcome next ps (stopped s limit next ps end))
        → Outcome st (p ∷ ps) (goes_on o (record { cause = cause_at s limit st.waits st.built p.token; at = p.at }) (λ next. stopped s limit next ps end))
    by None e later = record { front = []; rest = p ∷ ps; last = st; split = refl; taken = stands st; halts = (e, refl, refl) }
    by (Some next) e later =
        MatchResult-weaker (stopped s limit next ps end) (later next)
        (λ ws k. ap (λ o. go_on o (λ q. run s limit q.waits q.built (map (λ p. p.token) ps))) e ∙ k)
        (λ f k. record {
          front = p ∷ k.front;
          rest = k.rest;
          last = k.last;
          split = ap (λ xs. p ∷ xs) k.split;
          taken = ap (λ o. and_then o (λ q. steps s limit q (map (λ p. p.token) k.front))) e ∙ k.taken;
          halts = k.halts;
        })

module _ (s : Scope) (waits : List Symbol) (text : List ℕ) where
  abbrev pub Decides : Result (List Built) ExprFault → Type 0
  Decides r = MatchResult r (λ ws. Reads s waits text ws) (λ f. Refuses s waits text f × (f.cause ≡ Memory → ⊥))

  short : length text ≤ 1024 → Decides (stopped s 64 (record { waits = waits; built = [] }) (tokens_of text) (length text))
  short within =
      MatchResult-weaker (stopped s 64 (record { waits = waits; built = [] }) (tokens_of text) (length text)) (outcome s 64 (length text) (tokens_of text) (record { waits = waits; built = [] }))
      (λ ws k. record { within = within; tokens = tokens_of text; tokens_are = are_tokens text; runs = k })
      (λ f k. (
        stops_in (record {
          within = within;
          tokens = tokens_of text;
          tokens_are = are_tokens text;
          stops = record { front = k.front; rest = k.rest; state = k.last; split = k.split; taken = k.taken; halts = k.halts };
        }),
        halt_not_memory s 64 k.last k.rest (length text) f.at f.cause k.halts,
      ))

  -- the machine reads the text to its end, or refuses it
  pub decides : Decides (answer s waits text)
  unfolding answer
  decides = by (nat_lt 1024 (length text)) (ltb-true 1024 (length text)) (ltb-false 1024 (length text)) where
    by : (x : Bool) → (x ≡ true → 1024 < length text) → (x ≡ false → length text ≤ 1024)
        → Decides (cond x (Err (record { cause = TooLong; at = 1024 })) (stopped s 64 (record { waits = waits; built = [] }) (tokens_of text) (length text)))
    by true above within = (too_long (above refl) refl refl, λ h. let e : TooLong ≡ Memory = h in cc)
    by false above within = short (within refl)
