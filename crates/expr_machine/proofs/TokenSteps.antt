-- The parser follows the grammar's machine over the tokens of the code, one after another.
use Rattle.std.proofs.Common.{ℕ, ◌≡◌, ◌≤◌, ◌<◌, ◌+◌, ◌^◌, ◌⊎◌, inl, inr, ⊎_elim, List, [], ◌∷◌, ◌++◌, ◌||◌, map, length, get_or, take, drop, cond, Some, None, refl, sym, ap, ◌∙◌, take-append-drop}
use Rattle.std.proofs.lemmas.List.{drop_more, get_or_default, take_more, take_all, map-append, append-nil}
use Rattle.std.specs.Prelude.{is_some, nat_le}
use Rattle.expr_tokens.specs.declared.token.Lexeme.{Lexeme}
use Rattle.expr_tokens.specs.Tokens.{Token, Placed, word, number, sign, bad}
use Rattle.expr_tokens.specs.Seen.{seen, token_seen}
use Rattle.expr_grammar.specs.declared.fault.ExprFault.{ExprFault}
use Rattle.expr_grammar.specs.declared.fault.ExprCause.{ExprCause}
use Rattle.expr_grammar.specs.declared.fault.ExprCause.TheVariants.{Unexpected, UnknownName, NumberRange}
use Rattle.expr_grammar.specs.declared.symbol.Symbol.{Symbol}
use Rattle.expr_grammar.specs.declared.symbol.Built.{Built}
use Rattle.expr_grammar.specs.Machine.{State, run, settle, finish, steps}
use Rattle.expr_grammar.specs.Stops.{Halts, Stops, cause_at, deep_or}
use Rattle.expr_grammar.specs.Readings.{OutOfMemory}
use Rattle.expr_grammar.specs.Scopes.{Scope}
use Rattle.expr_grammar.proofs.FirstFaults.{one_more, run_taken}
use Rattle.expr_steps.specs.Expecting.{Agrees, Follows}

abbrev pub token_of : Placed → Token
token_of p = p.token

-- the first tokens
abbrev pub token_front : ℕ → List Lexeme → List Token
token_front i ls = map (λ p. p.token) (map seen (take i ls))

front_more : (ls : List Lexeme) (i : ℕ) (l : Lexeme) → i < length ls → l ≡ get_or ls i l → token_front (i + 1) ls ≡ token_front i ls ++ token_seen l.token ∷ []
front_more ls i l within is =
    ap (λ xs. map token_of (map seen xs)) (take_more ls i l within ∙ ap (λ y. take i ls ++ y ∷ []) (sym is))
    ∙ ap (λ xs. map token_of xs) (map-append seen (take i ls) (l ∷ [])) ∙ map-append token_of (map seen (take i ls)) (seen l ∷ [])

front_whole : (ls : List Lexeme) (i : ℕ) → length ls ≤ i → token_front i ls ≡ map (λ p. p.token) (map seen ls)
front_whole ls i past = ap (λ xs. map token_of (map seen xs)) (take_all i ls past)

split_at : (ls : List Lexeme) (i : ℕ) (l : Lexeme) → i < length ls → l ≡ get_or ls i l → map seen ls ≡ map seen (take i ls) ++ seen l ∷ map seen (drop (i + 1) ls)
split_at ls i l within is =
    ap (λ xs. map seen xs) (sym (take-append-drop i ls) ∙ ap (λ xs. take i ls ++ xs) (drop_more ls i l within ∙ ap (λ y. y ∷ drop (i + 1) ls) (sym is)))
    ∙ map-append seen (take i ls) (l ∷ drop (i + 1) ls)

-- ---- states that agree halt for one cause

module _ (s : Scope) (a b : State) (same : Agrees a b) where
  deep : (t : Token) (cause : ExprCause) → deep_or (is_some (settle s 65 a.waits a.built t)) cause ≡ deep_or (is_some (settle s 65 b.waits b.built t)) cause
  deep t cause = ap (λ o. deep_or (is_some o) cause) (same.settles s 65 t)

  one_cause : (t : Token) → cause_at s 64 a.waits a.built t ≡ cause_at s 64 b.waits b.built t
  one_cause bad = refl
  one_cause (word name) = deep (word name) UnknownName
  one_cause (sign g) = deep (sign g) Unexpected
  one_cause (number n) =
      ap (λ o. cond (nat_le (2 ^ 63) n || is_some o) NumberRange (deep_or (is_some (settle s 65 a.waits a.built (number n))) Unexpected)) (same.settles s 64 (number 0))
      ∙ ap (λ c. cond (nat_le (2 ^ 63) n || is_some (settle s 64 b.waits b.built (number 0))) NumberRange c) (deep (number n) Unexpected)

  halts_too : (p : Placed) (cause : ExprCause) (at : ℕ) → Halts s 64 b (p ∷ []) 0 cause at → Halts s 64 a (p ∷ []) 0 cause at
  halts_too p cause at k = (same.settles s 64 p.token ∙ k.0, k.1 ∙ sym (one_cause p.token), k.2)

module _ (s : Scope) (waits : List Symbol) (ls : List Lexeme) where
  -- the machine has taken the first tokens, and the parser follows it
  abbrev pub StandsAt : ℕ → State → Type 0
  StandsAt i st = Follows (steps s 64 (record { waits = waits; built = [] }) (token_front i ls)) st

  pub next_step : (i : ℕ) (l : Lexeme) (st next : State) → i < length ls → l ≡ get_or ls i l → StandsAt i st → Follows (settle s 64 st.waits st.built (token_seen l.token)) next → StandsAt (i + 1) next
  next_step i l st next within is h k = record {
    state = k.state;
    is = ap (λ ts. steps s 64 (record { waits = waits; built = [] }) ts) (front_more ls i l within is)
        ∙ one_more s 64 (token_front i ls) (token_seen l.token) (record { waits = waits; built = [] }) h.state h.is ∙ h.agrees.settles s 64 (token_seen l.token) ∙ k.is;
    agrees = k.agrees;
  }

  stops_at : (i : ℕ) (l : Lexeme) (st : State) (end : ℕ) (cause : ExprCause) (at : ℕ) → i < length ls → l ≡ get_or ls i l → StandsAt i st
      → Halts s 64 st (seen l ∷ []) 0 cause at → Stops s 64 waits (map seen ls) end cause at
  stops_at i l st end cause at within is h k = record {
    front = map seen (take i ls);
    rest = seen l ∷ map seen (drop (i + 1) ls);
    state = h.state;
    split = split_at ls i l within is;
    taken = h.is;
    halts = halts_too s h.state st h.agrees (seen l) cause at k;
  }

  refused : (i : ℕ) (l : Lexeme) (st : State) (end : ℕ) (f : ExprFault) → i < length ls → l ≡ get_or ls i l → StandsAt i st
      → OutOfMemory f ⊎ Halts s 64 st (seen l ∷ []) 0 f.cause f.at → OutOfMemory f ⊎ Stops s 64 waits (map seen ls) end f.cause f.at
  refused i l st end f within is h k = ⊎_elim (λ m. inl m) (λ x. inr (stops_at i l st end f.cause f.at within is h x)) k

  here : (i : ℕ) (d : Lexeme) → i < length ls → get_or ls i d ≡ get_or ls i (get_or ls i d)
  here i d within = get_or_default ls i d (get_or ls i d) within

  pub next_at : (i : ℕ) (d : Lexeme) (st next : State) → i < length ls → StandsAt i st → Follows (settle s 64 st.waits st.built (token_seen (get_or ls i d).token)) next → StandsAt (i + 1) next
  next_at i d st next within h k = next_step i (get_or ls i d) st next within (here i d within) h k

  pub refused_at : (i : ℕ) (d : Lexeme) (st : State) (end : ℕ) (f : ExprFault) → i < length ls → StandsAt i st
      → OutOfMemory f ⊎ Halts s 64 st (seen (get_or ls i d) ∷ []) 0 f.cause f.at → OutOfMemory f ⊎ Stops s 64 waits (map seen ls) end f.cause f.at
  refused_at i d st end f within h k = refused i (get_or ls i d) st end f within (here i d within) h k

  pub ran : (i : ℕ) (st : State) (ws : List Built) → length ls ≤ i → StandsAt i st → finish st.waits st.built ≡ Some ws → run s 64 waits [] (map (λ p. p.token) (map seen ls)) ≡ Some ws
  ran i st ws past h k =
      ap (λ ts. run s 64 waits [] ts) (sym (front_whole ls i past)) ∙ run_taken s 64 (token_front i ls) (record { waits = waits; built = [] }) h.state h.is ∙ h.agrees.finishes ∙ k

  pub ends : (i : ℕ) (st : State) (end : ℕ) (f : ExprFault) → length ls ≤ i → StandsAt i st
      → OutOfMemory f ⊎ ((finish st.waits st.built ≡ None) × (f.cause ≡ Unexpected) × (f.at ≡ end)) → OutOfMemory f ⊎ Stops s 64 waits (map seen ls) end f.cause f.at
  ends i st end f past h k = ⊎_elim (λ m. inl m) (λ x. inr (record {
    front = map seen ls;
    rest = [];
    state = h.state;
    split = sym (append-nil (map seen ls));
    taken = ap (λ ts. steps s 64 (record { waits = waits; built = [] }) ts) (sym (front_whole ls i past)) ∙ h.is;
    halts = (h.agrees.finishes ∙ x.0, x.1, x.2);
  })) k

  steps_none : (st : State) → steps s 64 st [] ≡ Some st
  unfolding steps
  steps_none st = refl

  pub begun : (bs : List Built) → bs ≡ [] → StandsAt 0 (record { waits = waits; built = bs })
  begun bs e = record {
    state = record { waits = waits; built = bs };
    is = ap (λ b. steps s 64 (record { waits = waits; built = b }) []) (sym e) ∙ steps_none (record { waits = waits; built = bs });
    agrees = record { settles = λ s limit t. refl; finishes = refl };
  }
