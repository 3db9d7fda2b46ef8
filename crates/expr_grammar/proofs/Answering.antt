-- What the machine does is what is answered.
use Rattle.std.proofs.Common.{ℕ, ◌≡◌, ◌≤◌, ◌<◌, List, [], ◌∷◌, ◌++◌, map, cond, length, Option, None, Some, Ok, Err, sym, ap, ◌∙◌, subst}
use Rattle.std.proofs.lemmas.Bool.{lt-ltb, le-ltb}
use Rattle.expr_tokens.specs.Tokens.{Placed, AreTokens}
use Rattle.expr_tokens.specs.Lexing.{tokens_of}
use Rattle.expr_tokens.proofs.Lexed.{are_tokens}
use Rattle.expr_tokens.proofs.Unique.{one_list}
use Rattle.expr_grammar.specs.declared.fault.ExprFault.{ExprFault}
use Rattle.expr_grammar.specs.declared.fault.ExprCause.{ExprCause}
use Rattle.expr_grammar.specs.declared.fault.ExprCause.TheVariants.{TooLong, BadChar, NumberRange, TooDeep, UnknownName, Unexpected, Memory}
use Rattle.expr_grammar.specs.declared.symbol.Symbol.{Symbol}
use Rattle.expr_grammar.specs.declared.symbol.Built.{Built}
use Rattle.expr_grammar.specs.Answers.{or_fault, goes_on, stopped, answer, made_by, ButMemory}
use Rattle.expr_grammar.specs.Machine.{State, run, settle, steps, go_on, and_then}
use Rattle.expr_grammar.specs.Stops.{cause_at, Halts, Stops}
use Rattle.expr_grammar.specs.Readings.{Reads, Refuses, too_long, no_memory, stopped as stops_in}
use Rattle.expr_grammar.specs.Scopes.{Scope}

but : (c : ExprCause) {P : Type 0} → P → ButMemory c P
but Memory p = tt
but TooLong p = p
but BadChar p = p
but NumberRange p = p
but TooDeep p = p
but UnknownName p = p
but Unexpected p = p

but_then : (c : ExprCause) {P Q : Type 0} → (P → Q) → ButMemory c P → ButMemory c Q
but_then Memory f p = tt
but_then TooLong f p = f p
but_then BadChar f p = f p
but_then NumberRange f p = f p
but_then TooDeep f p = f p
but_then UnknownName f p = f p
but_then Unexpected f p = f p

module _ (s : Scope) (limit : ℕ) (end : ℕ) where
  -- what is built of tokens that are all taken
  pub ran : (ps : List Placed) (st : State) (ws : List Built) → run s limit st.waits st.built (map (λ p. p.token) ps) ≡ Some ws → stopped s limit st ps end ≡ Ok ws
  unfolding run stopped
  ran [] st ws h = ap (λ o. or_fault o (record { cause = Unexpected; at = end })) h
  ran (p ∷ ps) st ws h = by (settle s limit st.waits st.built p.token) h (λ next. ran ps next ws) where
    by : (o : Option State) → go_on o (λ next. run s limit next.waits next.built (map (λ p. p.token) ps)) ≡ Some ws
        → ((next : State) → run s limit next.waits next.built (map (λ p. p.token) ps) ≡ Some ws → stopped s limit next ps end ≡ Ok ws)
        → goes_on o (record { cause = cause_at s limit st.waits st.built p.token; at = p.at }) (λ next. stopped s limit next ps end) ≡ Ok ws
    by None k later = absurd cc
    by (Some next) k later = later next k

  -- the fault where the machine stops
  halted : (rest : List Placed) (st : State) (f : ExprFault) → Halts s limit st rest end f.cause f.at → stopped s limit st rest end ≡ Err f
  unfolding stopped
  halted [] st f h = ap (λ o. or_fault o (record { cause = Unexpected; at = end })) h.0 ∙ (λ i. Err (record { cause = sym h.1 i; at = sym h.2 i }))
  halted (p ∷ rest) st f h =
      ap (λ o. goes_on o (record { cause = cause_at s limit st.waits st.built p.token; at = p.at }) (λ next. stopped s limit next rest end)) h.0
      ∙ (λ i. Err (record { cause = sym h.1 i; at = sym h.2 i }))

  stopped_behind : (front rest : List Placed) (st last : State) (f : ExprFault) → steps s limit st (map (λ p. p.token) front) ≡ Some last
      → Halts s limit last rest end f.cause f.at → stopped s limit st (front ++ rest) end ≡ Err f
  unfolding steps stopped
  stopped_behind [] rest st last f h k = let same : st ≡ last = cc in halted rest st f (subst (λ x. Halts s limit x rest end f.cause f.at) (sym same) k)
  stopped_behind (p ∷ front) rest st last f h k = by (settle s limit st.waits st.built p.token) h (λ next e. stopped_behind front rest next last f e k) where
    by : (o : Option State) → and_then o (λ next. steps s limit next (map (λ p. p.token) front)) ≡ Some last
        → ((next : State) → steps s limit next (map (λ p. p.token) front) ≡ Some last → stopped s limit next (front ++ rest) end ≡ Err f)
        → goes_on o (record { cause = cause_at s limit st.waits st.built p.token; at = p.at }) (λ next. stopped s limit next (front ++ rest) end) ≡ Err f
    by None e later = absurd cc
    by (Some next) e later = later next e

  pub stopped_at : (waits : List Symbol) (tokens : List Placed) (f : ExprFault) → Stops s limit waits tokens end f.cause f.at
      → stopped s limit (record { waits = waits; built = [] }) tokens end ≡ Err f
  stopped_at waits tokens f k =
      ap (λ ps. stopped s limit (record { waits = waits; built = [] }) ps end) k.split
      ∙ stopped_behind k.front k.rest (record { waits = waits; built = [] }) k.state f k.taken k.halts

module _ (s : Scope) (waits : List Symbol) (text : List ℕ) where
  abbrev begun : State
  begun = record { waits = waits; built = [] }

  -- the tokens of the text are the list that the function gives
  same_tokens : (ps : List Placed) → AreTokens 0 text ps → ps ≡ tokens_of text
  same_tokens ps are = one_list ps (tokens_of text) 0 text are (are_tokens text)

  short : length text ≤ 1024 → answer s waits text ≡ stopped s 64 begun (tokens_of text) (length text)
  unfolding answer
  short within = ap (λ b. cond b (Err (record { cause = TooLong; at = 1024 })) (stopped s 64 begun (tokens_of text) (length text))) (le-ltb 1024 (length text) within)

  long : 1024 < length text → answer s waits text ≡ Err (record { cause = TooLong; at = 1024 })
  unfolding answer
  long above = ap (λ b. cond b (Err (record { cause = TooLong; at = 1024 })) (stopped s 64 begun (tokens_of text) (length text))) (lt-ltb 1024 (length text) above)

  pub reads : (ws : List Built) → Reads s waits text ws → answer s waits text ≡ Ok ws
  reads ws k =
      short k.within ∙ ap (λ ps. stopped s 64 begun ps (length text)) (sym (same_tokens k.tokens k.tokens_are))
      ∙ ran s 64 (length text) k.tokens begun ws k.runs

  pub refuses : (f : ExprFault) → Refuses s waits text f → ButMemory f.cause (answer s waits text ≡ Err f)
  refuses f (too_long above is at) = subst (λ c. ButMemory c (answer s waits text ≡ Err f)) (sym is) (long above ∙ (λ i. Err (record { cause = sym is i; at = sym at i })))
  refuses f (no_memory m) = subst (λ c. ButMemory c (answer s waits text ≡ Err f)) (sym m.0) tt
  refuses f (stops_in k) =
      but f.cause (short k.within ∙ ap (λ ps. stopped s 64 begun ps (length text)) (sym (same_tokens k.tokens k.tokens_are))
      ∙ stopped_at s 64 (length text) waits k.tokens f k.stops)

module _ {A : Type 0} (tree : List Built → A) (s : Scope) (waits : List Symbol) (text : List ℕ) where
  -- the tree of what was built is answered
  pub tree_told : (ws : List Built) (x : A) → Reads s waits text ws → tree ws ≡ x → made_by tree (answer s waits text) ≡ Ok x
  tree_told ws x k is = ap (λ r. made_by tree r) (reads s waits text ws k) ∙ ap (λ t. Ok t) is

  pub fault_told : (f : ExprFault) → Refuses s waits text f → ButMemory f.cause (made_by tree (answer s waits text) ≡ Err f)
  fault_told f k = but_then f.cause (λ e. ap (λ r. made_by tree r) e) (refuses s waits text f k)
