-- How a token passes expected things that end.
use Rattle.std.proofs.Common.{ℕ, zero, suc, ◌≡◌, ◌<◌, ◌≤◌, ◌+◌, List, [], ◌∷◌, ◌++◌, true, false, not, cond, length, get_or, drop, Option, Some, None, refl, sym, ap, ◌∙◌, arith, add-one, append_assoc}
use Rattle.std.proofs.lemmas.List.{drop_more, drop_all}
use Rattle.std.specs.Prelude.{is_some}
use Rattle.expr_tokens.specs.Tokens.{Token, word, number, sign, bad}
use Rattle.expr_tokens.specs.declared.sign.Sign.{Sign}
use Rattle.expr_grammar.specs.declared.symbol.Symbol.{Symbol}
use Rattle.expr_grammar.specs.declared.symbol.Symbol.TheVariants as wait
use Rattle.expr_grammar.specs.declared.symbol.Action.{Action}
use Rattle.expr_grammar.specs.declared.symbol.Built.{Built}
use Rattle.expr_grammar.specs.Fitting.{operator_of}
use Rattle.expr_grammar.specs.Machine.{State, tails, take, take_operator, may_end, ended, apply, settle, finish, onward, map_some}
use Rattle.expr_grammar.specs.Scopes.{Scope}
use Rattle.expr_steps.specs.declared.expected.Expected.{Expected}
use Rattle.expr_steps.specs.declared.expected.Expected.TheVariants as expect
use Rattle.expr_steps.specs.declared.moves.Accepted.{Accepted}
use Rattle.expr_steps.specs.declared.moves.Accepted.TheVariants.{Operand, Other}
use Rattle.expr_steps.specs.Expecting.{acted, action_at, before, done, ends, expected_of, Follows, Agrees, is_passed, left_of, move_of, operator_seen, reduced, reduced_first, rest_of, symbols, tails_from, take_tails, takes}
use Rattle.expr_steps.proofs.Tails.{first_some, no_levels, one_more_level}

-- ---- an expected thing is passed as its symbols are

module _ (s : Scope) (limit : ℕ) (below : List Symbol) (bs : List Built) where
  abbrev Later : Token → Option State
  Later t = settle s limit below bs t

  -- no token but a sign is an operator
  tails_pass : (c l d : ℕ) (t : Token) → ((l d : ℕ) → take s limit (wait.Tail l d) t ≡ None) → settle s limit (tails_from c l d ++ below) bs t ≡ Later t
  unfolding settle may_end ended
  tails_pass zero l d t none = refl
  tails_pass (suc c) l d t none =
      ap (λ o. onward o true (tails_from c (l + 1) d ++ below) bs (settle s limit (tails_from c (l + 1) d ++ below) bs t)) (none l d) ∙ tails_pass c (l + 1) d t none

  -- the tails of several levels take an operator together
  together : (more : List Symbol) (new : Option (List Symbol)) (others : Option (List Symbol)) (o later : Option State)
      → o ≡ onward others true below bs later
      → onward new true (more ++ below) bs o ≡ onward (first_some (map_some (λ n. n ++ more) new) others) true below bs later
  together more None others o later h = h
  together more (Some n) others o later h = ap (λ w. Some (record { waits = w; built = bs })) (sym (append_assoc n more below))

  operators_pass : (c l d : ℕ) (g : Sign) → settle s limit (tails_from c l d ++ below) bs (sign g) ≡ onward (take_tails c l d (operator_of g)) true below bs (Later (sign g))
  unfolding settle may_end ended take
  operators_pass zero l d g = ap (λ o. onward o true below bs (Later (sign g))) (sym (no_levels l d (operator_of g)))
  operators_pass (suc c) l d g =
      together (tails_from c (l + 1) d) (take_operator l d (operator_of g)) (take_tails c (l + 1) d (operator_of g)) (settle s limit (tails_from c (l + 1) d ++ below) bs (sign g)) (Later (sign g)) (operators_pass c (l + 1) d g)
      ∙ ap (λ o. onward o true below bs (Later (sign g))) (sym (one_more_level c l d (operator_of g)))

  tail_pass : (c l d : ℕ) (t : Token) → settle s limit (tails_from c l d ++ below) bs t ≡ onward (take_tails c l d (operator_seen t)) true below bs (Later t)
  unfolding take
  tail_pass c l d (sign g) = operators_pass c l d g
  tail_pass c l d (word name) = tails_pass c l d (word name) (λ l d. refl)
  tail_pass c l d (number n) = tails_pass c l d (number n) (λ l d. refl)
  tail_pass c l d bad = tails_pass c l d bad (λ l d. refl)

settle_at : (s : Scope) (limit : ℕ) (e : Expected) (below : List Symbol) (bs : List Built) (t : Token)
    → settle s limit (before e below) bs t ≡ onward (takes s limit e t) (ends e) below bs (settle s limit below (reduced e bs) t)
unfolding settle take
settle_at s limit (expect.Operators l c d) below bs t = tail_pass s limit below bs c l d t
settle_at s limit e below bs t = refl

finish_tails : (c l d : ℕ) (below : List Symbol) (bs : List Built) → finish (tails_from c l d ++ below) bs ≡ finish below bs
unfolding finish may_end ended
finish_tails zero l d below bs = refl
finish_tails (suc c) l d below bs = finish_tails c (l + 1) d below bs

finish_at : (e : Expected) (below : List Symbol) (bs : List Built) → finish (before e below) bs ≡ cond (ends e) (finish below (reduced e bs)) None
unfolding finish
finish_at (expect.Operators l c d) below bs = finish_tails c l d below bs
finish_at e below bs = refl

-- one expected thing more ends
reduced_more : (k : ℕ) (es below : List Expected) (x : Expected) (bs : List Built) → drop k es ≡ x ∷ below → reduced_first (suc k) es bs ≡ reduced x (reduced_first k es bs)
reduced_more zero [] below x bs h = absurd cc
reduced_more zero (y ∷ es) below x bs h = let same : y ≡ x = cc in ap (λ z. reduced z bs) same
reduced_more (suc k) [] below x bs h = absurd cc
reduced_more (suc k) (y ∷ es) below x bs h = reduced_more k es below x (reduced y bs) h

-- an expected thing that is passed takes no token, and ends
none_of : {A : Type 0} (o : Option A) → not (is_some o) ≡ true → o ≡ None
none_of None h = refl
none_of (Some x) h = absurd cc

passed_takes : (s : Scope) (limit : ℕ) (e : Expected) (t : Token) → is_passed e t ≡ true → takes s limit e t ≡ None
passed_takes s limit (expect.Operators l c d) t h = none_of (take_tails c l d (operator_seen t)) h
passed_takes s limit (expect.Reduce r) (word name) h = refl
passed_takes s limit (expect.Reduce r) (number n) h = refl
passed_takes s limit (expect.Reduce r) (sign g) h = refl
passed_takes s limit (expect.Reduce r) bad h = refl
passed_takes s limit e t h = absurd cc

passed_ends : (e : Expected) (t : Token) → is_passed e t ≡ true → ends e ≡ true
unfolding may_end
passed_ends (expect.Operators l c d) t h = refl
passed_ends (expect.Reduce r) t h = refl
passed_ends e t h = absurd cc

module _ (s : Scope) (limit : ℕ) (t : Token) (es : List Expected) where
  -- the first expected things end before the token
  abbrev pub Passed : ℕ → Type 0
  Passed k = (bs : List Built) → settle s limit (symbols es) bs t ≡ settle s limit (symbols (drop k es)) (reduced_first k es bs) t

  module _ (k : ℕ) (x : Expected) (within : k < length es) (is : x ≡ get_or es k x) where
    abbrev Below : List Expected
    Below = drop (k + 1) es

    at_place : drop k es ≡ x ∷ Below
    at_place = drop_more es k x within ∙ ap (λ y. y ∷ Below) (sym is)

    seen_at : Passed k → (bs : List Built)
        → settle s limit (symbols es) bs t ≡ onward (takes s limit x t) (ends x) (symbols Below) (reduced_first k es bs) (settle s limit (symbols Below) (reduced x (reduced_first k es bs)) t)
    seen_at h bs =
        h bs ∙ ap (λ w. settle s limit (symbols w) (reduced_first k es bs) t) at_place ∙ settle_at s limit x (symbols Below) (reduced_first k es bs) t

    pub passes : takes s limit x t ≡ None → ends x ≡ true → Passed k → Passed (k + 1)
    passes none end h bs =
        seen_at h bs
        ∙ ap (λ o. onward o (ends x) (symbols Below) (reduced_first k es bs) (settle s limit (symbols Below) (reduced x (reduced_first k es bs)) t)) none
        ∙ ap (λ b. onward None b (symbols Below) (reduced_first k es bs) (settle s limit (symbols Below) (reduced x (reduced_first k es bs)) t)) end
        ∙ ap (λ b. settle s limit (symbols Below) b t) (sym (reduced_more k es Below x bs at_place) ∙ ap (λ n. reduced_first n es bs) (sym (add-one k)))

    pub passes_by : is_passed x t ≡ true → Passed k → Passed (k + 1)
    passes_by by h = passes (passed_takes s limit x t by) (passed_ends x t by) h

    pub stops_here : takes s limit x t ≡ None → ends x ≡ false → Passed k → (bs : List Built) → settle s limit (symbols es) bs t ≡ None
    stops_here none end h bs =
        seen_at h bs
        ∙ ap (λ o. onward o (ends x) (symbols Below) (reduced_first k es bs) (settle s limit (symbols Below) (reduced x (reduced_first k es bs)) t)) none
        ∙ ap (λ b. onward None b (symbols Below) (reduced_first k es bs) (settle s limit (symbols Below) (reduced x (reduced_first k es bs)) t)) end

    pub found_here : (new : List Symbol) → takes s limit x t ≡ Some new → Passed k
        → (bs : List Built) → settle s limit (symbols es) bs t ≡ Some (record { waits = new ++ symbols (drop (suc k) es); built = reduced_first k es bs })
    found_here new some h bs =
        seen_at h bs
        ∙ ap (λ o. onward o (ends x) (symbols Below) (reduced_first k es bs) (settle s limit (symbols Below) (reduced x (reduced_first k es bs)) t)) some
        ∙ ap (λ n. Some (record { waits = new ++ symbols (drop n es); built = reduced_first k es bs })) (add-one k)

  settle_none : (bs : List Built) → settle s limit [] bs t ≡ None
  unfolding settle
  settle_none bs = refl

  pub none_left : (k : ℕ) → length es ≤ k → Passed k → (bs : List Built) → settle s limit (symbols es) bs t ≡ None
  none_left k past h bs = h bs ∙ ap (λ w. settle s limit (symbols w) (reduced_first k es bs) t) (drop_all k es past) ∙ settle_none (reduced_first k es bs)

module _ (es : List Expected) where
  -- the first expected things end at the end of the tokens
  abbrev pub Ended : ℕ → Type 0
  Ended k = (bs : List Built) → finish (symbols es) bs ≡ finish (symbols (drop k es)) (reduced_first k es bs)

  module _ (k : ℕ) (x : Expected) (within : k < length es) (is : x ≡ get_or es k x) where
    abbrev Others : List Expected
    Others = drop (k + 1) es

    here : drop k es ≡ x ∷ Others
    here = drop_more es k x within ∙ ap (λ y. y ∷ Others) (sym is)

    ends_at : Ended k → (bs : List Built) → finish (symbols es) bs ≡ cond (ends x) (finish (symbols Others) (reduced x (reduced_first k es bs))) None
    ends_at h bs = h bs ∙ ap (λ w. finish (symbols w) (reduced_first k es bs)) here ∙ finish_at x (symbols Others) (reduced_first k es bs)

    pub ends_more : ends x ≡ true → Ended k → Ended (k + 1)
    ends_more end h bs =
        ends_at h bs ∙ ap (λ b. cond b (finish (symbols Others) (reduced x (reduced_first k es bs))) None) end
        ∙ ap (λ b. finish (symbols Others) b) (sym (reduced_more k es Others x bs here) ∙ ap (λ n. reduced_first n es bs) (sym (add-one k)))

    pub no_end : ends x ≡ false → Ended k → (bs : List Built) → finish (symbols es) bs ≡ None
    no_end end h bs =
        ends_at h bs ∙ ap (λ b. cond b (finish (symbols Others) (reduced x (reduced_first k es bs))) None) end

  finish_none : (bs : List Built) → finish [] bs ≡ Some bs
  unfolding finish
  finish_none bs = refl

  pub all_end : (k : ℕ) → k ≡ length es → Ended k → (bs : List Built) → finish (symbols es) bs ≡ Some (reduced_first (length es) es bs)
  all_end k past h bs =
      h bs ∙ ap (λ w. finish (symbols w) (reduced_first k es bs)) (drop_all k es (omega arith)) ∙ finish_none (reduced_first k es bs) ∙ ap (λ n. Some (reduced_first n es bs)) past

-- ---- what is done at once

module _ (waits : List Symbol) (bs : List Built) where
  act_settles : (a : Action) (s : Scope) (limit : ℕ) (t : Token) → settle s limit (wait.Do a ∷ waits) bs t ≡ settle s limit waits (apply a bs) t
  unfolding settle take may_end ended
  act_settles a s limit (word name) = refl
  act_settles a s limit (number n) = refl
  act_settles a s limit (sign g) = refl
  act_settles a s limit bad = refl

  act_finishes : (a : Action) → finish (wait.Do a ∷ waits) bs ≡ finish waits (apply a bs)
  unfolding finish may_end ended
  act_finishes a = refl

  act_agrees : (o : Option Action) → Agrees (record { waits = acted o waits; built = bs }) (record { waits = waits; built = done o bs })
  act_agrees None = record { settles = λ s limit t. refl; finishes = refl }
  act_agrees (Some a) = record { settles = act_settles a; finishes = act_finishes a }

acted_append : (o : Option Action) (xs ys : List Symbol) → acted o xs ++ ys ≡ acted o (xs ++ ys)
acted_append None xs ys = refl
acted_append (Some a) xs ys = refl

left_is : (a : Accepted) (below : List Symbol) → left_of a ++ below ≡ acted (action_at (move_of a)) (expected_of a ++ below)
left_is (Operand m level depth) below =
    ap (λ w. w ++ below) (acted_append (action_at m) (rest_of m) (tails level depth)) ∙ acted_append (action_at m) (expected_of (Operand m level depth)) below
left_is (Other m) below = acted_append (action_at m) (rest_of m) below

-- a token that is accepted leaves what is expected and built then
pub expanded : (a : Accepted) (below new : List Symbol) (bs built : List Built) (found : Option State)
    → found ≡ Some (record { waits = left_of a ++ below; built = bs }) → new ≡ expected_of a ++ below → built ≡ done (action_at (move_of a)) bs
    → Follows found (record { waits = new; built = built })
expanded a below new bs built found h n b = record {
  state = record { waits = acted (action_at (move_of a)) (expected_of a ++ below); built = bs };
  is = h ∙ ap (λ w. Some (record { waits = w; built = bs })) (left_is a below);
  agrees = rw (n, b) (act_agrees (expected_of a ++ below) bs (action_at (move_of a)));
}
