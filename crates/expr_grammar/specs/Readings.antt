-- What a reader of a text returns.
use Rattle.std.specs.Prelude.{ℕ, ◌≡◌, ◌≤◌, ◌<◌, List, [], map, length, Some, Result, MatchResult}
use Rattle.ent_types.specs.declared.limits.TheConstants.{LONGEST_TEXT, MOST_NESTING}
use Rattle.expr_tokens.specs.Tokens.{Placed, AreTokens}
use Rattle.expr_grammar.specs.declared.fault.ExprFault.{ExprFault}
use Rattle.expr_grammar.specs.declared.fault.ExprCause.{ExprCause}
use Rattle.expr_grammar.specs.declared.fault.ExprCause.TheVariants.{TooLong, BadChar, NumberRange, TooDeep, UnknownName, Unexpected, Memory}
use Rattle.expr_grammar.specs.declared.symbol.Symbol.{Symbol}
use Rattle.expr_grammar.specs.declared.symbol.Built.{Built}
use Rattle.expr_grammar.specs.Faults.{Texts, IsOnly, IsFirstFault}
use Rattle.expr_grammar.specs.Machine.{run}
use Rattle.expr_grammar.specs.Stops.{Stops}
use Rattle.expr_grammar.specs.Scopes.{Scope}

module _ {Tree Meaning : Type 0} (texts : Texts Tree Meaning) where
  -- the text isn't too long, it has these tokens, and this is the one meaning that they have
  pub record IsMeant (text : List ℕ) (meaning : Meaning) : Type 0 where
    pub within : length text ≤ LONGEST_TEXT
    pub tokens : List Placed
    pub tokens_are : AreTokens 0 text tokens
    pub only : IsOnly texts MOST_NESTING (map (λ p. p.token) tokens) meaning

  -- the text isn't too long, it has these tokens, and this is their first fault
  pub record IsFaulty (text : List ℕ) (cause : ExprCause) (at : ℕ) : Type 0 where
    pub within : length text ≤ LONGEST_TEXT
    pub tokens : List Placed
    pub tokens_are : AreTokens 0 text tokens
    pub first : IsFirstFault texts MOST_NESTING tokens (length text) cause at

  -- what is wrong with a text; memory may run out with any
  abbrev pub IsFault : List ℕ → ExprCause → ℕ → Type 0
  IsFault text TooLong at = (LONGEST_TEXT < length text) × (at ≡ LONGEST_TEXT)
  IsFault text Memory at = at ≡ 0
  IsFault text BadChar at = IsFaulty text BadChar at
  IsFault text NumberRange at = IsFaulty text NumberRange at
  IsFault text TooDeep at = IsFaulty text TooDeep at
  IsFault text UnknownName at = IsFaulty text UnknownName at
  IsFault text Unexpected at = IsFaulty text Unexpected at

  -- a text that isn't too long is read with the limit of nesting, or its fault is returned
  abbrev pub ReadsText : List ℕ → Result Meaning ExprFault → Type 0
  ReadsText text result = MatchResult result (λ meaning. IsMeant text meaning) (λ f. IsFault text f.cause f.at)

-- memory ran out
abbrev pub OutOfMemory : ExprFault → Type 0
OutOfMemory f = (f.cause ≡ Memory) × (f.at ≡ 0)

-- the machine reads all tokens of the text
pub record Reads (s : Scope) (waits : List Symbol) (text : List ℕ) (ws : List Built) : Type 0 where
  pub within : length text ≤ LONGEST_TEXT
  pub tokens : List Placed
  pub tokens_are : AreTokens 0 text tokens
  pub runs : run s MOST_NESTING waits [] (map (λ p. p.token) tokens) ≡ Some ws

-- the machine stops at a token of the text, or at its end
pub record StopsIn (s : Scope) (waits : List Symbol) (text : List ℕ) (f : ExprFault) : Type 0 where
  pub within : length text ≤ LONGEST_TEXT
  pub tokens : List Placed
  pub tokens_are : AreTokens 0 text tokens
  pub stops : Stops s MOST_NESTING waits tokens (length text) f.cause f.at

-- why the machine doesn't read a text
pub data Refuses (s : Scope) (waits : List Symbol) (text : List ℕ) (f : ExprFault) : Type 0 where
  too_long : LONGEST_TEXT < length text → f.cause ≡ TooLong → f.at ≡ LONGEST_TEXT → Refuses s waits text f
  no_memory : OutOfMemory f → Refuses s waits text f
  stopped : StopsIn s waits text f → Refuses s waits text f
