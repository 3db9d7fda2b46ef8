-- The one derivation of a text, and its first fault.
use Rattle.std.specs.Prelude.{ℕ, ◌≡◌, ◌≤◌, ◌+◌, ◌^◌, ◌⊎◌, List, [], ◌∷◌, ◌++◌, map}
use Rattle.expr_tokens.specs.Tokens.{Token, word, number, sign, bad, Placed}
use Rattle.expr_grammar.specs.declared.fault.ExprCause.{ExprCause}
use Rattle.expr_grammar.specs.declared.fault.ExprCause.TheVariants.{TooLong, BadChar, NumberRange, TooDeep, UnknownName, Unexpected, Memory}

-- A sort of texts: the trees that fit under a greatest nesting, their tokens, and what they mean.
pub record Texts (Tree Meaning : Type 0) : Type 1 where
  pub fits : ℕ → Tree → Type 0
  pub spelled : Tree → List Token
  pub means : Tree → Meaning

-- a name
abbrev pub IsWord : Token → Type 0
IsWord (word name) = Unit {0}
IsWord (number n) = ⊥
IsWord (sign s) = ⊥
IsWord bad = ⊥

-- a sign or a number
abbrev pub IsNumberOrSign : Token → Type 0
IsNumberOrSign (word name) = ⊥
IsNumberOrSign (number n) = Unit {0}
IsNumberOrSign (sign s) = Unit {0}
IsNumberOrSign bad = ⊥

module _ {Tree Meaning : Type 0} (texts : Texts Tree Meaning) where
  -- the tokens are a text
  abbrev pub IsText : ℕ → List Token → Type 0
  IsText limit tokens = (t : Tree) × texts.fits limit t × (texts.spelled t ≡ tokens)

  -- a text, of whatever length, begins with these tokens
  abbrev pub CanGoOn : ℕ → List Token → Type 0
  CanGoOn limit front = (rest : List Token) × IsText limit (front ++ rest)

  -- one tree that fits has these tokens, no other one has, and it means this
  pub record IsOnly (limit : ℕ) (tokens : List Token) (meaning : Meaning) : Type 0 where
    pub tree : Tree
    pub fits : texts.fits limit tree
    pub spelled : texts.spelled tree ≡ tokens
    pub means : texts.means tree ≡ meaning
    pub only : (other : Tree) → texts.fits limit other → texts.spelled other ≡ tokens → other ≡ tree

  -- a number that is too large, for every place or for this one, where another number is allowed
  abbrev pub IsOutOfRange : ℕ → List Token → Token → Type 0
  IsOutOfRange limit front (number n) = (2 ^ 63 ≤ n) ⊎ CanGoOn limit (front ++ number 0 ∷ [])
  IsOutOfRange limit front (word name) = ⊥
  IsOutOfRange limit front (sign s) = ⊥
  IsOutOfRange limit front bad = ⊥

  -- with a greater limit of nesting a text could go on with this token
  abbrev pub IsTooDeep : ℕ → List Token → Token → Type 0
  IsTooDeep limit front t = CanGoOn (limit + 1) (front ++ t ∷ [])

  -- The cause at a token where no text goes on: the first that fits of BadChar, NumberRange, TooDeep, UnknownName and
  -- Unexpected.
  abbrev pub HasCause : ℕ → List Token → Token → ExprCause → Type 0
  HasCause limit front t BadChar = t ≡ bad
  HasCause limit front t NumberRange = IsOutOfRange limit front t
  HasCause limit front t TooDeep = (IsOutOfRange limit front t → ⊥) × IsTooDeep limit front t
  HasCause limit front t UnknownName = (IsTooDeep limit front t → ⊥) × IsWord t
  HasCause limit front t Unexpected = (IsOutOfRange limit front t → ⊥) × (IsTooDeep limit front t → ⊥) × IsNumberOrSign t
  HasCause limit front t TooLong = ⊥
  HasCause limit front t Memory = ⊥

  -- what is wrong after the front
  abbrev pub IsStuck : ℕ → List Token → List Placed → ℕ → ExprCause → ℕ → Type 0
  IsStuck limit front [] end cause at = (IsText limit front → ⊥) × (cause ≡ Unexpected) × (at ≡ end)
  IsStuck limit front (p ∷ rest) end cause at =
      (CanGoOn limit (front ++ p.token ∷ []) → ⊥) × HasCause limit front p.token cause × (at ≡ p.at)

  -- The front can go on, unless it is empty, and with the next token it can't.
  pub record IsFirstFault (limit : ℕ) (tokens : List Placed) (end : ℕ) (cause : ExprCause) (at : ℕ) : Type 0 where
    pub front : List Placed
    pub rest : List Placed
    pub split : tokens ≡ front ++ rest
    pub goes_on : (front ≡ []) ⊎ CanGoOn limit (map (λ p. p.token) front)
    pub stuck : IsStuck limit (map (λ p. p.token) front) rest end cause at
