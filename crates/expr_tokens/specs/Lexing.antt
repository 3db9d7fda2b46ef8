-- The tokens of a text as a function of its bytes.
use Rattle.std.specs.Prelude.{ℕ, zero, suc, ◌+◌, List, [], ◌∷◌, ◌==◌, if◌then◌else◌, Bool, length, Option, Some, None}
use Rattle.std.specs.List.{take_while, prefix_len}
use Rattle.std.specs.Char.{is_ascii_digit}
use Rattle.ent_types.specs.Names.{is_name_start, is_name_byte}
use Rattle.expr_tokens.specs.declared.sign.Sign.{Sign}
use Rattle.expr_tokens.specs.Tokens.{Token, word, number, sign, bad, Placed, number_value, pair_of, single_of}

-- the first token of a text, and how many bytes it takes after its first one
pub record Front : Type 0 where
  pub token : Token
  pub more : ℕ

-- a first byte, and the bytes after it that belong to its token
abbrev pub run_front : (List ℕ → Token) → (ℕ → Bool) → ℕ → List ℕ → Front
run_front make belongs b bytes = record { token = make (b ∷ take_while belongs bytes); more = prefix_len belongs bytes }

-- the sign that a byte and the next one spell
abbrev pub pair_in : ℕ → List ℕ → Option Sign
pair_in b [] = None
pair_in b (c ∷ bytes) = pair_of b c

-- a sign of two bytes before one of one byte; a byte that begins no token takes the rest of the text with it
abbrev pub sign_front : Option Sign → Option Sign → List ℕ → Front
sign_front (Some pair) single bytes = record { token = sign pair; more = 1 }
sign_front None (Some single) bytes = record { token = sign single; more = 0 }
sign_front None None bytes = record { token = bad; more = length bytes }

-- what begins with a byte that is no space
abbrev pub front : ℕ → List ℕ → Front
front b bytes =
    if is_name_start b then run_front word is_name_byte b bytes
    else (if is_ascii_digit b then run_front (λ digits. number (number_value digits)) is_ascii_digit b bytes
    else sign_front (pair_in b bytes) (single_of b) bytes)

-- the tokens of a text that begins at the place `from`, whose first `more` bytes belong to the token before
abbrev pub tokens_behind : ℕ → ℕ → List ℕ → List Placed
tokens_behind more from [] = []
tokens_behind (suc more) from (b ∷ bytes) = tokens_behind more (from + 1) bytes
tokens_behind zero from (b ∷ bytes) =
    if b == 32 then tokens_behind 0 (from + 1) bytes
    else record { token = (front b bytes).token; at = from } ∷ tokens_behind (front b bytes).more (from + 1) bytes

-- the tokens of a text, each the longest that fits at its place
unfoldable pub tokens_of : List ℕ → List Placed
tokens_of text = tokens_behind 0 0 text
