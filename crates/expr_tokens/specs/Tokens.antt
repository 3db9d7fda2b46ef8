-- What the tokens of a text are.
use Rattle.std.specs.Prelude.{ℕ, ◌≡◌, ◌≢◌, ◌+◌, ◌-◌, ◌*◌, ◌^◌, ◌<◌, ◌≤◌, List, [], ◌∷◌, Bool, true, false, ◌&&◌, ◌==◌, if◌then◌else◌, length, take, drop, min, codes, slice_index_or, All, Option, Some, None}
use Rattle.std.specs.List.{list_all, fold}
use Rattle.std.specs.Char.{is_ascii_digit}
use Rattle.ent_types.specs.Names.{is_name_start, is_name_byte}
use Rattle.expr_tokens.specs.declared.sign.Sign.{Sign}
use Rattle.expr_tokens.specs.declared.sign.Sign.TheVariants.{Open, Close, Comma, Dot, Colon, Plus, Minus, Times, Divide, Rest, Not, Assign, Equal, NotEqual, Less, LessEqual, Greater, GreaterEqual, And, Or}

-- how a sign is spelled
abbrev pub spelling : Sign → List ℕ
spelling Open = codes "("
spelling Close = codes ")"
spelling Comma = codes ","
spelling Dot = codes "."
spelling Colon = codes ":"
spelling Plus = codes "+"
spelling Minus = codes "-"
spelling Times = codes "*"
spelling Divide = codes "/"
spelling Rest = codes "%"
spelling Not = codes "!"
spelling Assign = codes "="
spelling Equal = codes "=="
spelling NotEqual = codes "!="
spelling Less = codes "<"
spelling LessEqual = codes "<="
spelling Greater = codes ">"
spelling GreaterEqual = codes ">="
spelling And = codes "&&"
spelling Or = codes "||"

-- a token, without its place
pub data Token : Type 0 where
  word : List ℕ → Token
  number : ℕ → Token
  sign : Sign → Token
  bad : Token

-- a token and the place of its first byte
pub record Placed : Type 0 where
  pub token : Token
  pub at : ℕ

-- a name of any length
abbrev pub is_word : List ℕ → Bool
is_word [] = false
is_word (b ∷ bytes) = is_name_start b && list_all is_name_byte bytes

-- decimal digits, at least one
abbrev pub is_digits : List ℕ → Bool
is_digits [] = false
is_digits (b ∷ bytes) = is_ascii_digit b && list_all is_ascii_digit bytes

-- the number that decimal digits spell
abbrev pub decimal : List ℕ → ℕ
decimal digits = fold (λ n d. 10 * n + (d - 48)) 0 digits

-- a number above 9223372036854775807 is known as 9223372036854775808
abbrev pub number_value : List ℕ → ℕ
number_value digits = min (decimal digits) (2 ^ 63)

-- these bytes are this token
abbrev pub IsToken : Token → List ℕ → Type 0
IsToken (word name) bytes = (is_word bytes ≡ true) × (name ≡ bytes)
IsToken (number n) bytes = (is_digits bytes ≡ true) × (n ≡ number_value bytes)
IsToken (sign s) bytes = bytes ≡ spelling s
IsToken bad bytes = ⊥

-- the first n bytes are the token, and no more of them are one
pub record IsLongest (t : Token) (n : ℕ) (text : List ℕ) : Type 0 where
  pub within : n ≤ length text
  pub token : IsToken t (take n text)
  pub longest : (m : ℕ) (other : Token) → m ≤ length text → IsToken other (take m text) → m ≤ n

abbrev pub IsSpace : ℕ → Type 0
IsSpace b = b ≡ 32

-- there is a byte, no space, and no front of the text is a token
pub record BeginsNone (text : List ℕ) : Type 0 where
  pub some : 0 < length text
  pub no_space : (d : ℕ) → slice_index_or text 0 d ≢ 32
  pub none : (m : ℕ) (other : Token) → m ≤ length text → IsToken other (take m text) → ⊥

-- the token takes the first n bytes; what is no token takes the rest of the text with it
abbrev pub Spans : Token → ℕ → List ℕ → Type 0
Spans (word name) n text = IsLongest (word name) n text
Spans (number v) n text = IsLongest (number v) n text
Spans (sign s) n text = IsLongest (sign s) n text
Spans bad n text = BeginsNone text × (n ≡ length text)

-- the token p, of n bytes, follows `gap` spaces in a text that begins at the place `from`
pub record Follows (from : ℕ) (text : List ℕ) (p : Placed) (gap n : ℕ) : Type 0 where
  pub within : gap ≤ length text
  pub spaces : All IsSpace (take gap text)
  pub place : p.at ≡ from + gap
  pub token : Spans p.token n (drop gap text)

-- a text that begins at the place `from` has these tokens and no others
abbrev pub AreTokens : ℕ → List ℕ → List Placed → Type 0
AreTokens from text [] = All IsSpace text
AreTokens from text (p ∷ ps) =
    (gap : ℕ) × (n : ℕ) × Follows from text p gap n × AreTokens (p.at + n) (drop n (drop gap text)) ps

-- the sign that two bytes spell
abbrev pub pair_of : ℕ → ℕ → Option Sign
pair_of a b =
    if b == 61 then
    (if a == 61 then Some Equal
    else (if a == 33 then Some NotEqual
    else (if a == 60 then Some LessEqual
    else (if a == 62 then Some GreaterEqual else None))))
    else (if a == b then
    (if a == 38 then Some And
    else (if a == 124 then Some Or else None))
    else None)

-- the sign that one byte spells
abbrev pub single_of : ℕ → Option Sign
single_of b =
    if b == 40 then Some Open
    else (if b == 41 then Some Close
    else (if b == 44 then Some Comma
    else (if b == 46 then Some Dot
    else (if b == 58 then Some Colon
    else (if b == 43 then Some Plus
    else (if b == 45 then Some Minus
    else (if b == 42 then Some Times
    else (if b == 47 then Some Divide
    else (if b == 37 then Some Rest
    else (if b == 33 then Some Not
    else (if b == 61 then Some Assign
    else (if b == 60 then Some Less
    else (if b == 62 then Some Greater
    else None)))))))))))))

-- the sign is the first n bytes, and no sign is more of them
abbrev pub IsLongestSign : Sign → ℕ → List ℕ → Type 0
IsLongestSign s n text =
    (n ≤ length text) × (take n text ≡ spelling s) × ((m : ℕ) (other : Sign) → m ≤ length text → take m text ≡ spelling other → m ≤ n)

-- no sign begins the text
abbrev pub BeginsNoSign : List ℕ → Type 0
BeginsNoSign text = (m : ℕ) (other : Sign) → m ≤ length text → take m text ≡ spelling other → ⊥

-- no two bytes in front are a sign
abbrev pub NoPair : List ℕ → Type 0
NoPair text = (s : Sign) → 1 < length text → take 2 text ≡ spelling s → ⊥
