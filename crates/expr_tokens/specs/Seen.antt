-- The definitions' token for each token of the code.
use Rattle.std.specs.Prelude.{ℕ, Bool}
use Rattle.std.specs.Char.{is_ascii_digit}
use Rattle.ent_types.specs.Names.{is_name_byte}
use Rattle.expr_tokens.specs.Tokens.{Token as Seen, word, number, sign, bad, Placed}
use Rattle.expr_tokens.specs.declared.token.Token.{Token}
use Rattle.expr_tokens.specs.declared.token.Token.TheVariants.{Word, Number, Sign, Bad}
use Rattle.expr_tokens.specs.declared.token.Lexeme.{Lexeme}
use Rattle.expr_tokens.specs.declared.lexer.Kind.{Kind}
use Rattle.expr_tokens.specs.declared.lexer.Kind.TheVariants.{Word as OfWord, Digits}

abbrev pub token_seen : Token → Seen
token_seen (Word bytes) = word bytes.now
token_seen (Number n) = number n
token_seen (Sign s) = sign s
token_seen Bad = bad

abbrev pub seen : Lexeme → Placed
seen l = record { token = token_seen l.token; at = l.at }

-- a byte of the kind
abbrev pub belongs : Kind → ℕ → Bool
belongs OfWord b = is_name_byte b
belongs Digits b = is_ascii_digit b
