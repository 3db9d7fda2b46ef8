-- The tokens that the function gives are those of the text.
use Rattle.std.proofs.Common.{ℕ, zero, suc, ◌≡◌, ◌<◌, ◌+◌, List, [], ◌∷◌, Bool, true, false, cond, eqb, get_or, drop, Option, Some, None, refl, sym, subst, arith}
use Rattle.std.specs.List.{prefix_len}
use Rattle.std.specs.Char.{is_ascii_digit}
use Rattle.std.proofs.lemmas.Bool.{false≢true, eqb-true, eq-eqb}
use Rattle.std.proofs.lemmas.List.Elements.{All-nil}
use Rattle.std.proofs.lemmas.List.Sums.{prefix_len_passes, prefix_len_stops, prefix_len-le-length}
use Rattle.ent_types.specs.Names.{is_name_start, is_name_byte}
use Rattle.expr_tokens.specs.declared.sign.Sign.{Sign}
use Rattle.expr_tokens.specs.Tokens.{word, number, number_value, IsSpace, Spans, NoPair, AreTokens, single_of}
use Rattle.expr_tokens.specs.Lexing.{Front, front, run_front, pair_in, sign_front, tokens_behind, tokens_of}
use Rattle.expr_tokens.proofs.Fronts.{IsRun, IsNoRun, start_is_name, longest_word, longest_number, longest_sign, longest_pair, longest_single, no_pair, no_sign, begins_none}
use Rattle.expr_tokens.proofs.Texts.{after_space}

-- one byte more that passes
longer : (p : ℕ → Bool) (n x : ℕ) (xs : List ℕ) → p x ≡ true → IsRun p n xs → IsRun p (suc n) (x ∷ xs)
longer p n x xs first run = record { within = omega (arith, run.within); same = passes; stops = λ lt. run.stops (omega (arith, lt)) } where
  passes : (k : ℕ) → k < suc n → p (get_or (x ∷ xs) k 0) ≡ true
  passes zero lt = first
  passes (suc k) lt = run.same k (omega (arith, lt))

-- the bytes in front that pass are the longest run
is_run : (p : ℕ → Bool) (xs : List ℕ) → IsRun p (prefix_len p xs) xs
is_run p xs = record {
  within = prefix_len-le-length p xs;
  same = λ k lt. prefix_len_passes p xs k 0 lt;
  stops = λ lt. prefix_len_stops p xs 0 lt;
}

module _ (b : ℕ) (bytes : List ℕ) (no_space : b ≡ 32 → ⊥) where
  -- the token takes its bytes of the text
  abbrev Stands : Front → Type 0
  Stands f = Spans f.token (suc f.more) (b ∷ bytes)

  lone : (xs : List ℕ) → pair_in b xs ≡ None → NoPair (b ∷ xs)
  lone [] e = λ s long is. absurd (omega (arith, long))
  lone (c ∷ xs) e = no_pair (b ∷ c ∷ xs) (omega arith) e

  double : (s : Sign) (xs : List ℕ) → IsNoRun (b ∷ xs) → pair_in b xs ≡ Some s → Spans (sign_front (Some s) None xs).token 2 (b ∷ xs)
  double s [] clear e = absurd (let none : None ≡ Some s = e in cc)
  double s (c ∷ xs) clear e = longest_sign s 2 (b ∷ c ∷ xs) clear (longest_pair s (b ∷ c ∷ xs) (omega arith) e)

  sign_stands : (pair single : Option Sign) → IsNoRun (b ∷ bytes) → pair_in b bytes ≡ pair → single_of b ≡ single → Stands (sign_front pair single bytes)
  sign_stands (Some s) single clear is alone = double s bytes clear is
  sign_stands None (Some s) clear is alone = longest_sign s 1 (b ∷ bytes) clear (longest_single s (b ∷ bytes) (omega arith) (lone bytes is) alone)
  sign_stands None None clear is alone = (begins_none (b ∷ bytes) (omega arith) no_space clear (no_sign (b ∷ bytes) (omega arith) (lone bytes is) alone), refl)

  word_stands : is_name_start b ≡ true → Stands (run_front word is_name_byte b bytes)
  word_stands start = longest_word (suc (prefix_len is_name_byte bytes)) (b ∷ bytes) (omega arith) start (longer is_name_byte _ b bytes (start_is_name b start) (is_run is_name_byte bytes))

  number_stands : is_ascii_digit b ≡ true → Stands (run_front (λ digits. number (number_value digits)) is_ascii_digit b bytes)
  number_stands digit = longest_number (suc (prefix_len is_ascii_digit bytes)) (b ∷ bytes) (omega arith) digit (longer is_ascii_digit _ b bytes digit (is_run is_ascii_digit bytes))

  front_stands : Stands (front b bytes)
  front_stands = by (is_name_start b) (is_ascii_digit b) refl refl where
    by : (start digit : Bool) → is_name_start b ≡ start → is_ascii_digit b ≡ digit
        → Stands (cond start (run_front word is_name_byte b bytes) (cond digit (run_front (λ digits. number (number_value digits)) is_ascii_digit b bytes) (sign_front (pair_in b bytes) (single_of b) bytes)))
    by true digit s d = word_stands s
    by false true s d = number_stands d
    by false false s d = sign_stands (pair_in b bytes) (single_of b) (record { start = s; digit = d }) refl refl

lexed : (more from at : ℕ) (text : List ℕ) → at ≡ from + more → AreTokens at (drop more text) (tokens_behind more from text)
lexed zero from at [] place = All-nil IsSpace
lexed (suc more) from at [] place = All-nil IsSpace
lexed (suc more) from at (b ∷ bytes) place = lexed more (from + 1) at bytes (omega (arith, place))
lexed zero from at (b ∷ bytes) place =
    by (eqb b 32) (eqb-true b 32) (eq-eqb b 32) (lexed zero (from + 1) (at + 1) bytes (omega (arith, place))) (lexed (front b bytes).more (from + 1) (from + suc (front b bytes).more) bytes (omega arith)) where
      by : (x : Bool) → (x ≡ true → b ≡ 32) → (b ≡ 32 → x ≡ true) → AreTokens (at + 1) bytes (tokens_behind 0 (from + 1) bytes)
          → AreTokens (from + suc (front b bytes).more) (drop (front b bytes).more bytes) (tokens_behind (front b bytes).more (from + 1) bytes)
          → AreTokens at (b ∷ bytes) (cond x (tokens_behind 0 (from + 1) bytes) (record { token = (front b bytes).token; at = from } ∷ tokens_behind (front b bytes).more (from + 1) bytes))
      by true says back after next = subst (λ c. AreTokens at (c ∷ bytes) (tokens_behind 0 (from + 1) bytes)) (sym (says refl)) (after_space at bytes _ after)
      by false says back after next = (
        0,
        suc (front b bytes).more,
        record {
          within = omega arith;
          spaces = All-nil IsSpace;
          place = omega (arith, place);
          token = front_stands b bytes (λ space. false≢true (back space));
        },
        next,
      )

-- the tokens of a text
pub are_tokens : (text : List ℕ) → AreTokens 0 text (tokens_of text)
unfolding tokens_of
are_tokens text = lexed 0 0 0 text (omega arith)
