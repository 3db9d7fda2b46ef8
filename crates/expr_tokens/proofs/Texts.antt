-- The tokens of a text, one after another.
use Rattle.std.proofs.Common.{ℕ, suc, ◌≡◌, ◌≤◌, ◌<◌, ◌+◌, List, [], ◌∷◌, ◌++◌, length, get_or, take, drop, map, refl, sym, ap, ◌∙◌, subst, arith, append_assoc}
use Rattle.std.proofs.lemmas.List.{drop-drop, drop_more}
use Rattle.std.proofs.lemmas.List.Elements.{All-cons, All-nil}
use Rattle.std.specs.Prelude.{◌-◌}
use Rattle.std.proofs.Common.{length-drop}
use Rattle.std.proofs.lemmas.List.{take_rest, append-nil, drop_all, map_push}
use Rattle.expr_tokens.specs.declared.token.Lexeme.{Lexeme}
use Rattle.expr_tokens.specs.Seen.{seen}
use Rattle.expr_tokens.specs.Tokens.{Token, word, number, sign, bad, Placed, IsSpace, Spans, AreTokens}

-- a space in front moves the tokens by one place
pub after_space : (from : ℕ) (text : List ℕ) (ps : List Placed) → AreTokens (from + 1) text ps → AreTokens from (32 ∷ text) ps
after_space from text [] all = All-cons IsSpace 32 text refl all
after_space from text (p ∷ ps) (gap, n, next, rest) = (
  suc gap,
  n,
  record {
    within = omega (arith, next.within);
    spaces = All-cons IsSpace 32 (take gap text) refl next.spaces;
    place = omega (arith, next.place);
    token = next.token;
  },
  rest,
)

pub skip_space : (at : ℕ) (text : List ℕ) (ps : List Placed) → at < length text → get_or text at 0 ≡ 32 → AreTokens (at + 1) (drop (at + 1) text) ps → AreTokens at (drop at text) ps
skip_space at text ps lt space rest =
    subst (λ bytes. AreTokens at bytes ps) (sym (drop_more text at 0 lt ∙ ap (λ b. b ∷ drop (at + 1) text) space)) (after_space at (drop (at + 1) text) ps rest)

-- a token in front of the tokens of the rest
pub take_token : (at n : ℕ) (text : List ℕ) (p : Placed) (ps : List Placed) → p.at ≡ at → Spans p.token n (drop at text) → AreTokens (at + n) (drop (at + n) text) ps → AreTokens at (drop at text) (p ∷ ps)
take_token at n text p ps place token rest = (
  0,
  n,
  record {
    within = omega arith;
    spaces = All-nil IsSpace;
    place = omega arith;
    token = token;
  },
  subst (λ k. AreTokens (k + n) (drop n (drop at text)) ps) (sym place) (subst (λ bytes. AreTokens (at + n) bytes ps) (sym (drop-drop n at text)) rest),
)

-- a token lies within its text
spans_within : (t : Token) (n : ℕ) (text : List ℕ) → Spans t n text → n ≤ length text
spans_within (word name) n text h = h.within
spans_within (number v) n text h = h.within
spans_within (sign s) n text h = h.within
spans_within bad n text h = omega (arith, h.1)

-- what is known of the tokens that were read, after one more
pub one_more : (whole : List ℕ) (out : List Lexeme) (l : Lexeme) (at n : ℕ) (text : List ℕ)
    → ((rest : List Placed) → AreTokens at (drop at text) rest → AreTokens 0 whole (map seen out ++ rest))
    → at < length text → l.at ≡ at → Spans (seen l).token n (take (length text - at) (drop at text))
    → (at + n ≤ length text) × ((rest : List Placed) → AreTokens (at + n) (drop (at + n) text) rest → AreTokens 0 whole (map seen (out ++ l ∷ []) ++ rest))
one_more whole out l at n text before lt place spans =
    let token : Spans (seen l).token n (drop at text) = subst (Spans (seen l).token n) (take_rest text at) spans in (
      omega (arith, spans_within (seen l).token n (drop at text) token, length-drop at text),
      λ rest follows. subst (λ ps. AreTokens 0 whole ps) (sym (ap (λ ps. ps ++ rest) (map_push seen out l) ∙ append_assoc (map seen out) (seen l ∷ []) rest))
          (before (seen l ∷ rest) (take_token at n text (seen l) rest place token follows)),
    )

-- at the end of the text no token is left
pub ended : (whole : List ℕ) (out : List Placed) (at : ℕ) (text : List ℕ)
    → ((rest : List Placed) → AreTokens at (drop at text) rest → AreTokens 0 whole (out ++ rest))
    → length text ≤ at → AreTokens 0 whole out
ended whole out at text before end =
    subst (AreTokens 0 whole) (append-nil out) (before [] (subst (λ bytes. AreTokens at bytes []) (sym (drop_all at text end)) (All-nil IsSpace)))
