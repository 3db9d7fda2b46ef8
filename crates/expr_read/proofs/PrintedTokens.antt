-- The tokens of a text that is put together from pieces, from its end on.
use Rattle.std.proofs.Common.{ℕ, ◌≡◌, ◌+◌, ◌-◌, ◌*◌, ◌^◌, ◌<◌, List, [], ◌∷◌, ◌++◌, Bool, true, false, ◌||◌, cond, eqb, length, get_or, map, Option, Some, None, refl, sym, ap, ◌∙◌, subst, arith, rules, add-zero, true≢false, min}
use Rattle.std.specs.Fmt.{decimal}
use Rattle.std.specs.List.{fold, list_all}
use Rattle.std.specs.Char.{is_ascii_digit}
use Rattle.std.proofs.Math.Nat.{min-eq_left}
use Rattle.std.proofs.Math.Seq.{take-append_seam, drop-append_seam}
use Rattle.std.proofs.lemmas.Bool.{and_parts, ltb-true}
use Rattle.std.proofs.lemmas.Fmt.{digits_decimal, digits_value-decimal, decimal_nonempty}
use Rattle.std.proofs.lemmas.List.{get_or_append_left, get_or-append-add, length-append}
use Rattle.std.proofs.lemmas.List.Elements.{All-get_or, All-nil}
use Rattle.std.proofs.lemmas.List.Sums.{AllPass-from_list_all}
use Rattle.std.proofs.lemmas.Str.Parse.{IsNumeralModel, IsDigitsTest, FoldsDigits, numerals_by_fold}
use Rattle.std.specs.Int.{is_in_range}
use Rattle.ent_types.specs.Names.{is_name, is_name_start, is_name_byte}
use Rattle.expr_tokens.specs.declared.sign.Sign.{Sign}
use Rattle.expr_tokens.specs.Tokens.{Token, word, number, sign, Placed, IsSpace, IsLongest, NoPair, Spans, AreTokens, number_value, pair_of, single_of, spelling}
use Rattle.expr_tokens.specs.Tokens as tokens
use Rattle.expr_tokens.specs.declared.sign.Sign.TheVariants as signs
use Rattle.expr_tokens.proofs.Fronts.{IsRun, longest_word, longest_number, longest_sign, longest_single, longest_pair, no_pair}
use Rattle.expr_tokens.proofs.Signs.{first_byte, pair_sound, single_sound}
use Rattle.expr_tokens.proofs.Texts.{after_space}

-- the text has these tokens, wherever it begins
pub record Lexes (text : List ℕ) (ts : List Token) : Type 0 where
  pub placed : (from : ℕ) → (ps : List Placed) × AreTokens from text ps × (map (λ p. p.token) ps ≡ ts)

-- no name and no number goes on with the text
abbrev pub Ends : List ℕ → Type 0
Ends text = is_name_byte (get_or text 0 0) ≡ false

pub lex_end : Lexes [] []
lex_end = record { placed = λ from. ([], All-nil IsSpace, refl) }

pub lex_space : {text : List ℕ} {ts : List Token} → Lexes text ts → Lexes (32 ∷ text) ts
lex_space {text = text} h = record { placed = λ from. let r = h.placed (from + 1) in (r.0, after_space from text r.0 r.1, r.2) }

lex_front : (t : Token) (w text : List ℕ) (ts : List Token) → Spans t (length w) (w ++ text) → Lexes text ts → Lexes (w ++ text) (t ∷ ts)
lex_front t w text ts spans h = record {
  placed = λ from.
      let r = h.placed (from + length w) in
      let p : Placed = record { token = t; at = from } in (
        p ∷ r.0,
        (
          0,
          length w,
          record { within = omega arith; spaces = All-nil IsSpace; place = omega arith; token = spans },
          subst (λ bytes. AreTokens (from + length w) bytes r.0) (sym (drop-append_seam w text)) r.1,
        ),
        ap (λ xs. t ∷ xs) r.2,
      );
}

run_of : (p : ℕ → Bool) (w text : List ℕ) → list_all p w ≡ true → p (get_or text 0 0) ≡ false → IsRun p (length w) (w ++ text)
run_of p w text all ends = record {
  within = omega (arith, length-append w text);
  same = λ k lt. ap p (get_or_append_left w text 0 k lt) ∙ All-get_or (λ b. p b ≡ true) w k 0 lt (AllPass-from_list_all p w all);
  stops = λ lt. ap p (sym (ap (λ k. get_or (w ++ text) k 0) (add-zero (length w))) ∙ get_or-append-add w text 0 0) ∙ ends;
}

front_of : (w text : List ℕ) → 0 < length w → get_or (w ++ text) 0 0 ≡ get_or w 0 0
front_of w text some = get_or_append_left w text 0 0 some

some_front : (w text : List ℕ) → 0 < length w → 0 < length (w ++ text)
some_front w text some = omega (arith, length-append w text)

pub lex_name : (w : List ℕ) {text : List ℕ} {ts : List Token} → is_name w ≡ true → Ends text → Lexes text ts → Lexes (w ++ text) (word w ∷ ts)
lex_name w {text = text} {ts = ts} name ends h =
    let sizes = and_parts _ _ (and_parts _ _ name).0 in
    let bytes = and_parts _ _ (and_parts _ _ name).1 in
    let some : 0 < length w = ltb-true 0 (length w) sizes.0 in
    lex_front (word w) w text ts
    (subst (λ v. IsLongest (word v) (length w) (w ++ text)) (take-append_seam w text)
    (longest_word (length w) (w ++ text) (some_front w text some) (ap is_name_start (front_of w text some) ∙ bytes.0) (run_of is_name_byte w text bytes.1 ends)))
    h

no_digit_of : (d u l e : Bool) → (((d || u) || l) || e) ≡ false → d ≡ false
no_digit_of true u l e h = absurd (true≢false h)
no_digit_of false u l e h = refl

no_digit : (b : ℕ) → is_name_byte b ≡ false → is_ascii_digit b ≡ false
no_digit b h = no_digit_of (is_in_range 48 57 b) (is_in_range 65 90 b) (is_in_range 97 122 b) (eqb b 95) h

-- ---- numbers
digits_test : IsDigitsTest (λ ds. list_all is_ascii_digit ds ≡ true)
digits_test = search rules

abbrev value_after : ℕ → List ℕ → ℕ
value_after n digits = fold (λ m d. 10 * m + (d - 48)) n digits

folds : FoldsDigits value_after
folds = search rules

own : IsNumeralModel (λ ds. list_all is_ascii_digit ds ≡ true) tokens.decimal
own = numerals_by_fold (λ ds. list_all is_ascii_digit ds ≡ true) digits_test value_after folds

value_is : (n : ℕ) → n < 2 ^ 63 → number_value (decimal n) ≡ n
value_is n small = ap (λ k. min k (2 ^ 63)) (digits_value-decimal own n (omega arith)) ∙ min-eq_left (omega arith)

digit_front : (w : List ℕ) → 0 < length w → list_all is_ascii_digit w ≡ true → is_ascii_digit (get_or w 0 0) ≡ true
digit_front w some all = All-get_or (λ b. is_ascii_digit b ≡ true) w 0 0 some (AllPass-from_list_all is_ascii_digit w all)

pub lex_number : (n : ℕ) {text : List ℕ} {ts : List Token} → n < 2 ^ 63 → Ends text → Lexes text ts → Lexes (decimal n ++ text) (number n ∷ ts)
lex_number n {text = text} {ts = ts} small ends h =
    let w : List ℕ = decimal n in
    let all : list_all is_ascii_digit w ≡ true = digits_decimal own n (omega arith) in
    let some : 0 < length w = decimal_nonempty n (omega arith) in
    lex_front (number n) w text ts
    (subst (λ k. IsLongest (number k) (length w) (w ++ text)) (ap number_value (take-append_seam w text) ∙ value_is n small)
    (longest_number (length w) (w ++ text) (some_front w text some) (ap is_ascii_digit (front_of w text some) ∙ digit_front w some all)
    (run_of is_ascii_digit w text all (no_digit (get_or text 0 0) ends))))
    h

-- ---- signs
lone_pair : (a : ℕ) (text : List ℕ) → pair_of a (get_or text 0 0) ≡ None → NoPair (a ∷ text)
lone_pair a [] e = λ s long is. absurd (omega arith)
lone_pair a (b ∷ rest) e = no_pair (a ∷ b ∷ rest) (omega arith) e

pub lex_single : (s : Sign) (a : ℕ) (text : List ℕ) (ts : List Token) → single_of a ≡ Some s → pair_of a (get_or text 0 0) ≡ None → Lexes text ts → Lexes (a ∷ text) (sign s ∷ ts)
lex_single s a text ts is alone h =
    let spelled : spelling s ≡ a ∷ [] = single_sound a s is in
    lex_front (sign s) (a ∷ []) text ts
    (longest_sign s 1 (a ∷ text)
    (record {
      start = sym (ap (λ xs. is_name_start (get_or xs 0 0)) spelled) ∙ (first_byte s).0;
      digit = sym (ap (λ xs. is_ascii_digit (get_or xs 0 0)) spelled) ∙ (first_byte s).1;
    })
    (longest_single s (a ∷ text) (omega arith) (lone_pair a text alone) is))
    h

pub lex_pair : (s : Sign) (a b : ℕ) (text : List ℕ) (ts : List Token) → pair_of a b ≡ Some s → Lexes text ts → Lexes (a ∷ b ∷ text) (sign s ∷ ts)
lex_pair s a b text ts is h =
    let spelled : spelling s ≡ a ∷ b ∷ [] = pair_sound a b s is in
    lex_front (sign s) (a ∷ b ∷ []) text ts
    (longest_sign s 2 (a ∷ b ∷ text)
    (record {
      start = sym (ap (λ xs. is_name_start (get_or xs 0 0)) spelled) ∙ (first_byte s).0;
      digit = sym (ap (λ xs. is_ascii_digit (get_or xs 0 0)) spelled) ∙ (first_byte s).1;
    })
    (longest_pair s (a ∷ b ∷ text) (omega arith) is))
    h

abbrev none : Option Sign
none = None

never : (x y : Bool) → cond x none (cond y none none) ≡ none
never true y = refl
never false true = refl
never false false = refl

pub lex_open : {text : List ℕ} {ts : List Token} → Lexes text ts → Lexes (40 ∷ text) (sign signs.Open ∷ ts)
lex_open {text = text} {ts = ts} h = lex_single signs.Open 40 text ts refl (never (eqb (get_or text 0 0) 61) (eqb 40 (get_or text 0 0))) h

pub lex_close : {text : List ℕ} {ts : List Token} → Lexes text ts → Lexes (41 ∷ text) (sign signs.Close ∷ ts)
lex_close {text = text} {ts = ts} h = lex_single signs.Close 41 text ts refl (never (eqb (get_or text 0 0) 61) (eqb 41 (get_or text 0 0))) h

-- a comma and a space
pub lex_comma : {text : List ℕ} {ts : List Token} → Lexes text ts → Lexes (44 ∷ 32 ∷ text) (sign signs.Comma ∷ ts)
lex_comma {text = text} {ts = ts} h = lex_single signs.Comma 44 (32 ∷ text) ts refl refl (lex_space h)

pub lex_dot : {text : List ℕ} {ts : List Token} → Lexes text ts → Lexes (46 ∷ text) (sign signs.Dot ∷ ts)
lex_dot {text = text} {ts = ts} h = lex_single signs.Dot 46 text ts refl (never (eqb (get_or text 0 0) 61) (eqb 46 (get_or text 0 0))) h

pub lex_colon : {text : List ℕ} {ts : List Token} → Lexes text ts → Lexes (58 ∷ text) (sign signs.Colon ∷ ts)
lex_colon {text = text} {ts = ts} h = lex_single signs.Colon 58 text ts refl (never (eqb (get_or text 0 0) 61) (eqb 58 (get_or text 0 0))) h
