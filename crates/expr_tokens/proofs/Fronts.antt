-- The first token of a text.
use Rattle.std.proofs.Common.{ℕ, zero, suc, ◌≡◌, ◌≤◌, ◌<◌, List, [], ◌∷◌, Bool, true, false, ◌||◌, eqb, length, get_or, take, Some, None, refl, sym, ap, ◌∙◌, subst, arith, ⊎_elim, length-take, length-take-le}
use Rattle.std.specs.List.{list_all}
use Rattle.std.specs.Prelude.{All}
use Rattle.std.proofs.lemmas.Bool.{and_parts, false≢true}
use Rattle.std.proofs.lemmas.Bool.Decides.{nat_tests}
use Rattle.std.proofs.lemmas.List.{get_or-take}
use Rattle.std.proofs.lemmas.List.Elements.{All-from_get_or, All-get_or}
use Rattle.std.proofs.lemmas.List.Sums.{AllPass-from_list_all, list_all-from_AllPass}
use Rattle.std.proofs.str.Laws.{order}
use Rattle.std.specs.Char.{is_ascii_digit}
use Rattle.std.specs.Int.{is_in_range}
use Rattle.ent_types.specs.Names.{is_name_start, is_name_byte}
use Rattle.expr_tokens.specs.declared.sign.Sign.{Sign}
use Rattle.expr_tokens.specs.Tokens.{Token, word, number, sign, bad, spelling, is_word, is_digits, number_value, IsToken, IsLongest, BeginsNone, IsLongestSign, BeginsNoSign}
use Rattle.expr_tokens.proofs.Signs.{front_byte, first_byte, lengths, pair_complete, pair_sound, single_complete, single_sound}
use Rattle.expr_tokens.specs.Tokens.{pair_of, single_of, NoPair}

-- the first n bytes pass the test, and the next doesn't
pub record IsRun (p : ℕ → Bool) (n : ℕ) (bytes : List ℕ) : Type 0 where
  pub within : n ≤ length bytes
  pub same : (k : ℕ) → k < n → p (get_or bytes k 0) ≡ true
  pub stops : n < length bytes → p (get_or bytes n 0) ≡ false

pub all_taken : (p : ℕ → Bool) (n : ℕ) (bytes : List ℕ) → n ≤ length bytes → ((k : ℕ) → k < n → p (get_or bytes k 0) ≡ true) → All (λ b. p b ≡ true) (take n bytes)
all_taken p n bytes within same =
    All-from_get_or (λ b. p b ≡ true) (take n bytes) 0
    (λ i lt. let below : i < n = omega (arith, length-take n bytes) in ap p (get_or-take n bytes i 0 below) ∙ same i below)

-- the bytes of a front that pass the test are no more than the run
at_most : (p : ℕ → Bool) (n m : ℕ) (bytes : List ℕ) → IsRun p n bytes → m ≤ length bytes → list_all p (take m bytes) ≡ true → m ≤ n
at_most p n m bytes run within all =
    ⊎_elim
    (λ more. absurd (false≢true (sym (run.stops (omega arith)) ∙ (sym (ap p (get_or-take m bytes n 0 more))
    ∙ All-get_or (λ b. p b ≡ true) (take m bytes) n 0 (let len = length-take-le m bytes within in omega arith) (AllPass-from_list_all p (take m bytes) all)))))
    (λ le. le) (order n m)

start_is_byte : (d u l e : Bool) → ((u || l) || e) ≡ true → (((d || u) || l) || e) ≡ true
start_is_byte true u l e h = refl
start_is_byte false u l e h = h

pub start_is_name : (b : ℕ) → is_name_start b ≡ true → is_name_byte b ≡ true
start_is_name b h = start_is_byte (is_in_range 48 57 b) (is_in_range 65 90 b) (is_in_range 97 122 b) (eqb b 95) h

word_bytes : (bytes : List ℕ) → is_word bytes ≡ true → list_all is_name_byte bytes ≡ true
word_bytes [] h = absurd (false≢true h)
word_bytes (b ∷ bytes) h =
    let both = and_parts (is_name_start b) (list_all is_name_byte bytes) h in
    let first : is_name_byte b ≡ true = start_is_name b both.0 in
    rw (first, both.1) refl

pub word_start : (bytes : List ℕ) → is_word bytes ≡ true → is_name_start (get_or bytes 0 0) ≡ true
word_start [] h = absurd (false≢true h)
word_start (b ∷ bytes) h = (and_parts (is_name_start b) (list_all is_name_byte bytes) h).0

pub digits_start : (bytes : List ℕ) → is_digits bytes ≡ true → is_ascii_digit (get_or bytes 0 0) ≡ true
digits_start [] h = absurd (false≢true h)
digits_start (b ∷ bytes) h = (and_parts (is_ascii_digit b) (list_all is_ascii_digit bytes) h).0

digits_all : (bytes : List ℕ) → is_digits bytes ≡ true → list_all is_ascii_digit bytes ≡ true
digits_all [] h = absurd (false≢true h)
digits_all (b ∷ bytes) h = h

as_word : (bytes : List ℕ) → 0 < length bytes → is_name_start (get_or bytes 0 0) ≡ true → list_all is_name_byte bytes ≡ true → is_word bytes ≡ true
as_word [] some start all = absurd (omega arith)
as_word (b ∷ bytes) some start all = rw (start, (and_parts (is_name_byte b) (list_all is_name_byte bytes) all).1) refl

as_digits : (bytes : List ℕ) → 0 < length bytes → list_all is_ascii_digit bytes ≡ true → is_digits bytes ≡ true
as_digits [] some all = absurd (omega arith)
as_digits (b ∷ bytes) some all = all

pub start_no_digit : (b : ℕ) → is_name_start b ≡ true → is_ascii_digit b ≡ true → ⊥
start_no_digit b start digit = grind (arith, nat_tests)

-- the first byte of a front is that of the text
pub first_of : (m : ℕ) (bytes : List ℕ) → 0 < m → get_or (take m bytes) 0 0 ≡ get_or bytes 0 0
first_of m bytes some = get_or-take m bytes 0 0 some

pub some_taken : (p : List ℕ → Bool) (m : ℕ) (bytes : List ℕ) → p [] ≡ false → p (take m bytes) ≡ true → 0 < m
some_taken p zero bytes none passes = absurd (false≢true (sym none ∙ passes))
some_taken p (suc m) bytes none passes = omega arith

pub longest_word : (n : ℕ) (bytes : List ℕ) → 0 < length bytes → is_name_start (get_or bytes 0 0) ≡ true → IsRun is_name_byte n bytes → IsLongest (word (take n bytes)) n bytes
longest_word n bytes some start run = record {
  within = run.within;
  token = (as_word (take n bytes) (let len = length-take-le n bytes run.within in omega (arith, positive)) (ap is_name_start (first_of n bytes positive) ∙ start) (list_all-from_AllPass is_name_byte (take n bytes) (all_taken is_name_byte n bytes run.within run.same)), refl);
  longest = others;
} where
  first_is_byte : is_name_byte (get_or bytes 0 0) ≡ true
  first_is_byte = start_is_name (get_or bytes 0 0) start

  positive : 0 < n
  positive = ⊎_elim (λ lt. lt) (λ none. let zero_n : n ≡ 0 = omega arith in absurd (false≢true (sym (run.stops (omega arith)) ∙ ap (λ i. is_name_byte (get_or bytes i 0)) zero_n ∙ first_is_byte))) (order 0 n)

  others : (m : ℕ) (other : Token) → m ≤ length bytes → IsToken other (take m bytes) → m ≤ n
  others m (word name) within is = at_most is_name_byte n m bytes run within (word_bytes (take m bytes) is.0)
  others m (number v) within is = absurd (start_no_digit (get_or bytes 0 0) start (sym (ap is_ascii_digit (first_of m bytes (some_taken is_digits m bytes refl is.0))) ∙ digits_start (take m bytes) is.0))
  others m (sign s) within is = absurd (false≢true (sym ((first_byte s).0) ∙ sym (ap is_name_start (front_byte s m bytes is)) ∙ start))
  others m bad within is = absurd is

pub longest_number : (n : ℕ) (bytes : List ℕ) → 0 < length bytes → is_ascii_digit (get_or bytes 0 0) ≡ true → IsRun is_ascii_digit n bytes → IsLongest (number (number_value (take n bytes))) n bytes
longest_number n bytes some digit run = record {
  within = run.within;
  token = (as_digits (take n bytes) (let len = length-take-le n bytes run.within in omega (arith, positive)) (list_all-from_AllPass is_ascii_digit (take n bytes) (all_taken is_ascii_digit n bytes run.within run.same)), refl);
  longest = others;
} where
  positive : 0 < n
  positive = ⊎_elim (λ lt. lt) (λ none. let zero_n : n ≡ 0 = omega arith in absurd (false≢true (sym (run.stops (omega arith)) ∙ ap (λ i. is_ascii_digit (get_or bytes i 0)) zero_n ∙ digit))) (order 0 n)

  others : (m : ℕ) (other : Token) → m ≤ length bytes → IsToken other (take m bytes) → m ≤ n
  others m (word name) within is = absurd (start_no_digit (get_or bytes 0 0) (sym (ap is_name_start (first_of m bytes (some_taken is_word m bytes refl is.0))) ∙ word_start (take m bytes) is.0) digit)
  others m (number v) within is = at_most is_ascii_digit n m bytes run within (digits_all (take m bytes) is.0)
  others m (sign s) within is = absurd (false≢true (sym ((first_byte s).1) ∙ sym (ap is_ascii_digit (front_byte s m bytes is)) ∙ digit))
  others m bad within is = absurd is

-- no name and no number begins here
pub record IsNoRun (bytes : List ℕ) : Type 0 where
  pub start : is_name_start (get_or bytes 0 0) ≡ false
  pub digit : is_ascii_digit (get_or bytes 0 0) ≡ false

other_is_sign : (bytes : List ℕ) (m : ℕ) (other : Token) → IsNoRun bytes → IsToken other (take m bytes) → (s : Sign) × (take m bytes ≡ spelling s)
other_is_sign bytes m (word name) clear is = absurd (false≢true (sym clear.start ∙ sym (ap is_name_start (first_of m bytes (some_taken is_word m bytes refl is.0))) ∙ word_start (take m bytes) is.0))
other_is_sign bytes m (number v) clear is = absurd (false≢true (sym clear.digit ∙ sym (ap is_ascii_digit (first_of m bytes (some_taken is_digits m bytes refl is.0))) ∙ digits_start (take m bytes) is.0))
other_is_sign bytes m (sign s) clear is = (s, is)
other_is_sign bytes m bad clear is = absurd is

pub longest_sign : (s : Sign) (n : ℕ) (bytes : List ℕ) → IsNoRun bytes → IsLongestSign s n bytes → IsLongest (sign s) n bytes
longest_sign s n bytes clear is = record {
  within = is.0;
  token = is.1;
  longest = λ m other within token. let found = other_is_sign bytes m other clear token in is.2 m found.0 within found.1;
}

pub begins_none : (bytes : List ℕ) → 0 < length bytes → (get_or bytes 0 0 ≡ 32 → ⊥) → IsNoRun bytes → BeginsNoSign bytes → BeginsNone bytes
begins_none [] some no_space clear none = absurd (omega arith)
begins_none (b ∷ bytes) some no_space clear none = record {
  some = some;
  no_space = λ d. no_space;
  none = λ m other within token. let found = other_is_sign (b ∷ bytes) m other clear token in none m found.0 within found.1;
}

-- a pair of bytes that is a sign is the longest sign
pub longest_pair : (s : Sign) (bytes : List ℕ) → 1 < length bytes → pair_of (get_or bytes 0 0) (get_or bytes 1 0) ≡ Some s → IsLongestSign s 2 bytes
longest_pair s [] some e = absurd (omega arith)
longest_pair s (a ∷ []) some e = absurd (omega arith)
longest_pair s (a ∷ b ∷ bytes) some e = (
  omega arith,
  sym (pair_sound a b s e),
  λ m other within is. omega (arith, ap length is, length-take-le m (a ∷ b ∷ bytes) within, (lengths other).1),
)

pub no_pair : (bytes : List ℕ) → 1 < length bytes → pair_of (get_or bytes 0 0) (get_or bytes 1 0) ≡ None → NoPair bytes
no_pair [] some e s long is = absurd (omega arith)
no_pair (a ∷ []) some e s long is = absurd (omega arith)
no_pair (a ∷ b ∷ bytes) some e s long is = let both = sym e ∙ pair_complete a b s is in cc

-- a front that is a sign is one byte
one_byte : (bytes : List ℕ) (m : ℕ) (s : Sign) → m ≤ length bytes → NoPair bytes → take m bytes ≡ spelling s → m ≡ 1
one_byte bytes m s within clear is =
    let len = length-take-le m bytes within in
    let same = ap length is in
    let bounds = lengths s in
    ⊎_elim (λ more. let two : m ≡ 2 = omega (arith, bounds.0, bounds.1) in absurd (clear s (omega arith) (subst (λ k. take k bytes ≡ spelling s) two is)))
    (λ few. omega (arith, bounds.0)) (order 1 m)

pub longest_single : (s : Sign) (bytes : List ℕ) → 0 < length bytes → NoPair bytes → single_of (get_or bytes 0 0) ≡ Some s → IsLongestSign s 1 bytes
longest_single s [] some clear e = absurd (omega arith)
longest_single s (a ∷ bytes) some clear e = (
  omega arith,
  sym (single_sound a s e),
  λ m other within is. omega (arith, one_byte (a ∷ bytes) m other within clear is),
)

pub no_sign : (bytes : List ℕ) → 0 < length bytes → NoPair bytes → single_of (get_or bytes 0 0) ≡ None → BeginsNoSign bytes
no_sign [] some clear e m s within is = absurd (omega arith)
no_sign (a ∷ bytes) some clear e m s within is =
    let one = one_byte (a ∷ bytes) m s within clear is in
    let front : take 1 (a ∷ bytes) ≡ spelling s = subst (λ k. take k (a ∷ bytes) ≡ spelling s) one is in
    let both = sym e ∙ single_complete a s front in cc
