-- What `parse` gives, in the words of `number_of`.
use Rattle.std.proofs.Common.{◌≡◌, ◌≢◌, ℕ, ◌+◌, ◌-◌, ◌*◌, ◌<◌, ◌^◌, true, List, [], ◌∷◌, length, get_or, fold, Result, Ok, Err, refl, arith, rules}
use Rattle.std.proofs.lemmas.Bool.Decides.{nat_tests}
use Rattle.std.proofs.lemmas.Grind.{common_steps}
use Rattle.std.proofs.lemmas.Str.Parse.{IsNumeralModel, numerals_by_fold, parse_plain}
use Rattle.std.specs.Str.{all_ascii_digits}
use Rattle.std.specs.Str.Parse.{ParsesUnsigned}
use Rattle.std.specs.Result.{OkIff, result_ok}
use Rattle.entsim_commands.specs.Words.{is_numeral, numeral_value, number_of}

abbrev value_from : ℕ → List ℕ → ℕ
value_from n digits = fold (λ m digit. 10 * m + (digit - 48)) n digits

-- the words of `number_of` for digits and their value
own : IsNumeralModel (λ digits. all_ascii_digits digits ≡ true) numeral_value
own = numerals_by_fold _ (search rules) value_from (search rules)

is_numeral-nonzero : (word : List ℕ) → 0 < length word → get_or word 0 0 ≢ 48 → is_numeral word ≡ all_ascii_digits word
is_numeral-nonzero [] some other = absurd (omega arith)
is_numeral-nonzero (digit ∷ []) some other = refl
is_numeral-nonzero (digit ∷ next ∷ digits) some other = grind (arith, common_steps)

-- the result of `parse`, where the word begins with neither 0 nor +
pub number_of-parsed : {E : Type 0} (word : List ℕ) (r : Result ℕ E) → get_or word 0 0 ≢ 48 → get_or word 0 0 ≢ 43 → ParsesUnsigned 64 10 word r → result_ok r ≡ number_of word
number_of-parsed {E = E} word r no_zero no_plus parsed = by_cases r (parse_plain own 64 word r parsed no_plus)
  where
    by_cases : (r : Result ℕ E) → OkIff r ((all_ascii_digits word ≡ true) × (0 < length word) × (numeral_value word < 2 ^ 64)) (numeral_value word) → result_ok r ≡ number_of word
    by_cases (Ok x) h = grind (arith, common_steps, nat_tests, h, is_numeral-nonzero word h.0.1 no_zero)
    by_cases (Err e) h = grind (arith, common_steps, nat_tests, h, is_numeral-nonzero word)
