-- how a set of types is kept: type t is the bit t of a number of 256 bits, cut into words of 64 bits, the lowest first
use Rattle.std.specs.Prelude.{◌≡◌, ℕ, zero, suc, ◌+◌, ◌*◌, ◌/◌, ◌%◌, ◌^◌, ◌<◌, ◌≤◌, ◌==◌, if◌then◌else◌, List, [], ◌∷◌, length, All}
use Rattle.std.specs.Int.{bit_at}
use Rattle.ent_types.specs.declared.limits.TheConstants.{MOST_TYPES}

-- the number that the words spell
abbrev pub number_of : List ℕ → ℕ
number_of [] = 0
number_of (word ∷ words) = word + 2 ^ 64 * number_of words

-- the places of the ones among the `count` lowest bits of a number, where the lowest bit is at place `at`
unfoldable pub ones_from : ℕ → ℕ → ℕ → List ℕ
ones_from at zero n = []
ones_from at (suc count) n = if n % 2 == 1 then at ∷ ones_from (at + 1) count (n / 2) else ones_from (at + 1) count (n / 2)

-- the types that the words hold
abbrev pub types_of : List ℕ → List ℕ
types_of words = ones_from 0 MOST_TYPES (number_of words)

-- there are four words of 64 bits
pub record IsWords (words : List ℕ) : Type 0 where
  pub four : length words ≡ 4
  pub within : All (λ w. w < 2 ^ 64) words

-- the number that has its ones at these places
abbrev pub number_with : List ℕ → ℕ
number_with [] = 0
number_with (x ∷ xs) = 2 ^ x + number_with xs

-- this many words of the number, the lowest first
abbrev pub words_from : ℕ → ℕ → List ℕ
words_from zero n = []
words_from (suc count) n = n % 2 ^ 64 ∷ words_from count (n / 2 ^ 64)

-- the words that hold these types
abbrev pub words_of : List ℕ → List ℕ
words_of types = words_from 4 (number_with types)

-- no bit of the word is set from `low` up to `high`
abbrev pub HasNoBit : ℕ → ℕ → ℕ → Type 0
HasNoBit word low high = (i : ℕ) → low ≤ i → i < high → bit_at word i ≡ 0

-- the bit at `place` is the lowest of the word that is set at `from` or above
pub record IsFirstBit (word from place : ℕ) : Type 0 where
  pub above : from ≤ place
  pub within : place < 64
  pub is_set : bit_at word place ≡ 1
  pub first : HasNoBit word from place
