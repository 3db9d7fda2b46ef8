-- What contracts see of the elements of a buffer.
use Rattle.std.specs.Prelude.{ℕ, ◌+◌, ◌*◌, ◌/◌, ◌≤◌, ◌≡◌, List, length, refl}
use Rattle.buffer_store.specs.declared.elements.TheConstants.{MOST_WIDTH}
use Rattle.std.specs.Coded.{Coded, code_by, coded×, coded_list, coded_ℕ}

-- how many values an element has, and the values of all elements, one element after another
pub record Buffer (T : Type 0) : Type 0 where
  pub width : ℕ
  pub values : List T

module _ {T : Type 0} where
  abbrev pub buffer : ℕ → List T → Buffer T
  buffer width values = record { width = width; values = values }

  abbrev pub buffer_code : Coded T → Coded (Buffer T)
  buffer_code c = code_by (ℕ × List T) (coded× coded_ℕ (coded_list c)) (λ b. (b.width, b.values)) (λ p. buffer p.0 p.1) (λ _. refl)

  -- the number of elements
  abbrev pub count_of : Buffer T → ℕ
  count_of b = length b.values / b.width

  -- the place of a value of an element among all values
  abbrev pub place_of : Buffer T → ℕ → ℕ → ℕ
  place_of b element field = element * b.width + field

-- The values are those of whole elements, of which there are at most `limit`. An element has 1 to MOST_WIDTH values.
pub record IsWhole (width count limit size : ℕ) : Type 0 where
  pub some : 1 ≤ width
  pub narrow : width ≤ MOST_WIDTH
  pub few : count ≤ limit
  pub whole : size ≡ count * width
