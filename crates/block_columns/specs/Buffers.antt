-- The buffers of one type.
use Rattle.std.specs.Prelude.{ℕ, ◌≡◌, List, [], ◌∷◌, map}
use Rattle.ent_types.specs.declared.value.Value.{Value}
use Rattle.buffer_store.specs.Buffers.{Buffer}

-- how many values an element has, for how many rows there is room, and the values of each row's elements
pub record BuffersState : Type 0 where
  pub width : ℕ
  pub room : ℕ
  pub lists : List (List Value)

-- the values of each row's elements
abbrev pub lists_of : List (Buffer Value) → List (List Value)
lists_of rows = map (λ b. b.values) rows

-- each row's elements have this width
abbrev pub HaveWidth : ℕ → List (Buffer Value) → Type 0
HaveWidth width [] = Unit {0}
HaveWidth width (b ∷ bs) = (b.width ≡ width) × HaveWidth width bs
