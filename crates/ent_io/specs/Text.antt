-- What was written: a text that may not be told, a piece at its end, and a prefix of what was to be written.
use Rattle.std.specs.Prelude.{◌≡◌, ℕ, List, ◌++◌, Option, None, Some, Result, Ok, Err}

-- the text with the piece at its end; nothing is told where nothing was
abbrev pub appended : Option (List ℕ) → List ℕ → Option (List ℕ)
appended None piece = None
appended (Some text) piece = Some (text ++ piece)

-- a prefix of the whole was appended: the front, which leaves the rest
pub record AppendsPrefix (whole : List ℕ) (old new : Option (List ℕ)) : Type 0 where
  pub front : List ℕ
  pub rest : List ℕ
  pub split : whole ≡ front ++ rest
  pub text : new ≡ appended old front

-- at Ok the whole was appended, and at an error a prefix of it
abbrev pub Writes : {T E : Type 0} → Result T E → List ℕ → Option (List ℕ) → Option (List ℕ) → Type 0
Writes (Ok value) whole old new = new ≡ appended old whole
Writes (Err error) whole old new = AppendsPrefix whole old new

-- of the whole a front was appended, and this is left to write
pub record Leaves (whole left : List ℕ) (old new : Option (List ℕ)) : Type 0 where
  pub front : List ℕ
  pub split : whole ≡ front ++ left
  pub text : new ≡ appended old front
