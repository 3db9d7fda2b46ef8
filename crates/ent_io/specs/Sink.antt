-- What a call of a sink answers, and what a whole write answers.
use Rattle.std.specs.Prelude.{◌≡◌, ℕ, ◌<◌, ◌≤◌, List, length, take, Option, Result, Ok, Err}
use Rattle.ent_io.specs.Count.{Rises}
use Rattle.ent_io.specs.Text.{appended}
use Rattle.ent_io.specs.declared.writing.SinkEnd.{SinkEnd}
use Rattle.ent_io.specs.declared.writing.SinkEnd.TheVariants.{Failed, Memory}
use Rattle.ent_io.specs.declared.writing.WriteEnd.{WriteEnd}

-- At Ok the first n bytes of the piece were appended, and at least one where the piece has any. An error leaves
-- the text.
abbrev pub Takes : Result ℕ SinkEnd → List ℕ → Option (List ℕ) → Option (List ℕ) → Type 0
Takes (Ok n) piece old new = (n ≤ length piece) × (0 < length piece → 0 < n) × (new ≡ appended old (take n piece))
Takes (Err end) piece old new = new ≡ old

-- the count of faults rises where the cause is Failed, and stays where it is Memory
abbrev pub SinkCause : SinkEnd → ℕ → ℕ → Type 0
SinkCause Failed before now = Rises before now
SinkCause Memory before now = now ≡ before

-- the count of faults rises where the call failed, and stays elsewhere
abbrev pub SinkCauses : {T : Type 0} → Result T SinkEnd → ℕ → ℕ → Type 0
SinkCauses (Ok value) before now = now ≡ before
SinkCauses (Err cause) before now = SinkCause cause before now

-- the first `written` bytes were appended, and that isn't the whole piece
pub record StopsAt (end : WriteEnd) (piece : List ℕ) (old new : Option (List ℕ)) : Type 0 where
  pub short : end.written < length piece
  pub text : new ≡ appended old (take end.written piece)

-- the count of faults rises where the cause is Failed, and stays elsewhere
abbrev pub WriteCauses : {T : Type 0} → Result T WriteEnd → ℕ → ℕ → Type 0
WriteCauses (Ok value) before now = now ≡ before
WriteCauses (Err end) before now = SinkCause end.cause before now

-- a sink over the system: how often it failed, and what it has gathered and not yet handed on
pub record Gathers : Type 0 where
  pub faults : ℕ
  pub gathered : List ℕ
