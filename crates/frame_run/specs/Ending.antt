-- How a run ends: with which text and which status.
use Rattle.std.specs.Prelude.{◌≡◌, ℕ, List, ◌++◌, Option, Result, Ok, Err}
use Rattle.ent_io.specs.End.{TextCause}
use Rattle.ent_io.specs.Text.{appended, AppendsPrefix}
use Rattle.ent_io.specs.declared.end.Status.{Status}
use Rattle.ent_io.specs.declared.end.Status.TheVariants.{Done, BadWords, Refused, KeyShared, ReadFault, WriteFault, Memory}
use Rattle.run_model.specs.Frames.{End, Finished, AtSharedKey}
use Rattle.world_text.specs.Lines.{lines_text, world_text}
use Rattle.frame_run.specs.declared.ends.RunEnd.{RunEnd}

-- the lines of the run, and after the last frame those of the world
abbrev pub end_text : ℕ → End → List ℕ
end_text frames (Finished lines w) = lines_text lines ++ world_text frames w
end_text frames (AtSharedKey lines) = lines_text lines

abbrev pub end_status : End → Status
end_status (Finished lines w) = Done
end_status (AtSharedKey lines) = KeyShared

-- the status is that of the end, and its whole text was appended
abbrev pub HasEnded : ℕ → End → Status → Option (List ℕ) → Option (List ℕ) → Type 0
HasEnded frames end status old new = (status ≡ end_status end) × (new ≡ appended old (end_text frames end))

-- The text of the end was appended with its status; or a prefix of it, where the store or the sink failed or memory ran out.
abbrev pub EndsAs : ℕ → End → Status → Option (List ℕ) → Option (List ℕ) → Type 0
EndsAs frames end Done old new = HasEnded frames end Done old new
EndsAs frames end BadWords old new = ⊥
EndsAs frames end Refused old new = ⊥
EndsAs frames end KeyShared old new = HasEnded frames end KeyShared old new
EndsAs frames end ReadFault old new = AppendsPrefix (end_text frames end) old new
EndsAs frames end WriteFault old new = AppendsPrefix (end_text frames end) old new
EndsAs frames end Memory old new = AppendsPrefix (end_text frames end) old new

-- the count of the sink rises where the cause is a fault of it, and stays elsewhere
abbrev pub RunCauses : {T : Type 0} → Result T RunEnd → ℕ → ℕ → Type 0
RunCauses (Ok value) before now = now ≡ before
RunCauses (Err end) before now = TextCause end.cause before now
