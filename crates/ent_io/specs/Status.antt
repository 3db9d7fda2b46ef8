-- What a status says of the text and of the counts of faults.
use Rattle.std.specs.Prelude.{◌≡◌, ℕ, List, Option}
use Rattle.ent_io.specs.Count.{Rises}
use Rattle.ent_io.specs.Text.{appended, AppendsPrefix}
use Rattle.ent_io.specs.declared.end.Status.{Status}
use Rattle.ent_io.specs.declared.end.Status.TheVariants.{Done, BadWords, Refused, KeyShared, ReadFault, WriteFault, Memory}

-- at Done, BadWords, Refused and KeyShared the whole was appended, and at the others a prefix of it
abbrev pub StatusWrites : Status → List ℕ → Option (List ℕ) → Option (List ℕ) → Type 0
StatusWrites Done whole old new = new ≡ appended old whole
StatusWrites BadWords whole old new = new ≡ appended old whole
StatusWrites Refused whole old new = new ≡ appended old whole
StatusWrites KeyShared whole old new = new ≡ appended old whole
StatusWrites ReadFault whole old new = AppendsPrefix whole old new
StatusWrites WriteFault whole old new = AppendsPrefix whole old new
StatusWrites Memory whole old new = AppendsPrefix whole old new

-- The count of the store rises at ReadFault, and that of the sink at WriteFault. Each stays elsewhere.
abbrev pub StatusCauses : Status → ℕ → ℕ → ℕ → ℕ → Type 0
StatusCauses Done store_before store_now sink_before sink_now = (store_now ≡ store_before) × (sink_now ≡ sink_before)
StatusCauses BadWords store_before store_now sink_before sink_now = (store_now ≡ store_before) × (sink_now ≡ sink_before)
StatusCauses Refused store_before store_now sink_before sink_now = (store_now ≡ store_before) × (sink_now ≡ sink_before)
StatusCauses KeyShared store_before store_now sink_before sink_now = (store_now ≡ store_before) × (sink_now ≡ sink_before)
StatusCauses ReadFault store_before store_now sink_before sink_now = Rises store_before store_now × (sink_now ≡ sink_before)
StatusCauses WriteFault store_before store_now sink_before sink_now = (store_now ≡ store_before) × Rises sink_before sink_now
StatusCauses Memory store_before store_now sink_before sink_now = (store_now ≡ store_before) × (sink_now ≡ sink_before)
