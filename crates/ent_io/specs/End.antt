-- How a call below the top call ends, and the causes of each end.
use Rattle.std.specs.Prelude.{◌≡◌, ℕ, Result, Ok, Err}
use Rattle.ent_io.specs.Count.{Rises}
use Rattle.ent_io.specs.declared.end.End.{End}
use Rattle.ent_io.specs.declared.end.End.TheVariants.{ReadFault, WriteFault, Memory}
use Rattle.ent_io.specs.declared.end.TextEnd.{TextEnd}
use Rattle.ent_io.specs.declared.end.TextEnd.TheVariants.{WriteFault as TextFault, Memory as TextMemory}
use Rattle.ent_io.specs.declared.end.Status.{Status}
use Rattle.ent_io.specs.declared.end.Status.TheVariants.{ReadFault as StatusReadFault, WriteFault as StatusWriteFault, Memory as StatusMemory}
use Rattle.ent_io.specs.declared.writing.SinkEnd.{SinkEnd}
use Rattle.ent_io.specs.declared.writing.SinkEnd.TheVariants.{Failed, Memory as SinkMemory}
use Rattle.ent_io.specs.declared.reading.ReadEnd.{ReadEnd}
use Rattle.ent_io.specs.declared.reading.ReadEnd.TheVariants.{Absent as ReadAbsent, Fault, TooLong, Memory as ReadMemory}
use Rattle.ent_io.specs.declared.reading.Missing.{Missing}
use Rattle.ent_io.specs.declared.reading.Missing.TheVariants.{Absent as NotThere, TooLong as OverLong}

-- the count of the sink rises where the end is WriteFault, and stays where it is Memory
abbrev pub TextCause : TextEnd → ℕ → ℕ → Type 0
TextCause TextFault before now = Rises before now
TextCause TextMemory before now = now ≡ before

-- the count of the sink rises at WriteFault, and stays elsewhere
abbrev pub TextCauses : {T : Type 0} → Result T TextEnd → ℕ → ℕ → Type 0
TextCauses (Ok value) before now = now ≡ before
TextCauses (Err end) before now = TextCause end before now

-- The count of the store rises where the end is ReadFault, and that of the sink where it is WriteFault. Each stays
-- elsewhere.
abbrev pub Cause : End → ℕ → ℕ → ℕ → ℕ → Type 0
Cause ReadFault store_before store_now sink_before sink_now = Rises store_before store_now × (sink_now ≡ sink_before)
Cause WriteFault store_before store_now sink_before sink_now = (store_now ≡ store_before) × Rises sink_before sink_now
Cause Memory store_before store_now sink_before sink_now = (store_now ≡ store_before) × (sink_now ≡ sink_before)

-- The count of the store rises at ReadFault, and that of the sink at WriteFault. Each stays elsewhere. A call
-- without a store or without a sink has 0 for its counts, and so never the fault that would raise them.
abbrev pub Causes : {T : Type 0} → Result T End → ℕ → ℕ → ℕ → ℕ → Type 0
Causes (Ok value) store_before store_now sink_before sink_now = (store_now ≡ store_before) × (sink_now ≡ sink_before)
Causes (Err end) store_before store_now sink_before sink_now = Cause end store_before store_now sink_before sink_now

-- as the end of a call that writes lines
abbrev pub text_end_of : SinkEnd → TextEnd
text_end_of Failed = TextFault
text_end_of SinkMemory = TextMemory

-- as the end of a call that reads and writes
abbrev pub end_of : TextEnd → End
end_of TextFault = WriteFault
end_of TextMemory = Memory

-- as a status
abbrev pub status_of : End → Status
status_of ReadFault = StatusReadFault
status_of WriteFault = StatusWriteFault
status_of Memory = StatusMemory

-- which file is missing and why, or the end of the call that read it
abbrev pub missing_of : ReadEnd → Result Missing End
missing_of ReadAbsent = Ok NotThere
missing_of Fault = Err ReadFault
missing_of TooLong = Ok OverLong
missing_of ReadMemory = Err Memory
