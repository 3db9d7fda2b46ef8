-- What a call of a store answers, and what a whole read answers.
use Rattle.std.specs.Prelude.{◌≡◌, ℕ, ◌<◌, ◌≤◌, nat_le, Bool, true, false, List, length, take, drop, if◌then◌else◌, Option, None, Some, IfSome, IsSomeAnd, Result, Ok, Err, Vec}
use Rattle.std.specs.declared.alloc.Global.{Global}
use Rattle.ent_io.specs.Count.{Rises}
use Rattle.ent_io.specs.declared.reading.StoreFault.{StoreFault}
use Rattle.ent_io.specs.declared.reading.StoreFault.TheVariants.{Absent, Failed, Memory}
use Rattle.ent_io.specs.declared.reading.ReadEnd.{ReadEnd}
use Rattle.ent_io.specs.declared.reading.ReadEnd.TheVariants.{Absent as ReadAbsent, Fault, TooLong, Memory as ReadMemory}
use Rattle.ent_io.specs.declared.reading.Missing.{Missing}
use Rattle.ent_io.specs.declared.reading.Missing.TheVariants.{Absent as NotThere, TooLong as OverLong}

-- The first n bytes of the buffer are those of the file from that place on. There are none only where the buffer
-- is empty or the place is at or past the file's end.
pub record IsPieceOf (file : List ℕ) (from n : ℕ) (buffer : List ℕ) : Type 0 where
  pub bytes : take n buffer ≡ take n (drop from file)
  pub some : 0 < length buffer → from < length file → 0 < n

-- what a call answers, by what is told of the name
abbrev pub ReadsFile : Option (Option (List ℕ)) → ℕ → List ℕ → Result ℕ StoreFault → Type 0
ReadsFile told from buffer (Ok n) = IfSome told (λ file. IsSomeAnd file (λ bytes. IsPieceOf bytes from n buffer))
ReadsFile told from buffer (Err Absent) = IfSome told (λ file. file ≡ None)
ReadsFile told from buffer (Err Failed) = Unit {0}
ReadsFile told from buffer (Err Memory) = Unit {0}

-- the count of faults rises where the cause is Failed, and stays elsewhere
abbrev pub FaultCause : StoreFault → ℕ → ℕ → Type 0
FaultCause Absent before now = now ≡ before
FaultCause Failed before now = Rises before now
FaultCause Memory before now = now ≡ before

-- the count of faults rises where the call failed, and stays elsewhere
abbrev pub StoreCauses : {T : Type 0} → Result T StoreFault → ℕ → ℕ → Type 0
StoreCauses (Ok value) before now = now ≡ before
StoreCauses (Err fault) before now = FaultCause fault before now

-- what a whole read gives of a file under a limit: its bytes, or why it can't be had
abbrev pub whole_of : ℕ → Option (List ℕ) → Result (List ℕ) Missing
whole_of limit None = Err NotThere
whole_of limit (Some bytes) = if nat_le (length bytes) limit then Ok bytes else Err OverLong

-- the bytes are a front of the file, where it is told and there
abbrev pub IsFrontOf : Option (Option (List ℕ)) → List ℕ → Type 0
IsFrontOf told bytes = (file : List ℕ) → told ≡ Some (Some file) → take (length bytes) file ≡ bytes

-- One step of a whole read, from the bytes that it has. At true it has more of them and not too many; at false they
-- are all.
abbrev pub ReadsMore : Option (Option (List ℕ)) → ℕ → List ℕ → List ℕ → Result Bool ReadEnd → Type 0
ReadsMore told limit old new (Ok true) = (length old < length new) × (length new ≤ limit) × IsFrontOf told new
ReadsMore told limit old new (Ok false) = (new ≡ old) × IfSome told (λ file. file ≡ Some new)
ReadsMore told limit old new (Err ReadAbsent) = IfSome told (λ file. file ≡ None)
ReadsMore told limit old new (Err Fault) = Unit {0}
ReadsMore told limit old new (Err TooLong) = IfSome told (λ file. IsSomeAnd file (λ bytes. limit < length bytes))
ReadsMore told limit old new (Err ReadMemory) = Unit {0}

-- what a whole read answers, by what is told of the name
abbrev pub ReadsWhole : Option (Option (List ℕ)) → ℕ → Result (Vec ℕ Global) ReadEnd → Type 0
ReadsWhole told limit (Ok v) = (length v.items ≤ limit) × IfSome told (λ file. whole_of limit file ≡ Ok v.items)
ReadsWhole told limit (Err ReadAbsent) = IfSome told (λ file. whole_of limit file ≡ Err NotThere)
ReadsWhole told limit (Err Fault) = Unit {0}
ReadsWhole told limit (Err TooLong) = IfSome told (λ file. whole_of limit file ≡ Err OverLong)
ReadsWhole told limit (Err ReadMemory) = Unit {0}

-- the count of faults rises where the answer is Fault, and stays elsewhere
abbrev pub ReadCauses : {T : Type 0} → Result T ReadEnd → ℕ → ℕ → Type 0
ReadCauses (Ok value) before now = now ≡ before
ReadCauses (Err ReadAbsent) before now = now ≡ before
ReadCauses (Err Fault) before now = Rises before now
ReadCauses (Err TooLong) before now = now ≡ before
ReadCauses (Err ReadMemory) before now = now ≡ before
