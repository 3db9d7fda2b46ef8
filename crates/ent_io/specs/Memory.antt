-- Files and a text in memory, with calls that are to fail.
use Rattle.std.specs.Prelude.{ℕ, ◌+◌, ◌-◌, ◌^◌, ◌==◌, min, Bool, if◌then◌else◌, List, length, Option, None, Some, Result, Ok, Err, Vec, String, string_bytes, map}
use Rattle.std.specs.declared.alloc.Global.{Global}
use Rattle.std.specs.List.{list_any}
use Rattle.std.specs.Map.{lookup}
use Rattle.std.specs.Str.{bytes_eq}
use Rattle.ent_io.specs.declared.reading.StoreFault.{StoreFault}
use Rattle.ent_io.specs.declared.reading.StoreFault.TheVariants.{Absent, Failed}

-- the numbers of the calls that are to fail, how many calls were made, and how many failed
pub record CallCounts : Type 0 where
  pub failing : List ℕ
  pub made : ℕ
  pub faults : ℕ

-- no call was made yet
abbrev pub unused : List ℕ → CallCounts
unused failing = record { failing = failing; made = 0; faults = 0 }

-- The number of the next call, from 1. Every call past the last number has that number too.
abbrev pub next_number : CallCounts → ℕ
next_number calls = min (calls.made + 1) (2 ^ 64 - 1)

-- whether the next call fails
abbrev pub next_fails : CallCounts → Bool
next_fails calls = list_any (λ number. number == next_number calls) calls.failing

-- after the next call
abbrev pub after_next : CallCounts → CallCounts
after_next calls = record {
  failing = calls.failing;
  made = next_number calls;
  faults = if next_fails calls then min (calls.faults + 1) (2 ^ 64 - 1) else calls.faults;
}

-- how many of n bytes a call gives or takes: all of them, or at most one
abbrev pub share_of : Bool → ℕ → ℕ
share_of by_one n = if by_one then min 1 n else n

-- files by name, whether a call gives at most one byte, and the calls
pub record FilesInMemory : Type 0 where
  pub files : List (List ℕ × List ℕ)
  pub by_one : Bool
  pub calls : CallCounts

-- files as they are handed in
abbrev pub named_files : List (String Global × Vec ℕ Global) → List (List ℕ × List ℕ)
named_files files = map (λ file. (string_bytes file.0, file.1.items)) files

-- the first file of that name
abbrev pub file_in : List (List ℕ × List ℕ) → List ℕ → Option (List ℕ)
file_in files name = lookup (λ key. bytes_eq key name) files

-- what a call gives of a file, from a place on and into a buffer of that length, where it doesn't fail
abbrev pub given_of : Option (List ℕ) → Bool → ℕ → ℕ → Result ℕ StoreFault
given_of None by_one from space = Err Absent
given_of (Some bytes) by_one from space = Ok (share_of by_one (min (length bytes - from) space))

-- what the next call answers
abbrev pub next_answer : FilesInMemory → List ℕ → ℕ → ℕ → Result ℕ StoreFault
next_answer store name from space = if next_fails store.calls then Err Failed else given_of (file_in store.files name) store.by_one from space

-- the text so far, whether a call takes at most one byte, and the calls
pub record TextInMemory : Type 0 where
  pub text : List ℕ
  pub by_one : Bool
  pub calls : CallCounts
