-- The faults of a scenario: the names of their causes, and their paths.
use Rattle.std.specs.Prelude.{ℕ, ◌≡◌, List, [], ◌++◌, drop, codes, None, Result, Ok, Err}
use Rattle.std.specs.Fmt.{decimal}
use Rattle.ent_types.specs.declared.memory.Memory.{Memory as MemoryError}
use Rattle.scenario_record.specs.declared.fault.Cause.{Cause}
use Rattle.scenario_record.specs.declared.fault.Cause.TheVariants.{NotToml, UnknownKey, Missing, WrongType, TooMany, NumberRange, BadName, BadWord, UnknownName, BadKind, DuplicateName, WrongCount, BadShape, NotSibling, TooLarge, TooManyEntities, LookupOfWritten, Cycle, TooLong, BadChar, TooDeep, Unexpected, NotBuilt}
use Rattle.scenario_record.specs.declared.fault.BadScenario.{BadScenario}
use Rattle.scenario_record.specs.declared.fault.ScenarioFault.{ScenarioFault}
use Rattle.scenario_record.specs.declared.fault.ScenarioFault.TheVariants.{Bad, Memory}

-- the name of a cause
unfoldable pub cause_name : Cause → List ℕ
cause_name NotToml = codes "NotToml"
cause_name UnknownKey = codes "UnknownKey"
cause_name Missing = codes "Missing"
cause_name WrongType = codes "WrongType"
cause_name TooMany = codes "TooMany"
cause_name NumberRange = codes "NumberRange"
cause_name BadName = codes "BadName"
cause_name BadWord = codes "BadWord"
cause_name UnknownName = codes "UnknownName"
cause_name BadKind = codes "BadKind"
cause_name DuplicateName = codes "DuplicateName"
cause_name WrongCount = codes "WrongCount"
cause_name BadShape = codes "BadShape"
cause_name NotSibling = codes "NotSibling"
cause_name TooLarge = codes "TooLarge"
cause_name TooManyEntities = codes "TooManyEntities"
cause_name LookupOfWritten = codes "LookupOfWritten"
cause_name Cycle = codes "Cycle"
cause_name TooLong = codes "TooLong"
cause_name BadChar = codes "BadChar"
cause_name TooDeep = codes "TooDeep"
cause_name Unexpected = codes "Unexpected"
cause_name NotBuilt = codes "NotBuilt"

-- the fault of the very value that is read or tested
abbrev pub bad : Cause → BadScenario
bad cause = record { cause = cause; key = []; at = None }

-- the same fault, seen from the table with this key. Each key has a dot before it until the path is whole.
abbrev pub below_key : List ℕ → BadScenario → BadScenario
below_key key f = record { cause = f.cause; key = codes "." ++ (key ++ f.key); at = f.at }

-- the same fault, seen from the list with the value at this place
abbrev pub below_place : ℕ → BadScenario → BadScenario
below_place i f = record { cause = f.cause; key = codes "[" ++ (decimal i ++ (codes "]" ++ f.key)); at = f.at }

-- a path begins with its first key, without the dot before it
abbrev pub whole_fault : BadScenario → BadScenario
whole_fault f = record { cause = f.cause; key = drop 1 f.key; at = f.at }

-- the second fault is the first one, seen from further out; running out of memory is free
abbrev pub IsMoved : (BadScenario → BadScenario) → ScenarioFault → ScenarioFault → Type 0
IsMoved step (Bad b) (Bad f) = f ≡ step b
IsMoved step Memory (Bad f) = ⊥
IsMoved step (Bad b) Memory = Unit {0}
IsMoved step Memory Memory = Unit {0}

-- the second fault is the first one with this path, if there was memory for the path
abbrev pub IsAtPath : BadScenario → Result (List ℕ) MemoryError → ScenarioFault → Type 0
IsAtPath b (Ok path) f = f ≡ Bad (record { cause = b.cause; key = path; at = b.at })
IsAtPath b (Err e) f = f ≡ Memory
