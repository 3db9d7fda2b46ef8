-- What is read of a scenario, or its first fault: how readings follow each other, and what a function answers.
use Rattle.std.specs.Prelude.{ℕ, ◌≡◌, List, [], ◌∷◌, Option, None, Some, Result, Ok, Err, Bool, if◌then◌else◌}
use Rattle.scenario_record.specs.declared.fault.Cause.{Cause}
use Rattle.scenario_record.specs.declared.fault.BadScenario.{BadScenario}
use Rattle.scenario_record.specs.declared.fault.ScenarioFault.{ScenarioFault}
use Rattle.scenario_record.specs.declared.fault.ScenarioFault.TheVariants.{Bad, Memory}
use Rattle.scenario_record.specs.Faults.{bad, below_key, below_place, whole_fault, IsMoved}

-- what is read, or its first fault
abbrev pub Reading : Type 0 → Type 0
Reading A = Result A BadScenario

-- what is read under a key, seen from the table
abbrev pub under : {A : Type 0} → List ℕ → Reading A → Reading A
under key (Ok x) = Ok x
under key (Err f) = Err (below_key key f)

-- what is read at a place, seen from the list
abbrev pub at_place : {A : Type 0} → ℕ → Reading A → Reading A
at_place i (Ok x) = Ok x
at_place i (Err f) = Err (below_place i f)

-- what is read, seen from the whole scenario
abbrev pub whole_path : {A : Type 0} → Reading A → Reading A
whole_path (Ok x) = Ok x
whole_path (Err f) = Err (whole_fault f)

-- ---- readings in order

-- first the one, and then the other with what it gave
infixr 2 ◌>>=◌
abbrev pub ◌>>=◌ : {A B : Type 0} → Reading A → (A → Reading B) → Reading B
◌>>=◌ (Ok x) next = next x
◌>>=◌ (Err f) next = Err f

-- what is read, changed
abbrev pub changed : {A B : Type 0} → (A → B) → Reading A → Reading B
changed f (Ok x) = Ok (f x)
changed f (Err fault) = Err fault

-- first a test, which may have a fault
abbrev pub unless : {A : Type 0} → Option BadScenario → Reading A → Reading A
unless None next = next
unless (Some f) next = Err f

-- a value that may not be there
abbrev pub or_fault : {A : Type 0} → Cause → Option A → Reading A
or_fault cause None = Err (bad cause)
or_fault cause (Some x) = Ok x

-- the fault of a value for which this holds
abbrev pub fault_if : Bool → Cause → Option BadScenario
fault_if b cause = if b then Some (bad cause) else None

-- ---- answers

-- this fault is the one that is due; running out of memory is free
abbrev pub IsDue : {A : Type 0} → Reading A → ScenarioFault → Type 0
IsDue meant (Bad b) = meant ≡ Err b
IsDue meant Memory = Unit {0}

-- the answer is what is meant
abbrev pub Answers : {A : Type 0} → Reading A → Result A ScenarioFault → Type 0
Answers meant (Ok x) = meant ≡ Ok x
Answers meant (Err fault) = IsDue meant fault

-- the same of a test
abbrev pub Passes : {A : Type 0} → Option BadScenario → Result A ScenarioFault → Type 0
Passes meant (Ok x) = meant ≡ None
Passes meant (Err (Bad b)) = meant ≡ Some b
Passes meant (Err Memory) = Unit {0}

-- the same, where the value of what was read is meant
abbrev pub AnswersAs : {A B : Type 0} → (A → B) → Reading B → Result A ScenarioFault → Type 0
AnswersAs value meant (Ok x) = meant ≡ Ok (value x)
AnswersAs value meant (Err fault) = IsDue meant fault

-- the second answer is the first one, its fault seen from further out
abbrev pub IsSeen : {A : Type 0} → (BadScenario → BadScenario) → Result A ScenarioFault → Result A ScenarioFault → Type 0
IsSeen step (Ok x) (Ok y) = x ≡ y
IsSeen step (Ok x) (Err g) = ⊥
IsSeen step (Err f) (Ok y) = ⊥
IsSeen step (Err f) (Err g) = IsMoved step f g
