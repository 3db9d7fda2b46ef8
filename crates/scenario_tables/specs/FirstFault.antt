-- Readings one after the other, of which the first fault counts.
use Rattle.std.specs.Prelude.{◌≡◌, Option, None, Some, Result, Ok, Err}
use Rattle.scenario_record.specs.declared.fault.ScenarioFault.{ScenarioFault}
use Rattle.scenario_record.specs.Readings.{Reading, IsDue, Answers}

-- what is read where no fault comes before it; after a fault nothing is
abbrev pub IsRead : {A : Type 0} → Reading A → Option ScenarioFault → Option ScenarioFault → A → Type 0
IsRead meant None None found = meant ≡ Ok found
IsRead meant None (Some f) found = IsDue meant f
IsRead meant (Some f) after found = after ≡ Some f

-- a reading between two moments, each with the first fault so far
pub record Reads {A : Type 0} (meant : Reading A) (before after : Option ScenarioFault) (found : A) : Type 0 where
  pub is : IsRead meant before after found

-- a step to this state, or its first fault
abbrev pub StepsTo : {A B : Type 0} → Reading A → A → Result B ScenarioFault → Type 0
StepsTo meant after (Ok _) = meant ≡ Ok after
StepsTo meant after (Err f) = IsDue meant f

-- the answer where the first fault so far is this one, and this answer comes after it
abbrev pub IsSettled : {A : Type 0} → Option ScenarioFault → Result A ScenarioFault → Result A ScenarioFault → Type 0
IsSettled None next result = result ≡ next
IsSettled (Some f) next result = result ≡ Err f

-- what is left of a reading has this answer
abbrev pub IsLeft : {A : Type 0} → Option ScenarioFault → Reading A → Result A ScenarioFault → Type 0
IsLeft None meant result = Answers meant result
IsLeft (Some f) meant result = result ≡ Err f

pub record Left {A : Type 0} (before : Option ScenarioFault) (meant : Reading A) (result : Result A ScenarioFault) : Type 0 where
  pub is : IsLeft before meant result
