-- How faults are seen from further out, and tests without a fault.
use Rattle.std.proofs.Common.{◌≡◌, ℕ, List, ◌∷◌, Option, None, Some, Err, refl, sym, ap, ◌∙◌}
use Rattle.scenario_record.specs.declared.fault.Cause.{Cause}
use Rattle.scenario_record.specs.declared.fault.BadScenario.{BadScenario}
use Rattle.scenario_record.specs.declared.fault.ScenarioFault.{ScenarioFault}
use Rattle.scenario_record.specs.declared.fault.ScenarioFault.TheVariants.{Bad, Memory}
use Rattle.scenario_record.specs.Faults.{IsMoved}
use Rattle.scenario_record.specs.Readings.{Passes}
use Rattle.scenario_faults.specs.Checks.{fault_at, first_of}

-- a fault that is moved twice
pub moved_twice : (inner outer : BadScenario → BadScenario) (f g h : ScenarioFault) → IsMoved inner f g → IsMoved outer g h → IsMoved (λ b. outer (inner b)) f h
moved_twice inner outer (Bad a) (Bad b) (Bad c) first second = second ∙ ap outer first
moved_twice inner outer (Bad a) (Bad b) Memory first second = tt
moved_twice inner outer (Bad a) Memory (Bad c) first second = absurd second
moved_twice inner outer (Bad a) Memory Memory first second = tt
moved_twice inner outer Memory (Bad b) h first second = absurd first
moved_twice inner outer Memory Memory (Bad c) first second = absurd second
moved_twice inner outer Memory Memory Memory first second = tt

-- a fault that is made and moved is the one that is due
pub made_fails : (T : Type 0) (step : BadScenario → BadScenario) (b : BadScenario) (found : Option BadScenario) (g : ScenarioFault) → found ≡ Some (step b) → IsMoved step (Bad b) g → Passes {A = T} found (Err g)
made_fails T step b found Memory is moved = tt
made_fails T step b found (Bad c) is moved = is ∙ ap Some (sym moved)

-- if several tests have no fault, the first has none, and the later ones have none
pub neither_of : (first : Option BadScenario) (later : List (Option BadScenario)) → first_of (first ∷ later) ≡ None → (first ≡ None) × (first_of later ≡ None)
neither_of None later is = (refl, is)
neither_of (Some f) later is = absurd cc

-- a test without a fault has found no element
pub none_at : (key inner : List ℕ) (cause : Cause) (found : Option ℕ) → fault_at key inner cause found ≡ None → found ≡ None
none_at key inner cause None is = refl
none_at key inner cause (Some i) is = absurd cc
