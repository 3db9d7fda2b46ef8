-- The names by which a child orders itself.
use Rattle.std.proofs.Common.{ℕ, ◌≡◌, ◌+◌, ◌<◌, List, Option, length, get_or, drop, sym, ap, ◌∙◌}
use Rattle.scenario_record.specs.declared.fault.Cause.{Cause}
use Rattle.scenario_faults.specs.declared.siblings.Sibling.{Sibling}
use Rattle.scenario_faults.specs.Checks.{cause_of_name, or_next, order_fault_from}
use Rattle.scenario_faults.proofs.Steps.{here}

-- one name more, by what is wrong with it
pub order_step : (all : List Sibling) (child : Sibling) (key : List ℕ) (names : List (List ℕ)) (j : ℕ) (n : List ℕ) (found : Option Cause)
    → j < length names → n ≡ get_or names j n → found ≡ cause_of_name all child n
    → order_fault_from all child key j (drop j names) ≡ or_next key j found (order_fault_from all child key (j + 1) (drop (j + 1) names))
order_step all child key names j n found within is cause =
    ap (order_fault_from all child key j) (here names j n within is)
    ∙ ap (λ (c : Option Cause). or_next key j c (order_fault_from all child key (j + 1) (drop (j + 1) names))) (sym cause)
