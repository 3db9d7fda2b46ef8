-- The types that a walk over texts finds.
use Rattle.std.specs.Prelude.{ℕ, List, [], ◌∷◌, fold, nat_lt, if◌then◌else◌}
use Rattle.ent_types.specs.declared.limits.TheConstants.{MOST_TYPES}
use Rattle.ent_types.specs.TypeSets.{with_type}
use Rattle.scenario_record.specs.Uses.{Use, own_number, own_ref, looked_up, has_type, on_type, made, read_types}
use Rattle.scenario_faults.specs.declared.uses.Touched.{Touched}

-- ---- sets of types

-- the set with a type; a number that no type can have is skipped
abbrev pub put_type : List ℕ → ℕ → List ℕ
put_type set ty = if nat_lt ty MOST_TYPES then with_type set ty else set

-- the set with the types of a list
abbrev pub with_types : List ℕ → List ℕ → List ℕ
with_types set types = fold put_type set types

abbrev pub set_of : List ℕ → List ℕ
set_of types = with_types [] types

-- ---- the types that a walk finds

-- the type that a text looks up by `get`
abbrev pub looked_up_types : Use → List ℕ
looked_up_types (own_number ty i) = []
looked_up_types (own_ref ty i) = []
looked_up_types (looked_up ty i) = ty ∷ []
looked_up_types (has_type ty) = []
looked_up_types (on_type ty) = []
looked_up_types (made k) = []

abbrev pub tested_types : Use → List ℕ
tested_types (own_number ty i) = []
tested_types (own_ref ty i) = []
tested_types (looked_up ty i) = []
tested_types (has_type ty) = ty ∷ []
tested_types (on_type ty) = ty ∷ []
tested_types (made k) = []

abbrev pub nothing : Touched
nothing = record { read = []; looked_up = []; tested = [] }

-- what a walk has found, with one use more
abbrev pub with_use : Touched → Use → Touched
with_use t u = record {
  read = with_types t.read (read_types u);
  looked_up = with_types t.looked_up (looked_up_types u);
  tested = with_types t.tested (tested_types u);
}

abbrev pub with_uses : Touched → List Use → Touched
with_uses t us = fold with_use t us
