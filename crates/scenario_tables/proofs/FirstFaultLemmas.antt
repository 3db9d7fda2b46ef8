-- Readings one after the other, of which the first fault counts.
use Rattle.std.proofs.Common.{ℕ, ◌≡◌, List, Option, None, Some, Result, Ok, Err, refl, sym, subst, ap}
use Rattle.scenario_record.specs.declared.fault.BadScenario.{BadScenario}
use Rattle.scenario_record.specs.declared.fault.ScenarioFault.{ScenarioFault}
use Rattle.scenario_record.specs.declared.fault.ScenarioFault.TheVariants.{Bad, Memory}
use Rattle.std.specs.Prelude.{IfOk}
use Rattle.toml.specs.Data.{Data, Members, get_member}
use Rattle.scenario_record.specs.Readings.{Reading, IsDue, Answers, ◌>>=◌, changed, under, unless}
use Rattle.scenario_tables.specs.ReadKeys.{value_or, optional}
use Rattle.scenario_tables.specs.FirstFault.{IsRead, Reads, StepsTo, IsSettled, IsLeft, Left}

due_first : {A B : Type 0} (m : Reading A) (next : A → Reading B) (f : ScenarioFault) → IsDue m f → IsDue (m >>= next) f
due_first m next (Bad b) is = ap (λ (r : Reading _). r >>= next) is
due_first m next Memory is = tt

pub read_in_turn : {A B : Type 0} (m : Reading A) (next : A → Reading B) (f0 f1 f2 : Option ScenarioFault) (x : A) (y : B)
    → IsRead m f0 f1 x → IsRead (next x) f1 f2 y → IsRead (m >>= next) f0 f2 y
read_in_turn m next (Some f) f1 f2 x y is after = subst (λ (g : Option ScenarioFault). IsRead (next x) g f2 y) is after
read_in_turn m next None (Some f) f2 x y is after = subst (λ (g : Option ScenarioFault). IsRead (m >>= next) None g y) (sym after) (due_first m next f is)
read_in_turn m next None None f2 x y is after = subst (λ (r : Reading _). IsRead (r >>= next) None f2 y) (sym is) after

-- one reading, and then the others
pub then : {A B : Type 0} {m : Reading A} (next : A → Reading B) {f0 f1 f2 : Option ScenarioFault} {x : A} {y : B}
    → Reads m f0 f1 x → Reads (next x) f1 f2 y → Reads (m >>= next) f0 f2 y
then next first rest = record { is = read_in_turn _ _ _ _ _ _ _ first.is rest.is }

read_nothing : {A : Type 0} (f : Option ScenarioFault) (x : A) → IsRead (Ok x) f f x
read_nothing None x = refl
read_nothing (Some f) x = refl

-- no reading is left
pub done : {A : Type 0} {f : Option ScenarioFault} {x : A} → Reads (Ok x) f f x
done = record { is = read_nothing _ _ }

left_in_turn : {A B : Type 0} (m : Reading A) (next : A → Reading B) (f0 f1 : Option ScenarioFault) (x : A) (r : Result B ScenarioFault)
    → IsRead m f0 f1 x → IsLeft f1 (next x) r → IsLeft f0 (m >>= next) r
left_in_turn m next (Some f) f1 x r is after = subst (λ (g : Option ScenarioFault). IsLeft g (next x) r) is after
left_in_turn m next None (Some f) x r is after = subst (λ (g : Result _ ScenarioFault). Answers (m >>= next) g) (sym after) (due_first m next f is)
left_in_turn m next None None x r is after = subst (λ (g : Reading _). Answers (g >>= next) r) (sym is) after

-- one reading, and what is left then
pub leaves : {A B : Type 0} {m : Reading A} (next : A → Reading B) {f0 f1 : Option ScenarioFault} {x : A} {r : Result B ScenarioFault}
    → Reads m f0 f1 x → Left f1 (next x) r → Left f0 (m >>= next) r
leaves next first rest = record { is = left_in_turn _ _ _ _ _ _ first.is rest.is }

ends : {A : Type 0} (m : Reading A) (f : Option ScenarioFault) (next r : Result A ScenarioFault) → Answers m next → IsSettled f next r → IsLeft f m r
ends m None next r is settled = subst (λ (g : Result _ ScenarioFault). Answers m g) (sym settled) is
ends m (Some f) next r is settled = settled

-- the last answer
pub settles : {A : Type 0} {m : Reading A} {f : Option ScenarioFault} {r : Result A ScenarioFault} (next : Result A ScenarioFault) → Answers m next → IsSettled f next r → Left f m r
settles next is settled = record { is = ends _ _ _ _ is settled }

-- a reading that has no fault
pub gives : {A B : Type 0} {m : Reading A} {x : A} (next : A → Reading B) (r : Result B ScenarioFault) → m ≡ Ok x → Answers (next x) r → Answers (m >>= next) r
gives next r is rest = subst (λ (g : Reading _). Answers (g >>= next) r) (sym is) rest

-- a reading that has no fault, before any other
pub reads : {A : Type 0} {m : Reading A} {x : A} → m ≡ Ok x → Reads m None None x
reads is = record { is = is }

-- the answer of a whole table
pub answered : {A : Type 0} {m : Reading A} {r : Result A ScenarioFault} → Left None m r → Answers m r
answered left = left.is

-- the first fault ends a table
pub stops : {A : Type 0} {m : Reading A} {f : Option ScenarioFault} {fault : ScenarioFault} → f ≡ Some fault → Left f m (Err fault)
stops {m = m} {fault = fault} is = record { is = subst (λ (g : Option ScenarioFault). IsLeft g m (Err fault)) (sym is) refl }

-- no fault so far
pub goes_on : {A : Type 0} {m : Reading A} {f : Option ScenarioFault} {r : Result A ScenarioFault} → f ≡ None → Answers m r → Left f m r
goes_on {m = m} {r = r} is answer = record { is = subst (λ (g : Option ScenarioFault). IsLeft g m r) (sym is) answer }

-- what holds of an answer holds after a fault, too
pub settled_ok : {A : Type 0} (P : A → Type 0) (f : Option ScenarioFault) (next r : Result A ScenarioFault) → IfOk next P → IsSettled f next r → IfOk r P
settled_ok P None next r holds is = subst (λ (g : Result _ ScenarioFault). IfOk g P) (sym is) holds
settled_ok P (Some f) next r holds is = subst (λ (g : Result _ ScenarioFault). IfOk g P) (sym is) tt

-- a key whose value is changed
changed_under : {A B : Type 0} (g : A → B) (key : List ℕ) (m : Reading A) → under key (changed g m) ≡ changed g (under key m)
changed_under g key (Ok x) = refl
changed_under g key (Err f) = refl

changed_read : {A B : Type 0} (g : A → B) (key : List ℕ) (default : A) (read : Data → Reading A) (found : Option Data)
    → value_or key (g default) (λ d. changed g (read d)) found ≡ changed g (value_or key default read found)
changed_read g key default read None = refl
changed_read g key default read (Some d) = changed_under g key (read d)

changed_is : {A B : Type 0} (g : A → B) (m : Reading A) (f0 f1 : Option ScenarioFault) (x : A) → IsRead m f0 f1 x → IsRead (changed g m) f0 f1 (g x)
changed_is g m (Some f) f1 x is = is
changed_is g m None None x is = ap (changed g) is
changed_is g m None (Some (Bad b)) x is = ap (changed g) is
changed_is g m None (Some Memory) x is = tt

pub reads_changed : {A B : Type 0} (g : A → B) (key : List ℕ) (default : A) (read : Data → Reading A) (ms : Members) {f0 f1 : Option ScenarioFault} {x : A}
    → Reads (optional key default read ms) f0 f1 x → Reads (optional key (g default) (λ d. changed g (read d)) ms) f0 f1 (g x)
reads_changed g key default read ms {f0} {f1} {x} first =
    record { is = subst (λ (m : Reading _). IsRead m f0 f1 (g x)) (sym (changed_read g key default read (get_member key ms))) (changed_is g _ f0 f1 x first.is) }

-- a test that passes
pub passes : {A : Type 0} {m : Option BadScenario} {next : Reading A} {r : Result A ScenarioFault} → m ≡ None → Left None next r → Left None (unless m next) r
passes {next = next} {r = r} is rest = record { is = subst (λ (t : Option BadScenario). Answers (unless t next) r) (sym is) rest.is }

-- a step after a reading that has no fault
pub steps : {A B C : Type 0} (m : Reading A) (next : A → Reading B) (x : A) (after : B) (r : Result C ScenarioFault) → m ≡ Ok x → StepsTo (next x) after r → StepsTo (m >>= next) after r
steps m next x after r is rest = subst (λ (g : Reading _). StepsTo (g >>= next) after r) (sym is) rest
