-- The keys of a table and the values under them, each as a key is read: the TOML type first, then the length or the
-- range, then the word or the name.
use Rattle.std.specs.Prelude.{ℕ, pos, ◌+◌, Bool, ◌&&◌, nat_le, nat_lt, not, ◌==◌, if◌then◌else◌, List, [], ◌∷◌, length, Option, None, Some, Ok, Err}
use Rattle.std.specs.List.{list_any}
use Rattle.toml.specs.Data.{Data, string, integer, boolean, array, table, Items, no_items, item, Members, no_members, member, get_member}
use Rattle.ent_types.specs.declared.limits.TheConstants.{MOST_ORDER_NAMES}
use Rattle.ent_types.specs.declared.kinds.FieldKind.{FieldKind}
use Rattle.ent_types.specs.declared.type_info.FieldInfo.{FieldInfo}
use Rattle.ent_types.specs.Names.{name_of}
use Rattle.ent_types.specs.Types.{same_name}
use Rattle.scenario_record.specs.declared.fault.Cause.TheVariants.{UnknownKey, Missing, WrongType, TooMany, WrongCount, NumberRange, BadName}
use Rattle.scenario_record.specs.declared.fault.BadScenario.{BadScenario}
use Rattle.scenario_record.specs.Faults.{bad, below_key}
use Rattle.scenario_record.specs.Readings.{Reading, under, at_place, ◌>>=◌, changed, unless, or_fault, fault_if}

-- ---- keys

-- the least key by bytes that isn't in the list. A table has its keys in order of their bytes.
abbrev pub unknown_key : List (List ℕ) → Members → Option BadScenario
unknown_key known no_members = None
unknown_key known (member k d ms) =
    if list_any (same_name k) known then unknown_key known ms else Some (below_key k (bad UnknownKey))

-- a required key
abbrev pub required_value : {A : Type 0} → List ℕ → (Data → Reading A) → Option Data → Reading A
required_value key read None = Err (below_key key (bad Missing))
required_value key read (Some d) = under key (read d)

abbrev pub required : {A : Type 0} → List ℕ → (Data → Reading A) → Members → Reading A
required key read ms = required_value key read (get_member key ms)

-- a key with a default
abbrev pub value_or : {A : Type 0} → List ℕ → A → (Data → Reading A) → Option Data → Reading A
value_or key default read None = Ok default
value_or key default read (Some d) = under key (read d)

abbrev pub optional : {A : Type 0} → List ℕ → A → (Data → Reading A) → Members → Reading A
optional key default read ms = value_or key default read (get_member key ms)

-- a key that may be left out and has no default
abbrev pub perhaps : {A : Type 0} → List ℕ → (Data → Reading A) → Members → Reading (Option A)
perhaps key read ms = optional key None (λ d. changed Some (read d)) ms

-- ---- values

abbrev pub truth : Data → Reading Bool
truth (boolean b) = Ok b
truth _ = Err (bad WrongType)

-- a number from `low` to `high`
abbrev pub number : ℕ → ℕ → Data → Reading ℕ
number low high (integer (pos n)) = if nat_le low n && nat_le n high then Ok n else Err (bad NumberRange)
number low high (integer z) = Err (bad NumberRange)
number low high _ = Err (bad WrongType)

abbrev pub text : Data → Reading (List ℕ)
text (string s) = Ok s
text _ = Err (bad WrongType)

abbrev pub name_in : List ℕ → Reading (List ℕ)
name_in s = or_fault BadName (name_of s)

abbrev pub name : Data → Reading (List ℕ)
name d = text d >>= name_in

abbrev pub list : Data → Reading Items
list (array ds) = Ok ds
list _ = Err (bad WrongType)

abbrev pub members : Data → Reading Members
members (table ms) = Ok ms
members _ = Err (bad WrongType)

-- a table whose keys are all known
abbrev pub known_table : List (List ℕ) → Data → Reading Members
known_table known d = members d >>= λ ms. unless (unknown_key known ms) (Ok ms)

-- ---- lists and tables of values

abbrev pub item_count : Items → ℕ
item_count no_items = 0
item_count (item d ds) = 1 + item_count ds

abbrev pub member_count : Members → ℕ
member_count no_members = 0
member_count (member k d ms) = 1 + member_count ms

-- a list of at most `most` values
abbrev pub few_items : ℕ → Items → Reading Items
few_items most ds = unless (fault_if (nat_lt most (item_count ds)) TooMany) (Ok ds)

abbrev pub list_up_to : ℕ → Data → Reading Items
list_up_to most d = list d >>= few_items most

-- a table of at most `most` keys
abbrev pub few_members : ℕ → Members → Reading Members
few_members most ms = unless (fault_if (nat_lt most (member_count ms)) TooMany) (Ok ms)

abbrev pub members_up_to : ℕ → Data → Reading Members
members_up_to most d = members d >>= few_members most

-- the values of a list in order, each whole; the first has this place
abbrev pub each_from : {A : Type 0} → (Data → Reading A) → ℕ → Items → Reading (List A)
each_from read i no_items = Ok []
each_from read i (item d ds) = at_place i (read d) >>= λ x. changed (λ xs. x ∷ xs) (each_from read (i + 1) ds)

abbrev pub each_up_to : {A : Type 0} → ℕ → (Data → Reading A) → Data → Reading (List A)
each_up_to most read d = list_up_to most d >>= each_from read 0

-- the values of a list one by one, each over what was read before it; the first has this place
abbrev pub each_over : {S : Type 0} → (S → Data → Reading S) → S → ℕ → Items → Reading S
each_over step state i no_items = Ok state
each_over step state i (item d ds) = at_place i (step state d) >>= λ next. each_over step next (i + 1) ds

-- one value for each field; the first has this place
abbrev pub field_values_from : {A : Type 0} → (FieldKind → Data → Reading A) → ℕ → List FieldInfo → Items → Reading (List A)
field_values_from read i [] ds = Ok []
field_values_from read i (f ∷ fs) no_items = Ok []
field_values_from read i (f ∷ fs) (item d ds) = at_place i (read f.kind d) >>= λ v. changed (λ vs. v ∷ vs) (field_values_from read (i + 1) fs ds)

abbrev pub field_values : {A : Type 0} → (FieldKind → Data → Reading A) → List FieldInfo → Items → Reading (List A)
field_values read fields ds = unless (fault_if (not (item_count ds == length fields)) WrongCount) (field_values_from read 0 fields ds)

-- the values of all keys of a table, in order of the keys' bytes
abbrev pub each_member : {A : Type 0} → (List ℕ → Data → Reading A) → Members → Reading (List A)
each_member read no_members = Ok []
each_member read (member k d ms) = under k (read k d) >>= λ x. changed (λ xs. x ∷ xs) (each_member read ms)

-- the names under `before` or `after`
abbrev pub names : Data → Reading (List (List ℕ))
names d = each_up_to MOST_ORDER_NAMES name d
