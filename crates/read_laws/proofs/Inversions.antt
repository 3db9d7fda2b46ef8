-- What is known of a reading that gave a value: the parts of it gave values, too.
use Rattle.std.proofs.Common.{ℕ, ◌≡◌, ◌≤◌, ◌<◌, ◌+◌, List, [], ◌∷◌, Bool, true, false, cond, ◌&&◌, length, Option, None, Some, Ok, Err, refl, sym, ap, ◌∙◌, subst, arith}
use Rattle.std.specs.Prelude.{nat_le, nat_lt, pos, negsuc}
use Rattle.std.specs.List.{AllByRecursion as Each}
use Rattle.std.proofs.lemmas.Bool.{leb-true, ltb-false, and_parts}
use Rattle.toml.specs.Data.{Data, string, integer, float, boolean, datetime, array, table, Items, no_items, item, Members, get_member}
use Rattle.scenario_record.specs.declared.fault.Cause.{Cause}
use Rattle.scenario_record.specs.declared.fault.Cause.TheVariants.{NumberRange, TooMany}
use Rattle.scenario_record.specs.declared.fault.BadScenario.{BadScenario}
use Rattle.scenario_record.specs.Faults.{bad}
use Rattle.scenario_record.specs.Readings.{Reading, under, at_place, ◌>>=◌, changed, unless, whole_path, or_fault, fault_if}
use Rattle.scenario_tables.specs.ReadKeys.{required_value, required, value_or, optional, number, item_count, few_items, list, list_up_to, each_from, each_up_to, each_over}

-- what was read
abbrev pub given : {A : Type 0} → A → Reading A
given x = Ok x

pub ok_same : {A : Type 0} (x y : A) → given x ≡ given y → x ≡ y
ok_same x y is = cc

module _ {A B : Type 0} where
  pub then_ok : (next : A → Reading B) (found : Reading A) (y : B) → (found >>= next) ≡ Ok y → (x : A) × (found ≡ Ok x) × (next x ≡ Ok y)
  then_ok next (Ok x) y is = (x, refl, is)
  then_ok next (Err f) y is = absurd cc

  pub changed_ok : (f : A → B) (found : Reading A) (y : B) → changed f found ≡ Ok y → (x : A) × (found ≡ Ok x) × (f x ≡ y)
  changed_ok f (Ok x) y is = (x, refl, cc)
  changed_ok f (Err g) y is = absurd cc

module _ {A : Type 0} where
  pub unless_ok : (test : Option BadScenario) (next : Reading A) (y : A) → unless test next ≡ Ok y → next ≡ Ok y
  unless_ok None next y is = is
  unless_ok (Some f) next y is = absurd cc

  pub under_ok : (key : List ℕ) (found : Reading A) (y : A) → under key found ≡ Ok y → found ≡ Ok y
  under_ok key (Ok x) y is = is
  under_ok key (Err f) y is = absurd cc

  pub at_place_ok : (i : ℕ) (found : Reading A) (y : A) → at_place i found ≡ Ok y → found ≡ Ok y
  at_place_ok i (Ok x) y is = is
  at_place_ok i (Err f) y is = absurd cc

  pub whole_ok : (found : Reading A) (y : A) → whole_path found ≡ Ok y → found ≡ Ok y
  whole_ok (Ok x) y is = is
  whole_ok (Err f) y is = absurd cc

  -- a list has as many elements as were read
  pub each_count : (read : Data → Reading A) (i : ℕ) (ds : Items) (xs : List A) → each_from read i ds ≡ Ok xs → length xs ≡ item_count ds
  each_count read i no_items xs is = let same : [] ≡ xs = cc in ap length (sym same)
  each_count read i (item d ds) xs is =
      let first = then_ok (λ x. changed (λ ys. x ∷ ys) (each_from read (i + 1) ds)) (at_place i (read d)) xs is in
      let later = changed_ok (λ ys. first.0 ∷ ys) (each_from read (i + 1) ds) xs first.2 in
      ap length (sym later.2) ∙ omega (arith, each_count read (i + 1) ds later.0 later.1)

  -- a required key was read
  pub required_ok : (key : List ℕ) (read : Data → Reading A) (found : Option Data) (x : A) → required_value key read found ≡ Ok x → (d : Data) × (read d ≡ Ok x)
  required_ok key read None x is = absurd cc
  required_ok key read (Some d) x is = (d, under_ok key (read d) x is)

  pub required_found : (key : List ℕ) (read : Data → Reading A) (ms : Members) (x : A) → required key read ms ≡ Ok x → (d : Data) × (read d ≡ Ok x)
  required_found key read ms x is = required_ok key read (get_member key ms) x is

  -- a test that passes
  pub fault_ok : (b : Bool) (cause : Cause) (next : Reading A) (y : A) → unless (fault_if b cause) next ≡ Ok y → (b ≡ false) × (next ≡ Ok y)
  fault_ok false cause next y is = (refl, is)
  fault_ok true cause next y is = absurd cc

  -- a value that may not be there
  pub or_fault_ok : (cause : Cause) (o : Option A) (x : A) → or_fault cause o ≡ Ok x → o ≡ Some x
  or_fault_ok cause None x is = absurd cc
  or_fault_ok cause (Some y) x is = ap (λ z. Some z) (ok_same y x is)

  -- an optional key was read, or has its default
  pub optional_ok : (P : A → Type 0) (key : List ℕ) (default : A) (read : Data → Reading A) (ms : Members) (x : A) → P default
      → ((d : Data) → read d ≡ Ok x → P x) → optional key default read ms ≡ Ok x → P x
  optional_ok P key default read ms x first later is = by (get_member key ms) is
    where
      by : (found : Option Data) → value_or key default read found ≡ Ok x → P x
      by None got = subst P (ok_same default x got) first
      by (Some d) got = later d (under_ok key (read d) x got)

  -- each value of a list has what each value that is read has
  pub each_ok : (P : A → Type 0) (read : Data → Reading A) → ((d : Data) (x : A) → read d ≡ Ok x → P x)
      → (i : ℕ) (ds : Items) (xs : List A) → each_from read i ds ≡ Ok xs → Each P xs
  each_ok P read each i no_items xs is = subst (Each P) (ok_same [] xs is) tt
  each_ok P read each i (item d ds) xs is =
      let first = then_ok (λ x. changed (λ ys. x ∷ ys) (each_from read (i + 1) ds)) (at_place i (read d)) xs is in
      let later = changed_ok (λ ys. first.0 ∷ ys) (each_from read (i + 1) ds) xs first.2 in
      subst (Each P) later.2 (each d first.0 (at_place_ok i (read d) first.0 first.1), each_ok P read each (i + 1) ds later.0 later.1)

few_ok : (most : ℕ) (ds es : Items) → few_items most ds ≡ Ok es → item_count es ≤ most
few_ok most ds es is = by (nat_lt most (item_count ds)) refl is where
  by : (b : Bool) → nat_lt most (item_count ds) ≡ b → unless (fault_if b TooMany) (Ok ds) ≡ Ok es → item_count es ≤ most
  by true test got = absurd cc
  by false test got = let same : ds ≡ es = cc in subst (λ xs. item_count xs ≤ most) same (ltb-false most (item_count ds) test)

pub list_up_to_ok : (most : ℕ) (d : Data) (ds : Items) → list_up_to most d ≡ Ok ds → item_count ds ≤ most
list_up_to_ok most d ds is = let few = then_ok (few_items most) (list d) ds is in few_ok most few.0 ds few.2

-- What the values of a list make of a state, each over those before it: `P i` holds of the state after `i` values.
pub each_over_ok : {S : Type 0} (P : ℕ → S → Type 0) (step : S → Data → Reading S) (most : ℕ)
    → ((i : ℕ) (s t : S) (d : Data) → i < most → P i s → step s d ≡ Ok t → P (i + 1) t)
    → (i : ℕ) (s t : S) (ds : Items) → i + item_count ds ≤ most → P i s → each_over step s i ds ≡ Ok t → P (i + item_count ds) t
each_over_ok P step most one i s t no_items few first is =
    let count : i ≡ i + 0 = omega arith in
    subst (λ n. P n t) count (subst (P i) (ok_same s t is) first)
each_over_ok P step most one i s t (item d ds) few first is =
    let next = then_ok (λ u. each_over step u (i + 1) ds) (at_place i (step s d)) t is in
    let after = one i s next.0 d (omega (arith, few)) first (at_place_ok i (step s d) next.0 next.1) in
    let last = each_over_ok P step most one (i + 1) next.0 t ds (omega (arith, few)) after next.2 in
    let count : i + 1 + item_count ds ≡ i + (1 + item_count ds) = omega arith in
    subst (λ n. P n t) count last

-- a list of at most `most` values
up_to_ok : {A : Type 0} (most : ℕ) (read : Data → Reading A) (d : Data) (xs : List A) → each_up_to most read d ≡ Ok xs → length xs ≤ most
up_to_ok most read d xs is =
    let all = then_ok (each_from read 0) (list_up_to most d) xs is in
    let few = then_ok (few_items most) (list d) all.0 all.1 in
    omega (arith, each_count read 0 all.0 xs all.2, few_ok most few.0 all.0 few.2)

value_up_to_ok : {A : Type 0} (key : List ℕ) (most : ℕ) (read : Data → Reading A) (found : Option Data) (xs : List A) → value_or key [] (each_up_to most read) found ≡ Ok xs → length xs ≤ most
value_up_to_ok key most read None xs is = let same : [] ≡ xs = cc in subst (λ ys. length ys ≤ most) same (omega arith)
value_up_to_ok key most read (Some d) xs is = up_to_ok most read d xs (under_ok key (each_up_to most read d) xs is)

-- each of at most `most` values
pub optional_each_ok : {A : Type 0} (P : A → Type 0) (key : List ℕ) (most : ℕ) (read : Data → Reading A) (ms : Members) (xs : List A)
    → ((d : Data) (x : A) → read d ≡ Ok x → P x) → optional key [] (each_up_to most read) ms ≡ Ok xs → Each P xs
optional_each_ok P key most read ms xs each is =
    optional_ok (Each P) key [] (each_up_to most read) ms xs tt
    (λ d got. let all = then_ok (each_from read 0) (list_up_to most d) xs got in each_ok P read each 0 all.0 xs all.2) is

pub optional_up_to_ok : {A : Type 0} (key : List ℕ) (most : ℕ) (read : Data → Reading A) (ms : Members) (xs : List A) → optional key [] (each_up_to most read) ms ≡ Ok xs → length xs ≤ most
optional_up_to_ok key most read ms xs is = value_up_to_ok key most read (get_member key ms) xs is

-- a number is one of those that are let in
in_range_ok : (low high m n : ℕ) → cond (nat_le low m && nat_le m high) (Ok m) (Err (bad NumberRange)) ≡ Ok n → (low ≤ n) × (n ≤ high)
in_range_ok low high m n is = by (nat_le low m && nat_le m high) refl is
  where
    by : (b : Bool) → (nat_le low m && nat_le m high) ≡ b → cond b (Ok m) (Err (bad NumberRange)) ≡ Ok n → (low ≤ n) × (n ≤ high)
    by true test got =
        let (above, below) = and_parts (nat_le low m) (nat_le m high) test in
        subst (λ k. (low ≤ k) × (k ≤ high)) (ok_same m n got) (leb-true low m above, leb-true m high below)
    by false test got = absurd cc

pub number_ok : (low high : ℕ) (d : Data) (n : ℕ) → number low high d ≡ Ok n → (low ≤ n) × (n ≤ high)
number_ok low high (string s) n is = absurd cc
number_ok low high (integer (pos m)) n is = in_range_ok low high m n is
number_ok low high (integer (negsuc m)) n is = absurd cc
number_ok low high (float f) n is = absurd cc
number_ok low high (boolean b) n is = absurd cc
number_ok low high (datetime t) n is = absurd cc
number_ok low high (array ds) n is = absurd cc
number_ok low high (table ms) n is = absurd cc
