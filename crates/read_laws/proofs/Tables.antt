-- What is read of a table whose keys rise, as those of each table of a document do.
use Rattle.std.proofs.Common.{ℕ, ◌≡◌, ◌+◌, List, [], ◌∷◌, true, Option, None, Some, Ok, refl, subst}
use Rattle.std.specs.Prelude.{nat_lt}
use Rattle.std.specs.List.{AllByRecursion as Each}
use Rattle.std.proofs.lemmas.Bool.{and_parts}
use Rattle.toml.specs.Data.{Data, string, integer, float, boolean, datetime, array, table, Items, no_items, item, Members, get_member, is_sorted, items_are_sorted, members_are_sorted}
use Rattle.scenario_record.specs.declared.fault.Cause.TheVariants.{TooMany}
use Rattle.scenario_record.specs.Readings.{Reading, at_place, changed, unless}
use Rattle.scenario_tables.specs.ReadKeys.{unknown_key, value_or, optional, item_count, list, few_items, list_up_to, members, known_table, each_from, each_up_to}
use Rattle.read_laws.proofs.Inversions.{then_ok, changed_ok, ok_same, unless_ok, fault_ok, under_ok, at_place_ok}
use Rattle.read_laws.proofs.SortedTables.{member_sorted}

pub list_sorted : (d : Data) (ds : Items) → is_sorted d ≡ true → list d ≡ Ok ds → items_are_sorted ds ≡ true
list_sorted (string s) ds sorted is = absurd cc
list_sorted (integer z) ds sorted is = absurd cc
list_sorted (float f) ds sorted is = absurd cc
list_sorted (boolean b) ds sorted is = absurd cc
list_sorted (datetime t) ds sorted is = absurd cc
list_sorted (array es) ds sorted is = subst (λ xs. items_are_sorted xs ≡ true) (ok_same es ds is) sorted
list_sorted (table ms) ds sorted is = absurd cc

pub members_sorted : (d : Data) (ms : Members) → is_sorted d ≡ true → members d ≡ Ok ms → members_are_sorted ms ≡ true
members_sorted (string s) ms sorted is = absurd cc
members_sorted (integer z) ms sorted is = absurd cc
members_sorted (float f) ms sorted is = absurd cc
members_sorted (boolean b) ms sorted is = absurd cc
members_sorted (datetime t) ms sorted is = absurd cc
members_sorted (array ds) ms sorted is = absurd cc
members_sorted (table ns) ms sorted is = subst (λ xs. members_are_sorted xs ≡ true) (ok_same ns ms is) sorted

pub list_up_to_sorted : (most : ℕ) (d : Data) (ds : Items) → is_sorted d ≡ true → list_up_to most d ≡ Ok ds → items_are_sorted ds ≡ true
list_up_to_sorted most d ds sorted is =
    let all = then_ok (few_items most) (list d) ds is in
    let few = fault_ok (nat_lt most (item_count all.0)) TooMany (Ok all.0) ds all.2 in
    subst (λ xs. items_are_sorted xs ≡ true) (ok_same all.0 ds few.1) (list_sorted d all.0 sorted all.1)

pub known_table_sorted : (known : List (List ℕ)) (d : Data) (ms : Members) → is_sorted d ≡ true → known_table known d ≡ Ok ms → members_are_sorted ms ≡ true
known_table_sorted known d ms sorted is =
    let all = then_ok (λ ns. unless (unknown_key known ns) (Ok ns)) (members d) ms is in
    let same = unless_ok (unknown_key known all.0) (Ok all.0) ms all.2 in
    subst (λ xs. members_are_sorted xs ≡ true) (ok_same all.0 ms same) (members_sorted d all.0 sorted all.1)

module _ {A : Type 0} where
  -- an optional key was read, or has its default
  pub sorted_optional_ok : (P : A → Type 0) (key : List ℕ) (default : A) (read : Data → Reading A) (ms : Members) (x : A) → members_are_sorted ms ≡ true
      → P default → ((d : Data) → is_sorted d ≡ true → read d ≡ Ok x → P x) → optional key default read ms ≡ Ok x → P x
  sorted_optional_ok P key default read ms x sorted first later is = by (get_member key ms) refl is
    where
      by : (found : Option Data) → get_member key ms ≡ found → value_or key default read found ≡ Ok x → P x
      by None at got = subst P (ok_same default x got) first
      by (Some d) at got = later d (member_sorted key ms d sorted at) (under_ok key (read d) x got)

  sorted_each_ok : (P : A → Type 0) (read : Data → Reading A) → ((d : Data) (x : A) → is_sorted d ≡ true → read d ≡ Ok x → P x)
      → (i : ℕ) (ds : Items) (xs : List A) → items_are_sorted ds ≡ true → each_from read i ds ≡ Ok xs → Each P xs
  sorted_each_ok P read each i no_items xs sorted is = subst (Each P) (ok_same [] xs is) tt
  sorted_each_ok P read each i (item d ds) xs sorted is =
      let (here, more) = and_parts (is_sorted d) (items_are_sorted ds) sorted in
      let first = then_ok (λ x. changed (λ ys. x ∷ ys) (each_from read (i + 1) ds)) (at_place i (read d)) xs is in
      let later = changed_ok (λ ys. first.0 ∷ ys) (each_from read (i + 1) ds) xs first.2 in
      subst (Each P) later.2 (each d first.0 here (at_place_ok i (read d) first.0 first.1), sorted_each_ok P read each (i + 1) ds later.0 more later.1)

-- each of at most `most` values
pub sorted_list_ok : {A : Type 0} (P : A → Type 0) (key : List ℕ) (most : ℕ) (read : Data → Reading A) (ms : Members) (xs : List A) → members_are_sorted ms ≡ true
    → ((d : Data) (x : A) → is_sorted d ≡ true → read d ≡ Ok x → P x) → optional key [] (each_up_to most read) ms ≡ Ok xs → Each P xs
sorted_list_ok P key most read ms xs sorted each is =
    sorted_optional_ok (Each P) key [] (each_up_to most read) ms xs sorted tt
    (λ d here got. let all = then_ok (each_from read 0) (list_up_to most d) xs got in
    sorted_each_ok P read each 0 all.0 xs (list_up_to_sorted most d all.0 here all.1) all.2) is
