-- Lemmas about the values of a document and the keys of its tables.
use Rattle.std.proofs.Common.{ℕ, ◌≡◌, true, false, List, [], ◌∷◌, length, map, Option, None, Some, String, Global, Bor, refl, sym, arith}
use Rattle.std.specs.Prelude.{MatchOption, option_map}
use Rattle.toml.specs.Data.{Data, Members, member}
use Rattle.toml.specs.View.{view, items_view, members_view}
use Rattle.toml.specs.declared.value.Value.{Value}
use Rattle.std.specs.List.{list_any}
use Rattle.ent_types.specs.Types.{same_name}
use Rattle.ent_types.proofs.Lookups.{list_any-map}
use Rattle.scenario_record.specs.declared.fault.Cause.TheVariants.{UnknownKey}
use Rattle.scenario_record.specs.Faults.{bad, below_key}
use Rattle.scenario_tables.specs.ReadKeys.{unknown_key, item_count, member_count}

abbrev pub Entry : Type 0
Entry = String Global × Value

pub item_count-view : (vs : List Value) → item_count (items_view vs) ≡ length vs
item_count-view [] = refl
item_count-view (v ∷ vs) = omega (arith, item_count-view vs)

pub member_count-view : (es : List Entry) → member_count (members_view es) ≡ length es
member_count-view [] = refl
member_count-view (e ∷ es) = omega (arith, member_count-view es)

-- the value of a key, by cases
pub value_cases : (r : Option (Bor Value)) (found : Option Data) → option_map (λ x. view x.now) r ≡ found → MatchOption r (found ≡ None) (λ x. found ≡ Some (view x.now))
value_cases None found is = sym is
value_cases (Some x) found is = sym is

-- a key among names
pub is_known-map : (key : List ℕ) (known : List (Bor (List ℕ))) → list_any (same_name key) (map (λ name. name.now) known) ≡ list_any (λ name. same_name key name.now) known
is_known-map key known = list_any-map (same_name key) (λ (name : Bor (List ℕ)). name.now) known

-- a table without its first key, where this is known
pub unknown_later : (known : List (Bor (List ℕ))) (key : List ℕ) (d : Data) (ms : Members) → list_any (λ name. same_name key name.now) known ≡ true
    → unknown_key (map (λ name. name.now) known) (member key d ms) ≡ unknown_key (map (λ name. name.now) known) ms
unknown_later known key d ms is = rw (is_known-map key known, is) refl

pub unknown_here : (known : List (Bor (List ℕ))) (key : List ℕ) (d : Data) (ms : Members) → list_any (λ name. same_name key name.now) known ≡ false
    → unknown_key (map (λ name. name.now) known) (member key d ms) ≡ Some (below_key key (bad UnknownKey))
unknown_here known key d ms is = rw (is_known-map key known, is) refl

pub ruleset counts = (item_count-view, member_count-view)
