-- Tables whose keys are type names: each key is one type, so that none is there twice.
use Rattle.std.proofs.Common.{ℕ, ◌≡◌, List, [], ◌∷◌, true, false, ◌&&◌, Some, Ok, length, map, Ordering, Less, Equal, Greater, nat_cmp, refl, sym, ap, ◌∙◌, subst, arith}
use Rattle.std.specs.List.{AllByRecursion as Each}
use Rattle.std.specs.Cmp.{tied_itself}
use Rattle.std.specs.Ordering.{is_lt}
use Rattle.std.specs.Cmp.Lexicographic.{slice_cmp}
use Rattle.std.proofs.lemmas.Bool.{and_parts, and_from, or_from, both_ways, not_from_false, ne_eqb}
use Rattle.std.proofs.lemmas.Cmp.{nat_list_cmp_total}
use Rattle.toml.specs.Data.{Data, Members, no_members, member, is_before, is_sorted, members_are_sorted}
use Rattle.ent_types.specs.declared.type_info.TypeInfo.{TypeInfo}
use Rattle.ent_types.specs.Registries.{type_named}
use Rattle.ent_types.specs.TypeSets.{has_type}
use Rattle.scenario_record.specs.Readings.{Reading, under, changed}
use Rattle.scenario_record.specs.TextNames.{are_once}
use Rattle.scenario_tables.specs.ReadKeys.{each_member, member_count}
use Rattle.read_laws.proofs.Inversions.{then_ok, changed_ok, ok_same, under_ok}
use Rattle.ent_types.proofs.TypeNumbers.{type_named-Some}

module _ {A : Type 0} where
  -- each value has a fact with its key, in order
  abbrev pub Keyed : (List ℕ → A → Type 0) → Members → List A → Type 0
  Keyed Q no_members [] = Unit {0}
  Keyed Q no_members (x ∷ xs) = ⊥
  Keyed Q (member k d ms) [] = ⊥
  Keyed Q (member k d ms) (x ∷ xs) = Q k x × Keyed Q ms xs

  pub keyed_ok : (Q : List ℕ → A → Type 0) (read : List ℕ → Data → Reading A) → ((k : List ℕ) (d : Data) (x : A) → read k d ≡ Ok x → Q k x)
      → (ms : Members) (xs : List A) → each_member read ms ≡ Ok xs → Keyed Q ms xs
  keyed_ok Q read each no_members xs is = subst (Keyed Q no_members) (ok_same [] xs is) tt
  keyed_ok Q read each (member k d ms) xs is =
      let first = then_ok (λ x. changed (λ ys. x ∷ ys) (each_member read ms)) (under k (read k d)) xs is in
      let later = changed_ok (λ ys. first.0 ∷ ys) (each_member read ms) xs first.2 in
      subst (Keyed Q (member k d ms)) later.2 (each k d first.0 (under_ok k (read k d) first.0 first.1), keyed_ok Q read each ms later.0 later.1)

  pub keyed_count : (Q : List ℕ → A → Type 0) (ms : Members) (xs : List A) → Keyed Q ms xs → length xs ≡ member_count ms
  keyed_count Q no_members [] h = refl
  keyed_count Q no_members (x ∷ xs) h = absurd h
  keyed_count Q (member k d ms) [] h = absurd h
  keyed_count Q (member k d ms) (x ∷ xs) h = omega (arith, keyed_count Q ms xs h.1)

  pub each_keyed : (Q : List ℕ → A → Type 0) (P : A → Type 0) → ((k : List ℕ) (x : A) → Q k x → P x) → (ms : Members) (xs : List A) → Keyed Q ms xs → Each P xs
  each_keyed Q P step no_members [] h = tt
  each_keyed Q P step no_members (x ∷ xs) h = absurd h
  each_keyed Q P step (member k d ms) [] h = absurd h
  each_keyed Q P step (member k d ms) (x ∷ xs) h = (step k x h.0, each_keyed Q P step ms xs h.1)

-- ---- keys that rise

above_all : (k l : List ℕ) (ms : Members) → is_lt (slice_cmp nat_cmp k l) ≡ true → is_before l ms ≡ true → is_before k ms ≡ true
above_all k l no_members less before = refl
above_all k l (member m d ms) less before =
    ap is_lt (nat_list_cmp_total.trans k l m (is_less _ less) (is_less _ before))
  where
    is_less : (o : Ordering) → is_lt o ≡ true → o ≡ Less
    is_less Less is = refl
    is_less Equal is = absurd cc
    is_less Greater is = absurd cc

module _ {A : Type 0} (registry : List TypeInfo) (type_of : A → ℕ) (Q : List ℕ → A → Type 0)
    (named : (k : List ℕ) (x : A) → Q k x → type_named registry k ≡ Some (type_of x)) where
  -- two keys of one type are equal
  one_key : (k l : List ℕ) (ty : ℕ) → type_named registry k ≡ Some ty → type_named registry l ≡ Some ty → k ≡ l
  one_key k l ty first second = (type_named-Some registry k ty first).1 ∙ sym (type_named-Some registry l ty second).1

  not_below : (k l : List ℕ) → k ≡ l → is_lt (slice_cmp nat_cmp k l) ≡ true → ⊥
  not_below k l same less =
      let tie : slice_cmp nat_cmp k l ≡ Equal = ap (slice_cmp nat_cmp k) (sym same) ∙ tied_itself nat_list_cmp_total k in
      both_ways _ (ap is_lt tie) less

  abbrev types_of : List A → List ℕ
  types_of xs = map type_of xs

  -- the type of a key is none of the keys that are above it
  not_above : (k : List ℕ) (ty : ℕ) → type_named registry k ≡ Some ty → (ms : Members) (xs : List A) → is_before k ms ≡ true → members_are_sorted ms ≡ true
      → Keyed Q ms xs → has_type (types_of xs) ty ≡ false
  not_above k ty here no_members [] before sorted h = refl
  not_above k ty here no_members (x ∷ xs) before sorted h = absurd h
  not_above k ty here (member l d ms) [] before sorted h = absurd h
  not_above k ty here (member l d ms) (x ∷ xs) before sorted h =
      let (front, more) = and_parts (is_before l ms && is_sorted d) (members_are_sorted ms) sorted in
      let next = (and_parts (is_before l ms) (is_sorted d) front).0 in
      let other : type_of x ≡ ty → ⊥ =
      λ same. not_below k l (one_key k l ty here (named l x h.0 ∙ ap (λ t. Some t) same)) before in
      or_from _ _ (ne_eqb (type_of x) ty other)
      (not_above k ty here ms xs (above_all k l ms before next) more h.1)

  pub keyed_once : (ms : Members) (xs : List A) → members_are_sorted ms ≡ true → Keyed Q ms xs → are_once (types_of xs) ≡ true
  keyed_once no_members [] sorted h = refl
  keyed_once no_members (x ∷ xs) sorted h = absurd h
  keyed_once (member k d ms) [] sorted h = absurd h
  keyed_once (member k d ms) (x ∷ xs) sorted h =
      let (front, more) = and_parts (is_before k ms && is_sorted d) (members_are_sorted ms) sorted in
      let next = (and_parts (is_before k ms) (is_sorted d) front).0 in
      and_from _ _ (not_from_false _ (not_above k (type_of x) (named k x h.0) ms xs next more h.1)) (keyed_once ms xs more h.1)
