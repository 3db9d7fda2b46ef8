-- The numbers of children, by their names.
use Rattle.std.proofs.Common.{ℕ, ◌≡◌, ◌+◌, ◌<◌, ◌≤◌, List, [], ◌∷◌, ◌++◌, Bool, true, false, cond, ◌||◌, Option, Some, None, length, map, position, refl, sym, ap, ap₂, ◌∙◌, append-nil, append_assoc, ltb, arith}
use Rattle.std.specs.Prelude.{codes, option_map, unwrap_or}
use Rattle.std.specs.Option.{option_or}
use Rattle.std.specs.List.{list_any, position_from}
use Rattle.std.proofs.lemmas.Bool.{lt-ltb, le-ltb}
use Rattle.std.proofs.lemmas.Iterator.Adapters.{position_from-zero}
use Rattle.std.proofs.lemmas.List.{length-map}
use Rattle.std.proofs.lemmas.List.Folds.{list_any-append}
use Rattle.ent_types.specs.Types.{same_name}
use Rattle.indexmap.specs.IndexSet.{insert_all}
use Rattle.scenario_record.specs.declared.fault.Cause.TheVariants.{DuplicateName}
use Rattle.scenario_record.specs.declared.record.GroupEntry.{GroupEntry}
use Rattle.scenario_record.specs.declared.record.Scenario.{Scenario}
use Rattle.scenario_record.specs.declared.record.SystemEntry.{SystemEntry}
use Rattle.scenario_faults.specs.Checks.{root_groups, fault_at, repeated_from, group_names, system_names, names_fault}
use Rattle.scenario_faults.proofs.FaultLemmas.{neither_of, none_at}
use Rattle.run_model.specs.Steps.{root_names, group_number}
use Rattle.scenario_check.specs.Children.{child_names}

-- ---- names that are all new

-- a name that is found among the keys is taken
abbrev AreTaken : List (List ℕ) → List (List ℕ) → Type 0
AreTaken keys taken = (n : List ℕ) → list_any (same_name n) keys ≡ true → list_any (same_name n) taken ≡ true

taken_more : (keys taken : List (List ℕ)) (m : List ℕ) → AreTaken keys taken → AreTaken (keys ++ m ∷ []) (m ∷ taken)
taken_more keys taken m h n is = by (list_any (same_name n) keys) (same_name n m) (h n) (sym (list_any-append (same_name n) keys (m ∷ [])) ∙ is)
  where
    by : (a b : Bool) → (a ≡ true → list_any (same_name n) taken ≡ true) → (a || (b || false)) ≡ true → (b || list_any (same_name n) taken) ≡ true
    by a true found is = refl
    by true false found is = found refl
    by false false found is = absurd cc

inserted : (keys taken : List (List ℕ)) (i : ℕ) (ns : List (List ℕ)) → AreTaken keys taken → repeated_from taken i ns ≡ None → insert_all same_name keys ns ≡ keys ++ ns
inserted keys taken i [] h none = sym (append-nil keys)
inserted keys taken i (n ∷ ns) h none =
    by (list_any (same_name n) taken) (list_any (same_name n) keys) (h n) none (inserted (keys ++ n ∷ []) (n ∷ taken) (i + 1) ns (taken_more keys taken n h))
  where
    by : (t k : Bool) → (k ≡ true → t ≡ true) → cond t (Some i) (repeated_from (n ∷ taken) (i + 1) ns) ≡ None
        → (repeated_from (n ∷ taken) (i + 1) ns ≡ None → insert_all same_name (keys ++ n ∷ []) ns ≡ (keys ++ n ∷ []) ++ ns)
        → insert_all same_name (cond k keys (keys ++ n ∷ [])) ns ≡ keys ++ n ∷ ns
    by true k found none rest = absurd cc
    by false true found none rest = absurd (let h : false ≡ true = found refl in cc)
    by false false found none rest = rest none ∙ append_assoc keys (n ∷ []) ns

-- without a fault of names, no name is passed over
all_new : (s : Scenario) → names_fault s ≡ None → insert_all same_name (insert_all same_name [] (map (λ (g : GroupEntry). g.name) s.group)) (map (λ (y : SystemEntry). y.name) s.system) ≡ child_names s
unfolding names_fault
all_new s none =
    let names = codes "name" in
    let first = repeated_from root_groups 0 (group_names s) in
    let second = repeated_from (root_groups ++ group_names s) 0 (system_names s) in
    let later = fault_at (codes "system") names DuplicateName second ∷ [] in
    let both = neither_of (fault_at (codes "group") names DuplicateName first) later none in
    let groups = none_at (codes "group") names DuplicateName first both.0 in
    let systems = none_at (codes "system") names DuplicateName second (neither_of (fault_at (codes "system") names DuplicateName second) [] both.1).0 in
    ap (λ ks. insert_all same_name ks (system_names s)) (inserted [] root_groups 0 (group_names s) (λ n is. absurd cc) groups)
    ∙ inserted (group_names s) (root_groups ++ group_names s) 0 (system_names s) (λ n is. list_any-append (same_name n) root_groups (group_names s) ∙ or_right (list_any (same_name n) root_groups) (list_any (same_name n) (group_names s)) is) systems
  where
    or_right : (a b : Bool) → b ≡ true → (a || b) ≡ true
    or_right true b is = refl
    or_right false b is = is

pub names_are : (s : Scenario) (none first last : List (List ℕ)) (groups : List GroupEntry) (systems : List SystemEntry) → names_fault s ≡ None → none ≡ [] → groups ≡ s.group → systems ≡ s.system
    → first ≡ insert_all same_name none (map (λ (g : GroupEntry). g.name) groups) → last ≡ insert_all same_name first (map (λ (y : SystemEntry). y.name) systems) → last ≡ child_names s
names_are s none first last groups systems fault empty is_groups is_systems is_first is_last =
    is_last
    ∙ (ap (λ ks. insert_all same_name ks (map (λ (y : SystemEntry). y.name) systems)) (is_first ∙ ap (λ ks. insert_all same_name ks (map (λ (g : GroupEntry). g.name) groups)) empty)
    ∙ (ap₂ (λ (gs : List GroupEntry) (ys : List SystemEntry). insert_all same_name (insert_all same_name [] (map (λ (g : GroupEntry). g.name) gs)) (map (λ (y : SystemEntry). y.name) ys)) is_groups is_systems
    ∙ all_new s fault))

-- ---- the number of a group

-- a place below a bound
abbrev pub below : ℕ → Option ℕ → Option ℕ
below n None = None
below n (Some k) = cond (ltb k n) (Some k) None

module _ {A : Type 0} (p : A → Bool) where
  none_below : (n i : ℕ) (ys : List A) → n ≤ i → below n (position_from p i ys) ≡ None
  none_below n i [] h = refl
  none_below n i (y ∷ ys) h = by (p y) (none_below n (i + 1) ys (omega (arith, h)))
    where
      by : (b : Bool) → below n (position_from p (i + 1) ys) ≡ None → below n (cond b (Some i) (position_from p (i + 1) ys)) ≡ None
      by true rest = ap (λ b. cond b (Some i) None) (le-ltb i n h)
      by false rest = rest

  from_front : (n i : ℕ) (xs ys : List A) → i + length xs ≡ n → below n (position_from p i (xs ++ ys)) ≡ position_from p i xs
  from_front n i [] ys h = none_below n i ys (omega (arith, h))
  from_front n i (x ∷ xs) ys h = by (p x) (from_front n (i + 1) xs ys (omega (arith, h)))
    where
      by : (b : Bool) → below n (position_from p (i + 1) (xs ++ ys)) ≡ position_from p (i + 1) xs
          → below n (cond b (Some i) (position_from p (i + 1) (xs ++ ys))) ≡ cond b (Some i) (position_from p (i + 1) xs)
      by true rest = ap (λ b. cond b (Some i) None) (lt-ltb i n (omega (arith, h)))
      by false rest = rest

  -- the place in the front of a list
  in_front : (xs ys : List A) → below (length xs) (position p (xs ++ ys)) ≡ position p xs
  in_front xs ys =
      ap (below (length xs)) (position_from-zero p (xs ++ ys)) ∙ (from_front (length xs) 0 xs ys (omega arith) ∙ sym (position_from-zero p xs))

  shifted : (k i : ℕ) (xs : List A) → position_from p (k + i) xs ≡ option_map (λ j. k + j) (position_from p i xs)
  shifted k i [] = refl
  shifted k i (x ∷ xs) = by (p x) (ap (λ n. position_from p n xs) (let e : k + i + 1 ≡ k + (i + 1) = omega arith in e) ∙ shifted k (i + 1) xs)
    where
      by : (b : Bool) → position_from p (k + i + 1) xs ≡ option_map (λ j. k + j) (position_from p (i + 1) xs)
          → cond b (Some (k + i)) (position_from p (k + i + 1) xs) ≡ option_map (λ j. k + j) (cond b (Some i) (position_from p (i + 1) xs))
      by true rest = refl
      by false rest = rest

  after : (i : ℕ) (xs ys : List A) → position_from p i (xs ++ ys) ≡ option_or (position_from p i xs) (position_from p (i + length xs) ys)
  after i [] ys = ap (λ n. position_from p n ys) (let e : i ≡ i + 0 = omega arith in e)
  after i (x ∷ xs) ys = by (p x) (after (i + 1) xs ys ∙ ap (λ n. option_or (position_from p (i + 1) xs) (position_from p n ys)) (let e : i + 1 + length xs ≡ i + length (x ∷ xs) = omega arith in e))
    where
      by : (b : Bool) → position_from p (i + 1) (xs ++ ys) ≡ option_or (position_from p (i + 1) xs) (position_from p (i + length (x ∷ xs)) ys)
          → cond b (Some i) (position_from p (i + 1) (xs ++ ys)) ≡ option_or (cond b (Some i) (position_from p (i + 1) xs)) (position_from p (i + length (x ∷ xs)) ys)
      by true rest = refl
      by false rest = rest

  -- the place in a list of two parts
  in_parts : (xs ys : List A) → position p (xs ++ ys) ≡ option_or (position p xs) (option_map (λ j. length xs + j) (position p ys))
  in_parts xs ys =
      position_from-zero p (xs ++ ys)
      ∙ (after 0 xs ys
      ∙ ap (option_or (position_from p 0 xs)) (ap (λ n. position_from p n ys) (let e : 0 + length xs ≡ length xs + 0 = omega arith in e) ∙ shifted (length xs) 0 ys)
      ∙ ap (λ (o : Option ℕ × Option ℕ). option_or o.0 (option_map (λ j. length xs + j) o.1)) (sym (λ i. (position_from-zero p xs i, position_from-zero p ys i))))

-- a root has the name, or a declared group
abbrev pub number_by : Option ℕ → Option ℕ → ℕ
number_by root group = unwrap_or (option_or root (option_map (λ place. 3 + place) group)) 1

pub number_is : (s : Scenario) (keys : List (List ℕ)) (name : List ℕ) → keys ≡ child_names s
    → number_by (position (same_name name) root_names) (below (length s.group) (position (same_name name) keys)) ≡ group_number s.group name
unfolding group_number
number_is s keys name is =
    let p = same_name name in
    let names = map (λ (g : GroupEntry). g.name) s.group in
    ap (λ ks. number_by (position p root_names) (below (length s.group) (position p ks))) is
    ∙ (ap (λ n. number_by (position p root_names) (below n (position p (child_names s)))) (sym (length-map s.group (λ (g : GroupEntry). g.name)))
    ∙ (ap (number_by (position p root_names)) (in_front p names (map (λ (y : SystemEntry). y.name) s.system))
    ∙ ap (λ o. unwrap_or o 1) (sym (in_parts p root_names names))))

-- the number of a name that a root has, that a declared group has, or that no group has

pub root_is : (root : ℕ) (roots : Option ℕ) (group : Option ℕ) → Some root ≡ roots → root ≡ number_by roots group
root_is root roots group is = ap (λ r. number_by r group) is

pub group_is : (place n : ℕ) (roots found : Option ℕ) → None ≡ roots → Some place ≡ found → place < n → 3 + place ≡ number_by roots (below n found)
group_is place n roots found none is h =
    ap (λ b. number_by None (cond b (Some place) None)) (sym (lt-ltb place n h))
    ∙ (ap (λ r. number_by r (below n (Some place))) none ∙ ap (λ f. number_by roots (below n f)) is)

pub default_is : (n : ℕ) (roots found : Option ℕ) → None ≡ roots → below n found ≡ None → 1 ≡ number_by roots (below n found)
default_is n roots found none is = ap (λ r. number_by r None) none ∙ ap (number_by roots) (sym is)

pub none_before : (place n : ℕ) (found : Option ℕ) → Some place ≡ found → n ≤ place → below n found ≡ None
none_before place n found is h = ap (below n) (sym is) ∙ ap (λ b. cond b (Some place) None) (le-ltb place n h)
