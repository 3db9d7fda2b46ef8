-- The names that are taken or known, as a walk comes past groups and systems.
use Rattle.std.proofs.Common.{ℕ, ◌≡◌, ◌+◌, ◌<◌, ◌||◌, List, ◌∷◌, ◌++◌, Bool, cond, Some, length, get_or, take, drop, map, sym, ap, ◌∙◌}
use Rattle.std.specs.List.{list_any}
use Rattle.std.proofs.lemmas.List.Folds.{list_any-append}
use Rattle.ent_types.specs.Types.{same_name}
use Rattle.ent_types.proofs.Lookups.{list_any-map}
use Rattle.scenario_record.specs.declared.record.GroupEntry.{GroupEntry}
use Rattle.scenario_record.specs.declared.record.SystemEntry.{SystemEntry}
use Rattle.scenario_faults.specs.Checks.{root_groups, repeated_from, orphan_from, stray_from}
use Rattle.scenario_faults.proofs.Steps.{here, taken, taken_more, taken_any}

-- the names of root groups and of declared ones
pub known_any : (p : List ℕ → Bool) (groups : List GroupEntry) → list_any p (root_groups ++ map (λ g. g.name) groups) ≡ (list_any p root_groups || list_any (λ (g : GroupEntry). p g.name) groups)
known_any p groups =
    list_any-append p root_groups (map (λ (g : GroupEntry). g.name) groups)
    ∙ ap (λ b. list_any p root_groups || b) (list_any-map p (λ (g : GroupEntry). g.name) groups)

module _ {A : Type 0} (name : A → List ℕ) (base : List (List ℕ)) where
  -- one element more, by whether its name is taken
  pub repeated_step : (xs : List A) (i : ℕ) (x : A) (b : Bool) → i < length xs → x ≡ get_or xs i x
      → b ≡ (list_any (same_name (name x)) base || list_any (λ y. same_name (name x) (name y)) (take i xs))
      → repeated_from (taken name base (take i xs)) i (map name (drop i xs))
      ≡ cond b (Some i) (repeated_from (taken name base (take (i + 1) xs)) (i + 1) (map name (drop (i + 1) xs)))
  repeated_step xs i x b within is test =
      let rest = map name (drop (i + 1) xs) in
      let passed = taken name base (take i xs) in
      ap (λ (ys : List A). repeated_from passed i (map name ys)) (here xs i x within is)
      ∙ ap (λ (c : Bool). cond c (Some i) (repeated_from (name x ∷ passed) (i + 1) rest)) (taken_any name (same_name (name x)) base (take i xs) ∙ sym test)
      ∙ ap (λ (ns : List (List ℕ)). cond b (Some i) (repeated_from ns (i + 1) rest)) (sym (taken_more name base xs i x within is))

-- one group more, by whether its parent is known
pub orphan_step : (groups : List GroupEntry) (i : ℕ) (g : GroupEntry) (b : Bool) → i < length groups → g ≡ get_or groups i g
    → b ≡ (list_any (same_name g.parent) root_groups || list_any (λ (h : GroupEntry). same_name g.parent h.name) (take i groups))
    → orphan_from (taken (λ (h : GroupEntry). h.name) root_groups (take i groups)) i (drop i groups)
    ≡ cond b (orphan_from (taken (λ (h : GroupEntry). h.name) root_groups (take (i + 1) groups)) (i + 1) (drop (i + 1) groups)) (Some i)
orphan_step groups i g b within is test =
    let name : GroupEntry → List ℕ = λ h. h.name in
    let rest = drop (i + 1) groups in
    let passed = taken name root_groups (take i groups) in
    ap (orphan_from passed i) (here groups i g within is)
    ∙ ap (λ (c : Bool). cond c (orphan_from (g.name ∷ passed) (i + 1) rest) (Some i)) (taken_any name (same_name g.parent) root_groups (take i groups) ∙ sym test)
    ∙ ap (λ (ns : List (List ℕ)). cond b (orphan_from ns (i + 1) rest) (Some i)) (sym (taken_more name root_groups groups i g within is))

-- one system more, by whether its group is known
pub stray_step : (groups : List GroupEntry) (systems : List SystemEntry) (i : ℕ) (y : SystemEntry) (b : Bool) → i < length systems → y ≡ get_or systems i y
    → b ≡ (list_any (same_name y.group) root_groups || list_any (λ (g : GroupEntry). same_name y.group g.name) groups)
    → stray_from (root_groups ++ map (λ (g : GroupEntry). g.name) groups) i (drop i systems)
    ≡ cond b (stray_from (root_groups ++ map (λ (g : GroupEntry). g.name) groups) (i + 1) (drop (i + 1) systems)) (Some i)
stray_step groups systems i y b within is test =
    let known = root_groups ++ map (λ (g : GroupEntry). g.name) groups in
    ap (stray_from known i) (here systems i y within is)
    ∙ ap (λ (c : Bool). cond c (stray_from known (i + 1) (drop (i + 1) systems)) (Some i)) (known_any (same_name y.group) groups ∙ sym test)
