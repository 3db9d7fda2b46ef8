-- Siblings that can all be placed have no cycle.
use Rattle.std.proofs.Common.{◌≡◌, ℕ, ◌+◌, ◌-◌, ◌<◌, ◌≤◌, suc, zero, eqb, Bool, true, ◌&&◌, cond, ◌⊎◌, inl, inr, List, [], ◌∷◌, Option, Some, None, length, get_or, ap, ◌∙◌, sym, refl, subst, arith}
use Rattle.std.specs.List.{remove, position}
use Rattle.std.proofs.lemmas.Bool.{and_parts, cases_eq, cases_lt, eqb-true, false_from_ne_true, or_cases}
use Rattle.std.proofs.lemmas.List.Edits.{get_or-remove_above, get_or-remove_below, length-remove}
use Rattle.std.proofs.lemmas.List.Quantifiers.{position-Some}
use Rattle.std.proofs.lemmas.List.Sums.{get_or-le-sum_by}
use Rattle.system_order.specs.Chain.{chained, earliest_on_cycle, through}
use Rattle.system_order.specs.Place.{blockers_of, places}
use Rattle.system_order.proofs.Rows.{find_none}
use Rattle.system_order.proofs.Waits.{places_none, places_some}

-- a number is in a list
pub record Has (xs : List ℕ) (x : ℕ) : Type 0 where
  pub at : ℕ
  pub within : at < length xs
  pub here : get_or xs at 0 ≡ x

-- a number of a list is still there without one place, or is at that place
has_left : (xs : List ℕ) (i x : ℕ) → i < length xs → Has xs x → (x ≡ get_or xs i 0) ⊎ Has (remove xs i) x
has_left xs i x inside h =
    elim (cases_eq h.at i) [
      | inl same ↦ inl (sym h.here ∙ ap (λ k. get_or xs k 0) same)
      | inr other ↦ elim (cases_lt h.at i) [
        | inl below ↦ inr (record { at = h.at; within = omega (arith, length-remove xs i inside, h.within, below); here = get_or-remove_below xs i 0 h.at below inside ∙ h.here })
        | inr above ↦
            let next : h.at ≡ (h.at - 1) + 1 = omega (arith, above, other) in
            inr (record {
              at = h.at - 1;
              within = omega (arith, length-remove xs i inside, h.within, next);
              here = get_or-remove_above xs i 0 (h.at - 1) (omega (arith, above, other)) inside ∙ ap (λ k. get_or xs k 0) (sym next) ∙ h.here;
            })
      ]
    ]

-- a number of a list without one place is in the list
pub has_more : (xs : List ℕ) (i x : ℕ) → i < length xs → Has (remove xs i) x → Has xs x
has_more xs i x inside h =
    elim (cases_lt h.at i) [
      | inl below ↦ record { at = h.at; within = omega (arith, below, inside); here = sym (get_or-remove_below xs i 0 h.at below inside) ∙ h.here }
      | inr above ↦ record { at = h.at + 1; within = omega (arith, length-remove xs i inside, h.within); here = sym (get_or-remove_above xs i 0 h.at above inside) ∙ h.here }
    ]

-- who is free is preceded by none
none_before : (before : ℕ → ℕ → Bool) (rest : List ℕ) (x y : ℕ) → eqb (blockers_of before rest y) 0 ≡ true → Has rest x → before x y ≡ true → ⊥
none_before before rest x y free h leads =
    let few = get_or-le-sum_by (λ other. cond (before other y) 1 0) rest h.at 0 h.within in
    let none : cond (before x y) 1 0 ≤ 0 = subst (λ (n : ℕ). cond (before x y) 1 0 ≤ n) (eqb-true (blockers_of before rest y) 0 free) (subst (λ (z : ℕ). cond (before z y) 1 0 ≤ blockers_of before rest y) h.here few) in
    let one : 1 ≤ 0 = subst (λ (b : Bool). cond b 1 0 ≤ 0) leads none in
    omega (arith, one)

-- from the rest the relation leads only to what is left of it
abbrev LeadsInto : (ℕ → ℕ → Bool) → List ℕ → List ℕ → List ℕ → Type 0
LeadsInto leads all rest left = (x y : ℕ) → Has rest x → Has all y → leads x y ≡ true → Has left y

-- so do its chains
chains_into : (all rest left : List ℕ) → ((x : ℕ) → Has left x → Has rest x) → (middles : List ℕ) → ((x : ℕ) → Has middles x → Has all x) → (leads : ℕ → ℕ → Bool) → LeadsInto leads all rest left → LeadsInto (chained leads middles) all rest left
unfolding chained
chains_into all rest left inside [] known leads into = into
chains_into all rest left inside (z ∷ zs) known leads into =
    chains_into all rest left inside zs (λ x h. known x (record { at = suc h.at; within = omega (arith, h.within); here = h.here })) (through leads z)
    (λ x y hx hy h. elim (or_cases (leads x y) (leads x z && leads z y) h) [
      | inl direct ↦ into x y hx hy direct
      | inr round ↦
          let parts = and_parts (leads x z) (leads z y) round in
          into z y (inside z (into x z hx (known z (record { at = 0; within = omega arith; here = refl })) parts.0)) hy parts.1
    ])

-- where all of the rest get a place, and from the rest only the rest is led to, none of the rest leads to itself
abbrev IsAcyclic : (ℕ → ℕ → Bool) → List ℕ → ℕ → List ℕ → Type 0
IsAcyclic before all room rest =
    room ≡ length rest → length (places before room rest) ≡ length rest → LeadsInto before all rest rest → ((x : ℕ) → Has rest x → Has all x) → (x : ℕ) → Has rest x → chained before all x x ≡ true → ⊥

acyclic_by : (before : ℕ → ℕ → Bool) (all : List ℕ) (room : ℕ) (rest : List ℕ) → ((left : List ℕ) → IsAcyclic before all room left) → (free : Option ℕ) → position (λ sibling. eqb (blockers_of before rest sibling) 0) rest ≡ free → IsAcyclic before all (suc room) rest
acyclic_by before all room rest later None none long full into known x h cycle =
    let empty : length (places before (suc room) rest) ≡ 0 = ap (λ (ys : List ℕ). length ys) (places_none before (suc room) rest none) in
    absurd (omega (arith, empty, full, long))
acyclic_by before all room rest later (Some at) some long full into known x h cycle =
    let at_first = position-Some (λ sibling. eqb (blockers_of before rest sibling) 0) rest at 0 some in
    let left = remove rest at in
    let first = get_or rest at 0 in
    let shorter = length-remove rest at at_first.0 in
    let full_left : length (places before room left) ≡ length left =
    omega (arith, full, shorter, ap (λ (ys : List ℕ). length ys) (places_some before room rest at some)) in
    let into_left : (x y : ℕ) → Has rest x → Has all y → before x y ≡ true → Has left y = λ x y hx hy leads.
    elim (has_left rest at y at_first.0 (into x y hx hy leads)) [
      | inl same ↦ absurd (none_before before rest x first at_first.1 hx (subst (λ (z : ℕ). before x z ≡ true) same leads))
      | inr stays ↦ stays
    ] in
    let left_inside : (x : ℕ) → Has left x → Has rest x = λ x. has_more rest at x at_first.0 in
    later left (omega (arith, shorter, long)) full_left (λ x y hx. into_left x y (left_inside x hx)) (λ x hx. known x (left_inside x hx)) x
    (chains_into all rest left left_inside all (λ x hx. hx) before into_left x x h (known x h) cycle) cycle

acyclic : (before : ℕ → ℕ → Bool) (all : List ℕ) (room : ℕ) (rest : List ℕ) → IsAcyclic before all room rest
acyclic before all zero rest = λ long full into known x h cycle. absurd (omega (arith, h.within, long))
acyclic before all (suc room) rest = acyclic_by before all room rest (acyclic before all room) (position (λ sibling. eqb (blockers_of before rest sibling) 0) rest) refl

-- siblings that all get a place have no cycle
pub placed_all : (before : ℕ → ℕ → Bool) (siblings : List ℕ) → length (places before (length siblings) siblings) ≡ length siblings → earliest_on_cycle before siblings ≡ None
unfolding earliest_on_cycle
placed_all before siblings full =
    find_none (λ sibling. chained before siblings sibling sibling) siblings
    (λ k within. false_from_ne_true (chained before siblings (get_or siblings k 0) (get_or siblings k 0))
    (acyclic before siblings (length siblings) siblings refl full (λ x y hx hy leads. hy) (λ x hx. hx) (get_or siblings k 0) (record { at = k; within = within; here = refl })))
