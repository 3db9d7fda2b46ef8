-- Blocks in block order have rising ranks.
use Rattle.std.proofs.Common.{◌≡◌, ◌≢◌, ℕ, zero, suc, ◌+◌, ◌<◌, ◌≤◌, inl, inr, Bool, true, false, not, cond, nat_eq, List, [], ◌∷◌, ◌++◌, length, get_or, map, filter, Option, Some, None, refl, sym, ap, ◌∙◌, subst, arith}
use Rattle.std.specs.Prelude.{option_map, unwrap_or, count_by, is_some}
use Rattle.std.specs.List.{cons_option, remove}
use Rattle.std.specs.Option.{IsSome}
use Rattle.std.proofs.lemmas.Bool.{cases_eq, cases_lt, eq-eqb, ne_eqb}
use Rattle.std.proofs.lemmas.List.{get_or-map, length-map}
use Rattle.std.proofs.lemmas.List.Sums.{sum_by-append}
use Rattle.world_model.specs.Members.{In, IsRising, AreDistinct}
use Rattle.shared_values.specs.declared.table.Slot.{Slot as Interned}
use Rattle.archetype_store.specs.declared.slots.Held.{Held}
use Rattle.archetype_store.specs.Slots.{slot_at, AreOrdered, number_if, number_of, numbers_of}
use Rattle.archetype_store.specs.Stores.{Numbered}
use Rattle.archetype_store.specs.Inside.{AreUsed, Beside, beside, kept, numbered, blocks_in, rank_at, ranks_from}
use Rattle.archetype_store.proofs.Orders.{some_is, none_some}
use Rattle.archetype_store.proofs.Views.{slot-kept}
use Rattle.archetype_store.proofs.Added.{order-there}

-- ---- lists

pub in-at : (ts : List ℕ) (k : ℕ) → k < length ts → In (get_or ts k 0) ts
in-at [] k below = absurd (omega (arith, below))
in-at (t ∷ ts) zero below = inl refl
in-at (t ∷ ts) (suc k) below = inr (in-at ts k (omega (arith, below)))

pub at-in : (ts : List ℕ) (u : ℕ) → In u ts → (k : ℕ) × ((k < length ts) × (get_or ts k 0 ≡ u))
at-in [] u is = absurd is
at-in (t ∷ ts) u (inl e) = (zero, (omega arith, sym e))
at-in (t ∷ ts) u (inr is) = let rest = at-in ts u is in (suc rest.0, (omega (arith, rest.1.0), rest.1.1))

pub in-map : (f : ℕ → ℕ) (ns : List ℕ) (n : ℕ) → In n ns → In (f n) (map f ns)
in-map f [] n is = absurd is
in-map f (m ∷ ms) n (inl e) = inl (ap f e)
in-map f (m ∷ ms) n (inr is) = inr (in-map f ms n is)

pub rising-at : (ts : List ℕ) → IsRising ts → (j k : ℕ) → j < k → k < length ts → get_or ts j 0 < get_or ts k 0
rising-at [] rising j k less below = absurd (omega (arith, below))
rising-at (t ∷ ts) rising zero zero less below = absurd (omega (arith, less))
rising-at (t ∷ ts) rising zero (suc k) less below = rising.0 (get_or ts k 0) (in-at ts k (omega (arith, below)))
rising-at (t ∷ ts) rising (suc j) zero less below = absurd (omega (arith, less))
rising-at (t ∷ ts) rising (suc j) (suc k) less below = rising-at ts rising.1 j k (omega (arith, less)) (omega (arith, below))

pub used-at : (slots : List (Option Held)) (ns : List ℕ) (k : ℕ) → AreUsed slots ns → k < length ns → IsSome (slot_at slots (get_or ns k 0))
used-at slots [] k used below = absurd (omega (arith, below))
used-at slots (n ∷ ns) zero used below = used.0
used-at slots (n ∷ ns) (suc k) used below = used-at slots ns k used.1 (omega (arith, below))

-- numbers without one of them, whose other values differ
pub removed-is : (f : ℕ → ℕ) (ns : List ℕ) (k n : ℕ) → IsRising (map f ns) → k < length ns → get_or ns k 0 ≡ n → remove ns k ≡ filter (λ m. not (nat_eq m n)) ns
removed-is f [] k n rising below is = absurd (omega (arith, below))
removed-is f (m ∷ ms) zero n rising below is =
    sym (stay ms (λ u there. rising.0 u there)) ∙ sym (ap (λ b. cond (not b) (m ∷ filter (λ j. not (nat_eq j n)) ms) (filter (λ j. not (nat_eq j n)) ms)) (eq-eqb m n is))
  where
    stay : (js : List ℕ) → ((u : ℕ) → In u (map f js) → f m < u) → filter (λ j. not (nat_eq j n)) js ≡ js
    stay [] above = refl
    stay (j ∷ js) above =
        let apart : j ≢ n = λ e. omega (arith, above (f j) (inl refl), ap f (e ∙ sym is)) in
        ap (λ b. cond (not b) (j ∷ filter (λ i. not (nat_eq i n)) js) (filter (λ i. not (nat_eq i n)) js)) (ne_eqb j n apart)
        ∙ ap (λ is. j ∷ is) (stay js (λ u there. above u (inr there)))
removed-is f (m ∷ ms) (suc k) n rising below is =
    let there : In n ms = subst (λ j. In j ms) is (in-at ms k (omega (arith, below))) in
    let apart : m ≢ n = λ e. omega (arith, rising.0 (f n) (in-map f ms n there), ap f e) in
    ap (λ js. m ∷ js) (removed-is f ms k n rising.1 (omega (arith, below)) is)
    ∙ sym (ap (λ b. cond (not b) (m ∷ filter (λ j. not (nat_eq j n)) ms) (filter (λ j. not (nat_eq j n)) ms)) (ne_eqb m n apart))

-- ---- what the order tells

-- the part of an order from a place on tells the ranks of its blocks
abbrev pub Told : List (Option Held) → ℕ → List (Option ℕ) → Type 0
Told slots i os = (k n : ℕ) → slot_at os k ≡ Some n → (h : Held) × ((slot_at slots n ≡ Some h) × (h.rank ≡ i + k))

pub told-all : (slots : List (Option Held)) (order : List (Option ℕ)) → AreOrdered (λ (x : Beside). x.rank) (kept slots) order → Told slots 0 order
told-all slots order ordered k n at =
    let there = order-there slots order ordered k n at in
    let kept_there : slot_at (kept slots) n ≡ Some (beside there.0) = slot-kept slots n ∙ ap (option_map beside) there.1 in
    let rank : Some (there.0).rank ≡ Some k = ap (option_map (λ (x : Beside). x.rank)) (sym kept_there) ∙ ordered k n at in
    (there.0, (there.1, omega (arith, some_is (there.0).rank k rank)))

pub told-rest : (slots : List (Option Held)) (i : ℕ) (o : Option ℕ) (os : List (Option ℕ)) → Told slots i (o ∷ os) → Told slots (i + 1) os
told-rest slots i o os told k n at = let t = told (suc k) n at in (t.0, (t.1.0, omega (arith, t.1.1)))

pub rank-is : (slots : List (Option Held)) (n : ℕ) (h : Held) → slot_at slots n ≡ Some h → rank_at slots n ≡ h.rank
rank-is slots n h at = ap (λ (o : Option Held). unwrap_or (option_map (λ (x : Held). x.rank) o) 0) at

module _ (slots : List (Option Held)) (test : Beside → Bool) where
  abbrev chosen : List (Option ℕ) → List ℕ
  chosen os = numbers_of test (kept slots) os

  pub members-above : (i : ℕ) (os : List (Option ℕ)) → Told slots i os → (u : ℕ) → In u (map (rank_at slots) (numbers_of test (kept slots) os)) → i ≤ u
  members-above i [] told u is = absurd is
  members-above i (None ∷ os) told u is = omega (arith, members-above (i + 1) os (told-rest slots i None os told) u is)
  members-above i (Some m ∷ os) told u is = by (λ there. members-above (i + 1) os (told-rest slots i (Some m) os told) u there) (slot_at (kept slots) m) is
    where
      rank : rank_at slots m ≡ i + 0
      rank = let t = told zero m refl in rank-is slots m t.0 t.1.0 ∙ t.1.1

      by : (In u (map (rank_at slots) (chosen os)) → i + 1 ≤ u) → (o : Option Beside) → In u (map (rank_at slots) (number_if test m o ++ chosen os)) → i ≤ u
      by rest None there = omega (arith, rest there)
      by rest (Some x) there = of (test x) there
        where
          of : (b : Bool) → In u (map (rank_at slots) ((cond b (m ∷ []) []) ++ chosen os)) → i ≤ u
          of true (inl e) = omega (arith, e, rank)
          of true (inr more) = omega (arith, rest more)
          of false more = omega (arith, rest more)

  pub members-rise : (i : ℕ) (os : List (Option ℕ)) → Told slots i os → IsRising (map (rank_at slots) (numbers_of test (kept slots) os))
  members-rise i [] told = tt
  members-rise i (None ∷ os) told = members-rise (i + 1) os (told-rest slots i None os told)
  members-rise i (Some m ∷ os) told = by (members-rise (i + 1) os (told-rest slots i (Some m) os told)) (slot_at (kept slots) m)
    where
      rank : rank_at slots m ≡ i + 0
      rank = let t = told zero m refl in rank-is slots m t.0 t.1.0 ∙ t.1.1

      above : (u : ℕ) → In u (map (rank_at slots) (chosen os)) → i + 1 ≤ u
      above u there = members-above (i + 1) os (told-rest slots i (Some m) os told) u there

      by : IsRising (map (rank_at slots) (chosen os)) → (o : Option Beside) → IsRising (map (rank_at slots) (number_if test m o ++ chosen os))
      by rest None = rest
      by rest (Some x) = of (test x)
        where
          of : (b : Bool) → IsRising (map (rank_at slots) ((cond b (m ∷ []) []) ++ chosen os))
          of true = (λ u there. omega (arith, rank, above u there), rest)
          of false = rest

  -- a block that passes is among the numbers
  pub member-in : (os : List (Option ℕ)) (k n : ℕ) (x : Beside) → slot_at os k ≡ Some n → slot_at (kept slots) n ≡ Some x → test x ≡ true → In n (numbers_of test (kept slots) os)
  member-in [] k n x at there passes = absurd (none_some n at)
  member-in (o ∷ os) zero n x at there passes =
      subst (λ p. In n (number_of test (kept slots) p ++ chosen os)) (sym at)
      (subst (λ p. In n (number_if test n p ++ chosen os)) (sym there)
      (subst (λ b. In n ((cond b (n ∷ []) []) ++ chosen os)) (sym passes) (inl refl)))
  member-in (None ∷ os) (suc k) n x at there passes = member-in os k n x at there passes
  member-in (Some m ∷ os) (suc k) n x at there passes = by (member-in os k n x at there passes) (slot_at (kept slots) m)
    where
      by : In n (chosen os) → (o : Option Beside) → In n (number_if test m o ++ chosen os)
      by rest None = rest
      by rest (Some y) = of (test y)
        where
          of : (b : Bool) → In n ((cond b (m ∷ []) []) ++ chosen os)
          of true = inr rest
          of false = rest

-- ---- the blocks as contracts see them

module _ (slots : List (Option Held)) (table : List Interned) where
  abbrev numbers : List Numbered → List ℕ
  numbers bs = map (λ (b : Numbered). b.number) bs

  blocks-above : (i : ℕ) (os : List (Option ℕ)) → Told slots i os → (n : ℕ) → In n (map (λ (b : Numbered). b.number) (blocks_in slots table os)) → i ≤ rank_at slots n
  blocks-above i [] told n is = absurd is
  blocks-above i (None ∷ os) told n is = omega (arith, blocks-above (i + 1) os (told-rest slots i None os told) n is)
  blocks-above i (Some m ∷ os) told n is =
      let t = told zero m refl in
      of t.0 t.1.0 t.1.1 (λ more. blocks-above (i + 1) os (told-rest slots i (Some m) os told) n more) (subst (λ o. In n (numbers (cons_option (option_map (numbered table m) o) (blocks_in slots table os)))) t.1.0 is)
    where
      of : (h : Held) → slot_at slots m ≡ Some h → h.rank ≡ i + 0 → (In n (numbers (blocks_in slots table os)) → i + 1 ≤ rank_at slots n) → In n (m ∷ numbers (blocks_in slots table os)) → i ≤ rank_at slots n
      of h at rank rest (inl e) = omega (arith, ap (rank_at slots) e, rank-is slots m h at, rank)
      of h at rank rest (inr more) = omega (arith, rest more)

  pub blocks-distinct : (i : ℕ) (os : List (Option ℕ)) → Told slots i os → AreDistinct (map (λ (b : Numbered). b.number) (blocks_in slots table os))
  blocks-distinct i [] told = tt
  blocks-distinct i (None ∷ os) told = blocks-distinct (i + 1) os (told-rest slots i None os told)
  blocks-distinct i (Some m ∷ os) told =
      let t = told zero m refl in
      let rank : rank_at slots m ≡ i + 0 = rank-is slots m t.0 t.1.0 ∙ t.1.1 in
      let rest = told-rest slots i (Some m) os told in
      let both : AreDistinct (m ∷ numbers (blocks_in slots table os)) = (λ there. omega (arith, rank, blocks-above (i + 1) os rest m there), blocks-distinct (i + 1) os rest) in
      subst (λ o. AreDistinct (numbers (cons_option (option_map (numbered table m) o) (blocks_in slots table os)))) (sym t.1.0) both

  -- a block that is seen has a slot
  pub block-there : (os : List (Option ℕ)) (b : Numbered) → In b (blocks_in slots table os) → (m : ℕ) × ((h : Held) × ((slot_at slots m ≡ Some h) × (b ≡ numbered table m h)))
  block-there [] b is = absurd is
  block-there (None ∷ os) b is = block-there os b is
  block-there (Some m ∷ os) b is = by (λ there. block-there os b there) (slot_at slots m) refl is
    where
      by : (In b (blocks_in slots table os) → (k : ℕ) × ((h : Held) × ((slot_at slots k ≡ Some h) × (b ≡ numbered table k h)))) → (o : Option Held) → slot_at slots m ≡ o
          → In b (cons_option (option_map (numbered table m) o) (blocks_in slots table os)) → (k : ℕ) × ((h : Held) × ((slot_at slots k ≡ Some h) × (b ≡ numbered table k h)))
      by rest None at there = rest there
      by rest (Some h) at (inl e) = (m, (h, (at, e)))
      by rest (Some h) at (inr there) = rest there

-- ---- ranks

pub ranks-above : (i : ℕ) (os : List (Option ℕ)) (u : ℕ) → In u (ranks_from i os) → i ≤ u
ranks-above i [] u is = absurd is
ranks-above i (None ∷ os) u is = omega (arith, ranks-above (i + 1) os u is)
ranks-above i (Some n ∷ os) u (inl e) = omega (arith, e)
ranks-above i (Some n ∷ os) u (inr is) = omega (arith, ranks-above (i + 1) os u is)

pub ranks-rise : (i : ℕ) (os : List (Option ℕ)) → IsRising (ranks_from i os)
ranks-rise i [] = tt
ranks-rise i (None ∷ os) = ranks-rise (i + 1) os
ranks-rise i (Some n ∷ os) = (λ u is. omega (arith, ranks-above (i + 1) os u is), ranks-rise (i + 1) os)

count-cons : (o : Option ℕ) (os : List (Option ℕ)) → count_by is_some (o ∷ os) ≡ cond (is_some o) 1 0 + count_by is_some os
count-cons o os = sum_by-append (λ (p : Option ℕ). cond (is_some p) 1 0) (o ∷ []) os ∙ omega arith

pub ranks-count : (i : ℕ) (os : List (Option ℕ)) → length (ranks_from i os) ≡ count_by is_some os
ranks-count i [] = refl
ranks-count i (None ∷ os) = ranks-count (i + 1) os ∙ omega arith
ranks-count i (Some n ∷ os) = omega (arith, ranks-count (i + 1) os, count-cons (Some n) os)

-- ---- the search for a rank

module _ (slots : List (Option Held)) (ns : List ℕ) (rising : IsRising (map (rank_at slots) ns)) (rank : ℕ) where
  at-map : (k : ℕ) → k < length ns → get_or (map (rank_at slots) ns) k 0 ≡ rank_at slots (get_or ns k 0)
  at-map k below = get_or-map (rank_at slots) ns k 0 0 below

  rise : (j k : ℕ) → j < k → k < length ns → rank_at slots (get_or ns j 0) < rank_at slots (get_or ns k 0)
  rise j k less below =
      omega (arith, rising-at (map (rank_at slots) ns) rising j k less (omega (arith, below, length-map ns (rank_at slots))), at-map j (omega (arith, less, below)), at-map k below)

  -- the rank isn't before a lower one, nor after a higher one
  pub place-from : (mid k : ℕ) → mid < length ns → rank_at slots (get_or ns mid 0) ≤ rank → k < length ns → rank_at slots (get_or ns k 0) ≡ rank → mid ≤ k
  place-from mid k mid_below low below is =
      elim (cases_lt k mid) [
        | inl less ↦ absurd (omega (arith, rise k mid less mid_below, low, is))
        | inr more ↦ more
      ]

  pub place-before : (mid k : ℕ) → mid < length ns → rank < rank_at slots (get_or ns mid 0) → k < length ns → rank_at slots (get_or ns k 0) ≡ rank → k < mid
  place-before mid k mid_below high below is =
      elim (cases_lt k mid) [
        | inl less ↦ less
        | inr more ↦
            elim (cases_eq k mid) [
              | inl same ↦ absurd (omega (arith, high, is, ap (λ j. rank_at slots (get_or ns j 0)) same))
              | inr apart ↦ absurd (omega (arith, rise mid k (omega (arith, more, apart)) below, high, is))
            ]
      ]

  -- the place that is left is that of the rank
  pub place-found : (low high : ℕ) → In rank (map (rank_at slots) ns) → ((k : ℕ) → k < length ns → rank_at slots (get_or ns k 0) ≡ rank → (low ≤ k) × (k < high)) → high ≤ low + 1 → rank_at slots (get_or ns low 0) ≡ rank
  place-found low high there bounds near =
      let at = at-in (map (rank_at slots) ns) rank there in
      let k : ℕ = at.0 in
      let below : k < length ns = omega (arith, at.1.0, length-map ns (rank_at slots)) in
      let is : rank_at slots (get_or ns k 0) ≡ rank = sym (at-map k below) ∙ at.1.1 in
      let b = bounds k below is in
      ap (λ j. rank_at slots (get_or ns j 0)) (omega (arith, b.0, b.1, near)) ∙ is
