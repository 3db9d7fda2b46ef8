-- A store whose blocks have the ranks that they have without empty places.
use Rattle.std.proofs.Common.{◌≡◌, ◌≢◌, ℕ, zero, suc, ◌+◌, ◌<◌, ◌≤◌, inl, inr, Bool, true, false, cond, nat_eq, List, [], ◌∷◌, ◌++◌, length, map, filter, Option, Some, None, refl, sym, ap, ◌∙◌, subst, arith}
use Rattle.std.specs.Prelude.{option_map, count_by, is_some, unwrap_or}
use Rattle.std.specs.List.{cons_option, flat_map}
use Rattle.std.specs.Option.{IfSome, IsSome}
use Rattle.std.proofs.lemmas.Bool.{cases_eq, cases_lt, false≢true}
use Rattle.std.proofs.lemmas.List.{get_or-map, get_or_past, get_or-set_same, get_or-set_other, length-map}
use Rattle.std.proofs.lemmas.List.Sums.{sum_by-append}
use Rattle.std.proofs.Math.Seq.{map-set_same}
use Rattle.world_model.specs.Members.{In, IsRising}
use Rattle.ent_types.specs.declared.type_info.TypeInfo.{TypeInfo}
use Rattle.shared_values.specs.declared.table.Slot.{Slot as Interned}
use Rattle.archetype_store.specs.declared.homes.HomeKey.{HomeKey}
use Rattle.archetype_store.specs.declared.slots.Held.{Held}
use Rattle.archetype_store.specs.Holding.{AreTyped, Backs, ids_of}
use Rattle.archetype_store.specs.Homes.{AreHomes, HomeState, has_rank, home_at, is_roomy_at, lodger, lodgers, no_home}
use Rattle.archetype_store.specs.Slots.{AreFree, AreOrdered, ArePlaced, free_at, number_if, number_of, numbers_of, slot_at}
use Rattle.archetype_store.specs.Inside.{AreAllTyped, AreOfArchetypes, Beside, IsOfArchetype, IsOrderly, all_ids, beside, blocks_in, kept, members_of, numbered, rank_at}
use Rattle.archetype_store.specs.Gaps.{Renumbers, all_unranked, rank_there, ranked, reranked, taken, unranked}
use Rattle.archetype_store.proofs.Orders.{below_of, none_some, some_is}
use Rattle.archetype_store.proofs.Views.{slot-kept}
use Rattle.archetype_store.proofs.Ranks.{in-map, rank-is}
use Rattle.archetype_store.proofs.RankLists.{has-in, in-has}

-- ---- places

-- the first places without the empty ones
taken-suc : (k : ℕ) (os : List (Option ℕ)) → k < length os → taken (suc k) os ≡ cond (is_some (slot_at os k)) (taken k os + 1) (taken k os)
taken-suc k [] below = absurd (omega (arith, below))
taken-suc zero (None ∷ os) below = refl
taken-suc zero (Some n ∷ os) below = refl
taken-suc (suc k) (None ∷ os) below = taken-suc k os (omega (arith, below))
taken-suc (suc k) (Some n ∷ os) below = ap (λ j. j + 1) (taken-suc k os (omega (arith, below))) ∙ by (is_some (slot_at os k))
  where
    by : (b : Bool) → cond b (taken k os + 1) (taken k os) + 1 ≡ cond b (taken k os + 1 + 1) (taken k os + 1)
    by true = refl
    by false = refl

pub taken-next : (k : ℕ) (os : List (Option ℕ)) → k < length os → taken (k + 1) os ≡ cond (is_some (slot_at os k)) (taken k os + 1) (taken k os)
taken-next k os below = let step : k + 1 ≡ suc k = omega arith in ap (λ j. taken j os) step ∙ taken-suc k os below

pub taken-most : (k : ℕ) (os : List (Option ℕ)) → taken k os ≤ k
taken-most zero os = omega arith
taken-most (suc k) [] = omega arith
taken-most (suc k) (None ∷ os) = omega (arith, taken-most k os)
taken-most (suc k) (Some n ∷ os) = omega (arith, taken-most k os)

taken-rises : (j k n : ℕ) (os : List (Option ℕ)) → slot_at os j ≡ Some n → j < k → taken j os < taken k os
taken-rises j k n [] at less = absurd (none_some n at)
taken-rises zero zero n (o ∷ os) at less = absurd (omega (arith, less))
taken-rises zero (suc k) n (None ∷ os) at less = absurd (none_some n at)
taken-rises zero (suc k) n (Some m ∷ os) at less = omega arith
taken-rises (suc j) zero n (o ∷ os) at less = absurd (omega (arith, less))
taken-rises (suc j) (suc k) n (None ∷ os) at less = taken-rises j k n os at (omega (arith, less))
taken-rises (suc j) (suc k) n (Some m ∷ os) at less = omega (arith, taken-rises j k n os at (omega (arith, less)))

-- where a taken place is without the empty ones
closed-at : (k n : ℕ) (os : List (Option ℕ)) → slot_at os k ≡ Some n → slot_at (filter is_some os) (taken k os) ≡ Some n
closed-at k n [] at = absurd (none_some n at)
closed-at zero n (None ∷ os) at = absurd (none_some n at)
closed-at zero n (Some m ∷ os) at = at
closed-at (suc k) n (None ∷ os) at = closed-at k n os at
closed-at (suc k) n (Some m ∷ os) at = next (taken k os) (filter is_some os) (closed-at k n os at)
  where
    next : (j : ℕ) (ps : List (Option ℕ)) → slot_at ps j ≡ Some n → slot_at (Some m ∷ ps) (j + 1) ≡ Some n
    next j ps is = subst (λ i. slot_at (Some m ∷ ps) i ≡ Some n) step is
      where
        step : suc j ≡ j + 1
        step = omega arith

-- and where it was
opened-at : (j n : ℕ) (os : List (Option ℕ)) → slot_at (filter is_some os) j ≡ Some n → (k : ℕ) × ((slot_at os k ≡ Some n) × (taken k os ≡ j))
opened-at j n [] at = absurd (none_some n at)
opened-at j n (None ∷ os) at = let rest = opened-at j n os at in (suc rest.0, (rest.1.0, rest.1.1))
opened-at zero n (Some m ∷ os) at = (zero, (at, refl))
opened-at (suc j) n (Some m ∷ os) at = let rest = opened-at j n os at in (suc rest.0, (rest.1.0, omega (arith, rest.1.1)))

-- an empty place gives nothing
flat-closed : {Y : Type 0} (f : Option ℕ → List Y) → f None ≡ [] → (os : List (Option ℕ)) → flat_map f (filter is_some os) ≡ flat_map f os
flat-closed f none [] = refl
flat-closed f none (None ∷ os) = flat-closed f none os ∙ sym (ap (λ ys. ys ++ flat_map f os) none)
flat-closed f none (Some n ∷ os) = ap (λ ys. f (Some n) ++ ys) (flat-closed f none os)

count-closed : (os : List (Option ℕ)) → count_by is_some (filter is_some os) ≡ count_by is_some os
count-closed [] = refl
count-closed (None ∷ os) = omega (arith, count-closed os, sum_by-append (λ (o : Option ℕ). cond (is_some o) 1 0) (None ∷ []) os)
count-closed (Some n ∷ os) =
    omega (
      arith,
      sum_by-append (λ (o : Option ℕ). cond (is_some o) 1 0) (Some n ∷ []) (filter is_some os),
      sum_by-append (λ (o : Option ℕ). cond (is_some o) 1 0) (Some n ∷ []) os,
      count-closed os,
    )

-- ---- slots

module _ {X Y : Type 0} (f : X → Y) where
  at-mapped : (slots : List (Option X)) (n : ℕ) → slot_at (map (option_map f) slots) n ≡ option_map f (slot_at slots n)
  at-mapped slots n =
      elim (cases_lt n (length slots)) [
        | inl below ↦ get_or-map (option_map f) slots n None None below
        | inr past ↦
            get_or_past (map (option_map f) slots) n None (omega (arith, length-map slots (option_map f), past)) ∙ sym (ap (option_map f) (get_or_past slots n None past))
      ]

  count-mapped : (slots : List (Option X)) → count_by is_some (map (option_map f) slots) ≡ count_by is_some slots
  count-mapped [] = refl
  count-mapped (o ∷ os) =
      omega (
        arith,
        sum_by-append (λ (p : Option Y). cond (is_some p) 1 0) (option_map f o ∷ []) (map (option_map f) os),
        sum_by-append (λ (p : Option X). cond (is_some p) 1 0) (o ∷ []) os,
        ap {B = ℕ} (λ b. cond b 1 0) (same o),
        count-mapped os,
      )
    where
      same : (p : Option X) → is_some (option_map f p) ≡ is_some p
      same None = refl
      same (Some x) = refl

-- what doesn't see the rank
erased : {Y : Type 0} (f : Held → Y) → ((h : Held) → f (unranked h) ≡ f h) → (slots : List (Option Held)) → map (option_map f) (all_unranked slots) ≡ map (option_map f) slots
erased f blind [] = refl
erased f blind (None ∷ os) = ap (λ ys. None ∷ ys) (erased f blind os)
erased f blind (Some h ∷ os) = ap (λ y. Some y ∷ map (option_map f) (all_unranked os)) (blind h) ∙ ap (λ ys. Some (f h) ∷ ys) (erased f blind os)

-- what is kept of a block, without its rank
abbrev bare : Beside → Beside
bare x = record x { rank = 0 }

-- ---- the ranks are given one by one

pub kept-ordered : (slots : List (Option Held)) (order : List (Option ℕ)) → AreOrdered (λ (x : Beside). x.rank) (kept slots) order → AreOrdered (λ (h : Held). h.rank) slots order
kept-ordered slots order ordered k n at = by (slot_at slots n) (slot-kept slots n)
  where
    by : (o : Option Held) → slot_at (kept slots) n ≡ option_map beside o → option_map (λ (h : Held). h.rank) o ≡ Some k
    by None is = absurd (none_some k (ap (option_map (λ (x : Beside). x.rank)) (sym is) ∙ ordered k n at))
    by (Some h) is = ap (option_map (λ (x : Beside). x.rank)) (sym is) ∙ ordered k n at

module _ (first slots : List (Option Held)) (order : List (Option ℕ)) (ordered : AreOrdered (λ (h : Held). h.rank) first order) (same : all_unranked slots ≡ all_unranked first) where
  -- a place that is taken has a block
  pub used-still : (k n : ℕ) → slot_at order k ≡ Some n → (h : Held) × (slot_at slots n ≡ Some h)
  used-still k n at = by (slot_at slots n) (slot_at first n) refl (sym (at-mapped unranked slots n) ∙ ap (λ ss. slot_at ss n) same ∙ at-mapped unranked first n) (ordered k n at)
    where
      by : (o p : Option Held) → slot_at slots n ≡ o → option_map unranked o ≡ option_map unranked p → option_map (λ (h : Held). h.rank) p ≡ Some k → (h : Held) × (o ≡ Some h)
      by None None is eq some = absurd (none_some k some)
      by None (Some g) is eq some = absurd (none_some (unranked g) eq)
      by (Some h) p is eq some = (h, refl)

  pub used-place : (k : ℕ) (o : Option ℕ) → slot_at order k ≡ o → IfSome o (λ n. IsSome (slot_at slots n))
  used-place k None at = tt
  used-place k (Some n) at = subst IsSome (sym (used-still k n at).1) refl

  -- no block is at two places
  apart : (j k m n : ℕ) → slot_at order j ≡ Some m → slot_at order k ≡ Some n → j ≢ k → m ≢ n
  apart j k m n at_j at_k differ is =
      differ (some_is j k (sym (ordered j m at_j) ∙ ap (λ i. option_map (λ (h : Held). h.rank) (slot_at first i)) is ∙ ordered k n at_k))

  -- one rank more
  module _ (p : ℕ) (below : p < length order) (ranks : (k n : ℕ) → k < p → slot_at order k ≡ Some n → rank_at slots n ≡ taken k order) where
    set-same : (n : ℕ) → all_unranked (ranked (Some n) (taken p order) slots) ≡ all_unranked slots
    set-same n = map-set_same (option_map unranked) slots n (option_map (λ (h : Held). record h { rank = taken p order }) (slot_at slots n)) None (by (slot_at slots n))
      where
        by : (o : Option Held) → option_map unranked (option_map (λ (h : Held). record h { rank = taken p order }) o) ≡ option_map unranked o
        by None = refl
        by (Some h) = refl

    pub same-next : (o : Option ℕ) → all_unranked (ranked o (taken p order) slots) ≡ all_unranked first
    same-next None = same
    same-next (Some n) = set-same n ∙ same

    pub ranks-next : (o : Option ℕ) → slot_at order p ≡ o → (k n : ℕ) → k < p + 1 → slot_at order k ≡ Some n → rank_at (ranked o (taken p order) slots) n ≡ taken k order
    ranks-next None none k n less at =
        elim (cases_eq k p) [
          | inl is ↦ absurd (none_some n (sym none ∙ ap (slot_at order) (sym is) ∙ at))
          | inr differs ↦ ranks k n (omega (arith, less, differs)) at
        ]
    ranks-next (Some m) some k n less at =
        elim (cases_eq k p) [
          | inl is ↦
              let this : n ≡ m = some_is n m (sym at ∙ ap (slot_at order) is ∙ some) in
              let there = used-still p m some in
              let now : slot_at (ranked (Some m) (taken p order) slots) n ≡ Some (record (there.0) { rank = taken p order }) =
              ap (slot_at (ranked (Some m) (taken p order) slots)) this
              ∙ get_or-set_same slots m (option_map (λ (h : Held). record h { rank = taken p order }) (slot_at slots m)) None (below_of slots m there.0 there.1)
              ∙ ap (option_map (λ (h : Held). record h { rank = taken p order })) there.1 in
              rank-is (ranked (Some m) (taken p order) slots) n (record (there.0) { rank = taken p order }) now ∙ ap (λ i. taken i order) (sym is)
          | inr differs ↦
              let other : n ≢ m = apart k p n m at some differs in
              ap (λ (o : Option Held). unwrap_or (option_map (λ (h : Held). h.rank) o) 0)
              (get_or-set_other slots m n (option_map (λ (h : Held). record h { rank = taken p order }) (slot_at slots m)) None other)
              ∙ ranks k n (omega (arith, less, differs)) at
        ]

-- ---- the store with new ranks

in-mapped : (f : ℕ → ℕ) (u : ℕ) (ys : List ℕ) → In u (map f ys) → (r : ℕ) × (In r ys × (f r ≡ u))
in-mapped f u [] is = absurd is
in-mapped f u (y ∷ ys) (inl e) = (y, (inl refl, sym e))
in-mapped f u (y ∷ ys) (inr is) = let rest = in-mapped f u ys is in (rest.0, (inr rest.1.0, rest.1.1))

rising-map : (f : ℕ → ℕ) (xs : List ℕ) → IsRising xs → ((r s : ℕ) → In r xs → In s xs → r < s → f r < f s) → IsRising (map f xs)
rising-map f [] rising up = tt
rising-map f (x ∷ xs) rising up = (
  λ u is. let there = in-mapped f u xs is in subst (λ v. f x < v) there.1.1 (up x there.0 (inl refl) (inr there.1.0) (rising.0 there.0 there.1.0)),
  rising-map f xs rising.1 (λ r s in_r in_s less. up r s (inr in_r) (inr in_s) less),
)

same-truth : (a b : Bool) → (a ≡ true → b ≡ true) → (b ≡ true → a ≡ true) → a ≡ b
same-truth true true ab ba = refl
same-truth true false ab ba = sym (ab refl)
same-truth false true ab ba = ba refl
same-truth false false ab ba = refl

module _ (old new : List (Option Held)) (order : List (Option ℕ)) (ordered : AreOrdered (λ (x : Beside). x.rank) (kept old) order) (re : Renumbers old new order) where
  abbrev closed : List (Option ℕ)
  closed = filter is_some order

  -- what a function sees of the blocks that doesn't see their ranks
  through : {Y : Type 0} (f : Held → Y) → ((h : Held) → f (unranked h) ≡ f h) → map (option_map f) new ≡ map (option_map f) old
  through f blind = sym (erased f blind new) ∙ ap (map (option_map f)) re.same ∙ erased f blind old

  bare-same : map (option_map (λ h. bare (beside h))) new ≡ map (option_map (λ h. bare (beside h))) old
  bare-same = through (λ h. bare (beside h)) (λ h. refl)

  pub lodgers-same : lodgers new ≡ lodgers old
  lodgers-same = through lodger (λ h. refl)

  -- what is kept of a block there was kept, but for its rank
  bare-at : (n : ℕ) → option_map bare (slot_at (kept new) n) ≡ option_map bare (slot_at (kept old) n)
  bare-at n =
      ap (option_map bare) (slot-kept new n) ∙ twice (slot_at new n) ∙ sym (at-mapped (λ h. bare (beside h)) new n) ∙ ap (λ ss. slot_at ss n) bare-same
      ∙ at-mapped (λ h. bare (beside h)) old n ∙ sym (ap (option_map bare) (slot-kept old n) ∙ twice (slot_at old n))
    where
      twice : (o : Option Held) → option_map bare (option_map beside o) ≡ option_map (λ h. bare (beside h)) o
      twice None = refl
      twice (Some h) = refl

  none-at : (n : ℕ) → slot_at (kept old) n ≡ None → slot_at (kept new) n ≡ None
  none-at n none = by (slot_at (kept new) n) (bare-at n ∙ ap (option_map bare) none)
    where
      by : (o : Option Beside) → option_map bare o ≡ None → o ≡ None
      by None is = refl
      by (Some x) is = absurd (none_some (bare x) (sym is))

  some-at : (n : ℕ) (x : Beside) → slot_at (kept new) n ≡ Some x → (y : Beside) × ((slot_at (kept old) n ≡ Some y) × (bare x ≡ bare y))
  some-at n x at = by (slot_at (kept old) n) refl (sym (bare-at n) ∙ ap (option_map bare) at)
    where
      by : (o : Option Beside) → slot_at (kept old) n ≡ o → option_map bare o ≡ Some (bare x) → (y : Beside) × ((slot_at (kept old) n ≡ Some y) × (bare x ≡ bare y))
      by None is eq = absurd (none_some (bare x) eq)
      by (Some y) is eq = (y, (is, sym (some_is (bare y) (bare x) eq)))

  length-same : length (kept new) ≡ length (kept old)
  length-same =
      omega (
        arith,
        ap length re.same,
        length-map new (option_map unranked),
        length-map old (option_map unranked),
        length-map new (option_map beside),
        length-map old (option_map beside),
      )

  count-same : count_by is_some (kept new) ≡ count_by is_some (kept old)
  count-same = count-mapped beside new ∙ sym (count-mapped unranked new) ∙ ap (count_by is_some) re.same ∙ count-mapped unranked old ∙ sym (count-mapped beside old)

  used-new : (k n : ℕ) → slot_at order k ≡ Some n → (h : Held) × (slot_at new n ≡ Some h)
  used-new k n at = used-still old new order (kept-ordered old order ordered) re.same k n at

  rank-new : (k n : ℕ) (x : Beside) → slot_at order k ≡ Some n → slot_at (kept new) n ≡ Some x → x.rank ≡ taken k order
  rank-new k n x at there =
      let u = used-new k n at in
      let same : beside u.0 ≡ x = some_is (beside u.0) x (sym (slot-kept new n ∙ ap (option_map beside) u.1) ∙ there) in
      ap (λ (y : Beside). y.rank) (sym same) ∙ sym (rank-is new n u.0 u.1) ∙ re.ranks k n at

  ordered-new : AreOrdered (λ (x : Beside). x.rank) (kept new) closed
  ordered-new j n at =
      let was = opened-at j n order at in
      let u = used-new was.0 n was.1.0 in
      let there : slot_at (kept new) n ≡ Some (beside u.0) = slot-kept new n ∙ ap (option_map beside) u.1 in
      ap (option_map (λ (x : Beside). x.rank)) there ∙ ap Some (rank-new was.0 n (beside u.0) was.1.0 there ∙ was.1.1)

  placed-new : ArePlaced (λ (x : Beside). x.rank) (kept old) order → ArePlaced (λ (x : Beside). x.rank) (kept new) closed
  placed-new placed n x at =
      let y = some-at n x at in
      let there : slot_at order (y.0).rank ≡ Some n = placed n y.0 y.1.0 in
      ap (slot_at closed) (rank-new (y.0).rank n x there at) ∙ closed-at (y.0).rank n order there

  free-new : (free : List ℕ) → AreFree (kept old) free → AreFree (kept new) free
  free-new free are j below =
      let this = are j below in
      record { below = omega (arith, this.below, length-same); vacant = none-at (free_at free j) this.vacant; once = this.once }

  of-bare : (registry : List TypeInfo) (archetypes : List (List ℕ)) (x : Beside) → IsOfArchetype registry archetypes (bare x) → IsOfArchetype registry archetypes x
  of-bare registry archetypes x of = record { there = of.there; types = of.types; capacity = of.capacity; shapes = of.shapes; shared = of.shared }

  bare-of : (registry : List TypeInfo) (archetypes : List (List ℕ)) (x : Beside) → IsOfArchetype registry archetypes x → IsOfArchetype registry archetypes (bare x)
  bare-of registry archetypes x of = record { there = of.there; types = of.types; capacity = of.capacity; shapes = of.shapes; shared = of.shared }

  of-new : (registry : List TypeInfo) (archetypes : List (List ℕ)) → AreOfArchetypes registry archetypes (kept old) → AreOfArchetypes registry archetypes (kept new)
  of-new registry archetypes of n x at =
      let y = some-at n x at in
      of-bare registry archetypes x (subst (IsOfArchetype registry archetypes) (sym y.1.1) (bare-of registry archetypes y.0 (of n y.0 y.1.0)))

  members-new : (a : ℕ) → members_of (kept new) a closed ≡ members_of (kept old) a order
  members-new a = flat-closed (number_of (λ (x : Beside). nat_eq x.archetype a) (kept new)) refl order ∙ each order
    where
      blind : (n : ℕ) (o : Option Beside) → number_if (λ (x : Beside). nat_eq x.archetype a) n (option_map bare o) ≡ number_if (λ (x : Beside). nat_eq x.archetype a) n o
      blind n None = refl
      blind n (Some x) = refl

      each : (os : List (Option ℕ)) → numbers_of (λ (x : Beside). nat_eq x.archetype a) (kept new) os ≡ numbers_of (λ (x : Beside). nat_eq x.archetype a) (kept old) os
      each [] = refl
      each (None ∷ os) = each os
      each (Some n ∷ os) =
          ap (λ ns. ns ++ numbers_of (λ (x : Beside). nat_eq x.archetype a) (kept new) os)
          (sym (blind n (slot_at (kept new) n)) ∙ ap (number_if (λ (x : Beside). nat_eq x.archetype a) n) (bare-at n) ∙ blind n (slot_at (kept old) n))
          ∙ ap (λ ns. number_of (λ (x : Beside). nat_eq x.archetype a) (kept old) (Some n) ++ ns) (each os)

  ids-new : all_ids (kept new) ≡ all_ids (kept old)
  ids-new = sym (ids-bare new) ∙ ap ids-in bare-same ∙ ids-bare old
    where
      ids-in : List (Option Beside) → List ℕ
      ids-in xs = all_ids xs

      ids-bare : (slots : List (Option Held)) → all_ids (map (option_map (λ h. bare (beside h))) slots) ≡ all_ids (kept slots)
      ids-bare [] = refl
      ids-bare (None ∷ os) = ids-bare os
      ids-bare (Some h ∷ os) = ap (λ ids. ids_of h.shared.items ++ ids) (ids-bare os)

  pub orderly-closed : (registry : Option (List TypeInfo)) (archetypes members : List (List ℕ)) (free : List ℕ) (room : ℕ) (table : List Interned)
      → IsOrderly registry archetypes members (kept old) free room order table → IsOrderly registry archetypes members (kept new) free room (filter is_some order) table
  orderly-closed registry archetypes members free room table orderly = record {
    are_free = free-new free orderly.are_free;
    counted = omega (arith, orderly.counted, count-same, length-same);
    free_room = omega (arith, orderly.free_room, length-same);
    few = omega (arith, orderly.few, length-same);
    ordered = ordered-new;
    placed = placed-new orderly.placed;
    order_counted = count-closed order ∙ orderly.order_counted ∙ sym count-same;
    of_archetypes = of-new (unwrap_or registry []) archetypes orderly.of_archetypes;
    members_there = orderly.members_there;
    members_are = λ a below. orderly.members_are a below ∙ sym (members-new a);
    backs = subst (Backs table) (sym ids-new) orderly.backs;
    registered = orderly.registered;
    most = orderly.most;
    fit = orderly.fit;
  }

  pub typed-closed : (table : List Interned) → AreAllTyped table (kept old) → AreAllTyped table (kept new)
  typed-closed table typed n x at =
      let y = some-at n x at in
      subst (λ (z : Beside). AreTyped table z.shared) (sym y.1.1) (typed n y.0 y.1.0)

  -- contracts see the same blocks
  pub blocks-closed : (table : List Interned) → blocks_in new table (filter is_some order) ≡ blocks_in old table order
  blocks-closed table = close order
    where
      blind : (n : ℕ) (o : Option Held) → option_map (numbered table n) (option_map unranked o) ≡ option_map (numbered table n) o
      blind n None = refl
      blind n (Some h) = refl

      here : (n : ℕ) → option_map (numbered table n) (slot_at new n) ≡ option_map (numbered table n) (slot_at old n)
      here n =
          sym (blind n (slot_at new n))
          ∙ ap (option_map (numbered table n)) (sym (at-mapped unranked new n) ∙ ap (λ ss. slot_at ss n) re.same ∙ at-mapped unranked old n)
          ∙ blind n (slot_at old n)

      close : (os : List (Option ℕ)) → blocks_in new table (filter is_some os) ≡ blocks_in old table os
      close [] = refl
      close (None ∷ os) = close os
      close (Some n ∷ os) = ap (λ b. cons_option b (blocks_in new table (filter is_some os))) (here n) ∙ ap (cons_option (option_map (numbered table n) (slot_at old n))) (close os)

  -- ---- the homes

  module _ (homes : List HomeState) (found : HomeKey → Option ℕ) (are : AreHomes homes found (lodgers old) order) where
    abbrev moved : ℕ → ℕ
    moved place = rank_there new (slot_at order place)

    home-moved : (h : ℕ) → h < length homes → home_at (map (reranked new order) homes) h ≡ reranked new order (home_at homes h)
    home-moved h below = get_or-map (reranked new order) homes h no_home no_home below

    roomy-some : (h : ℕ) (o : Option ℕ) → is_roomy_at (lodgers old) h o ≡ true → (n : ℕ) × (o ≡ Some n)
    roomy-some h None is = absurd (false≢true is)
    roomy-some h (Some n) is = (n, refl)

    moved-is : (k n : ℕ) → slot_at order k ≡ Some n → moved k ≡ taken k order
    moved-is k n at = ap (rank_there new) at ∙ re.ranks k n at

    place-of : (h : ℕ) → h < length homes → (k : ℕ) → In k (home_at homes h).ranks → (n : ℕ) × (slot_at order k ≡ Some n)
    place-of h below k is = roomy-some h (slot_at order k) (sym (are.ranks h below k) ∙ in-has k (home_at homes h).ranks is)

    ranks-new : (h : ℕ) → h < length homes → (r : ℕ) → has_rank r (map moved (home_at homes h).ranks) ≡ is_roomy_at (lodgers old) h (slot_at closed r)
    ranks-new h below r = same-truth (has_rank r (map moved (home_at homes h).ranks)) (is_roomy_at (lodgers old) h (slot_at closed r)) there back
      where
        there : has_rank r (map moved (home_at homes h).ranks) ≡ true → is_roomy_at (lodgers old) h (slot_at closed r) ≡ true
        there has =
            let was = in-mapped moved r (home_at homes h).ranks (has-in r (map moved (home_at homes h).ranks) has) in
            let some = place-of h below was.0 was.1.0 in
            let roomy : is_roomy_at (lodgers old) h (slot_at order was.0) ≡ true = sym (are.ranks h below was.0) ∙ in-has was.0 (home_at homes h).ranks was.1.0 in
            let at : slot_at closed r ≡ Some some.0 = ap (slot_at closed) (sym was.1.1 ∙ moved-is was.0 some.0 some.1) ∙ closed-at was.0 some.0 order some.1 in
            ap (is_roomy_at (lodgers old) h) (at ∙ sym some.1) ∙ roomy

        back : is_roomy_at (lodgers old) h (slot_at closed r) ≡ true → has_rank r (map moved (home_at homes h).ranks) ≡ true
        back roomy =
            let some = roomy-some h (slot_at closed r) roomy in
            let was = opened-at r some.0 order some.1 in
            let has : has_rank was.0 (home_at homes h).ranks ≡ true = are.ranks h below was.0 ∙ ap (is_roomy_at (lodgers old) h) (was.1.0 ∙ sym some.1) ∙ roomy in
            let is : In (moved was.0) (map moved (home_at homes h).ranks) = in-map moved (home_at homes h).ranks was.0 (has-in was.0 (home_at homes h).ranks has) in
            in-has r (map moved (home_at homes h).ranks) (subst (λ k. In k (map moved (home_at homes h).ranks)) (moved-is was.0 some.0 was.1.0 ∙ was.1.1) is)

    rising-new : (h : ℕ) → h < length homes → IsRising (map moved (home_at homes h).ranks)
    rising-new h below =
        rising-map moved (home_at homes h).ranks (are.rising h below)
        (λ j k in_j in_k less.
        let some_j = place-of h below j in_j in
        let some_k = place-of h below k in_k in
        omega (arith, moved-is j some_j.0 some_j.1, moved-is k some_k.0 some_k.1, taken-rises j k some_j.0 order some_j.1 less))

    within : (h : ℕ) → h < length (map (reranked new order) homes) → h < length homes
    within h below = omega (arith, below, length-map homes (reranked new order))

    pub homes-closed : AreHomes (map (reranked new order) homes) found (lodgers new) (filter is_some order)
    homes-closed =
        subst (λ ls. AreHomes (map (reranked new order) homes) found ls closed) (sym lodgers-same)
        (record {
          known = λ key h at. omega (arith, are.known key h at, length-map homes (reranked new order));
          once = are.once;
          keys = are.keys;
          ranks = λ h below r. ap (λ (x : HomeState). has_rank r x.ranks) (home-moved h (within h below)) ∙ ranks-new h (within h below) r;
          rising = λ h below. subst (λ (x : HomeState). IsRising x.ranks) (sym (home-moved h (within h below))) (rising-new h (within h below));
          full = λ h below. ap (λ (x : HomeState). x.full) (home-moved h (within h below)) ∙ are.full h (within h below);
          room = λ h below.
              omega (
                arith,
                are.room h (within h below),
                ap (λ (x : HomeState). length x.ranks) (home-moved h (within h below)),
                length-map (home_at homes h).ranks moved,
                ap (λ (x : HomeState). x.full) (home-moved h (within h below)),
                ap (λ (x : HomeState). x.room) (home-moved h (within h below)),
              );
        })
