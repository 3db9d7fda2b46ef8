-- Masks that are made of others.
use Rattle.std.proofs.Common.{ℕ, inl, inr, ◌≡◌, ◌<◌, ◌≤◌, ◌∙◌, Bool, true, false, cond, not, ◌&&◌, nat_lt, sym, ap, ap₂, refl, List, arith, Option, Some, None}
use Rattle.std.specs.Prelude.{is_some, MatchOption}
use Rattle.std.proofs.lemmas.Bool.{cases_lt, lt-ltb, le-ltb}
use Rattle.enable_bits.specs.Masks.{has, places_where, HasNoneFrom, IsNextFrom}
use Rattle.enable_bits.proofs.MaskLemmas.{has-places_where, has_past_128}

-- the places of the first mask that the second one lacks
without : (a b m : List ℕ) (k : ℕ) → m ≡ places_where (λ place. has a place && not (has b place)) → k < 128 → has m k ≡ (has a k && not (has b k))
without a b m k is below = ap (λ (x : List ℕ). has x k) is ∙ has-places_where (λ place. has a place && not (has b place)) k below

first_has : (n k : ℕ) (first : List ℕ) → first ≡ places_where (λ place. nat_lt place n) → k < n → k < 128 → has first k ≡ true
first_has n k first is within below = ap (λ (x : List ℕ). has x k) is ∙ (has-places_where (λ place. nat_lt place n) k below ∙ lt-ltb k n within)

first_lacks : (n k : ℕ) (first : List ℕ) → first ≡ places_where (λ place. nat_lt place n) → n ≤ k → k < 128 → has first k ≡ false
first_lacks n k first is past below = ap (λ (x : List ℕ). has x k) is ∙ (has-places_where (λ place. nat_lt place n) k below ∙ le-ltb k n past)

-- a mask that lacks no place has each
pub all_there : (n : ℕ) (rows first mask : List ℕ) (next : Option ℕ) → n ≤ 128 → first ≡ places_where (λ place. nat_lt place n) → mask ≡ places_where (λ place. has first place && not (has rows place))
    → MatchOption next (HasNoneFrom mask 0) (IsNextFrom mask 0) → is_some next ≡ false → (k : ℕ) → k < n → has rows k ≡ true
all_there n rows first mask (Some place) few first_is mask_is least none k within = absurd (cc none)
all_there n rows first mask None few first_is mask_is least none k within =
    let below : k < 128 = omega arith in
    only (has first k) (has rows k) (first_has n k first first_is within below) (sym (without first rows mask k mask_is below) ∙ least k (omega arith))
  where
    only : (a b : Bool) → a ≡ true → (a && not b) ≡ false → b ≡ true
    only true true p q = refl
    only true false p q = absurd (cc q)
    only false b p q = absurd (cc p)

-- what is disabled after some rows were switched
pub switched_here : (n k : ℕ) (off on rows all kept switched most mask result : List ℕ) → n ≤ 128 → k < n → all ≡ places_where (λ place. nat_lt place n)
    → kept ≡ places_where (λ place. has off place && not (has rows place)) → switched ≡ places_where (λ place. has rows place && not (has on place))
    → most ≡ places_where (λ place. has all place && not (has kept place)) → mask ≡ places_where (λ place. has most place && not (has switched place))
    → result ≡ places_where (λ place. has all place && not (has mask place)) → has result k ≡ cond (has rows k) (not (has on k)) (has off k)
switched_here n k off on rows all kept switched most mask result few within all_is kept_is switched_is most_is mask_is result_is =
    let below : k < 128 = omega arith in
    let there = first_has n k all all_is within below in
    without all mask result k result_is below
    ∙ (ap₂ (λ a b. a && not b) there (without most switched mask k mask_is below
    ∙ ap₂ (λ a b. a && not b) (without all kept most k most_is below ∙ ap₂ (λ a b. a && not b) there (without off rows kept k kept_is below)) (without rows on switched k switched_is below))
    ∙ table (has rows k) (has on k) (has off k))
  where
    table : (r o f : Bool) → (true && not ((true && not (f && not r)) && not (r && not o))) ≡ cond r (not o) f
    table true true true = refl
    table true true false = refl
    table true false true = refl
    table true false false = refl
    table false true true = refl
    table false true false = refl
    table false false true = refl
    table false false false = refl

pub switched_past : (n k : ℕ) (all mask result : List ℕ) → n ≤ k → all ≡ places_where (λ place. nat_lt place n) → result ≡ places_where (λ place. has all place && not (has mask place)) → has result k ≡ false
switched_past n k all mask result past all_is result_is =
    elim (cases_lt k 128) [
      | inl below ↦ without all mask result k result_is below ∙ ap (λ b. b && not (has mask k)) (first_lacks n k all all_is past below)
      | inr far ↦ ap (λ (x : List ℕ). has x k) result_is ∙ has_past_128 (λ place. has all place && not (has mask place)) k far
    ]
