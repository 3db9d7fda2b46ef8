-- Neighbours among places, one after another.
use Rattle.std.proofs.Common.{◌≡◌, ℕ, zero, suc, ◌+◌, ◌-◌, ◌<◌, ◌≤◌, true, false, if◌then◌else◌, List, [], ◌∷◌, length, get_or, drop, Some, None, refl, sym, ap, ◌∙◌, arith}
use Rattle.playback.specs.declared.places.Place.{Place}
use Rattle.playback.specs.Places.{shares, shared_in}
use Rattle.playback.specs.Order.{shared_at}

next_from : (ps : List Place) (j : ℕ) (d e : Place) → suc j < length ps
    → shared_in (drop j ps) ≡ (if shares (get_or ps j d).turn (get_or ps (suc j) e).turn
    then Some (shared_at (get_or ps j d).turn.key (get_or ps j d).turn.item (get_or ps (suc j) e).turn.item) else shared_in (drop (suc j) ps))
next_from [] j d e less = absurd (omega arith)
next_from (p ∷ []) j d e less = absurd (omega arith)
next_from (p ∷ q ∷ qs) zero d e less = refl
next_from (p ∷ q ∷ qs) (suc j) d e less = next_from (q ∷ qs) j d e (omega arith)

last_alone : (ps : List Place) (j : ℕ) → length ps ≤ suc j → shared_in (drop j ps) ≡ None
last_alone [] zero few = refl
last_alone [] (suc j) few = refl
last_alone (p ∷ []) zero few = refl
last_alone (p ∷ q ∷ qs) zero few = absurd (omega arith)
last_alone (p ∷ ps) (suc j) few = last_alone ps j (omega arith)

-- ---- from one place to the next

module _ (ps : List Place) (d e : Place) where
  next_at : (k : ℕ) → 1 ≤ k → k < length ps
      → shared_in (drop (k - 1) ps) ≡ (if shares (get_or ps (k - 1) d).turn (get_or ps k e).turn
      then Some (shared_at (get_or ps (k - 1) d).turn.key (get_or ps (k - 1) d).turn.item (get_or ps k e).turn.item) else shared_in (drop k ps))
  next_at zero some less = absurd (omega arith)
  next_at (suc j) some less = let one : suc j - 1 ≡ j = omega arith in rw one (next_from ps j d e less)

  pub next_keeps : (k : ℕ) → 1 ≤ k → k < length ps → shares (get_or ps (k - 1) d).turn (get_or ps k e).turn ≡ false
      → shared_in (drop (k - 1) ps) ≡ shared_in ps → shared_in (drop (k + 1 - 1) ps) ≡ shared_in ps
  next_keeps k some less apart so_far =
      let same : k + 1 - 1 ≡ k = omega arith in
      ap (λ n. shared_in (drop n ps)) same
      ∙ (ap (λ b. if b then Some (shared_at (get_or ps (k - 1) d).turn.key (get_or ps (k - 1) d).turn.item (get_or ps k e).turn.item) else shared_in (drop k ps)) (sym apart)
      ∙ (sym (next_at k some less) ∙ so_far))

  pub next_tells : (k : ℕ) → 1 ≤ k → k < length ps → shares (get_or ps (k - 1) d).turn (get_or ps k e).turn ≡ true
      → shared_in (drop (k - 1) ps) ≡ shared_in ps
      → shared_in ps ≡ Some (shared_at (get_or ps (k - 1) d).turn.key (get_or ps (k - 1) d).turn.item (get_or ps k e).turn.item)
  next_tells k some less found so_far =
      sym so_far ∙ (next_at k some less
      ∙ ap (λ b. if b then Some (shared_at (get_or ps (k - 1) d).turn.key (get_or ps (k - 1) d).turn.item (get_or ps k e).turn.item) else shared_in (drop k ps)) found)

pub none_left : (ps : List Place) (k : ℕ) → 1 ≤ k → length ps ≤ k → shared_in (drop (k - 1) ps) ≡ shared_in ps → shared_in ps ≡ None
none_left ps zero some few so_far = absurd (omega arith)
none_left ps (suc j) some few so_far =
    let one : suc j - 1 ≡ j = omega arith in
    sym so_far ∙ (ap (λ n. shared_in (drop n ps)) one ∙ last_alone ps j few)
