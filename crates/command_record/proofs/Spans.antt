-- Spans of a list, while more is added at its end or its end is cut off.
use Rattle.std.proofs.Common.{◌≡◌, ℕ, ◌+◌, ◌-◌, ◌≤◌, List, ◌++◌, length, take, drop, refl, sym, ap, ◌∙◌, arith}
use Rattle.std.proofs.lemmas.List.{length-append, length-take, take_at, drop_at, take_all, take-take, take_min, drop-take}
use Rattle.command_record.specs.declared.kept.Span.{Span}
use Rattle.command_record.specs.Kept.{within}
use Rattle.command_record.specs.Heads.{Fits}

-- the longer list begins with the shorter one
pub record Begins {X : Type 0} (longer shorter : List X) : Type 0 where
  pub front : take (length shorter) longer ≡ shorter
  pub most : length shorter ≤ length longer

module _ {X : Type 0} where
  pub begins_append : (xs ys : List X) → Begins (xs ++ ys) xs
  begins_append xs ys = record { front = take_at xs ys (length xs) refl; most = omega (arith, length-append xs ys) }

  pub begins_take : (n : ℕ) (xs : List X) → Begins xs (take n xs)
  begins_take n xs = record {
    front = ap (λ k. take k xs) (length-take n xs) ∙ take_min n xs;
    most = omega (arith, length-take n xs);
  }

  within_take : (xs : List X) (s : Span) (n : ℕ) → Fits s n → within (take n xs) s ≡ within xs s
  within_take xs s n fits =
      let left : ℕ = n - s.start in
      let whole : n ≡ s.start + left = omega (arith, fits.ordered, fits.ends) in
      let short : s.end - s.start ≤ left = omega (arith, fits.ordered, fits.ends) in
      ap (λ k. take (s.end - s.start) (drop s.start (take k xs))) whole
      ∙ ap (take (s.end - s.start)) (drop-take s.start left xs)
      ∙ take-take (s.end - s.start) left (drop s.start xs) short

  -- what lies in the shorter list is the same in the longer one
  pub within_longer : (longer shorter : List X) (s : Span) → Begins longer shorter → Fits s (length shorter) → within longer s ≡ within shorter s
  within_longer longer shorter s begins fits = sym (within_take longer s (length shorter) fits) ∙ ap (λ xs. within xs s) begins.front

  -- what was added last
  pub within_added : (all xs ys : List X) (s : Span) → all ≡ xs ++ ys → s.start ≡ length xs → s.end ≡ length all → within all s ≡ ys
  within_added all xs ys s whole start end =
      let short : length ys ≤ s.end - s.start = omega (arith, start, end, ap length whole, length-append xs ys) in
      ap (λ zs. within zs s) whole ∙ ap (take (s.end - s.start)) (drop_at xs ys s.start (sym start)) ∙ take_all (s.end - s.start) ys short

pub fits_more : (s : Span) (n m : ℕ) → n ≤ m → Fits s n → Fits s m
fits_more s n m more fits = record { ordered = fits.ordered; ends = omega (arith, fits.ends) }
