-- Looking for a name in a list of what bears one.
use Rattle.std.proofs.Common.{ℕ, ◌≡◌, ◌+◌, List, [], ◌∷◌, Bool, true, false, cond, not, ◌||◌, suc, length, map, refl, ap, ◌∙◌, arith, is_some, Some, None, ltb}
use Rattle.std.specs.Prelude.{position}
use Rattle.std.specs.List.{list_any, position_or_len}
use Rattle.std.proofs.lemmas.List.{length-map}
use Rattle.std.proofs.lemmas.Bool.{lt-ltb}
use Rattle.std.proofs.lemmas.Bool.Decides.{nat_tests}

module _ {X Y : Type 0} (p : Y → Bool) (f : X → Y) where
  pub list_any-map : (xs : List X) → list_any p (map f xs) ≡ list_any (λ x. p (f x)) xs
  list_any-map [] = refl
  list_any-map (x ∷ xs) = ap (λ b. p (f x) || b) (list_any-map xs)

  position_or_len-map : (xs : List X) → position_or_len p (map f xs) ≡ position_or_len (λ x. p (f x)) xs
  position_or_len-map [] = refl
  position_or_len-map (x ∷ xs) = ap (λ n. cond (not (p (f x))) (1 + n) 0) (position_or_len-map xs)

  pub position-map : (xs : List X) → position p (map f xs) ≡ position (λ x. p (f x)) xs
  position-map xs = rw (position_or_len-map xs, length-map xs f) refl

ltb-suc : (m n : ℕ) → ltb (1 + m) (suc n) ≡ ltb m n
ltb-suc m n = grind (arith, nat_tests)

module _ {X : Type 0} (p : X → Bool) where
  is_within : (xs : List X) → ltb (position_or_len p xs) (length xs) ≡ list_any p xs
  is_within [] = refl
  is_within (x ∷ xs) = by (p x) (is_within xs)
    where
      by : (b : Bool) → ltb (position_or_len p xs) (length xs) ≡ list_any p xs
          → ltb (cond (not b) (1 + position_or_len p xs) 0) (suc (length xs)) ≡ (b || list_any p xs)
      by true rest = lt-ltb 0 (suc (length xs)) (omega arith)
      by false rest = ltb-suc (position_or_len p xs) (length xs) ∙ rest

  -- a place is found exactly where something passes the test
  pub is_some-position : (xs : List X) → is_some (position p xs) ≡ list_any p xs
  is_some-position xs = by (ltb (position_or_len p xs) (length xs)) ∙ is_within xs
    where
      by : (b : Bool) → is_some (cond b (Some (position_or_len p xs)) None) ≡ b
      by true = refl
      by false = refl
