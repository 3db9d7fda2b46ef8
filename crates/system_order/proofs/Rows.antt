-- What is found first in a list, as a loop over the list comes to it.
use Rattle.std.proofs.Common.{◌≡◌, ℕ, ◌+◌, ◌<◌, suc, Bool, true, false, List, [], ◌∷◌, ◌++◌, Option, Some, None, length, get_or, take, drop, ap, ◌∙◌, sym, refl, arith}
use Rattle.std.specs.List.{find}
use Rattle.std.specs.Option.{option_or}
use Rattle.std.proofs.lemmas.Bool.{cond-true, cond-false}
use Rattle.std.proofs.lemmas.List.{drop_more, take_more, take-append-drop}
use Rattle.std.proofs.lemmas.List.Folds.{find-append}
use Rattle.system_order.specs.Order.{first_some}

-- the first that passes is at i
pub find_here : {X : Type 0} (p : X → Bool) (xs : List X) (i : ℕ) (d : X) → i < length xs → find p (take i xs) ≡ None → p (get_or xs i d) ≡ true → find p xs ≡ Some (get_or xs i d)
find_here p xs i d within none passes =
    ap (find p) (sym (take-append-drop i xs))
    ∙ find-append p (take i xs) (drop i xs)
    ∙ ap (λ o. option_or o (find p (drop i xs))) none
    ∙ ap (find p) (drop_more xs i d within)
    ∙ cond-true (p (get_or xs i d)) (Some (get_or xs i d)) (find p (drop (i + 1) xs)) passes

-- none of the first i + 1 passes
pub find_past : {X : Type 0} (p : X → Bool) (xs : List X) (i : ℕ) (d : X) → i < length xs → find p (take i xs) ≡ None → p (get_or xs i d) ≡ false → find p (take (i + 1) xs) ≡ None
find_past p xs i d within none fails =
    ap (find p) (take_more xs i d within)
    ∙ find-append p (take i xs) (get_or xs i d ∷ [])
    ∙ ap (λ o. option_or o (find p (get_or xs i d ∷ []))) none
    ∙ cond-false (p (get_or xs i d)) (Some (get_or xs i d)) None fails

-- what passes at no place isn't found
pub find_none : (p : ℕ → Bool) (xs : List ℕ) → ((k : ℕ) → k < length xs → p (get_or xs k 0) ≡ false) → find p xs ≡ None
find_none p [] h = refl
find_none p (x ∷ xs) h =
    cond-false (p x) (Some x) (find p xs) (h 0 (omega arith)) ∙ find_none p xs (λ k within. h (suc k) (omega arith))

-- an answer on a list comes from its front or from its end
pub first_some-append : (f : ℕ → Option ℕ) (xs ys : List ℕ) → first_some f (xs ++ ys) ≡ option_or (first_some f xs) (first_some f ys)
first_some-append f [] ys = refl
first_some-append f (x ∷ xs) ys = ap (option_or (f x)) (first_some-append f xs ys) ∙ option_or_assoc (f x) (first_some f xs) (first_some f ys)
  where
    option_or_assoc : (o p q : Option ℕ) → option_or o (option_or p q) ≡ option_or (option_or o p) q
    option_or_assoc None p q = refl
    option_or_assoc (Some y) p q = refl

-- the first answer is that at i
pub first_some_here : (f : ℕ → Option ℕ) (xs : List ℕ) (i y : ℕ) → i < length xs → first_some f (take i xs) ≡ None → f (get_or xs i 0) ≡ Some y → first_some f xs ≡ Some y
first_some_here f xs i y within none here =
    ap (first_some f) (sym (take-append-drop i xs))
    ∙ first_some-append f (take i xs) (drop i xs)
    ∙ ap (λ o. option_or o (first_some f (drop i xs))) none
    ∙ ap (first_some f) (drop_more xs i 0 within)
    ∙ ap (λ o. option_or o (first_some f (drop (i + 1) xs))) here

-- there is no answer in the first i + 1
pub first_some_past : (f : ℕ → Option ℕ) (xs : List ℕ) (i : ℕ) → i < length xs → first_some f (take i xs) ≡ None → f (get_or xs i 0) ≡ None → first_some f (take (i + 1) xs) ≡ None
first_some_past f xs i within none here =
    ap (first_some f) (take_more xs i 0 within)
    ∙ first_some-append f (take i xs) (get_or xs i 0 ∷ [])
    ∙ ap (λ o. option_or o (first_some f (get_or xs i 0 ∷ []))) none
    ∙ ap (λ o. option_or o None) here
