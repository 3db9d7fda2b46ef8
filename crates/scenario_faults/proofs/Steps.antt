-- A walk over a list, and what it has come past.
use Rattle.std.proofs.Common.{ℕ, ◌≡◌, ◌+◌, ◌<◌, ◌||◌, Bool, true, false, List, [], ◌∷◌, ◌++◌, length, get_or, take, drop, refl, sym, ap, ◌∙◌}
use Rattle.std.specs.List.{list_any, fold}
use Rattle.std.proofs.lemmas.List.{drop_more, take_more}
use Rattle.std.proofs.lemmas.List.Sums.{fold-append}

-- the element at a place, and those after it
pub here : {A : Type 0} (xs : List A) (i : ℕ) (x : A) → i < length xs → x ≡ get_or xs i x → drop i xs ≡ x ∷ drop (i + 1) xs
here xs i x within is = drop_more xs i x within ∙ ap (λ y. y ∷ drop (i + 1) xs) (sym is)

or_shuffle : (a b c : Bool) → ((a || b) || c) ≡ (b || (a || c))
or_shuffle true true c = refl
or_shuffle true false c = refl
or_shuffle false true c = refl
or_shuffle false false c = refl

module _ {A B : Type 0} (name : A → B) where
  -- what the elements give that a walk has come past, the last one first, before what was there
  abbrev pub taken : List B → List A → List B
  taken base passed = fold (λ found x. name x ∷ found) base passed

  pub taken_more : (base : List B) (xs : List A) (i : ℕ) (x : A) → i < length xs → x ≡ get_or xs i x → taken base (take (i + 1) xs) ≡ name x ∷ taken base (take i xs)
  taken_more base xs i x within is =
      ap (taken base) (take_more xs i x within ∙ ap (λ y. take i xs ++ y ∷ []) (sym is))
      ∙ fold-append (λ found y. name y ∷ found) base (take i xs) (x ∷ [])

  pub taken_any : (p : B → Bool) (base : List B) (passed : List A) → list_any p (taken base passed) ≡ (list_any p base || list_any (λ x. p (name x)) passed)
  taken_any p base [] = or_none (list_any p base)
    where
      or_none : (b : Bool) → b ≡ (b || false)
      or_none true = refl
      or_none false = refl
  taken_any p base (x ∷ xs) = taken_any p (name x ∷ base) xs ∙ or_shuffle (p (name x)) (list_any p base) (list_any (λ y. p (name y)) xs)
