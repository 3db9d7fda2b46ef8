-- Walks over lists, element by element.
use Rattle.std.proofs.Common.{◌≡◌, ℕ, zero, suc, ◌+◌, ◌<◌, ◌≤◌, inl, inr, List, [], ◌∷◌, ◌++◌, length, get_or, drop, refl, sym, ap, ◌∙◌, subst, arith, add-one, append_assoc, append-nil, drop-cons, drop_of_length-le}
use Rattle.std.specs.List.{flat_map}
use Rattle.world_model.specs.Members.{In}

pub get_in : {X : Type 0} (xs : List X) (i : ℕ) (d : X) → i < length xs → In (get_or xs i d) xs
get_in [] i d below = absurd (omega arith)
get_in (x ∷ xs) zero d below = inl refl
get_in (x ∷ xs) (suc i) d below = inr (get_in xs i d (omega arith))

-- an element of a list is a member
pub part_in : {X : Type 0} (xs : List X) (i : ℕ) (x : X) → i < length xs → x ≡ get_or xs i x → In x xs
part_in xs i x below is = subst (λ y. In y xs) (sym is) (get_in xs i x below)

module _ {X Y : Type 0} (f : X → List Y) (xs : List X) where
  -- what one more element gives goes to the end of what there is
  pub one_more : (i : ℕ) (d : X) (before after whole : List Y) → i < length xs → after ≡ before ++ f (get_or xs i d) → before ++ flat_map f (drop i xs) ≡ whole
      → after ++ flat_map f (drop (i + 1) xs) ≡ whole
  one_more i d before after whole below is so_far =
      ap (λ zs. zs ++ flat_map f (drop (i + 1) xs)) is ∙ append_assoc before (f (get_or xs i d)) (flat_map f (drop (i + 1) xs))
      ∙ ap (λ j. before ++ (f (get_or xs i d) ++ flat_map f (drop j xs))) (add-one i) ∙ ap (λ l. before ++ flat_map f l) (sym (drop-cons xs i d below)) ∙ so_far

  -- after the last element
  pub all_done : (i : ℕ) (found whole : List Y) → length xs ≤ i → found ++ flat_map f (drop i xs) ≡ whole → found ≡ whole
  all_done i found whole past so_far = sym (append-nil found) ∙ ap (λ l. found ++ flat_map f l) (sym (drop_of_length-le xs past)) ∙ so_far
