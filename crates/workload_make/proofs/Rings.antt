-- A row of numbers grows by one at its end.
use Rattle.std.proofs.Common.{◌≡◌, ℕ, ◌+◌, List, [], ◌∷◌, ◌++◌, ap, ◌∙◌, sym, arith, map-id}
use Rattle.std.specs.List.{flat_map, range_with_len}
use Rattle.std.proofs.lemmas.List.{flat_map_more}
use Rattle.std.proofs.lemmas.List.FromFn.{map-range_with_len_more}

-- a row from 0 of one number more
pub range_more : (count : ℕ) → range_with_len 0 (count + 1) ≡ range_with_len 0 count ++ count ∷ []
range_more count =
    sym (map-id (range_with_len 0 (count + 1)))
    ∙ map-range_with_len_more (λ x. x) 0 count count (omega arith)
    ∙ ap (λ xs. xs ++ count ∷ []) (map-id (range_with_len 0 count))

-- what is made of a row of one number more
pub flat_map_range_more : {X : Type 0} (f : ℕ → List X) (bs : List X) (count : ℕ) → (bs ++ flat_map f (range_with_len 0 count)) ++ f count ≡ bs ++ flat_map f (range_with_len 0 (count + 1))
flat_map_range_more f bs count =
    flat_map_more f bs (range_with_len 0 count) count ∙ ap (λ xs. bs ++ flat_map f xs) (sym (range_more count))
