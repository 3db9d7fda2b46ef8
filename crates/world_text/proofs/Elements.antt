-- The elements of a buffer, the first one apart.
use Rattle.std.proofs.Common.{ℕ, suc, ◌≡◌, ◌+◌, ◌/◌, ◌<◌, ◌≤◌, ◌∙◌, sym, ap, append_assoc, List, [], ◌∷◌, ◌++◌, codes, length, take, drop, length-drop, arith}
use Rattle.std.specs.List.{flat_map, join_by}
use Rattle.std.proofs.Math.Nat.{add-div_right, div-eq_of_lt}
use Rattle.ent_types.specs.declared.value.Value.{Value}
use Rattle.world_text.specs.Lines.{elements_of, elements_text, values_text}
use Rattle.world_text.proofs.Appended.{two_pieces}

-- the elements with these values, each after a comma
abbrev pub further_text : ℕ → List Value → List ℕ
further_text width values = flat_map (λ element. codes "," ++ values_text element) (elements_of width (length values / width) values)

module _ (width : ℕ) (values : List Value) where
  pub elements_none : length values < width → elements_of width (length values / width) values ≡ []
  elements_none few = ap (λ n. elements_of width n values) (div-eq_of_lt few)

  one_more : 1 ≤ width → width ≤ length values → length values / width ≡ suc (length (drop width values) / width)
  one_more some fits =
      let sum : length values ≡ length (drop width values) + width = omega (arith, length-drop width values) in
      let quotient = add-div_right (length (drop width values)) {k = width} some in
      let same : length values / width ≡ (length (drop width values) + width) / width = ap (λ n. n / width) sum in
      omega (arith, quotient, same)

  elements_some : 1 ≤ width → width ≤ length values
      → elements_of width (length values / width) values ≡ take width values ∷ elements_of width (length (drop width values) / width) (drop width values)
  elements_some some fits = ap (λ n. elements_of width n values) (one_more some fits)

  -- one element more was appended
  pub element_pushed : 1 ≤ width → width ≤ length values → (before mid after whole : List ℕ) → mid ≡ before ++ codes "," → after ≡ mid ++ values_text (take width values)
      → before ++ further_text width values ≡ whole → after ++ further_text width (drop width values) ≡ whole
  element_pushed some fits before mid after whole comma element so_far =
      ap (λ (l : List ℕ). l ++ further_text width (drop width values)) (two_pieces before (codes ",") (values_text (take width values)) mid after comma element)
      ∙ append_assoc before (codes "," ++ values_text (take width values)) (further_text width (drop width values))
      ∙ ap (λ (es : List (List Value)). before ++ flat_map (λ element. codes "," ++ values_text element) es) (sym (elements_some some fits))
      ∙ so_far

  pub elements_text-none : length values < width → elements_text width values ≡ codes "[]"
  unfolding elements_text
  elements_text-none few = ap (λ (es : List (List Value)). codes "[" ++ (join_by values_text (codes ",") es ++ codes "]")) (elements_none few)

  pub elements_text-some : 1 ≤ width → width ≤ length values
      → elements_text width values ≡ codes "[" ++ (values_text (take width values) ++ (further_text width (drop width values) ++ codes "]"))
  unfolding elements_text
  elements_text-some some fits =
      ap (λ (es : List (List Value)). codes "[" ++ (join_by values_text (codes ",") es ++ codes "]")) (elements_some some fits)
      ∙ ap (λ (l : List ℕ). codes "[" ++ l) (append_assoc (values_text (take width values)) (further_text width (drop width values)) (codes "]"))
