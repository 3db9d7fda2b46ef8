-- A loop that writes a line for each element of a list: before the element at i the text is the one at entry with the
-- lines of the first i elements.
use Rattle.std.proofs.Common.{◌≡◌, ℕ, ◌+◌, ◌<◌, ◌≤◌, List, [], ◌∷◌, ◌++◌, length, get_or, take, drop, Option, sym, ◌∙◌, ap, take-append-drop}
use Rattle.std.proofs.lemmas.List.{append-nil, take_all, take_more, drop_more}
use Rattle.std.proofs.lemmas.List.Concat.{flat_map-append}
use Rattle.std.specs.List.{flat_map}
use Rattle.ent_io.specs.Text.{appended, AppendsPrefix}
use Rattle.ent_io.proofs.Appends.{appended-nil, appends_both, prefix_at, prefix_within}

module _ {X : Type 0} (line : X → List ℕ) (xs : List X) where
  lines_split : (i : ℕ) → flat_map line xs ≡ flat_map line (take i xs) ++ flat_map line (drop i xs)
  lines_split i = ap (flat_map line) (sym (take-append-drop i xs)) ∙ flat_map-append line (take i xs) (drop i xs)

  lines_next : (i : ℕ) (x : X) → i < length xs → x ≡ get_or xs i x → flat_map line (drop i xs) ≡ line x ++ flat_map line (drop (i + 1) xs)
  lines_next i x within is = ap (flat_map line) (drop_more xs i x within) ∙ ap (λ y. line y ++ flat_map line (drop (i + 1) xs)) (sym is)

  -- before the first
  pub lines_none : (text : Option (List ℕ)) → text ≡ appended text (flat_map line (take 0 xs))
  lines_none text = sym (appended-nil text)

  -- one line more
  pub lines_more : (i : ℕ) (x : X) (piece : List ℕ) (old mid new : Option (List ℕ)) → i < length xs → x ≡ get_or xs i x → piece ≡ line x → mid ≡ appended old (flat_map line (take i xs)) → new ≡ appended mid piece → new ≡ appended old (flat_map line (take (i + 1) xs))
  lines_more i x piece old mid new within is written before text =
      appends_both old mid new (flat_map line (take i xs)) (line x) before (text ∙ ap (appended mid) written)
      ∙ ap (appended old) (sym (ap (flat_map line) (take_more xs i x within) ∙ flat_map-append line (take i xs) (get_or xs i x ∷ []) ∙ ap (λ (l : List ℕ). flat_map line (take i xs) ++ l) (append-nil (line (get_or xs i x)) ∙ ap line (sym is))))

  -- behind the last
  pub lines_all : (i : ℕ) (old new : Option (List ℕ)) → length xs ≤ i → new ≡ appended old (flat_map line (take i xs)) → new ≡ appended old (flat_map line xs)
  lines_all i old new past text = text ∙ ap (λ (l : List X). appended old (flat_map line l)) (take_all i xs past)

  -- an exit between two lines
  pub prefix_between : (i : ℕ) (old new : Option (List ℕ)) → new ≡ appended old (flat_map line (take i xs)) → AppendsPrefix (flat_map line xs) old new
  prefix_between i old new text = prefix_at (flat_map line xs) (flat_map line (take i xs)) (flat_map line (drop i xs)) old new (lines_split i) text

  -- an exit within a line
  pub prefix_in_line : (i : ℕ) (x : X) (piece : List ℕ) (old mid new : Option (List ℕ)) → i < length xs → x ≡ get_or xs i x → piece ≡ line x → mid ≡ appended old (flat_map line (take i xs)) → AppendsPrefix piece mid new → AppendsPrefix (flat_map line xs) old new
  prefix_in_line i x piece old mid new within is written before prefix =
      prefix_within (flat_map line xs) (flat_map line (take i xs)) piece (flat_map line (drop (i + 1) xs)) old mid new
      (lines_split i ∙ ap (λ (l : List ℕ). flat_map line (take i xs) ++ l) (lines_next i x within is ∙ ap (λ (l : List ℕ). l ++ flat_map line (drop (i + 1) xs)) (sym written)))
      before prefix
