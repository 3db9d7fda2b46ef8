-- The cells of a row to which pieces came back.
use Rattle.std.proofs.Common.{◌≡◌, ℕ, ◌+◌, ◌≤◌, inl, inr, Bool, true, false, cond, nat_eq, List, [], ◌∷◌, map, fold, refl, sym, ap, ◌∙◌, subst, arith}
use Rattle.std.proofs.lemmas.Bool.{eqb-true}
use Rattle.std.proofs.lemmas.List.{map-id}
use Rattle.ent_types.specs.TypeSets.{has_type}
use Rattle.world_model.specs.Members.{In, AreDistinct, one_if, tally}
use Rattle.world_model.specs.Row.{Cell, cell_type}
use Rattle.block_columns.specs.Types.{TypeState, Content, blank_cell, cell_in}
use Rattle.chunk_block.specs.Blocks.{content_of, with_content, lent_cell}
use Rattle.block_laws.proofs.Rows.{put_cell}
use Rattle.world_places.proofs.Lists.{map_same}
use Rattle.world_rows.proofs.Effects.{each_cell, each_types, each_twice, one_changed}
use Rattle.world_loans.specs.Returns.{is_piece}

-- what a cell of type u of row k has after pieces came back
abbrev pub given : ℕ → List TypeState → ℕ → Content → Content
given k [] u c = c
given k (p ∷ ps) u c = given k ps u (cond (nat_eq p.shape.ty.0 u) (cell_in k p.cells) c)

pub cells_given : (k : ℕ) (ps : List TypeState) (cs : List Cell) → AreDistinct (map cell_type cs) → fold (put_cell k) cs ps ≡ each_cell (given k ps) cs
cells_given k [] cs distinct = sym (map-id cs)
cells_given k (p ∷ ps) cs distinct =
    let g = λ (u : ℕ) (c : Content). cond (nat_eq p.shape.ty.0 u) (cell_in k p.cells) c in
    let one : put_cell k cs p ≡ each_cell g cs = one_changed p.shape.ty.0 (λ _. cell_in k p.cells) cs distinct in
    ap (λ (ds : List Cell). fold (put_cell k) ds ps) one
    ∙ cells_given k ps (each_cell g cs) (subst AreDistinct (sym (each_types g cs)) distinct)
    ∙ each_twice g (given k ps) cs

-- cells of types that are lent
pub cells_lent : (types : List ℕ) (cs : List Cell) → map (lent_cell types) cs ≡ each_cell (λ u c. cond (has_type types u) blank_cell c) cs
cells_lent types cs = map_same (lent_cell types) (λ c. with_content (cond (has_type types c.type_id) blank_cell (content_of c)) c) cs (λ c i. by c (has_type types c.type_id))
  where
    by : (c : Cell) (b : Bool) → cond b (with_content blank_cell c) c ≡ with_content (cond b blank_cell (content_of c)) c
    by c true = refl
    by c false = refl

-- where there is a piece of the type, what the cell had makes no difference
pub given_covers : (k : ℕ) (ps : List TypeState) (u : ℕ) (c d : Content) → 1 ≤ tally (is_piece u) ps → given k ps u c ≡ given k ps u d
given_covers k [] u c d there = absurd (omega (arith, there))
given_covers k (p ∷ ps) u c d there = by (nat_eq p.shape.ty.0 u) there (given_covers k ps u c d)
  where
    by : (b : Bool) → 1 ≤ one_if b + tally (is_piece u) ps → (1 ≤ tally (is_piece u) ps → given k ps u c ≡ given k ps u d)
        → given k ps u (cond b (cell_in k p.cells) c) ≡ given k ps u (cond b (cell_in k p.cells) d)
    by true more rest = refl
    by false more rest = rest (omega (arith, more))

-- where there is none, the cell stays
pub given_elsewhere : (k : ℕ) (ps : List TypeState) (u : ℕ) (c : Content) → tally (is_piece u) ps ≡ 0 → given k ps u c ≡ c
given_elsewhere k [] u c none = refl
given_elsewhere k (p ∷ ps) u c none = by (nat_eq p.shape.ty.0 u) none (given_elsewhere k ps u c)
  where
    by : (b : Bool) → one_if b + tally (is_piece u) ps ≡ 0 → (tally (is_piece u) ps ≡ 0 → given k ps u c ≡ c) → given k ps u (cond b (cell_in k p.cells) c) ≡ c
    by true more rest = absurd (omega (arith, more))
    by false more rest = rest (omega (arith, more))

-- of a type that is there once, the cell is that of the piece
pub given_is : (k : ℕ) (ps : List TypeState) (u : ℕ) (c : Content) (p : TypeState) → In p ps → is_piece u p ≡ true → tally (is_piece u) ps ≡ 1 → given k ps u c ≡ cell_in k p.cells
given_is k [] u c p i is once = absurd i
given_is k (q ∷ qs) u c p (inl same) is once =
    let here : is_piece u q ≡ true = subst (λ (x : TypeState). is_piece u x ≡ true) same is in
    let none : tally (is_piece u) qs ≡ 0 = (let sum : one_if true + tally (is_piece u) qs ≡ 1 = subst (λ b. one_if b + tally (is_piece u) qs ≡ 1) here once in omega arith) in
    ap (λ b. given k qs u (cond b (cell_in k q.cells) c)) here
    ∙ given_elsewhere k qs u (cell_in k q.cells) none
    ∙ ap (λ (x : TypeState). cell_in k x.cells) (sym same)
given_is k (q ∷ qs) u c p (inr i) is once = by (is_piece u q) once (λ d h. given_is k qs u d p i is h)
  where
    counts : (xs : List TypeState) → In p xs → 1 ≤ tally (is_piece u) xs
    counts [] j = absurd j
    counts (x ∷ xs) (inl same) = let here : is_piece u x ≡ true = subst (λ (y : TypeState). is_piece u y ≡ true) same is in subst (λ b. 1 ≤ one_if b + tally (is_piece u) xs) (sym here) (omega arith)
    counts (x ∷ xs) (inr j) = let rest = counts xs j in omega arith

    by : (b : Bool) → one_if b + tally (is_piece u) qs ≡ 1 → ((d : Content) → tally (is_piece u) qs ≡ 1 → given k qs u d ≡ cell_in k p.cells)
        → given k qs u (cond b (cell_in k q.cells) c) ≡ cell_in k p.cells
    by true more rest = let there = counts qs i in absurd (omega (arith, more))
    by false more rest = rest c (omega (arith, more))

-- what holds of the cell and of each piece of its type holds of the cell that comes of them
pub given_keeps : (P : Content → Type 0) (k : ℕ) (ps : List TypeState) (u : ℕ) (c : Content) → P c → ((p : TypeState) → In p ps → p.shape.ty.0 ≡ u → P (cell_in k p.cells)) → P (given k ps u c)
given_keeps P k [] u c holds each = holds
given_keeps P k (p ∷ ps) u c holds each =
    given_keeps P k ps u (cond (nat_eq p.shape.ty.0 u) (cell_in k p.cells) c) (by (nat_eq p.shape.ty.0 u) refl) (λ q i. each q (inr i))
  where
    by : (b : Bool) → nat_eq p.shape.ty.0 u ≡ b → P (cond b (cell_in k p.cells) c)
    by true is = each p (inl refl) (eqb-true p.shape.ty.0 u is)
    by false is = holds

-- cells of types that were lent and came back
pub cells_back : (types : List ℕ) (k : ℕ) (ps : List TypeState) (cs : List Cell) → AreDistinct (map cell_type cs)
    → ((t : ℕ) → has_type types t ≡ true → In t (map cell_type cs) → 1 ≤ tally (is_piece t) ps)
    → fold (put_cell k) (map (lent_cell types) cs) ps ≡ fold (put_cell k) cs ps
cells_back types k ps cs distinct there =
    let g = λ (u : ℕ) (c : Content). cond (has_type types u) blank_cell c in
    ap (λ (ds : List Cell). fold (put_cell k) ds ps) (cells_lent types cs)
    ∙ cells_given k ps (each_cell g cs) (subst AreDistinct (sym (each_types g cs)) distinct)
    ∙ each_twice g (given k ps) cs
    ∙ map_same (λ c. with_content (given k ps c.type_id (cond (has_type types c.type_id) blank_cell (content_of c))) c) (λ c. with_content (given k ps c.type_id (content_of c)) c) cs
    (λ c i. ap (λ (x : Content). with_content x c) (by c (has_type types c.type_id) refl (types_in cs c i)))
    ∙ sym (cells_given k ps cs distinct)
  where
    types_in : (ds : List Cell) (c : Cell) → In c ds → In c.type_id (map cell_type ds)
    types_in [] c i = i
    types_in (d ∷ ds) c (inl same) = inl (ap cell_type same)
    types_in (d ∷ ds) c (inr i) = inr (types_in ds c i)

    by : (c : Cell) (b : Bool) → has_type types c.type_id ≡ b → In c.type_id (map cell_type cs) → given k ps c.type_id (cond b blank_cell (content_of c)) ≡ given k ps c.type_id (content_of c)
    by c true is i = given_covers k ps c.type_id blank_cell (content_of c) (there c.type_id is i)
    by c false is i = refl
