-- What writes do to one type of a row.
use Rattle.std.proofs.Common.{ℕ, ◌≡◌, ◌∙◌, inl, inr, cond, nat_eq, sym, ap, refl, subst, List, [], ◌∷◌, ◌++◌, map}
use Rattle.std.proofs.lemmas.Bool.{cases_eq, eq-eqb, ne_eqb}
use Rattle.world_model.specs.Members.{In, AreDistinct}
use Rattle.world_model.specs.Row.{Row, Cell, cell_type}
use Rattle.block_columns.specs.Types.{Content, with_value, with_off, with_values}
use Rattle.chunk_block.specs.Blocks.{content_of, with_content, change_cell, changed}
use Rattle.world_rows.specs.Writes.{Write, Field, Switch, Elements, row_write, row_writes}

-- the type that is written, and what becomes of its content
abbrev pub type_of : Write → ℕ
type_of (Field t f v) = t
type_of (Switch t off) = t
type_of (Elements t width vs) = t

abbrev pub change_of : Write → Content → Content
change_of (Field t f v) = with_value f v
change_of (Switch t off) = with_off off
change_of (Elements t width vs) = with_values vs

abbrev pub effect_one : ℕ → Write → Content → Content
effect_one t w c = cond (nat_eq (type_of w) t) (change_of w c) c

abbrev pub effect : ℕ → List Write → Content → Content
effect t [] c = c
effect t (w ∷ ws) c = effect t ws (effect_one t w c)

pub effect_append : (t : ℕ) (ws vs : List Write) (c : Content) → effect t (ws ++ vs) c ≡ effect t vs (effect t ws c)
effect_append t [] vs c = refl
effect_append t (w ∷ ws) vs c = effect_append t ws vs (effect_one t w c)

-- each cell changed by its type
abbrev pub each_cell : (ℕ → Content → Content) → List Cell → List Cell
each_cell g cells = map (λ c. with_content (g c.type_id (content_of c)) c) cells

cell_types : List Cell → List ℕ
cell_types cells = map cell_type cells

-- a type that no cell has changes none
none_changed : (t : ℕ) (g : Content → Content) (cells : List Cell) → (In t (map cell_type cells) → ⊥) → each_cell (λ u c. cond (nat_eq t u) (g c) c) cells ≡ cells
none_changed t g [] apart = refl
none_changed t g (c ∷ cs) apart =
    ap (λ b. with_content (cond b (g (content_of c)) (content_of c)) c ∷ each_cell (λ u x. cond (nat_eq t u) (g x) x) cs) (ne_eqb t c.type_id (λ e. apart (inl e)))
    ∙ ap (λ xs. c ∷ xs) (none_changed t g cs (λ i. apart (inr i)))

pub one_changed : (t : ℕ) (g : Content → Content) (cells : List Cell) → AreDistinct (map cell_type cells)
    → change_cell t g cells ≡ each_cell (λ u c. cond (nat_eq t u) (g c) c) cells
one_changed t g [] distinct = refl
one_changed t g (c ∷ cs) distinct =
    elim (cases_eq t c.type_id) [
      | inl same ↦
          ap (λ b. cond b (with_content (g (content_of c)) c ∷ cs) (c ∷ change_cell t g cs)) (eq-eqb c.type_id t (sym same))
          ∙ ap (λ xs. with_content (g (content_of c)) c ∷ xs) (sym (none_changed t g cs (λ i. distinct.0 (subst (λ u. In u (map cell_type cs)) same i))))
          ∙ ap (λ b. with_content (cond b (g (content_of c)) (content_of c)) c ∷ each_cell (λ u x. cond (nat_eq t u) (g x) x) cs) (sym (eq-eqb t c.type_id same))
      | inr apart ↦
          ap (λ b. cond b (with_content (g (content_of c)) c ∷ cs) (c ∷ change_cell t g cs)) (ne_eqb c.type_id t (λ e. apart (sym e)))
          ∙ ap (λ xs. c ∷ xs) (one_changed t g cs distinct.1)
          ∙ ap (λ b. with_content (cond b (g (content_of c)) (content_of c)) c ∷ each_cell (λ u x. cond (nat_eq t u) (g x) x) cs) (sym (ne_eqb t c.type_id apart))
    ]

pub each_types : (g : ℕ → Content → Content) (cells : List Cell) → map cell_type (each_cell g cells) ≡ map cell_type cells
each_types g [] = refl
each_types g (c ∷ cs) = ap (λ ts. c.type_id ∷ ts) (each_types g cs)

pub each_twice : (g h : ℕ → Content → Content) (cells : List Cell) → each_cell h (each_cell g cells) ≡ each_cell (λ u c. h u (g u c)) cells
each_twice g h [] = refl
each_twice g h (c ∷ cs) = ap (λ xs. with_content (h c.type_id (g c.type_id (content_of c))) c ∷ xs) (each_twice g h cs)

write_is : (w : Write) (r : Row) → row_write w r ≡ changed (type_of w) (change_of w) r
write_is (Field t f v) r = refl
write_is (Switch t off) r = refl
write_is (Elements t width vs) r = refl

-- writes change each cell by what they do to its type
pub writes_are : (ws : List Write) (r : Row) → AreDistinct (map cell_type r.cells) → row_writes ws r ≡ record r { cells = each_cell (λ t c. effect t ws c) r.cells }
writes_are [] r distinct = ap (λ cells. record r { cells = cells }) (sym (same r.cells))
  where
    same : (cells : List Cell) → each_cell (λ t c. c) cells ≡ cells
    same [] = refl
    same (c ∷ cs) = ap (λ xs. c ∷ xs) (same cs)
writes_are (w ∷ ws) r distinct =
    let one : Row = changed (type_of w) (change_of w) r in
    let cells : one.cells ≡ each_cell (λ u c. cond (nat_eq (type_of w) u) (change_of w c) c) r.cells = one_changed (type_of w) (change_of w) r.cells distinct in
    ap (row_writes ws) (write_is w r)
    ∙ writes_are ws one (subst AreDistinct (sym (ap (map cell_type) cells ∙ each_types (λ u c. cond (nat_eq (type_of w) u) (change_of w c) c) r.cells)) distinct)
    ∙ ap (λ (xs : List Cell). record r { cells = xs }) (ap (each_cell (λ t c. effect t ws c)) cells ∙ each_twice (λ u c. cond (nat_eq (type_of w) u) (change_of w c) c) (λ t c. effect t ws c) r.cells)
