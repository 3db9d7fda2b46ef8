-- What a caller knows of a type whose rows it found.
use Rattle.std.proofs.Common.{ℕ, ◌≡◌, ◌<◌, ◌∙◌, Bool, true, false, cond, nat_eq, sym, ap, refl, List, [], ◌∷◌, length, map, subst, Option, Some, None}
use Rattle.std.specs.Prelude.{is_none, IfSome, MatchOption}
use Rattle.std.specs.Bool.{MatchBool}
use Rattle.std.proofs.lemmas.List.{ext_get_or, length-map, get_or-map}
use Rattle.ent_types.specs.declared.entity.Entity.{Entity}
use Rattle.world_model.specs.Row.{Row}
use Rattle.block_columns.specs.Places.{tabulated}
use Rattle.block_columns.specs.Types.{TypeState, Content, blank_cell, cell_in}
use Rattle.block_columns.specs.declared.shape.TypeShape.{TypeShape}
use Rattle.block_columns.proofs.Lists.{length-tabulated}
use Rattle.chunk_block.specs.Pieces.{Place, IsHeld, OfPlace, LacksPlace, IsIfHeld, held_off, place_off}
use Rattle.chunk_block.specs.Blocks.{BlockType, type_of, content_at, place_cell, held_content, row_at, no_row, OfType, Lacks, AllSuit, Suits}
use Rattle.chunk_block.proofs.Places.{there, found, read_row}

-- what holds of the shape that was found holds of the type
pub of_shape : (t : ℕ) (s : TypeShape) (P : TypeShape → Type 0) (cs : List BlockType) → OfType t (λ x. s ≡ x) cs → P s → OfType t P cs
of_shape t s P [] is so = absurd is
of_shape t s P (x ∷ xs) is so = by (nat_eq x.shape.ty.0 t) is (λ h. of_shape t s P xs h so)
  where
    by : (b : Bool) → MatchBool b ((x.lent ≡ false) × (s ≡ x.shape)) (OfType t (λ y. s ≡ y) xs) → (OfType t (λ y. s ≡ y) xs → OfType t P xs) → MatchBool b ((x.lent ≡ false) × P x.shape) (OfType t P xs)
    by true is rest = (is.0, subst P is.1 so)
    by false is rest = rest is

-- ---- what `rows_of` finds

shape_there : (n cap t : ℕ) (x : TypeState) (ps : List Place) → AllSuit n cap ps → OfPlace t (λ y. x ≡ y) ps → OfType t (λ s. x.shape ≡ s) (map type_of ps)
shape_there n cap t x [] suit is = absurd is
shape_there n cap t x (p ∷ ps) suit is = by (nat_eq p.shape.ty.0 t) p.held suit.0 is (λ h. shape_there n cap t x ps suit.1 h)
  where
    by : (b : Bool) (o : Option TypeState) → IsIfHeld (Suits n cap p.shape) o → MatchBool b (IsHeld (λ y. x ≡ y) o) (OfPlace t (λ y. x ≡ y) ps)
        → (OfPlace t (λ y. x ≡ y) ps → OfType t (λ s. x.shape ≡ s) (map type_of ps))
        → MatchBool b ((is_none o ≡ false) × (x.shape ≡ p.shape)) (OfType t (λ s. x.shape ≡ s) (map type_of ps))
    by true None suits is rest = absurd is
    by true (Some y) suits is rest = (refl, ap (λ (s : TypeState). s.shape) is ∙ suits.same_shape)
    by false o suits is rest = rest is

lacks_there : (t : ℕ) (ps : List Place) → LacksPlace t ps → Lacks t (map type_of ps)
lacks_there t [] is = tt
lacks_there t (p ∷ ps) is = by (nat_eq p.shape.ty.0 t) p.held is (λ h. lacks_there t ps h)
  where
    by : (b : Bool) (o : Option TypeState) → MatchBool b (o ≡ None) (LacksPlace t ps) → (LacksPlace t ps → Lacks t (map type_of ps)) → MatchBool b (is_none o ≡ true) (Lacks t (map type_of ps))
    by true None is rest = refl
    by true (Some y) is rest = absurd (cc is)
    by false o is rest = rest is

pub found_shape : {X : Type 0} (n cap t : ℕ) (now : X → TypeState) (o : Option X) (ps : List Place) → AllSuit n cap ps → MatchOption o (LacksPlace t ps) (λ r. OfPlace t (λ y. now r ≡ y) ps)
    → MatchOption o (Lacks t (map type_of ps)) (λ r. OfType t (λ s. (now r).shape ≡ s) (map type_of ps))
found_shape n cap t now None ps suit is = lacks_there t ps is
found_shape n cap t now (Some r) ps suit is = shape_there n cap t (now r) ps suit is

cells_there : (t n : ℕ) (ps : List Place) (dying : List ℕ) (es : List Entity) (x : TypeState) → length x.cells ≡ n → OfPlace t (λ y. x ≡ y) ps → x.cells ≡ map (λ w. content_at t w.cells) (tabulated (row_at ps dying es) 0 n)
cells_there t n ps dying es x size is =
    let rows = tabulated (row_at ps dying es) 0 n in
    let count = length-tabulated (row_at ps dying es) 0 n in
    ext_get_or blank_cell _ _ (size ∙ (sym count ∙ sym (length-map rows (λ (w : Row). content_at t w.cells)))) (λ k h.
    let within : k < n = subst (λ m. k < m) size h in
    let under : k < length rows = subst (λ m. k < m) (sym count) within in
    read_row t k n (λ (c : Content). c) (cell_in k x.cells) ps dying es x within is refl
    ∙ sym (get_or-map (λ (w : Row). content_at t w.cells) rows k no_row blank_cell under))

pub found_cells : {X : Type 0} (n cap t : ℕ) (now : X → TypeState) (o : Option X) (ps : List Place) (dying : List ℕ) (es : List Entity) → AllSuit n cap ps → MatchOption o (LacksPlace t ps) (λ r. OfPlace t (λ y. now r ≡ y) ps)
    → IfSome o (λ r. (now r).cells ≡ map (λ w. content_at t w.cells) (tabulated (row_at ps dying es) 0 n))
found_cells n cap t now None ps dying es suit is = tt
found_cells n cap t now (Some r) ps dying es suit is =
    cells_there t n ps dying es (now r)
    (found t (λ y. length y.cells ≡ n) (now r) ps is
    (there n cap t (λ s. (now r).shape ≡ s) (λ y. length y.cells ≡ n) ps suit (shape_there n cap t (now r) ps suit is) (λ y h long. long))) is

-- ---- the bit of a row

-- a row shows the bit of the type
pub off_shown : (t k : ℕ) (ps : List Place) → place_off k t ps ≡ (content_at t (map (place_cell k) ps)).off
off_shown t k [] = refl
off_shown t k (p ∷ ps) = by (nat_eq p.shape.ty.0 t) p.held (off_shown t k ps)
  where
    by : (b : Bool) (o : Option TypeState) → place_off k t ps ≡ (content_at t (map (place_cell k) ps)).off
        → cond b (held_off k o) (place_off k t ps) ≡ (cond b (record { values = (held_content k o).values; off = (held_content k o).off }) (content_at t (map (place_cell k) ps))).off
    by true None rest = refl
    by true (Some y) rest = refl
    by false o rest = rest
