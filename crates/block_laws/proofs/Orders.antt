-- Pieces of different types come back in any order.
use Rattle.std.proofs.Common.{ℕ, ◌≡◌, ◌+◌, ◌∙◌, ap, refl, Bool, true, false, cond, nat_eq, List, [], ◌∷◌, fold, arith}
use Rattle.std.proofs.lemmas.Bool.Decides.{nat_tests}
use Rattle.world_model.specs.Row.{Row, Cell}
use Rattle.block_columns.specs.Places.{at_places}
use Rattle.block_columns.specs.Types.{TypeState, Content, cell_in}
use Rattle.chunk_block.specs.Blocks.{BlockType, BlockState, LoanState, content_of, with_content, change_cell, changed, given_type, given_rows}
use Rattle.block_laws.specs.Lending.{IsApart, AreApart, given_back}

not_both : (m g h : ℕ) → nat_eq m g ≡ true → nat_eq m h ≡ true → nat_eq g h ≡ false → ⊥
not_both m g h = grind (arith, nat_tests)

-- ---- two pieces

types_twice : (ts : List BlockType) (x y : TypeState) → nat_eq x.shape.ty.0 y.shape.ty.0 ≡ false → given_type (given_type ts x) y ≡ given_type (given_type ts y) x
types_twice [] x y apart = refl
types_twice (t ∷ ts) x y apart = by (nat_eq t.shape.ty.0 x.shape.ty.0) (nat_eq t.shape.ty.0 y.shape.ty.0) refl refl (types_twice ts x y apart)
  where
    by : (b c : Bool) → nat_eq t.shape.ty.0 x.shape.ty.0 ≡ b → nat_eq t.shape.ty.0 y.shape.ty.0 ≡ c → given_type (given_type ts x) y ≡ given_type (given_type ts y) x
        → given_type (cond b (record t { lent = false } ∷ ts) (t ∷ given_type ts x)) y ≡ given_type (cond c (record t { lent = false } ∷ ts) (t ∷ given_type ts y)) x
    by true true e f rest = absurd (not_both t.shape.ty.0 x.shape.ty.0 y.shape.ty.0 e f apart)
    by true false e f rest = rw (f, e) refl
    by false true e f rest = rw (f, e) refl
    by false false e f rest = rw (f, e) (ap (λ (us : List BlockType). t ∷ us) rest)

pub cells_twice : (t u : ℕ) (g h : Content → Content) (cs : List Cell) → nat_eq t u ≡ false → change_cell u h (change_cell t g cs) ≡ change_cell t g (change_cell u h cs)
cells_twice t u g h [] apart = refl
cells_twice t u g h (c ∷ cs) apart = by (nat_eq c.type_id t) (nat_eq c.type_id u) refl refl (cells_twice t u g h cs apart)
  where
    by : (p q : Bool) → nat_eq c.type_id t ≡ p → nat_eq c.type_id u ≡ q → change_cell u h (change_cell t g cs) ≡ change_cell t g (change_cell u h cs)
        → change_cell u h (cond p (with_content (g (content_of c)) c ∷ cs) (c ∷ change_cell t g cs)) ≡ change_cell t g (cond q (with_content (h (content_of c)) c ∷ cs) (c ∷ change_cell u h cs))
    by true true e f rest = absurd (not_both c.type_id t u e f apart)
    by true false e f rest = rw (f, e) refl
    by false true e f rest = rw (f, e) refl
    by false false e f rest = rw (f, e) (ap (λ (ds : List Cell). c ∷ ds) rest)

pub places_twice : (f g : ℕ → Row → Row) → ((k : ℕ) (r : Row) → g k (f k r) ≡ f k (g k r)) → (k : ℕ) (rows : List Row) → at_places g k (at_places f k rows) ≡ at_places f k (at_places g k rows)
places_twice f g same k [] = refl
places_twice f g same k (r ∷ rows) = ap (λ (s : Row). s ∷ at_places g (k + 1) (at_places f (k + 1) rows)) (same k r) ∙ ap (λ (rs : List Row). f k (g k r) ∷ rs) (places_twice f g same (k + 1) rows)

rows_twice : (rows : List Row) (x y : TypeState) → nat_eq x.shape.ty.0 y.shape.ty.0 ≡ false → given_rows (given_rows rows x) y ≡ given_rows (given_rows rows y) x
rows_twice rows x y apart =
    places_twice (λ k r. changed x.shape.ty.0 (λ _. cell_in k x.cells) r) (λ k r. changed y.shape.ty.0 (λ _. cell_in k y.cells) r)
    (λ k r. ap (λ (cs : List Cell). record r { cells = cs }) (cells_twice x.shape.ty.0 y.shape.ty.0 (λ _. cell_in k x.cells) (λ _. cell_in k y.cells) r.cells apart)) 0 rows

-- ---- several pieces

module _ {B : Type 0} (f : B → TypeState → B) (twice : (b : B) (x y : TypeState) → nat_eq x.shape.ty.0 y.shape.ty.0 ≡ false → f (f b x) y ≡ f (f b y) x) where
  past : (b : B) (x : TypeState) (ys : List TypeState) → IsApart x ys → fold f (f b x) ys ≡ f (fold f b ys) x
  past b x [] apart = refl
  past b x (y ∷ ys) apart = ap (λ (c : B). fold f c ys) (twice b x y apart.0) ∙ past (f b y) x ys apart.1

  pub turned : (b : B) (xs ys : List TypeState) → AreApart xs ys → fold f (fold f b xs) ys ≡ fold f (fold f b ys) xs
  turned b [] ys apart = refl
  turned b (x ∷ xs) ys apart = turned (f b x) xs ys apart.1 ∙ ap (λ (c : B). fold f c xs) (past b x ys apart.0)

pub given_turned : (b : BlockState) (first second : LoanState) → AreApart first.pieces second.pieces → given_back (given_back b first) second ≡ given_back (given_back b second) first
given_turned b first second apart =
    ap (λ (ts : List BlockType). record b { columns = ts; rows = fold given_rows (fold given_rows b.rows first.pieces) second.pieces }) (turned given_type types_twice b.columns first.pieces second.pieces apart)
    ∙ ap (λ (rs : List Row). record b { columns = fold given_type (fold given_type b.columns second.pieces) first.pieces; rows = rs }) (turned given_rows rows_twice b.rows first.pieces second.pieces apart)
