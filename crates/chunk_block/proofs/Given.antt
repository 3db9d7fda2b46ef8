-- The rows of a block to which a loan came back.
use Rattle.std.proofs.Common.{ℕ, ◌≡◌, ◌∙◌, Bool, true, false, cond, nat_eq, sym, ap, refl, List, [], ◌∷◌, length, get_or, map, fold, subst, Some}
use Rattle.std.specs.Bool.{MatchBool}
use Rattle.ent_types.specs.declared.entity.Entity.{Entity}
use Rattle.ent_types.specs.Fitting.{null_entity}
use Rattle.enable_bits.specs.Masks.{has}
use Rattle.world_model.specs.Row.{Row, Cell}
use Rattle.block_columns.specs.Places.{tabulated}
use Rattle.block_columns.specs.Types.{TypeState, cell_in}
use Rattle.block_columns.specs.declared.shape.TypeShape.{TypeShape}
use Rattle.block_columns.proofs.Lists.{changed_table}
use Rattle.chunk_block.specs.Pieces.{Place, put, put_all, AreSmall}
use Rattle.chunk_block.specs.Blocks.{BlockType, type_of, place_cell, row_at, no_row, changed, change_cell, given_type, given_rows, HasShape, AllSuit, place_types, AreDistinct, IsSound}

cells_put : (k : ℕ) (x : TypeState) (ps : List Place) → map (place_cell k) (put ps x) ≡ change_cell x.shape.ty.0 (λ _. cell_in k x.cells) (map (place_cell k) ps)
cells_put k x [] = refl
cells_put k x (p ∷ ps) = by (nat_eq p.shape.ty.0 x.shape.ty.0) (cells_put k x ps)
  where
    by : (b : Bool) → map (place_cell k) (put ps x) ≡ change_cell x.shape.ty.0 (λ _. cell_in k x.cells) (map (place_cell k) ps)
        → map (place_cell k) (cond b (record p { held = Some x } ∷ ps) (p ∷ put ps x))
        ≡ cond b (record { type_id = p.shape.ty.0; values = (cell_in k x.cells).values; off = (cell_in k x.cells).off } ∷ map (place_cell k) ps)
        (place_cell k p ∷ change_cell x.shape.ty.0 (λ _. cell_in k x.cells) (map (place_cell k) ps))
    by true rest = refl
    by false rest = ap (λ (cs : List Cell). place_cell k p ∷ cs) rest

rows_put : (n : ℕ) (x : TypeState) (ps : List Place) (dying : List ℕ) (es : List Entity) → tabulated (row_at (put ps x) dying es) 0 n ≡ given_rows (tabulated (row_at ps dying es) 0 n) x
rows_put n x ps dying es =
    changed_table (row_at ps dying es) (row_at (put ps x) dying es) (λ k r. changed x.shape.ty.0 (λ _. cell_in k x.cells) r) n no_row
    (λ k within. ap (λ (cs : List Cell). record { entity = get_or es k null_entity; cells = cs; dying = has dying k }) (cells_put k x ps))

pub rows_given : (n : ℕ) (xs : List TypeState) (ps : List Place) (dying : List ℕ) (es : List Entity) → tabulated (row_at (put_all ps xs) dying es) 0 n ≡ fold given_rows (tabulated (row_at ps dying es) 0 n) xs
rows_given n [] ps dying es = refl
rows_given n (x ∷ xs) ps dying es = rows_given n xs (put ps x) dying es ∙ ap (λ (rs : List Row). fold given_rows rs xs) (rows_put n x ps dying es)

types_put : (x : TypeState) (ps : List Place) → map type_of (put ps x) ≡ given_type (map type_of ps) x
types_put x [] = refl
types_put x (p ∷ ps) = by (nat_eq p.shape.ty.0 x.shape.ty.0) (types_put x ps)
  where
    by : (b : Bool) → map type_of (put ps x) ≡ given_type (map type_of ps) x
        → map type_of (cond b (record p { held = Some x } ∷ ps) (p ∷ put ps x)) ≡ cond b (record { shape = p.shape; lent = false } ∷ map type_of ps) (type_of p ∷ given_type (map type_of ps) x)
    by true rest = refl
    by false rest = ap (λ (ts : List BlockType). type_of p ∷ ts) rest

pub types_given : (xs : List TypeState) (ps : List Place) → map type_of (put_all ps xs) ≡ fold given_type (map type_of ps) xs
types_given [] ps = refl
types_given (x ∷ xs) ps = types_given xs (put ps x) ∙ ap (λ (ts : List BlockType). fold given_type ts xs) (types_put x ps)

-- ---- the block stays sound

suit_put : (n cap : ℕ) (x : TypeState) (ps : List Place) → length x.cells ≡ n → x.capacity ≡ cap → HasShape x.shape (map type_of ps) → AllSuit n cap ps → AllSuit n cap (put ps x)
suit_put n cap x [] size room shape suit = tt
suit_put n cap x (p ∷ ps) size room shape suit = by (nat_eq p.shape.ty.0 x.shape.ty.0) shape (λ h. suit_put n cap x ps size room h suit.1)
  where
    by : (b : Bool) → MatchBool b (x.shape ≡ p.shape) (HasShape x.shape (map type_of ps)) → (HasShape x.shape (map type_of ps) → AllSuit n cap (put ps x)) → AllSuit n cap (cond b (record p { held = Some x } ∷ ps) (p ∷ put ps x))
    by true is rest = (record { same_shape = is; same_capacity = room; same_rows = size }, suit.1)
    by false is rest = (suit.0, rest is)

place_types_put : (x : TypeState) (ps : List Place) → place_types (put ps x) ≡ place_types ps
place_types_put x [] = refl
place_types_put x (p ∷ ps) = by (nat_eq p.shape.ty.0 x.shape.ty.0) (place_types_put x ps)
  where
    by : (b : Bool) → place_types (put ps x) ≡ place_types ps → place_types (cond b (record p { held = Some x } ∷ ps) (p ∷ put ps x)) ≡ p.shape.ty.0 ∷ place_types ps
    by true rest = refl
    by false rest = ap (λ ts. p.shape.ty.0 ∷ ts) rest

small_put : (x : TypeState) (ps : List Place) → AreSmall ps → AreSmall (put ps x)
small_put x [] small = tt
small_put x (p ∷ ps) small = by (nat_eq p.shape.ty.0 x.shape.ty.0) (small_put x ps small.1)
  where
    by : (b : Bool) → AreSmall (put ps x) → AreSmall (cond b (record p { held = Some x } ∷ ps) (p ∷ put ps x))
    by true rest = small
    by false rest = (small.0, rest)

-- a type that is there is there after another came back
shape_next : (s : TypeShape) (p : Place) (ps qs : List Place) → HasShape s (map type_of (p ∷ ps)) → (HasShape s (map type_of ps) → HasShape s (map type_of qs)) → HasShape s (map type_of (p ∷ qs))
shape_next s p ps qs has rest = by (nat_eq p.shape.ty.0 s.ty.0) has
  where
    by : (b : Bool) → MatchBool b (s ≡ p.shape) (HasShape s (map type_of ps)) → MatchBool b (s ≡ p.shape) (HasShape s (map type_of qs))
    by true is = is
    by false is = rest is

shape_put : (s : TypeShape) (x : TypeState) (ps : List Place) → HasShape s (map type_of ps) → HasShape s (map type_of (put ps x))
shape_put s x [] has = has
shape_put s x (p ∷ ps) has = by (nat_eq p.shape.ty.0 x.shape.ty.0) (λ h. shape_put s x ps h)
  where
    by : (b : Bool) → (HasShape s (map type_of ps) → HasShape s (map type_of (put ps x))) → HasShape s (map type_of (cond b (record p { held = Some x } ∷ ps) (p ∷ put ps x)))
    by true rest = has
    by false rest = shape_next s p ps (put ps x) has rest

sound_put : (n room cap : ℕ) (dying : List ℕ) (x : TypeState) (ps : List Place) → length x.cells ≡ n → x.capacity ≡ cap → HasShape x.shape (map type_of ps) → IsSound n room cap dying ps → IsSound n room cap dying (put ps x)
sound_put n room cap dying x ps size kept shape sound = record {
  few = sound.few;
  most = sound.most;
  reserved = sound.reserved;
  past = sound.past;
  small = small_put x ps sound.small;
  distinct = subst AreDistinct (sym (place_types_put x ps)) sound.distinct;
  suit = suit_put n cap x ps size kept shape sound.suit;
}

-- the pieces are of a block with n rows
abbrev pub AreOf : ℕ → ℕ → List BlockType → List TypeState → Type 0
AreOf n cap ts [] = Unit {0}
AreOf n cap ts (x ∷ xs) = ((length x.cells ≡ n) × ((x.capacity ≡ cap) × HasShape x.shape ts)) × AreOf n cap ts xs

of_put : (n cap : ℕ) (x : TypeState) (ps : List Place) (xs : List TypeState) → AreOf n cap (map type_of ps) xs → AreOf n cap (map type_of (put ps x)) xs
of_put n cap x ps [] of = tt
of_put n cap x ps (y ∷ ys) of = ((of.0.0, (of.0.1.0, shape_put y.shape x ps of.0.1.1)), of_put n cap x ps ys of.1)

pub sound_given : (n room cap : ℕ) (dying : List ℕ) (xs : List TypeState) (ps : List Place) → AreOf n cap (map type_of ps) xs → IsSound n room cap dying ps → IsSound n room cap dying (put_all ps xs)
sound_given n room cap dying [] ps of sound = sound
sound_given n room cap dying (x ∷ xs) ps of sound = sound_given n room cap dying xs (put ps x) (of_put n cap x ps xs of.1) (sound_put n room cap dying x ps of.0.0 of.0.1.0 of.0.1.1 sound)
