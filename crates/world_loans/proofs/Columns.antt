-- The columns of a block to which pieces came back.
use Rattle.std.proofs.Common.{◌≡◌, ℕ, ◌+◌, ◌≤◌, Bool, true, false, ◌||◌, cond, nat_eq, List, [], ◌∷◌, map, fold, refl, sym, ap, ap₂, ◌∙◌, subst, arith}
use Rattle.std.proofs.lemmas.Bool.{eqb-true}
use Rattle.ent_types.specs.TypeSets.{has_type}
use Rattle.world_model.specs.Members.{one_if, tally}
use Rattle.block_columns.specs.Types.{TypeState}
use Rattle.chunk_block.specs.Blocks.{BlockType, AreDistinct, IsWhole, column_types, given_type, lent_type}
use Rattle.block_laws.proofs.Rows.{or_parts, other_way, itself}
use Rattle.world_loans.specs.Returns.{is_piece}

-- ---- each column by itself

abbrev pub with_piece : TypeState → BlockType → BlockType
with_piece p x = cond (nat_eq x.shape.ty.0 p.shape.ty.0) (record x { lent = false }) x

abbrev pub with_pieces : List TypeState → BlockType → BlockType
with_pieces [] x = x
with_pieces (p ∷ ps) x = with_pieces ps (with_piece p x)

piece_elsewhere : (p : TypeState) (xs : List BlockType) → has_type (column_types xs) p.shape.ty.0 ≡ false → map (with_piece p) xs ≡ xs
piece_elsewhere p [] lacks = refl
piece_elsewhere p (x ∷ xs) lacks =
    let parts = or_parts (nat_eq x.shape.ty.0 p.shape.ty.0) (has_type (column_types xs) p.shape.ty.0) lacks in
    ap₂ (λ (y : BlockType) (ys : List BlockType). y ∷ ys) (ap (λ b. cond b (record x { lent = false }) x) parts.0) (piece_elsewhere p xs parts.1)

one_given : (p : TypeState) (xs : List BlockType) → AreDistinct (column_types xs) → given_type xs p ≡ map (with_piece p) xs
one_given p [] distinct = refl
one_given p (x ∷ xs) distinct = by (nat_eq x.shape.ty.0 p.shape.ty.0) refl (one_given p xs distinct.1)
  where
    by : (b : Bool) → nat_eq x.shape.ty.0 p.shape.ty.0 ≡ b → given_type xs p ≡ map (with_piece p) xs
        → cond b (record x { lent = false } ∷ xs) (x ∷ given_type xs p) ≡ cond b (record x { lent = false }) x ∷ map (with_piece p) xs
    by true is rest =
        ap (λ (ys : List BlockType). record x { lent = false } ∷ ys)
        (sym (piece_elsewhere p xs (subst (λ t. has_type (column_types xs) t ≡ false) (eqb-true x.shape.ty.0 p.shape.ty.0 is) distinct.0)))
    by false is rest = ap (λ (ys : List BlockType). x ∷ ys) rest

types_stay : (p : TypeState) (xs : List BlockType) → column_types (map (with_piece p) xs) ≡ column_types xs
types_stay p [] = refl
types_stay p (x ∷ xs) = ap₂ (λ (t : ℕ) (ts : List ℕ). t ∷ ts) (by (nat_eq x.shape.ty.0 p.shape.ty.0)) (types_stay p xs)
  where
    by : (b : Bool) → (cond b (record x { lent = false }) x).shape.ty.0 ≡ x.shape.ty.0
    by true = refl
    by false = refl

each_given : (ps : List TypeState) (xs : List BlockType) → AreDistinct (column_types xs) → fold given_type xs ps ≡ map (with_pieces ps) xs
each_given [] xs distinct = sym (none xs)
  where
    none : (ys : List BlockType) → map (with_pieces []) ys ≡ ys
    none [] = refl
    none (y ∷ ys) = ap (λ (zs : List BlockType). y ∷ zs) (none ys)
each_given (p ∷ ps) xs distinct =
    ap (λ (ys : List BlockType). fold given_type ys ps) (one_given p xs distinct)
    ∙ each_given ps (map (with_piece p) xs) (subst AreDistinct (sym (types_stay p xs)) distinct)
    ∙ twice xs
  where
    twice : (ys : List BlockType) → map (with_pieces ps) (map (with_piece p) ys) ≡ map (with_pieces (p ∷ ps)) ys
    twice [] = refl
    twice (y ∷ ys) = ap (λ (zs : List BlockType). with_pieces ps (with_piece p y) ∷ zs) (twice ys)

-- ---- what was lent and came back

held_stays : (ps : List TypeState) (x : BlockType) → x.lent ≡ false → with_pieces ps x ≡ x
held_stays [] x held = refl
held_stays (p ∷ ps) x held = ap (with_pieces ps) (by (nat_eq x.shape.ty.0 p.shape.ty.0)) ∙ held_stays ps x held
  where
    by : (b : Bool) → cond b (record x { lent = false }) x ≡ x
    by true = ap (λ l. record x { lent = l }) (sym held)
    by false = refl

lent_comes_back : (ps : List TypeState) (x : BlockType) → 1 ≤ tally (is_piece x.shape.ty.0) ps → with_pieces ps x ≡ record x { lent = false }
lent_comes_back [] x there = absurd (omega (arith, there))
lent_comes_back (p ∷ ps) x there = by (nat_eq x.shape.ty.0 p.shape.ty.0) refl (lent_comes_back ps x)
  where
    by : (b : Bool) → nat_eq x.shape.ty.0 p.shape.ty.0 ≡ b → (1 ≤ tally (is_piece x.shape.ty.0) ps → with_pieces ps x ≡ record x { lent = false })
        → with_pieces ps (cond b (record x { lent = false }) x) ≡ record x { lent = false }
    by true is rest = held_stays ps (record x { lent = false }) refl
    by false is rest =
        let more : 1 ≤ one_if false + tally (is_piece x.shape.ty.0) ps =
        subst (λ b. 1 ≤ one_if b + tally (is_piece x.shape.ty.0) ps) (other_way x.shape.ty.0 p.shape.ty.0 is) there in
        rest (omega arith)

-- the columns are whole if there is a piece for each type that was lent
pub columns_back : (types : List ℕ) (ps : List TypeState) (xs : List BlockType) → AreDistinct (column_types xs) → IsWhole xs
    → ((t : ℕ) → has_type types t ≡ true → has_type (column_types xs) t ≡ true → 1 ≤ tally (is_piece t) ps) → fold given_type (map (lent_type types) xs) ps ≡ xs
columns_back types ps xs distinct whole there = each_given ps (map (lent_type types) xs) (subst AreDistinct (sym (lent_types_stay xs)) distinct) ∙ all xs whole there
  where
    lent_types_stay : (ys : List BlockType) → column_types (map (lent_type types) ys) ≡ column_types ys
    lent_types_stay [] = refl
    lent_types_stay (y ∷ ys) = ap₂ (λ (t : ℕ) (ts : List ℕ). t ∷ ts) (by (has_type types y.shape.ty.0)) (lent_types_stay ys)
      where
        by : (b : Bool) → (cond b (record y { lent = true }) y).shape.ty.0 ≡ y.shape.ty.0
        by true = refl
        by false = refl

    later : (a b : Bool) → b ≡ true → (a || b) ≡ true
    later true b h = refl
    later false b h = h

    all : (ys : List BlockType) → IsWhole ys → ((t : ℕ) → has_type types t ≡ true → has_type (column_types ys) t ≡ true → 1 ≤ tally (is_piece t) ps) → map (with_pieces ps) (map (lent_type types) ys) ≡ ys
    all [] held covers = refl
    all (y ∷ ys) held covers =
        ap₂ (λ (z : BlockType) (zs : List BlockType). z ∷ zs) (by (has_type types y.shape.ty.0) refl)
        (all ys held.1 (λ t lent has. covers t lent (later (nat_eq y.shape.ty.0 t) (has_type (column_types ys) t) has)))
      where
        by : (a : Bool) → has_type types y.shape.ty.0 ≡ a → with_pieces ps (cond a (record y { lent = true }) y) ≡ y
        by true is =
            lent_comes_back ps (record y { lent = true }) (covers y.shape.ty.0 is (ap (λ b. b || has_type (column_types ys) y.shape.ty.0) (itself y.shape.ty.0)))
            ∙ ap (λ l. record y { lent = l }) (sym held.0)
        by false is = held_stays ps y held.0
