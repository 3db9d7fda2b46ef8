-- The rows of a block of which some types were lent, and what the loan has.
use Rattle.std.proofs.Common.{ℕ, zero, suc, inl, inr, ◌≡◌, ◌<◌, ◌+◌, ◌∙◌, Bool, true, false, cond, nat_eq, ◌||◌, sym, ap, refl, List, [], ◌∷◌, ◌++◌, get_or, map, subst, Option, Some, None}
use Rattle.std.specs.Prelude.{is_none, ◌==◌}
use Rattle.std.specs.List.{flat_map}
use Rattle.std.proofs.lemmas.Bool.{cases_eq, cond-true, eq-eqb, ne_eqb}
use Rattle.std.proofs.lemmas.List.{ext_get_or, length-map, get_or-map}
use Rattle.ent_types.specs.declared.entity.Entity.{Entity}
use Rattle.ent_types.specs.Fitting.{null_entity}
use Rattle.ent_types.specs.TypeSets.{has_type}
use Rattle.enable_bits.specs.Masks.{has}
use Rattle.world_model.specs.Row.{Row, Cell}
use Rattle.block_columns.specs.Places.{tabulated}
use Rattle.block_columns.specs.Types.{TypeState, Content, blank_cell, cell_in}
use Rattle.block_columns.specs.declared.shape.TypeShape.{TypeShape}
use Rattle.block_columns.proofs.Lists.{length-tabulated}
use Rattle.chunk_block.specs.Pieces.{Place, IsIfHeld, kept, lent, lent_from, AreSmall}
use Rattle.chunk_block.specs.Blocks.{BlockType, type_of, content_of, content_at, with_content, place_cell, held_content, row_at, no_row, lent_cell, lent_row, lent_type, lent_piece, AreHeld, Suits, AllSuit, place_types, AreDistinct, IsSound}
use Rattle.chunk_block.proofs.Places.{row_there}

-- ---- the block's rows

cell_kept : (k : ℕ) (b : Bool) (p : Place) → place_cell k (cond b (record p { held = None }) p) ≡ cond b (with_content blank_cell (place_cell k p)) (place_cell k p)
cell_kept k true p = refl
cell_kept k false p = refl

cells_kept : (types : List ℕ) (k : ℕ) (ps : List Place) → map (place_cell k) (map (kept types) ps) ≡ map (lent_cell types) (map (place_cell k) ps)
cells_kept types k [] = refl
cells_kept types k (p ∷ ps) =
    ap (λ (c : Cell). c ∷ map (place_cell k) (map (kept types) ps)) (cell_kept k (has_type types p.shape.ty.0) p)
    ∙ ap (λ (cs : List Cell). lent_cell types (place_cell k p) ∷ cs) (cells_kept types k ps)

rows_kept_from : (types : List ℕ) (ps : List Place) (dying : List ℕ) (es : List Entity) (k n : ℕ) → tabulated (row_at (map (kept types) ps) dying es) k n ≡ map (lent_row types) (tabulated (row_at ps dying es) k n)
rows_kept_from types ps dying es k zero = refl
rows_kept_from types ps dying es k (suc n) =
    ap (λ (cs : List Cell). record { entity = get_or es k null_entity; cells = cs; dying = has dying k } ∷ tabulated (row_at (map (kept types) ps) dying es) (k + 1) n) (cells_kept types k ps)
    ∙ ap (λ (rs : List Row). lent_row types (row_at ps dying es k) ∷ rs) (rows_kept_from types ps dying es (k + 1) n)

pub rows_kept : (types : List ℕ) (ps : List Place) (dying : List ℕ) (es : List Entity) (n : ℕ) → tabulated (row_at (map (kept types) ps) dying es) 0 n ≡ map (lent_row types) (tabulated (row_at ps dying es) 0 n)
rows_kept types ps dying es n = rows_kept_from types ps dying es 0 n

type_kept : (b : Bool) (p : Place) → type_of (cond b (record p { held = None }) p) ≡ cond b (record (type_of p) { lent = true }) (type_of p)
type_kept true p = refl
type_kept false p = refl

pub types_kept : (types : List ℕ) (ps : List Place) → map type_of (map (kept types) ps) ≡ map (lent_type types) (map type_of ps)
types_kept types [] = refl
types_kept types (p ∷ ps) =
    ap (λ (t : BlockType). t ∷ map type_of (map (kept types) ps)) (type_kept (has_type types p.shape.ty.0) p)
    ∙ ap (λ (ts : List BlockType). lent_type types (type_of p) ∷ ts) (types_kept types ps)

-- ---- what the loan has

-- each of these places shows its own cells in the rows of all
abbrev Own : ℕ → List Place → List Place → Type 0
Own k all [] = Unit {0}
Own k all (q ∷ qs) = (content_at q.shape.ty.0 (map (place_cell k) all) ≡ held_content k q.held) × Own k all qs

own_more : (k : ℕ) (p : Place) (all qs : List Place) → has_type (place_types qs) p.shape.ty.0 ≡ false → Own k all qs → Own k (p ∷ all) qs
own_more k p all [] other own = tt
own_more k p all (q ∷ qs) other own = by (nat_eq p.shape.ty.0 q.shape.ty.0) (q.shape.ty.0 == p.shape.ty.0) (same p.shape.ty.0 q.shape.ty.0) other own.0 (λ h. own_more k p all qs h own.1)
  where
    same : (a b : ℕ) → nat_eq a b ≡ nat_eq b a
    same a b =
        elim (cases_eq a b) [
          | inl e ↦ eq-eqb a b e ∙ sym (eq-eqb b a (sym e))
          | inr other ↦ ne_eqb a b other ∙ sym (ne_eqb b a (λ e. other (sym e)))
        ]

    by : (b c : Bool) → b ≡ c → (c || has_type (place_types qs) p.shape.ty.0) ≡ false → content_at q.shape.ty.0 (map (place_cell k) all) ≡ held_content k q.held
        → (has_type (place_types qs) p.shape.ty.0 ≡ false → Own k (p ∷ all) qs)
        → (cond b (content_of (place_cell k p)) (content_at q.shape.ty.0 (map (place_cell k) all)) ≡ held_content k q.held) × Own k (p ∷ all) qs
    by true true is h here rest = absurd (cc h)
    by true false is h here rest = absurd (cc is)
    by false true is h here rest = absurd (cc is)
    by false false is h here rest = (here, rest h)

own_all : (k : ℕ) (ps : List Place) → AreDistinct (place_types ps) → Own k ps ps
own_all k [] distinct = tt
own_all k (p ∷ ps) distinct = (
  cond-true (nat_eq p.shape.ty.0 p.shape.ty.0) (content_of (place_cell k p)) (content_at p.shape.ty.0 (map (place_cell k) ps)) (eq-eqb p.shape.ty.0 p.shape.ty.0 refl),
  own_more k p ps ps distinct.0 (own_all k ps distinct.1),
)

-- the rows of a held type are the cells that the block's rows show of it
piece_shown : (n cap : ℕ) (q : Place) (all : List Place) (dying : List ℕ) (es : List Entity) (y : TypeState) → Suits n cap q.shape y → ((k : ℕ) → content_at q.shape.ty.0 (map (place_cell k) all) ≡ cell_in k y.cells)
    → y ≡ record { shape = q.shape; capacity = cap; cells = map (λ r. content_at q.shape.ty.0 r.cells) (tabulated (row_at all dying es) 0 n) }
piece_shown n cap q all dying es y suits own =
    let rows = tabulated (row_at all dying es) 0 n in
    let count = length-tabulated (row_at all dying es) 0 n in
    let same : y.cells ≡ map (λ r. content_at q.shape.ty.0 r.cells) rows =
    ext_get_or blank_cell _ _ (suits.same_rows ∙ (sym count ∙ sym (length-map rows (λ (r : Row). content_at q.shape.ty.0 r.cells)))) (λ k h.
    let within : k < n = subst (λ m. k < m) suits.same_rows h in
    sym (own k)
    ∙ (ap (λ (r : Row). content_at q.shape.ty.0 r.cells) (sym (row_there all dying es n k within))
    ∙ sym (get_or-map (λ (r : Row). content_at q.shape.ty.0 r.cells) rows k no_row blank_cell (subst (λ m. k < m) (sym count) within))))
    in
    ap (λ (s : TypeShape). record { shape = s; capacity = y.capacity; cells = y.cells }) suits.same_shape
    ∙ (ap (λ m. record { shape = q.shape; capacity = m; cells = y.cells }) suits.same_capacity
    ∙ ap (λ (cs : List Content). record { shape = q.shape; capacity = cap; cells = cs }) same)

lent_from_all : (types : List ℕ) (n cap : ℕ) (all : List Place) (dying : List ℕ) (es : List Entity) (qs : List Place) → ((k : ℕ) → Own k all qs) → AllSuit n cap qs → AreHeld types (map type_of qs)
    → flat_map (lent types) qs ≡ flat_map (lent_piece types cap (tabulated (row_at all dying es) 0 n)) (map type_of qs)
lent_from_all types n cap all dying es [] own suit held = refl
lent_from_all types n cap all dying es (q ∷ qs) own suit held =
    by (has_type types q.shape.ty.0) q.held suit.0 held.0 (λ k. (own k).0) (lent_from_all types n cap all dying es qs (λ k. (own k).1) suit.1 held.1)
  where
    by : (b : Bool) (o : Option TypeState) → IsIfHeld (Suits n cap q.shape) o → (b ≡ true → is_none o ≡ false) → ((k : ℕ) → content_at q.shape.ty.0 (map (place_cell k) all) ≡ held_content k o)
        → flat_map (lent types) qs ≡ flat_map (lent_piece types cap (tabulated (row_at all dying es) 0 n)) (map type_of qs)
        → cond b (lent_from o) [] ++ flat_map (lent types) qs
        ≡ cond b (record { shape = q.shape; capacity = cap; cells = map (λ r. content_at q.shape.ty.0 r.cells) (tabulated (row_at all dying es) 0 n) } ∷ []) [] ++ flat_map (lent_piece types cap (tabulated (row_at all dying es) 0 n)) (map type_of qs)
    by true None suits some own rest = absurd (cc (some refl))
    by true (Some y) suits some own rest =
        ap (λ (z : TypeState). z ∷ flat_map (lent types) qs) (piece_shown n cap q all dying es y suits own)
        ∙ ap (λ (zs : List TypeState). record { shape = q.shape; capacity = cap; cells = map (λ r. content_at q.shape.ty.0 r.cells) (tabulated (row_at all dying es) 0 n) } ∷ zs) rest
    by false o suits some own rest = rest

pub pieces_lent : (types : List ℕ) (n cap : ℕ) (ps : List Place) (dying : List ℕ) (es : List Entity) → AreDistinct (place_types ps) → AllSuit n cap ps → AreHeld types (map type_of ps)
    → flat_map (lent types) ps ≡ flat_map (lent_piece types cap (tabulated (row_at ps dying es) 0 n)) (map type_of ps)
pieces_lent types n cap ps dying es distinct suit held = lent_from_all types n cap ps dying es ps (λ k. own_all k ps distinct) suit held

-- ---- the block stays sound

suit_kept : (types : List ℕ) (n cap : ℕ) (ps : List Place) → AllSuit n cap ps → AllSuit n cap (map (kept types) ps)
suit_kept types n cap [] suit = tt
suit_kept types n cap (p ∷ ps) suit = (by (has_type types p.shape.ty.0), suit_kept types n cap ps suit.1)
  where
    by : (b : Bool) → IsIfHeld (Suits n cap (cond b (record p { held = None }) p).shape) (cond b (record p { held = None }) p).held
    by true = tt
    by false = suit.0

type_same : (b : Bool) (p : Place) → (cond b (record p { held = None }) p).shape ≡ p.shape
type_same true p = refl
type_same false p = refl

place_types_kept : (types : List ℕ) (ps : List Place) → place_types (map (kept types) ps) ≡ place_types ps
place_types_kept types [] = refl
place_types_kept types (p ∷ ps) =
    ap (λ (s : TypeShape). s.ty.0 ∷ place_types (map (kept types) ps)) (type_same (has_type types p.shape.ty.0) p)
    ∙ ap (λ ts. p.shape.ty.0 ∷ ts) (place_types_kept types ps)

small_kept : (types : List ℕ) (ps : List Place) → AreSmall ps → AreSmall (map (kept types) ps)
small_kept types [] small = tt
small_kept types (p ∷ ps) small = (subst (λ (s : TypeShape). s.ty.0 < 256) (sym (type_same (has_type types p.shape.ty.0) p)) small.0, small_kept types ps small.1)

pub sound_kept : (types : List ℕ) (n room cap : ℕ) (dying : List ℕ) (ps : List Place) → IsSound n room cap dying ps → IsSound n room cap dying (map (kept types) ps)
sound_kept types n room cap dying ps sound = record {
  few = sound.few;
  most = sound.most;
  reserved = sound.reserved;
  past = sound.past;
  small = small_kept types ps sound.small;
  distinct = subst AreDistinct (sym (place_types_kept types ps)) sound.distinct;
  suit = suit_kept types n cap ps sound.suit;
}
