-- The rows of a block after one of its types was changed.
use Rattle.std.proofs.Common.{ℕ, ◌≡◌, ◌<◌, ◌≤◌, ◌∙◌, Bool, true, false, cond, nat_eq, sym, ap, refl, List, [], ◌∷◌, length, get_or, map, arith, subst, Option, Some, None, get_or-set_other, get_or-set_same}
use Rattle.std.specs.Prelude.{option_map, is_none}
use Rattle.std.specs.Bool.{MatchBool}
use Rattle.std.proofs.Math.ListN.{set}
use Rattle.std.proofs.lemmas.List.{length-set}
use Rattle.ent_types.specs.declared.entity.Entity.{Entity}
use Rattle.ent_types.specs.Fitting.{null_entity}
use Rattle.enable_bits.specs.Masks.{has, with_place}
use Rattle.world_model.specs.Row.{Row, Cell}
use Rattle.block_columns.specs.Places.{tabulated, at_places}
use Rattle.block_columns.specs.Types.{TypeState, Content, blank_cell, cell_in, one_row, all_rows}
use Rattle.block_columns.proofs.Lists.{set_table, changed_table, length-at_places}
use Rattle.block_columns.proofs.Rows.{bit_here, bit_other, past_switch}
use Rattle.chunk_block.specs.Pieces.{Place, IsHeld, IsIfHeld, OfPlace, change_place, AreSmall}
use Rattle.chunk_block.specs.Blocks.{BlockType, type_of, place_cell, held_content, row_at, row_in, no_row, changed, change_cell, Suits, AllSuit, place_types, AreDistinct, IsSound}
use Rattle.chunk_block.proofs.Places.{of_place, row_there}

cells_changed : (t k : ℕ) (F : TypeState → TypeState) (g : Content → Content) (ps : List Place) → OfPlace t (λ y. cell_in k (F y).cells ≡ g (cell_in k y.cells)) ps
    → map (place_cell k) (change_place t F ps) ≡ change_cell t g (map (place_cell k) ps)
cells_changed t k F g [] is = absurd is
cells_changed t k F g (p ∷ ps) is = by (nat_eq p.shape.ty.0 t) p.held is (λ h. cells_changed t k F g ps h)
  where
    by : (b : Bool) (o : Option TypeState) → MatchBool b (IsHeld (λ y. cell_in k (F y).cells ≡ g (cell_in k y.cells)) o) (OfPlace t (λ y. cell_in k (F y).cells ≡ g (cell_in k y.cells)) ps)
        → (OfPlace t (λ y. cell_in k (F y).cells ≡ g (cell_in k y.cells)) ps → map (place_cell k) (change_place t F ps) ≡ change_cell t g (map (place_cell k) ps))
        → map (place_cell k) (cond b (record { shape = p.shape; held = option_map F o } ∷ ps) (record { shape = p.shape; held = o } ∷ change_place t F ps))
        ≡ cond b
        (record { type_id = p.shape.ty.0; values = (g (record { values = (held_content k o).values; off = (held_content k o).off })).values; off = (g (record { values = (held_content k o).values; off = (held_content k o).off })).off } ∷ map (place_cell k) ps)
        (record { type_id = p.shape.ty.0; values = (held_content k o).values; off = (held_content k o).off } ∷ change_cell t g (map (place_cell k) ps))
    by true None is rest = absurd is
    by true (Some y) is rest = ap (λ (c : Content). record { type_id = p.shape.ty.0; values = c.values; off = c.off } ∷ map (place_cell k) ps) is
    by false o is rest = ap (λ (cs : List Cell). record { type_id = p.shape.ty.0; values = (held_content k o).values; off = (held_content k o).off } ∷ cs) (rest is)

cells_same : (t k : ℕ) (F : TypeState → TypeState) (ps : List Place) → OfPlace t (λ y. cell_in k (F y).cells ≡ cell_in k y.cells) ps
    → map (place_cell k) (change_place t F ps) ≡ map (place_cell k) ps
cells_same t k F [] is = absurd is
cells_same t k F (p ∷ ps) is = by (nat_eq p.shape.ty.0 t) p.held is (λ h. cells_same t k F ps h)
  where
    by : (b : Bool) (o : Option TypeState) → MatchBool b (IsHeld (λ y. cell_in k (F y).cells ≡ cell_in k y.cells) o) (OfPlace t (λ y. cell_in k (F y).cells ≡ cell_in k y.cells) ps)
        → (OfPlace t (λ y. cell_in k (F y).cells ≡ cell_in k y.cells) ps → map (place_cell k) (change_place t F ps) ≡ map (place_cell k) ps)
        → map (place_cell k) (cond b (record { shape = p.shape; held = option_map F o } ∷ ps) (record { shape = p.shape; held = o } ∷ change_place t F ps))
        ≡ record { type_id = p.shape.ty.0; values = (held_content k o).values; off = (held_content k o).off } ∷ map (place_cell k) ps
    by true None is rest = absurd is
    by true (Some y) is rest = ap (λ (c : Content). record { type_id = p.shape.ty.0; values = c.values; off = c.off } ∷ map (place_cell k) ps) is
    by false o is rest = ap (λ (cs : List Cell). record { type_id = p.shape.ty.0; values = (held_content k o).values; off = (held_content k o).off } ∷ cs) (rest is)

-- one row was changed
pub rows_set : (t row n : ℕ) (g : Content → Content) (ps : List Place) (dying : List ℕ) (es : List Entity) → row < n → OfPlace t (λ y. length y.cells ≡ n) ps
    → tabulated (row_at (change_place t (one_row row g) ps) dying es) 0 n ≡ set (tabulated (row_at ps dying es) 0 n) row (changed t g (row_in row (tabulated (row_at ps dying es) 0 n)))
rows_set t row n g ps dying es within size =
    set_table (row_at ps dying es) (row_at (change_place t (one_row row g) ps) dying es) n row no_row _ within
    (λ k short other.
    ap (λ (cs : List Cell). record { entity = get_or es k null_entity; cells = cs; dying = has dying k })
    (cells_same t k (one_row row g) ps (of_place t (λ y. length y.cells ≡ n) (λ y. cell_in k (one_row row g y).cells ≡ cell_in k y.cells) ps
    (λ y long. get_or-set_other y.cells row k (g (cell_in row y.cells)) blank_cell other) size)))
    (ap (λ (cs : List Cell). record { entity = get_or es row null_entity; cells = cs; dying = has dying row })
    (cells_changed t row (one_row row g) g ps (of_place t (λ y. length y.cells ≡ n) (λ y. cell_in row (one_row row g y).cells ≡ g (cell_in row y.cells)) ps
    (λ y long. get_or-set_same y.cells row (g (cell_in row y.cells)) blank_cell (subst (λ m. row < m) (sym long) within)) size))
    ∙ ap (changed t g) (sym (row_there ps dying es n row within)))

-- all rows were changed by their places
pub rows_all : (t n : ℕ) (F : TypeState → TypeState) (g : ℕ → Content → Content) (ps : List Place) (dying : List ℕ) (es : List Entity) → OfPlace t (λ y. (k : ℕ) → k < n → cell_in k (F y).cells ≡ g k (cell_in k y.cells)) ps
    → tabulated (row_at (change_place t F ps) dying es) 0 n ≡ at_places (λ k r. changed t (g k) r) 0 (tabulated (row_at ps dying es) 0 n)
rows_all t n F g ps dying es is =
    changed_table (row_at ps dying es) (row_at (change_place t F ps) dying es) (λ k r. changed t (g k) r) n no_row (λ k within.
    ap (λ (cs : List Cell). record { entity = get_or es k null_entity; cells = cs; dying = has dying k })
    (cells_changed t k F (g k) ps (of_place t (λ y. (k : ℕ) → k < n → cell_in k (F y).cells ≡ g k (cell_in k y.cells)) (λ y. cell_in k (F y).cells ≡ g k (cell_in k y.cells)) ps (λ y so. so k within) is)))

-- another entity, or another word on whether the row is dying
pub rows_renamed : (row n : ℕ) (e : Entity) (ps : List Place) (dying : List ℕ) (es : List Entity) → row < n → length es ≡ n
    → tabulated (row_at ps dying (set es row e)) 0 n ≡ set (tabulated (row_at ps dying es) 0 n) row (record (row_in row (tabulated (row_at ps dying es) 0 n)) { entity = e })
rows_renamed row n e ps dying es within long =
    set_table (row_at ps dying es) (row_at ps dying (set es row e)) n row no_row _ within
    (λ k short other. ap (λ (d : Entity). record { entity = d; cells = map (place_cell k) ps; dying = has dying k }) (get_or-set_other es row k e null_entity other))
    (ap (λ (d : Entity). record { entity = d; cells = map (place_cell row) ps; dying = has dying row }) (get_or-set_same es row e null_entity (subst (λ m. row < m) (sym long) within))
    ∙ ap (λ (r : Row). record r { entity = e }) (sym (row_there ps dying es n row within)))

pub rows_dying : (row n : ℕ) (on : Bool) (ps : List Place) (dying : List ℕ) (es : List Entity) → row < n → n ≤ 128
    → tabulated (row_at ps (with_place dying row on) es) 0 n ≡ set (tabulated (row_at ps dying es) 0 n) row (record (row_in row (tabulated (row_at ps dying es) 0 n)) { dying = on })
rows_dying row n on ps dying es within few =
    set_table (row_at ps dying es) (row_at ps (with_place dying row on) es) n row no_row _ within
    (λ k short other. ap (λ (b : Bool). record { entity = get_or es k null_entity; cells = map (place_cell k) ps; dying = b }) (bit_other dying row k on (omega arith) other))
    (ap (λ (b : Bool). record { entity = get_or es row null_entity; cells = map (place_cell row) ps; dying = b }) (bit_here dying row on (omega arith))
    ∙ ap (λ (r : Row). record r { dying = on }) (sym (row_there ps dying es n row within)))

-- ---- the block stays sound

pub sound_dying : (n room cap row : ℕ) (on : Bool) (dying : List ℕ) (ps : List Place) → row < n → IsSound n room cap dying ps → IsSound n room cap (with_place dying row on) ps
sound_dying n room cap row on dying ps within sound = record {
  few = sound.few;
  most = sound.most;
  reserved = sound.reserved;
  past = λ k past. past_switch dying n row k on within past sound.past;
  small = sound.small;
  distinct = sound.distinct;
  suit = sound.suit;
}

-- the change keeps the type and the number of rows
pub record Keeps (F : TypeState → TypeState) : Type 0 where
  pub shape : (y : TypeState) → (F y).shape ≡ y.shape
  pub capacity : (y : TypeState) → (F y).capacity ≡ y.capacity
  pub rows : (y : TypeState) → length (F y).cells ≡ length y.cells

pub one_row_keeps : (row : ℕ) (g : Content → Content) → Keeps (one_row row g)
one_row_keeps row g = record { shape = λ y. refl; capacity = λ y. refl; rows = λ y. length-set y.cells row (g (cell_in row y.cells)) }

pub all_rows_keeps : (g : ℕ → Content → Content) → Keeps (all_rows g)
all_rows_keeps g = record { shape = λ y. refl; capacity = λ y. refl; rows = λ y. length-at_places g 0 y.cells }

pub types_changed : (t : ℕ) (F : TypeState → TypeState) (ps : List Place) → map type_of (change_place t F ps) ≡ map type_of ps
types_changed t F [] = refl
types_changed t F (p ∷ ps) = by (nat_eq p.shape.ty.0 t) p.held (types_changed t F ps)
  where
    by : (b : Bool) (o : Option TypeState) → map type_of (change_place t F ps) ≡ map type_of ps
        → map type_of (cond b (record { shape = p.shape; held = option_map F o } ∷ ps) (record { shape = p.shape; held = o } ∷ change_place t F ps)) ≡ record { shape = p.shape; lent = is_none o } ∷ map type_of ps
    by true None rest = refl
    by true (Some y) rest = refl
    by false o rest = ap (λ (ts : List BlockType). record { shape = p.shape; lent = is_none o } ∷ ts) rest

place_types_changed : (t : ℕ) (F : TypeState → TypeState) (ps : List Place) → place_types (change_place t F ps) ≡ place_types ps
place_types_changed t F [] = refl
place_types_changed t F (p ∷ ps) = by (nat_eq p.shape.ty.0 t) (place_types_changed t F ps)
  where
    by : (b : Bool) → place_types (change_place t F ps) ≡ place_types ps → place_types (cond b (record { shape = p.shape; held = option_map F p.held } ∷ ps) (p ∷ change_place t F ps)) ≡ p.shape.ty.0 ∷ place_types ps
    by true rest = refl
    by false rest = ap (λ ts. p.shape.ty.0 ∷ ts) rest

small_changed : (t : ℕ) (F : TypeState → TypeState) (ps : List Place) → AreSmall ps → AreSmall (change_place t F ps)
small_changed t F [] small = tt
small_changed t F (p ∷ ps) small = by (nat_eq p.shape.ty.0 t) (small_changed t F ps small.1)
  where
    by : (b : Bool) → AreSmall (change_place t F ps) → AreSmall (cond b (record { shape = p.shape; held = option_map F p.held } ∷ ps) (p ∷ change_place t F ps))
    by true rest = small
    by false rest = (small.0, rest)

suit_changed : (n cap t : ℕ) (F : TypeState → TypeState) (ps : List Place) → Keeps F → AllSuit n cap ps → AllSuit n cap (change_place t F ps)
suit_changed n cap t F [] keeps suit = tt
suit_changed n cap t F (p ∷ ps) keeps suit = by (nat_eq p.shape.ty.0 t) p.held suit.0 (suit_changed n cap t F ps keeps suit.1)
  where
    by : (b : Bool) (o : Option TypeState) → IsIfHeld (Suits n cap p.shape) o → AllSuit n cap (change_place t F ps)
        → AllSuit n cap (cond b (record { shape = p.shape; held = option_map F o } ∷ ps) (record { shape = p.shape; held = o } ∷ change_place t F ps))
    by true None suits rest = (tt, suit.1)
    by true (Some y) suits rest = (record { same_shape = keeps.shape y ∙ suits.same_shape; same_capacity = keeps.capacity y ∙ suits.same_capacity; same_rows = keeps.rows y ∙ suits.same_rows }, suit.1)
    by false o suits rest = (suits, rest)

pub sound_changed : (n room cap t : ℕ) (F : TypeState → TypeState) (dying : List ℕ) (ps : List Place) → Keeps F → IsSound n room cap dying ps → IsSound n room cap dying (change_place t F ps)
sound_changed n room cap t F dying ps keeps sound = record {
  few = sound.few;
  most = sound.most;
  reserved = sound.reserved;
  past = sound.past;
  small = small_changed t F ps sound.small;
  distinct = subst AreDistinct (sym (place_types_changed t F ps)) sound.distinct;
  suit = suit_changed n cap t F ps keeps sound.suit;
}
