-- The rows of a block after one was removed.
use Rattle.std.proofs.Common.{ℕ, ◌≡◌, ◌<◌, ◌≤◌, ◌-◌, ◌∙◌, Bool, sym, ap, refl, List, [], ◌∷◌, length, get_or, map, arith, subst, Option, Some, None}
use Rattle.std.specs.Prelude.{option_map}
use Rattle.std.specs.List.{swap_remove}
use Rattle.ent_types.specs.declared.entity.Entity.{Entity}
use Rattle.ent_types.specs.Fitting.{null_entity}
use Rattle.enable_bits.specs.Masks.{has, swapped_back}
use Rattle.world_model.specs.Row.{Cell}
use Rattle.block_columns.specs.Places.{tabulated}
use Rattle.block_columns.specs.Types.{TypeState, Content, blank_cell, cell_in}
use Rattle.block_columns.specs.declared.shape.TypeShape.{TypeShape}
use Rattle.block_columns.proofs.Lists.{source, swapped_at, swapped_table, length-swap_remove}
use Rattle.block_columns.proofs.Rows.{bit_after, past_after}
use Rattle.chunk_block.specs.Pieces.{Place, IsIfHeld, Every, HasTheRow, swapped, swapped_place, AreSmall}
use Rattle.chunk_block.specs.Blocks.{BlockType, type_of, place_cell, held_content, row_at, no_row, Suits, AllSuit, place_types, AreDistinct, IsSound}

-- each type has the row
pub all_have_row : (n cap row : ℕ) (ps : List Place) → row < n → AllSuit n cap ps → Every (HasTheRow row) ps
all_have_row n cap row [] within suit = tt
all_have_row n cap row (p ∷ ps) within suit = (by p.held suit.0, all_have_row n cap row ps within suit.1)
  where
    by : (o : Option TypeState) → IsIfHeld (Suits n cap p.shape) o → IsIfHeld (HasTheRow row) o
    by None suits = tt
    by (Some y) suits = subst (λ m. row < m) (sym suits.same_rows) within

content_after : (n cap row k : ℕ) (shape : TypeShape) (o : Option TypeState) → row < n → k < n - 1 → IsIfHeld (Suits n cap shape) o → held_content k (option_map (swapped row) o) ≡ held_content (source n row k) o
content_after n cap row k shape None within front suits = refl
content_after n cap row k shape (Some y) within front suits =
    swapped_at y.cells row k blank_cell blank_cell (subst (λ m. row < m) (sym suits.same_rows) within) (subst (λ m. k < m - 1) (sym suits.same_rows) front)
    ∙ ap (λ m. cell_in (source m row k) y.cells) suits.same_rows

cells_after : (n cap row k : ℕ) (ps : List Place) → row < n → k < n - 1 → AllSuit n cap ps → map (place_cell k) (map (swapped_place row) ps) ≡ map (place_cell (source n row k)) ps
cells_after n cap row k [] within front suit = refl
cells_after n cap row k (p ∷ ps) within front suit =
    ap (λ (c : Content). record { type_id = p.shape.ty.0; values = c.values; off = c.off } ∷ map (place_cell k) (map (swapped_place row) ps)) (content_after n cap row k p.shape p.held within front suit.0)
    ∙ ap (λ (cs : List Cell). place_cell (source n row k) p ∷ cs) (cells_after n cap row k ps within front suit.1)

pub rows_swapped : (n cap row : ℕ) (ps : List Place) (dying : List ℕ) (es : List Entity) → length es ≡ n → row < n → n ≤ 128 → AllSuit n cap ps
    → tabulated (row_at (map (swapped_place row) ps) (swapped_back dying row n) (swap_remove es row null_entity)) 0 (n - 1) ≡ swap_remove (tabulated (row_at ps dying es) 0 n) row no_row
rows_swapped n cap row ps dying es size within few suit =
    swapped_table (row_at ps dying es) (row_at (map (swapped_place row) ps) (swapped_back dying row n) (swap_remove es row null_entity)) n row no_row within
    (λ k front.
    ap (λ (d : Entity). record { entity = d; cells = map (place_cell k) (map (swapped_place row) ps); dying = has (swapped_back dying row n) k })
    (swapped_at es row k null_entity null_entity (subst (λ m. row < m) (sym size) within) (subst (λ m. k < m - 1) (sym size) front) ∙ ap (λ m. get_or es (source m row k) null_entity) size)
    ∙ (ap (λ (cs : List Cell). record { entity = get_or es (source n row k) null_entity; cells = cs; dying = has (swapped_back dying row n) k }) (cells_after n cap row k ps within front suit)
    ∙ ap (λ (b : Bool). record { entity = get_or es (source n row k) null_entity; cells = map (place_cell (source n row k)) ps; dying = b }) (bit_after dying n row k few front)))

pub types_swapped : (row : ℕ) (ps : List Place) → map type_of (map (swapped_place row) ps) ≡ map type_of ps
types_swapped row [] = refl
types_swapped row (p ∷ ps) = by p.held ∙ ap (λ (ts : List BlockType). type_of p ∷ ts) (types_swapped row ps)
  where
    by : (o : Option TypeState) → type_of (record { shape = p.shape; held = option_map (swapped row) o }) ∷ map type_of (map (swapped_place row) ps) ≡ type_of (record { shape = p.shape; held = o }) ∷ map type_of (map (swapped_place row) ps)
    by None = refl
    by (Some y) = refl

suit_swapped : (n cap row : ℕ) (ps : List Place) → AllSuit n cap ps → AllSuit (n - 1) cap (map (swapped_place row) ps)
suit_swapped n cap row [] suit = tt
suit_swapped n cap row (p ∷ ps) suit = (by p.held suit.0, suit_swapped n cap row ps suit.1)
  where
    by : (o : Option TypeState) → IsIfHeld (Suits n cap p.shape) o → IsIfHeld (Suits (n - 1) cap p.shape) (option_map (swapped row) o)
    by None suits = tt
    by (Some y) suits = record { same_shape = suits.same_shape; same_capacity = suits.same_capacity; same_rows = length-swap_remove y.cells row blank_cell ∙ ap (λ m. m - 1) suits.same_rows }

place_types_swapped : (row : ℕ) (ps : List Place) → place_types (map (swapped_place row) ps) ≡ place_types ps
place_types_swapped row [] = refl
place_types_swapped row (p ∷ ps) = ap (λ ts. p.shape.ty.0 ∷ ts) (place_types_swapped row ps)

small_swapped : (row : ℕ) (ps : List Place) → AreSmall ps → AreSmall (map (swapped_place row) ps)
small_swapped row [] small = tt
small_swapped row (p ∷ ps) small = (small.0, small_swapped row ps small.1)

pub sound_swapped : (n room more cap row : ℕ) (dying : List ℕ) (ps : List Place) → row < n → more ≡ room → IsSound n room cap dying ps → IsSound (n - 1) more cap (swapped_back dying row n) (map (swapped_place row) ps)
sound_swapped n room more cap row dying ps within same sound =
    let few : n - 1 ≤ cap = omega (arith, sound.few) in
    let reserved : cap ≤ more = omega (arith, sound.reserved) in
    record {
      few = few;
      most = sound.most;
      reserved = reserved;
      past = λ k past. past_after dying n row k within past sound.past;
      small = small_swapped row ps sound.small;
      distinct = subst AreDistinct (sym (place_types_swapped row ps)) sound.distinct;
      suit = suit_swapped n cap row ps sound.suit;
    }
