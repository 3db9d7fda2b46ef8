-- The rows of a block after one more was added.
use Rattle.std.proofs.Common.{ℕ, ◌≡◌, ◌<◌, ◌≤◌, ◌+◌, ◌∙◌, Bool, false, sym, ap, refl, List, [], ◌∷◌, ◌++◌, length, get_or, map, arith, subst, Option, Some, None}
use Rattle.std.specs.Prelude.{option_map, is_none}
use Rattle.std.proofs.lemmas.List.{length_push, get_or_append_left, get_or_push}
use Rattle.ent_types.specs.declared.entity.Entity.{Entity}
use Rattle.ent_types.specs.Fitting.{null_entity}
use Rattle.enable_bits.specs.Masks.{has}
use Rattle.world_model.specs.Row.{Cell}
use Rattle.block_columns.specs.Places.{tabulated}
use Rattle.block_columns.specs.Types.{TypeState, Content, blank_cell, new_cell}
use Rattle.block_columns.specs.declared.shape.TypeShape.{TypeShape}
use Rattle.block_columns.proofs.Lists.{pushed_table}
use Rattle.chunk_block.specs.Pieces.{Place, IsIfHeld, Every, HasRoom, pushed, pushed_place, AreSmall}
use Rattle.chunk_block.specs.Blocks.{BlockType, type_of, place_cell, held_content, row_at, no_row, new_row, IsWhole, Suits, AllSuit, place_types, AreDistinct, IsSound}

-- each type has room
pub all_have_room : (n cap : ℕ) (ps : List Place) → n < cap → AllSuit n cap ps → Every HasRoom ps
all_have_room n cap [] room suit = tt
all_have_room n cap (p ∷ ps) room suit = (by p.held suit.0, all_have_room n cap ps room suit.1)
  where
    by : (o : Option TypeState) → IsIfHeld (Suits n cap p.shape) o → IsIfHeld HasRoom o
    by None suits = tt
    by (Some y) suits = subst (λ m. m < y.capacity) (sym suits.same_rows) (subst (λ m. n < m) (sym suits.same_capacity) room)

content_before : (n cap k : ℕ) (shape : TypeShape) (o : Option TypeState) → k < n → IsIfHeld (Suits n cap shape) o → held_content k (option_map pushed o) ≡ held_content k o
content_before n cap k shape None within suits = refl
content_before n cap k shape (Some y) within suits = get_or_append_left y.cells (new_cell y.shape ∷ []) blank_cell k (subst (λ m. k < m) (sym suits.same_rows) within)

cells_before : (n cap k : ℕ) (ps : List Place) → k < n → AllSuit n cap ps → map (place_cell k) (map pushed_place ps) ≡ map (place_cell k) ps
cells_before n cap k [] within suit = refl
cells_before n cap k (p ∷ ps) within suit =
    ap (λ (c : Content). record { type_id = p.shape.ty.0; values = c.values; off = c.off } ∷ map (place_cell k) (map pushed_place ps)) (content_before n cap k p.shape p.held within suit.0)
    ∙ ap (λ (cs : List Cell). place_cell k p ∷ cs) (cells_before n cap k ps within suit.1)

content_new : (n cap : ℕ) (shape : TypeShape) (o : Option TypeState) → is_none o ≡ false → IsIfHeld (Suits n cap shape) o → held_content n (option_map pushed o) ≡ new_cell shape
content_new n cap shape None whole suits = absurd (cc whole)
content_new n cap shape (Some y) whole suits = get_or_push y.cells (new_cell y.shape) blank_cell n suits.same_rows ∙ ap new_cell suits.same_shape

cells_new : (n cap : ℕ) (ps : List Place) → IsWhole (map type_of ps) → AllSuit n cap ps
    → map (place_cell n) (map pushed_place ps) ≡ map (λ x. record { type_id = x.shape.ty.0; values = (new_cell x.shape).values; off = false }) (map type_of ps)
cells_new n cap [] whole suit = refl
cells_new n cap (p ∷ ps) whole suit =
    ap (λ (c : Content). record { type_id = p.shape.ty.0; values = c.values; off = c.off } ∷ map (place_cell n) (map pushed_place ps)) (content_new n cap p.shape p.held whole.0 suit.0)
    ∙ ap (λ (cs : List Cell). record { type_id = p.shape.ty.0; values = (new_cell p.shape).values; off = false } ∷ cs) (cells_new n cap ps whole.1 suit.1)

pub rows_pushed : (n cap : ℕ) (ps : List Place) (dying : List ℕ) (es : List Entity) (e : Entity) → length es ≡ n → AllSuit n cap ps → IsWhole (map type_of ps) → has dying n ≡ false
    → tabulated (row_at (map pushed_place ps) dying (es ++ e ∷ [])) 0 (n + 1) ≡ tabulated (row_at ps dying es) 0 n ++ new_row (map type_of ps) e ∷ []
rows_pushed n cap ps dying es e size suit whole alive =
    pushed_table (row_at ps dying es) (row_at (map pushed_place ps) dying (es ++ e ∷ [])) n no_row (new_row (map type_of ps) e)
    (λ k within.
    ap (λ (d : Entity). record { entity = d; cells = map (place_cell k) (map pushed_place ps); dying = has dying k }) (get_or_append_left es (e ∷ []) null_entity k (subst (λ m. k < m) (sym size) within))
    ∙ ap (λ (cs : List Cell). record { entity = get_or es k null_entity; cells = cs; dying = has dying k }) (cells_before n cap k ps within suit))
    (ap (λ (d : Entity). record { entity = d; cells = map (place_cell n) (map pushed_place ps); dying = has dying n }) (get_or_push es e null_entity n size)
    ∙ (ap (λ (cs : List Cell). record { entity = e; cells = cs; dying = has dying n }) (cells_new n cap ps whole suit)
    ∙ ap (λ (b : Bool). record { entity = e; cells = map (λ x. record { type_id = x.shape.ty.0; values = (new_cell x.shape).values; off = false }) (map type_of ps); dying = b }) alive))

pub types_pushed : (ps : List Place) → map type_of (map pushed_place ps) ≡ map type_of ps
types_pushed [] = refl
types_pushed (p ∷ ps) = by p.held ∙ ap (λ (ts : List BlockType). type_of p ∷ ts) (types_pushed ps)
  where
    by : (o : Option TypeState) → type_of (record { shape = p.shape; held = option_map pushed o }) ∷ map type_of (map pushed_place ps) ≡ type_of (record { shape = p.shape; held = o }) ∷ map type_of (map pushed_place ps)
    by None = refl
    by (Some y) = refl

suit_pushed : (n cap : ℕ) (ps : List Place) → AllSuit n cap ps → AllSuit (n + 1) cap (map pushed_place ps)
suit_pushed n cap [] suit = tt
suit_pushed n cap (p ∷ ps) suit = (by p.held suit.0, suit_pushed n cap ps suit.1)
  where
    by : (o : Option TypeState) → IsIfHeld (Suits n cap p.shape) o → IsIfHeld (Suits (n + 1) cap p.shape) (option_map pushed o)
    by None suits = tt
    by (Some y) suits = record { same_shape = suits.same_shape; same_capacity = suits.same_capacity; same_rows = length_push y.cells (new_cell y.shape) ∙ ap (λ m. m + 1) suits.same_rows }

place_types_pushed : (ps : List Place) → place_types (map pushed_place ps) ≡ place_types ps
place_types_pushed [] = refl
place_types_pushed (p ∷ ps) = ap (λ ts. p.shape.ty.0 ∷ ts) (place_types_pushed ps)

small_pushed : (ps : List Place) → AreSmall ps → AreSmall (map pushed_place ps)
small_pushed [] small = tt
small_pushed (p ∷ ps) small = (small.0, small_pushed ps small.1)

pub sound_pushed : (n room more cap : ℕ) (dying : List ℕ) (ps : List Place) → n < cap → room ≤ more → IsSound n room cap dying ps → IsSound (n + 1) more cap dying (map pushed_place ps)
sound_pushed n room more cap dying ps less kept sound =
    let few : n + 1 ≤ cap = omega arith in
    let reserved : cap ≤ more = omega (arith, sound.reserved) in
    record {
      few = few;
      most = sound.most;
      reserved = reserved;
      past = λ k past. sound.past k (omega arith);
      small = small_pushed ps sound.small;
      distinct = subst AreDistinct (sym (place_types_pushed ps)) sound.distinct;
      suit = suit_pushed n cap ps sound.suit;
    }
