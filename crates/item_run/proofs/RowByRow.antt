-- Texts on all rows of a mask are the texts row by row.
use Rattle.std.proofs.Common.{ℕ, suc, ◌≡◌, ◌<◌, ◌+◌, ◌∙◌, Bool, true, false, cond, sym, ap, ap₂, refl, List, [], ◌∷◌, length, arith}
use Rattle.ent_types.specs.declared.type_info.TypeInfo.{TypeInfo}
use Rattle.enable_bits.specs.Masks.{has}
use Rattle.world_model.specs.Found.{Found}
use Rattle.world_model.specs.Row.{Row, Cell}
use Rattle.world_model.specs.World.{Home}
use Rattle.expr_eval.specs.Values.{OtherRows}
use Rattle.block_columns.specs.Places.{at_places}
use Rattle.chunk_block.specs.Blocks.{row_in}
use Rattle.scenario_record.specs.declared.record.SystemEntry.{SystemEntry}
use Rattle.run_model.specs.Job.{Text, after_text, after_texts, texts_of}
use Rattle.run_model.specs.Query.{matches}
use Rattle.run_model.specs.Run.{rows_after}
use Rattle.item_run.specs.Seats.{Seat, after_text_on, after_texts_on, row_seen, spot_at, text_done}

module _ (seat : Seat) (mask : List ℕ) where
  abbrev cells_after : List Text → ℕ → Row → List Cell
  cells_after ts k r = after_texts seat.registry seat.others (spot_at seat k) seat.home r.entity ts r.cells

  abbrev pub row_done : List Text → ℕ → Row → Row
  row_done ts k r = cond (has mask k) (record r { cells = cells_after ts k r }) r

  none : (k : ℕ) (rows : List Row) → at_places (row_done []) k rows ≡ rows
  none k [] = refl
  none k (r ∷ rs) = ap₂ (λ (q : Row) (qs : List Row). q ∷ qs) (by (has mask k)) (none (k + 1) rs)
    where
      by : (b : Bool) → cond b (record r { cells = r.cells }) r ≡ r
      by true = refl
      by false = refl

  next : (t : Text) (ts : List Text) (k : ℕ) (rows : List Row) → at_places (row_done ts) k (at_places (text_done seat t mask) k rows) ≡ at_places (row_done (t ∷ ts)) k rows
  next t ts k [] = refl
  next t ts k (r ∷ rs) = ap₂ (λ (q : Row) (qs : List Row). q ∷ qs) (by (has mask k)) (next t ts (k + 1) rs)
    where
      one : Bool → Row
      one b = cond b (record r { cells = after_text seat.registry seat.others (row_seen seat k r) t r.cells }) r

      by : (b : Bool) → cond b (record (one b) { cells = cells_after ts k (one b) }) (one b) ≡ cond b (record r { cells = cells_after (t ∷ ts) k r }) r
      by true = refl
      by false = refl

  pub row_by_row : (ts : List Text) (rows : List Row) → after_texts_on seat ts mask rows ≡ at_places (row_done ts) 0 rows
  row_by_row [] rows = sym (none 0 rows)
  row_by_row (t ∷ ts) rows = row_by_row ts (after_text_on seat t mask rows) ∙ next t ts 0 rows

-- ---- a run

module _ (registry : List TypeInfo) (s : SystemEntry) (others : OtherRows) (frame item : ℕ) (home : Home) (mask : List ℕ) where
  abbrev seat : Seat
  seat = record { registry = registry; home = home; others = others; item = item; frame = frame }

  abbrev at : Row → Found
  at r = record { home = home; row = r }

  from : (k : ℕ) (rows : List Row) → ((j : ℕ) → j < length rows → has mask (k + j) ≡ matches registry s (at (row_in j rows)))
      → at_places (row_done seat mask (texts_of s)) k rows ≡ rows_after registry s others frame item home k rows
  from k [] same = refl
  from k (r ∷ rs) same =
      let first : k + 0 ≡ k = omega arith in
      let here : has mask k ≡ matches registry s (at r) = ap (has mask) (sym first) ∙ same 0 (omega arith) in
      ap₂ (λ (q : Row) (qs : List Row). q ∷ qs) (by (has mask k) (matches registry s (at r)) here)
      (from (k + 1) rs (λ j below.
      let later : (k + 1) + j ≡ k + suc j = omega arith in
      let under : suc j < length (r ∷ rs) = omega (arith, below) in
      ap (has mask) later ∙ same (suc j) under))
    where
      after : List Cell
      after = cells_after seat mask (texts_of s) k r

      by : (b m : Bool) → b ≡ m → cond b (record r { cells = after }) r ≡ record r { cells = cond m after r.cells }
      by true true is = refl
      by true false is = absurd (cc is)
      by false true is = absurd (cc is)
      by false false is = refl

  pub as_run : (rows : List Row) → ((k : ℕ) → k < length rows → has mask k ≡ matches registry s (at (row_in k rows)))
      → after_texts_on seat (texts_of s) mask rows ≡ rows_after registry s others frame item home 0 rows
  as_run rows same = row_by_row seat mask (texts_of s) rows ∙ from 0 rows (λ j below. let first : 0 + j ≡ j = omega arith in ap (has mask) first ∙ same j below)
