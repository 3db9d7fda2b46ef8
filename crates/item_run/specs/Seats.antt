-- What the texts of a system see in the rows of a block, and what a text makes of these rows.
use Rattle.std.specs.Prelude.{ℕ, if◌then◌else◌, List, [], ◌∷◌}
use Rattle.ent_types.specs.declared.type_info.TypeInfo.{TypeInfo}
use Rattle.enable_bits.specs.Masks.{has}
use Rattle.world_model.specs.Row.{Row}
use Rattle.world_model.specs.World.{Home}
use Rattle.expr_eval.specs.Values.{OwnRow, OtherRows}
use Rattle.block_columns.specs.Places.{at_places}
use Rattle.run_model.specs.Job.{Spot, Text, own_of, after_text}

-- the types, the home of the block, the other rows, and where the block stands in the run
pub record Seat : Type 0 where
  pub registry : List TypeInfo
  pub home : Home
  pub others : OtherRows
  pub item : ℕ
  pub frame : ℕ

abbrev pub spot_at : Seat → ℕ → Spot
spot_at seat k = record { frame = seat.frame; item = seat.item; place = k }

-- the row at a place, as texts see it
abbrev pub row_seen : Seat → ℕ → Row → OwnRow
row_seen seat k r = own_of seat.registry (spot_at seat k) seat.home r.entity r.cells

-- what a text makes of the row at a place, if the mask has it
abbrev pub text_done : Seat → Text → List ℕ → ℕ → Row → Row
text_done seat t rows k r = if has rows k then record r { cells = after_text seat.registry seat.others (row_seen seat k r) t r.cells } else r

-- the rows of a block after a text was done on those of a mask
abbrev pub after_text_on : Seat → Text → List ℕ → List Row → List Row
after_text_on seat t rows rs = at_places (text_done seat t rows) 0 rs

-- texts one after another, each on all rows of the mask
abbrev pub after_texts_on : Seat → List Text → List ℕ → List Row → List Row
after_texts_on seat [] rows rs = rs
after_texts_on seat (t ∷ ts) rows rs = after_texts_on seat ts rows (after_text_on seat t rows rs)
