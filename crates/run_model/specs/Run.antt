-- One run of a system: the blocks that it visits, what its job does to their rows, and what the rows record.
use Rattle.std.specs.Prelude.{ℕ, ◌+◌, if◌then◌else◌, List, [], ◌∷◌, ◌++◌, map, flat_map, Option}
use Rattle.ent_types.specs.declared.type_info.TypeInfo.{TypeInfo}
use Rattle.world_model.specs.Members.{tally}
use Rattle.world_model.specs.Row.{Row, Cell}
use Rattle.world_model.specs.World.{Home, Block, World}
use Rattle.world_model.specs.Found.{Found}
use Rattle.world_model.specs.Write.{marked}
use Rattle.expr_eval.specs.Values.{OtherRows}
use Rattle.scenario_record.specs.declared.record.SystemEntry.{SystemEntry}
use Rattle.run_model.specs.Clock.{Clock}
use Rattle.run_model.specs.Query.{Visit, matches, passes, is_visited}
use Rattle.run_model.specs.Job.{Spot, own_of, others_in, texts_of, writes, after_texts}
use Rattle.run_model.specs.Commands.{Recorded, recorded_by}

-- a row that matches in a visited block, and where: in which item, and at which place of the block
pub record MatchedRow : Type 0 where
  pub item : ℕ
  pub place : ℕ
  pub at : Found

-- a recorded command, and the item and place of its row
pub record Entry : Type 0 where
  pub item : ℕ
  pub place : ℕ
  pub command : Recorded

-- The world after a run; how many blocks were visited; how many blocks have types that pass; and what was recorded, in
-- order. A buffer is what of it goes to one point.
pub record RunResult : Type 0 where
  pub world : World
  pub visits : ℕ
  pub passing : ℕ
  pub entries : List Entry

abbrev pub entries_at : MatchedRow → List Recorded → List Entry
entries_at m recorded = map (λ command. record { item = m.item; place = m.place; command = command }) recorded

-- ---- a row

module _ (registry : List TypeInfo) (s : SystemEntry) (others : OtherRows) where
  abbrev pub cells_after : Spot → Found → List Cell
  cells_after spot x = after_texts registry others spot x.home x.row.entity (texts_of s) x.row.cells

  -- what is recorded for a row that matches, after its texts were done
  abbrev pub recorded_at : Spot → Found → List Recorded
  recorded_at spot x = recorded_by registry (own_of registry spot x.home x.row.entity (cells_after spot x)) others s.command

  abbrev pub row_after : Spot → Found → Row
  row_after spot x = record (x.row) { cells = if matches registry s x then cells_after spot x else x.row.cells }

-- ---- a block

module _ (registry : List TypeInfo) (s : SystemEntry) (others : OtherRows) (frame : ℕ) where
  -- the rows of an item from this place on
  abbrev pub rows_after : ℕ → Home → ℕ → List Row → List Row
  rows_after item home place [] = []
  rows_after item home place (r ∷ rs) =
      row_after registry s others (record { frame = frame; item = item; place = place }) (record { home = home; row = r })
      ∷ rows_after item home (place + 1) rs

  -- a block that is visited at this moment
  abbrev pub visited : ℕ → ℕ → Block → Block
  visited now item b = record b { marks = marked now (writes s) b.marks; rows = rows_after item b.home 0 b.rows }

  abbrev pub recorded_of : MatchedRow → List Recorded
  recorded_of m = recorded_at registry s others (record { frame = frame; item = m.item; place = m.place }) m.at

module _ (registry : List TypeInfo) (s : SystemEntry) where
  -- the rows of an item that match, from this place on
  abbrev pub matched_in : ℕ → Home → ℕ → List Row → List MatchedRow
  matched_in item home place [] = []
  matched_in item home place (r ∷ rs) =
      (if matches registry s (record { home = home; row = r })
      then record { item = item; place = place; at = record { home = home; row = r } } ∷ [] else [])
      ++ matched_in item home (place + 1) rs

-- ---- all blocks

module _ (clock : Clock) (registry : List TypeInfo) (s : SystemEntry) (last : Option ℕ) where
  -- the number of the item after a block, where the block would be the item of this number
  abbrev pub item_after : ℕ → Block → ℕ
  item_after item b = if is_visited registry clock s last b then item + 1 else item

  -- the matching rows of the visited blocks, in order, as they are before the first job
  abbrev pub matched : ℕ → List Block → List MatchedRow
  matched item [] = []
  matched item (b ∷ bs) =
      (if is_visited registry clock s last b then matched_in registry s item b.home 0 b.rows else []) ++ matched (item_after item b) bs

  module _ (frame : ℕ) (others : OtherRows) where
    abbrev pub blocks_after : ℕ → ℕ → List Block → List Block
    blocks_after now item [] = []
    blocks_after now item (b ∷ bs) =
        (if is_visited registry clock s last b then visited registry s others frame now item b else b)
        ∷ blocks_after now (item_after item b) bs

    abbrev pub entries_of : List Block → List Entry
    entries_of blocks = flat_map (λ m. entries_at m (recorded_of registry s others frame m)) (matched 0 blocks)

-- the rows of visits, of which the first is the item of this number
abbrev pub rows_of_visits : ℕ → List Visit → List MatchedRow
rows_of_visits item [] = []
rows_of_visits item (v ∷ vs) =
    map (λ p. record { item = item; place = p.place; at = record { home = v.block.home; row = p.row } }) v.rows
    ++ rows_of_visits (item + 1) vs

-- The run of a system that ran last at a moment, or never.
unfoldable pub run : Clock → SystemEntry → Option ℕ → ℕ → World → RunResult
run clock s last frame w = record {
  world = record w {
    moment = clock.next w.moment;
    blocks = blocks_after clock w.registry s last frame (others_in w) (clock.next w.moment) 0 w.blocks;
  };
  visits = tally (is_visited w.registry clock s last) w.blocks;
  passing = tally (λ b. passes w.registry s b.home.types) w.blocks;
  entries = entries_of clock w.registry s last frame (others_in w) w.blocks;
}
