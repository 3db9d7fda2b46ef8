-- Which systems may run side by side, and what they make together.
use Rattle.std.specs.Prelude.{◌≡◌, ℕ, zero, suc, ◌+◌, Bool, false, ◌||◌, if◌then◌else◌, List, [], ◌∷◌, ◌++◌, take, flat_map, is_some, Option, Some, None}
use Rattle.std.specs.List.{list_any}
use Rattle.ent_types.specs.declared.type_info.TypeInfo.{TypeInfo}
use Rattle.ent_types.specs.TypeSets.{has_type, meets}
use Rattle.world_model.specs.Members.{In, tally}
use Rattle.world_model.specs.Row.{Cell, Row}
use Rattle.world_model.specs.World.{Home, Block, World}
use Rattle.world_model.specs.Write.{marked}
use Rattle.expr_eval.specs.Values.{OtherRows}
use Rattle.scenario_record.specs.declared.plan.Access.{Access}
use Rattle.scenario_record.specs.declared.record.SystemEntry.{SystemEntry}
use Rattle.run_model.specs.Clock.{Clock}
use Rattle.run_model.specs.Query.{matches, passes, is_visited}
use Rattle.run_model.specs.Job.{others_in, writes}
use Rattle.run_model.specs.Run.{Entry, RunResult, entries_at, row_after, recorded_of, matched_in, item_after, run}
use Rattle.run_model.specs.Touched.{read_by, named_types}

-- ---- conflicts

-- the types that a system reads: those of its own fields, of `on` and `get`, and of its change filter
abbrev pub reads : SystemEntry → List ℕ
reads s = read_by s ++ s.changed

-- all types on which a run of the system depends or that it writes
abbrev pub touches : List TypeInfo → SystemEntry → List ℕ
touches registry s = writes s ++ (reads s ++ named_types registry s)

-- Two systems conflict where one writes a type that the other writes, reads or names.
abbrev pub conflicts : List TypeInfo → SystemEntry → SystemEntry → Bool
conflicts registry s r = meets (writes s) (touches registry r) || meets (writes r) (touches registry s)

-- the same, by what a plan says of the two systems
abbrev pub accesses_conflict : Access → Access → Bool
accesses_conflict a b = meets a.writes (b.writes ++ (b.reads ++ b.named)) || meets b.writes (a.writes ++ (a.reads ++ a.named))

-- ---- phases

-- Systems in order, put into phases: a system joins the last phase where it conflicts with none of its systems, else it
-- begins a new one. `phase` is the phase that is open. What stands for a system is its record or its number.
abbrev pub phases_from : {S : Type 0} → (S → S → Bool) → List S → List S → List (List S)
phases_from conflict phase [] = phase ∷ []
phases_from conflict phase (s ∷ ss) =
    if list_any (conflict s) phase
    then phase ∷ phases_from conflict (s ∷ []) ss
    else phases_from conflict (phase ++ s ∷ []) ss

abbrev pub phases_by : {S : Type 0} → (S → S → Bool) → List S → List (List S)
phases_by conflict [] = []
phases_by conflict (s ∷ ss) = phases_from conflict (s ∷ []) ss

-- the phases of systems that run one after another
abbrev pub phases : List TypeInfo → List SystemEntry → List (List SystemEntry)
phases registry ss = phases_by (conflicts registry) ss

-- ---- one system after another

-- a system with the moment of its last run
pub record Turn : Type 0 where
  pub system : SystemEntry
  pub last : Option ℕ

abbrev pub turn_of : (SystemEntry → Option ℕ) → SystemEntry → Turn
turn_of last s = record { system = s; last = last s }

-- the earlier one writes nothing that the later one touches
abbrev pub IsFree : List TypeInfo → Turn → Turn → Type 0
IsFree registry j k = (t : ℕ) → In t (writes j.system) → In t (touches registry k.system) → ⊥

abbrev pub AreFree : List TypeInfo → List Turn → Type 0
AreFree registry [] = Unit {0}
AreFree registry (j ∷ js) = ((k : Turn) → In k js → IsFree registry j k) × AreFree registry js

-- no two of the systems conflict
abbrev pub AreApart : List TypeInfo → List Turn → Type 0
AreApart registry [] = Unit {0}
AreApart registry (j ∷ js) = ((k : Turn) → In k js → conflicts registry j.system k.system ≡ false) × AreApart registry js

-- what a run gives besides the world
pub record RunOutput : Type 0 where
  pub visits : ℕ
  pub passing : ℕ
  pub entries : List Entry

abbrev pub output_of : RunResult → RunOutput
output_of ran = record { visits = ran.visits; passing = ran.passing; entries = ran.entries }

module _ (clock : Clock) (frame : ℕ) where
  abbrev pub turn_result : Turn → World → RunResult
  turn_result j w = run clock j.system j.last frame w

  -- the world after the systems, one after another
  abbrev pub world_each : List Turn → World → World
  world_each [] w = w
  world_each (j ∷ js) w = world_each js (turn_result j w).world

  -- what each of them gives besides
  abbrev pub outputs_each : List Turn → World → List RunOutput
  outputs_each [] w = []
  outputs_each (j ∷ js) w = output_of (turn_result j w) ∷ outputs_each js (turn_result j w).world

  -- the moment after the systems
  abbrev pub moment_after : List Turn → ℕ → ℕ
  moment_after [] now = now
  moment_after (j ∷ js) now = moment_after js (clock.next now)

-- ---- items

-- A visited block of a system of a phase: the system's turn, the moment of its run, the number of the item in that run,
-- and the block as it was before the phase.
pub record Item : Type 0 where
  pub turn : Turn
  pub now : ℕ
  pub number : ℕ
  pub block : Block

-- What an item has made: the rows of its block, of whose cells the written types count, and what they recorded.
pub record ItemResult : Type 0 where
  pub rows : List Row
  pub entries : List Entry

module _ (clock : Clock) (registry : List TypeInfo) (frame : ℕ) (others : OtherRows) where
  -- the rows of an item from this place on, after the job on the first n that match
  abbrev pub rows_after_first : SystemEntry → ℕ → Home → ℕ → ℕ → List Row → List Row
  rows_after_first s item home place zero rows = rows
  rows_after_first s item home place (suc k) [] = []
  rows_after_first s item home place (suc k) (r ∷ rs) =
      if matches registry s (record { home = home; row = r })
      then row_after registry s others (record { frame = frame; item = item; place = place }) (record { home = home; row = r })
      ∷ rows_after_first s item home (place + 1) k rs
      else r ∷ rows_after_first s item home (place + 1) (suc k) rs

  -- an item after its first n rows that match; all else is read as it was before the phase
  abbrev pub item_result : Item → ℕ → ItemResult
  item_result i k = record {
    rows = rows_after_first i.turn.system i.number i.block.home 0 k i.block.rows;
    entries = flat_map (λ m. entries_at m (recorded_of registry i.turn.system others frame m))
        (take k (matched_in registry i.turn.system i.number i.block.home 0 i.block.rows));
  }

  -- how many rows of an item match
  abbrev pub item_rows : Item → ℕ
  item_rows i = tally (λ r. matches registry i.turn.system (record { home = i.block.home; row = r })) i.block.rows

  -- the items of a turn among blocks, of which the first would have this number; none where a block isn't visited
  abbrev pub turn_items : Turn → ℕ → ℕ → List Block → List (Option Item)
  turn_items j now item [] = []
  turn_items j now item (b ∷ bs) =
      (if is_visited registry clock j.system j.last b then Some (record { turn = j; now = now; number = item; block = b }) else None)
      ∷ turn_items j now (item_after clock registry j.system j.last item b) bs

-- ---- joined

-- the second cells, with the first ones replacing those of these types
abbrev pub put_cells : List ℕ → List Cell → List Cell → List Cell
put_cells ts [] ds = ds
put_cells ts (c ∷ cs) [] = []
put_cells ts (c ∷ cs) (d ∷ ds) = (if has_type ts d.type_id then c else d) ∷ put_cells ts cs ds

abbrev pub put_rows : List ℕ → List Row → List Row → List Row
put_rows ts [] qs = qs
put_rows ts (r ∷ rs) [] = []
put_rows ts (r ∷ rs) (q ∷ qs) = record q { cells = put_cells ts r.cells q.cells } ∷ put_rows ts rs qs

module _ (clock : Clock) (registry : List TypeInfo) (frame : ℕ) (others : OtherRows) where
  -- a block after an item, whose cells of the written types replace its own; these types are marked with the item's moment
  abbrev pub with_item : Option Item → Block → Block
  with_item None b = b
  with_item (Some i) b = record b {
    marks = marked i.now (writes i.turn.system) b.marks;
    rows = put_rows (writes i.turn.system) (item_result clock registry frame others i (item_rows clock registry frame others i)).rows b.rows;
  }

  abbrev pub with_items : List (Option Item) → List Block → List Block
  with_items [] bs = bs
  with_items (i ∷ is) [] = []
  with_items (i ∷ is) (b ∷ bs) = with_item i b ∷ with_items is bs

  -- The blocks after the items of all turns. The items are those of the first blocks, and so is all that they read.
  abbrev pub joined_from : List Block → ℕ → List Turn → List Block → List Block
  joined_from first now [] bs = bs
  joined_from first now (j ∷ js) bs =
      joined_from first (clock.next now) js
      (with_items (turn_items clock registry frame others j (clock.next now) 0 first) bs)

-- the world after a phase whose items all ran to their end
unfoldable pub joined : Clock → ℕ → List Turn → World → World
joined clock frame js w = record w {
  moment = moment_after clock frame js w.moment;
  blocks = joined_from clock w.registry frame (others_in w) w.blocks w.moment js w.blocks;
}

-- ---- what the items give besides the world

abbrev pub item_entries : Clock → List TypeInfo → ℕ → OtherRows → Option Item → List Entry
item_entries clock registry frame others None = []
item_entries clock registry frame others (Some i) =
    (item_result clock registry frame others i (item_rows clock registry frame others i)).entries

-- what the items of one turn give, one after another
abbrev pub items_output : Clock → ℕ → World → Turn → List (Option Item) → RunOutput
items_output clock frame w j items = record {
  visits = tally is_some items;
  passing = tally (λ b. passes w.registry j.system b.home.types) w.blocks;
  entries = flat_map (item_entries clock w.registry frame (others_in w)) items;
}

-- What the turns of a phase give. All their items are those of the world before the phase.
abbrev pub joined_outputs : Clock → ℕ → World → ℕ → List Turn → List RunOutput
joined_outputs clock frame w now [] = []
joined_outputs clock frame w now (j ∷ js) =
    items_output clock frame w j (turn_items clock w.registry frame (others_in w) j (clock.next now) 0 w.blocks)
    ∷ joined_outputs clock frame w (clock.next now) js
