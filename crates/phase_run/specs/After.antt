-- What is lent for the visits of a run, and the world after it.
use Rattle.std.specs.Prelude.{ℕ, ◌≡◌, if◌then◌else◌, List, [], ◌∷◌, length, map, Option}
use Rattle.ent_types.specs.declared.type_info.TypeInfo.{TypeInfo}
use Rattle.ent_types.specs.TypeSets.{has_type}
use Rattle.world_model.specs.Members.{AreDistinct}
use Rattle.world_model.specs.World.{Block}
use Rattle.world_model.specs.Write.{marked}
use Rattle.expr_eval.specs.Values.{OtherRows}
use Rattle.structural_ops.specs.Worlds.{WorldState}
use Rattle.scenario_record.specs.declared.record.SystemEntry.{SystemEntry}
use Rattle.run_model.specs.Clock.{versions}
use Rattle.run_model.specs.Query.{is_visited}
use Rattle.run_model.specs.Job.{others_in, writes}
use Rattle.run_model.specs.Run.{RunResult, item_after, rows_after, run}
use Rattle.query_select.specs.declared.visits.Visit.{Visit}
use Rattle.query_select.specs.Entries.{last_run}
use Rattle.query_select.specs.Visits.{numbered_visits}

-- ---- before

-- each block has a number of its own
pub record IsNumbered (w : WorldState) : Type 0 where
  pub once : AreDistinct w.numbers
  pub each : length w.numbers ≡ length w.world.blocks

-- a loan of these types of the block of each visit
abbrev pub loans_for : List ℕ → List Visit → List (ℕ × List ℕ)
loans_for types visits = map (λ v. (v.block, types)) visits

abbrev pub visits_in : WorldState → SystemEntry → Option ℕ → List Visit
visits_in w s last = numbered_visits versions w.world.registry s last w.numbers w.world.blocks

-- the visits of a run of the system, whenever it ran last
pub record AreVisitsOf (s : SystemEntry) (visits : List Visit) (w : WorldState) : Type 0 where
  pub last : Option ℕ
  pub are : visits ≡ visits_in w s last

-- the plan lends what the system writes of the block of each visit
pub record LendsWrites (s : SystemEntry) (visits : List Visit) (plan : List (ℕ × List ℕ)) : Type 0 where
  pub types : List ℕ
  pub written : (t : ℕ) → has_type types t ≡ has_type (writes s) t
  pub is : plan ≡ loans_for types visits

-- ---- after

module _ (registry : List TypeInfo) (s : SystemEntry) (last : Option ℕ) (frame : ℕ) (others : OtherRows) where
  -- the blocks with what a run does to their rows
  abbrev pub blocks_ran : ℕ → List Block → List Block
  blocks_ran item [] = []
  blocks_ran item (b ∷ bs) =
      (if is_visited registry versions s last b then record b { rows = rows_after registry s others frame item b.home 0 b.rows } else b)
      ∷ blocks_ran (item_after versions registry s last item b) bs

-- the world with what a run does to its rows, without marks
abbrev pub rows_ran : SystemEntry → Option ℕ → ℕ → WorldState → WorldState
rows_ran s last frame w =
    record w { world = record (w.world) { blocks = blocks_ran w.world.registry s last frame (others_in w.world) 0 w.world.blocks } }

-- the block of this number with some types marked if it was visited
abbrev pub visit_marked : List Visit → ℕ → List ℕ → ℕ → Block → Block
visit_marked visits now types n b = if has_type (map (λ v. v.block) visits) n then record b { marks = marked now types b.marks } else b

-- the run of a system that ran last at a version, or never if the version is 0
abbrev pub ran : SystemEntry → ℕ → ℕ → WorldState → RunResult
ran s last frame w = run versions s (last_run last) frame w.world

abbrev pub world_after : SystemEntry → ℕ → ℕ → WorldState → WorldState
world_after s last frame w = record w { world = (ran s last frame w).world }
