-- A run over versions of 32 bits instead of moments.
use Rattle.std.specs.Prelude.{ℕ, ◌≤◌, map, Option, Some, None, option_map}
use Rattle.system_version.specs.Versions.{IsMoment}
use Rattle.world_model.specs.Members.{In}
use Rattle.world_model.specs.World.{Mark, Block, World}
use Rattle.world_model.specs.Versions.{world_versions}
use Rattle.run_model.specs.Run.{RunResult}
use Rattle.run_model.specs.Frames.{State, Course, Goes, Stops, End, Finished, AtSharedKey}

abbrev pub run_versions : (ℕ → ℕ) → RunResult → RunResult
run_versions version r = record r { world = world_versions version r.world }

-- a last run at a moment, or never
abbrev pub IsLast : Option ℕ → Type 0
IsLast None = Unit {0}
IsLast (Some moment) = IsMoment moment

-- every mark is a moment of a run, and so are the present moment and the next one
pub record HasMoments (w : World) : Type 0 where
  pub now : 1 ≤ w.moment
  pub marks : (b : Block) → In b w.blocks → (m : Mark) → In m b.marks → IsMoment m.moment
  pub order : (b : Block) → In b w.blocks → IsMoment b.order

-- ---- states

abbrev pub state_versions : (ℕ → ℕ) → State → State
state_versions version st = record st { world = world_versions version st.world; lasts = map (option_map version) st.lasts }

abbrev pub course_versions : (ℕ → ℕ) → Course → Course
course_versions version (Goes st) = Goes (state_versions version st)
course_versions version (Stops lines) = Stops lines

abbrev pub end_versions : (ℕ → ℕ) → End → End
end_versions version (Finished lines w) = Finished lines (world_versions version w)
end_versions version (AtSharedKey lines) = AtSharedKey lines

pub record StateHasMoments (st : State) : Type 0 where
  pub world : HasMoments st.world
  pub lasts : (last : Option ℕ) → In last st.lasts → IsLast last
