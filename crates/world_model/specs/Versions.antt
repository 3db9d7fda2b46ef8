-- Worlds with versions of 32 bits instead of moments, as the code keeps them.
use Rattle.std.specs.Prelude.{◌≡◌, ℕ, List, map}
use Rattle.system_version.specs.Versions.{version_of, IsVersion}
use Rattle.world_model.specs.World.{Mark, Block, World}
use Rattle.world_model.specs.Operations.{Answer}
use Rattle.world_model.specs.Lawful.{IsLawful}

-- the same with other numbers instead of moments
abbrev pub mark_versions : (ℕ → ℕ) → Mark → Mark
mark_versions version m = record m { moment = version m.moment }

abbrev pub block_versions : (ℕ → ℕ) → Block → Block
block_versions version b = record b { marks = map (mark_versions version) b.marks; order = version b.order }

abbrev pub world_versions : (ℕ → ℕ) → World → World
world_versions version w = record w { blocks = map (block_versions version) w.blocks; moment = version w.moment }

abbrev pub answer_versions : (ℕ → ℕ) → Answer → Answer
answer_versions version a = record a { world = world_versions version a.world }

-- A world of the code stands for a world and a first system version: each version is that of the moment in the same place,
-- and all else is equal.
abbrev pub StandsFor : ℕ → World → World → Type 0
StandsFor first code w = code ≡ world_versions (version_of first) w

-- a lawful world of the code: with some first version it stands for a lawful world
pub record IsLawfulCode (capacity : List ℕ → ℕ) (code : World) : Type 0 where
  pub first : ℕ
  pub world : World
  pub version : IsVersion first
  pub stands : StandsFor first code world
  pub lawful : IsLawful capacity world
