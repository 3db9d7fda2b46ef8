-- What a filter lets pass, and what it asks of a block for that.
use Rattle.std.specs.Prelude.{ℕ, Bool, ◌&&◌, List, [], map}
use Rattle.std.specs.Option.{IsSome}
use Rattle.ent_types.specs.declared.value.Part.{Part}
use Rattle.world_model.specs.Members.{In, IsRising, AreDistinct}
use Rattle.world_model.specs.Part.{part_type}
use Rattle.world_model.specs.World.{mark_type}
use Rattle.world_model.specs.Found.{part_at}
use Rattle.archetype_store.specs.Stores.{Numbered}
use Rattle.world_places.specs.Placing.{home_of, world_block}
use Rattle.run_model.specs.Clock.{versions}
use Rattle.run_model.specs.Query.{has_shared, is_fresh}
use Rattle.query_select.specs.declared.filter.Filter.{Filter}
use Rattle.query_select.specs.Entries.{last_run, only_filter}

abbrev pub passes_filter : Filter → ℕ → Numbered → Bool
passes_filter filter last b = is_fresh [] versions (only_filter filter) (last_run last) (world_block b) && has_shared (only_filter filter) (home_of b)

-- the block has a value for the type of a part
pub record CanCompare (p : Part) (b : Numbered) : Type 0 where
  pub rising : IsRising (map part_type b.shared)
  pub there : IsSome (part_at p.ty.0 b.shared)

-- the same for the types of some parts
abbrev pub CanCompareAll : List Part → Numbered → Type 0
CanCompareAll parts b = (p : Part) → In p parts → CanCompare p b

-- the block has one mark for each type that the filter names, and a value for each of its shared types
pub record CanFilter (filter : Filter) (b : Numbered) : Type 0 where
  pub once : AreDistinct (map mark_type b.block.marks)
  pub marked : (t : ℕ) → In t filter.changed → In t (map mark_type b.block.marks)
  pub shared : CanCompareAll filter.shared b
