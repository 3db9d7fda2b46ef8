-- Sets of types of a row.
use Rattle.std.specs.Prelude.{ℕ, ◌≡◌, ◌≢◌, Bool, List, [], ◌∷◌, filter, if◌then◌else◌}
use Rattle.ent_types.specs.declared.entity.Entity.{Entity}
use Rattle.ent_types.specs.declared.type_info.TypeInfo.{TypeInfo}
use Rattle.ent_types.specs.declared.value.Value.{Value}
use Rattle.ent_types.specs.TypeLookups.{is_cleanup_at, is_shared_at}
use Rattle.ent_types.specs.TypeSets.{has_type, with_type}
use Rattle.world_model.specs.Part.{PartOf, with_typed}
use Rattle.world_model.specs.Row.{Row, cell_type, cell_of}
use Rattle.world_model.specs.World.{Home}
use Rattle.world_model.specs.Operations.{is_copied, home_with, home_with_shared, cells_kept, with_values}

-- the set of some types
abbrev pub set_of : List ℕ → List ℕ
set_of [] = []
set_of (t ∷ ts) = with_type (set_of ts) t

abbrev pub cleanup_types : List TypeInfo → List ℕ → List ℕ
cleanup_types registry types = filter (is_cleanup_at registry) types

abbrev pub copied_types : List TypeInfo → List ℕ → List ℕ
copied_types registry types = filter (is_copied registry) types

-- a set is the part of a list of types that is in the set, and not all of it
pub record IsPart (types all : List ℕ) : Type 0 where
  pub kept : types ≡ filter (has_type types) all
  pub fewer : types ≢ all

-- the row with those of its cells whose types stay
abbrev pub row_kept : List ℕ → Entity → Bool → Row → Row
row_kept types e dying row = record { entity = e; cells = cells_kept (has_type types) row.cells; dying = dying }

-- a home and a row with one part besides, or another part of its type
abbrev pub home_taking : List TypeInfo → PartOf Value → Home → Home
home_taking registry p home = if is_shared_at registry p.type_id then home_with_shared p home else home_with p.type_id home

abbrev pub row_taking : List TypeInfo → PartOf Value → Entity → Row → Row
row_taking registry p e row = record {
  entity = e;
  cells = if is_shared_at registry p.type_id then row.cells else with_typed cell_type (cell_of p) row.cells;
  dying = row.dying;
}

-- a row with other values of a type that it has
abbrev pub row_put : PartOf Value → Row → Row
row_put p row = record row { cells = with_values p.type_id (λ _. p.values) row.cells }
