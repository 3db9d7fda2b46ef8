-- A row: an entity with its values.
use Rattle.std.specs.Prelude.{ℕ, Bool, false, List}
use Rattle.ent_types.specs.declared.entity.Entity.{Entity}
use Rattle.ent_types.specs.declared.value.Value.{Value}
use Rattle.world_model.specs.Part.{PartOf}

-- What a row has of one type: its values, and whether the type is disabled in this row. The values of a buffer's
-- elements come one after another.
pub record Cell : Type 0 where
  pub type_id : ℕ
  pub values : List Value
  pub off : Bool

-- A row. Its cells are ordered by rising type, one for each type that isn't shared. A row that is dying was destroyed, and
-- is kept until its cleanup types are removed.
pub record Row : Type 0 where
  pub entity : Entity
  pub cells : List Cell
  pub dying : Bool

abbrev pub cell_type : Cell → ℕ
cell_type c = c.type_id

-- the cell that a part gives to a row, enabled
abbrev pub cell_of : PartOf Value → Cell
cell_of p = record { type_id = p.type_id; values = p.values; off = false }
