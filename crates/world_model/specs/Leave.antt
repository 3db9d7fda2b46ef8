-- How a row leaves its block. It is named by its entity, which has one row at most.
use Rattle.std.specs.Prelude.{ℕ, Bool, true, false, not, if◌then◌else◌, List, [], ◌∷◌, map, filter}
use Rattle.std.specs.List.{list_any}
use Rattle.ent_types.specs.declared.entity.Entity.{Entity}
use Rattle.world_model.specs.Part.{same_entity}
use Rattle.world_model.specs.Row.{Row}
use Rattle.world_model.specs.World.{Block}

-- the last row, and the rows before it
abbrev pub last_of : Row → List Row → Row
last_of r [] = r
last_of r (q ∷ rs) = last_of q rs

abbrev pub front_of : Row → List Row → List Row
front_of r [] = []
front_of r (q ∷ rs) = r ∷ front_of q rs

-- the rows with another row instead of the entity's
abbrev pub replaced : Entity → Row → List Row → List Row
replaced e by rows = map (λ r. if same_entity e r.entity then by else r) rows

-- the rows without the entity's: the last one takes its place
abbrev pub without_row : Entity → List Row → List Row
without_row e [] = []
without_row e (r ∷ rs) = replaced e (last_of r rs) (front_of r rs)

abbrev pub has_entity : Entity → List Row → Bool
has_entity e rows = list_any (λ r. same_entity e r.entity) rows

-- the block without the entity's row, and its order marked; no type is marked
abbrev pub left : ℕ → Entity → Block → Block
left now e b = if has_entity e b.rows then record b { rows = without_row e b.rows; order = now } else b

abbrev pub no_rows : List Row → Bool
no_rows [] = true
no_rows (r ∷ rs) = false

-- The row of the entity leaves. A block that is left without a row is removed.
unfoldable pub leave : ℕ → Entity → List Block → List Block
leave now e blocks = filter (λ b. not (no_rows b.rows)) (map (left now e) blocks)
