-- How a row is written in its place. It is named by its entity, which has one row at most.
use Rattle.std.specs.Prelude.{ℕ, Bool, if◌then◌else◌, List, [], ◌∷◌, map}
use Rattle.ent_types.specs.TypeSets.{has_type}
use Rattle.world_model.specs.Row.{Row}
use Rattle.world_model.specs.World.{Block, Mark}
use Rattle.world_model.specs.Leave.{replaced, has_entity}

-- the marks of the types that are among these set to a moment
abbrev pub marked : ℕ → List ℕ → List Mark → List Mark
marked now types marks = map (λ (m : Mark). if has_type types m.type_id then record m { moment = now } else m) marks

-- the block with another row of the same entity instead of its own, and some types marked
abbrev pub rewritten : ℕ → List ℕ → Row → Block → Block
rewritten now types row b =
    if has_entity row.entity b.rows then record b { rows = replaced row.entity row b.rows; marks = marked now types b.marks } else b

unfoldable pub rewrite : ℕ → List ℕ → Row → List Block → List Block
rewrite now types row blocks = map (rewritten now types row) blocks
