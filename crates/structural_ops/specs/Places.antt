-- The rows of a world by their places.
use Rattle.std.specs.Prelude.{ℕ, if◌then◌else◌, nat_eq, List, [], ◌∷◌, slice_get, option_map, Option, None}
use Rattle.entity_table.specs.declared.table.Place.{Place}
use Rattle.world_model.specs.World.{Block}
use Rattle.world_model.specs.Found.{Found}
use Rattle.structural_ops.specs.Worlds.{WorldState}

-- of blocks with their numbers: the row at a place; none where there is no such block, or no such row in it
abbrev pub found_in : Place → List ℕ → List Block → Option Found
found_in p [] bs = None
found_in p (n ∷ ns) [] = None
found_in p (n ∷ ns) (b ∷ bs) =
    if nat_eq n p.block then option_map (λ row. record { home = b.home; row = row }) (slice_get b.rows p.row) else found_in p ns bs

abbrev pub found_at_place : WorldState → Place → Option Found
found_at_place w p = found_in p w.numbers w.world.blocks
