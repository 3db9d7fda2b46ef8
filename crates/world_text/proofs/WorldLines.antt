-- The lines of a world: the line of counts and the rows. They read no moment.
use Rattle.std.proofs.Common.{ℕ, ◌≡◌, ◌++◌, List, length, find, refl, ap}
use Rattle.std.specs.List.{filter_map, flat_map, range_with_len}
use Rattle.world_model.specs.World.{World}
use Rattle.world_model.specs.Found.{Found, alive_count, found_by_index, has_index}
use Rattle.world_model.specs.Versions.{world_versions}
use Rattle.world_laws.proofs.Versions.{placed_turned}
use Rattle.world_text.specs.Lines.{row_line, world_line, world_text}

pub world_text-is : (frames : ℕ) (w : World) → world_text frames w ≡ world_line frames (alive_count w) ++ flat_map (row_line w.registry) (found_by_index w)
unfolding world_text
world_text-is frames w = refl

pub world_text_unchanged : (version : ℕ → ℕ) (frames : ℕ) (w : World) → world_text frames (world_versions version w) ≡ world_text frames w
unfolding world_text
world_text_unchanged version frames w =
    ap (λ (xs : List Found). world_line frames (length xs) ++ flat_map (row_line w.registry) (filter_map (λ i. find (has_index i) xs) (range_with_len 0 w.made)))
    (placed_turned version w.blocks)
