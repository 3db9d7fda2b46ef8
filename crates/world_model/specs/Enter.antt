-- How a new entity gets its name, and how a row enters a block.
use Rattle.std.specs.Prelude.{ℕ, zero, suc, ◌+◌, Bool, ◌&&◌, if◌then◌else◌, nat_eq, nat_lt, List, [], ◌∷◌, ◌++◌, length, map}
use Rattle.std.specs.Cmp.Lexicographic.{pointwise}
use Rattle.ent_types.specs.declared.entity.Entity.{Entity}
use Rattle.world_model.specs.Part.{same_part}
use Rattle.world_model.specs.Row.{Row}
use Rattle.world_model.specs.World.{Block, Home, Mark}

-- two homes are the same
abbrev pub same_home : Home → Home → Bool
same_home a b = pointwise nat_eq a.types b.types && pointwise same_part a.shared b.shared

-- every type of a home marked at a moment
abbrev pub marks_at : ℕ → List ℕ → List Mark
marks_at now types = map (λ t. record { type_id = t; moment = now }) types

-- the block with one more row at its end, and every type and the order marked
abbrev pub entered : ℕ → Row → Block → Block
entered now row b = record b { marks = marks_at now b.home.types; rows = b.rows ++ row ∷ []; order = now }

-- a block with this row alone
abbrev pub new_block : ℕ → Home → Row → Block
new_block now home row = record { home = home; marks = marks_at now home.types; rows = row ∷ []; order = now }

-- whether a row of this home can enter a block that holds at most this number of rows
abbrev pub has_room : ℕ → Home → Block → Bool
has_room capacity home b = same_home home b.home && nat_lt (length b.rows) capacity

-- the place of the first block that has room; past the end where there is none
abbrev pub room_place : ℕ → Home → List Block → ℕ
room_place capacity home [] = zero
room_place capacity home (b ∷ bs) = if has_room capacity home b then zero else suc (room_place capacity home bs)

-- A row enters the first block of this home with fewer rows than the capacity. Where there is none it enters a new
-- last block.
unfoldable pub enter : ℕ → ℕ → Home → Row → List Block → List Block
enter capacity now home row [] = new_block now home row ∷ []
enter capacity now home row (b ∷ bs) =
    if has_room capacity home b then entered now row b ∷ bs else b ∷ enter capacity now home row bs
