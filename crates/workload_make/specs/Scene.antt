-- The generated scenes: files of the scene format, version 1, whose nodes are a ring.
use Rattle.std.specs.Prelude.{ℕ, ◌+◌, ◌%◌, ◌^◌, List, [], ◌∷◌, ◌++◌, length, codes}
use Rattle.std.specs.List.{flat_map, range_with_len}
use Rattle.std.specs.Int.{w16, w32, to_le_bytes}
use Rattle.workload_make.specs.Draws.{draw_in, state_after}

-- how many nodes scene k of this number has
abbrev pub node_count : ℕ → ℕ → ℕ
node_count number k = 100 + draw_in (state_after ((number + k) % 2 ^ 64)) 100

-- a plain type: its name after the name's length, its kind 0, and its fields' kinds after their count
abbrev pub plain_type : List ℕ → List ℕ → List ℕ
plain_type name fields = length name ∷ name ++ 0 ∷ length fields ∷ fields

-- the mark of a scene file, the version, and the three types; an i32 field has the kind 0, a reference 2
abbrev pub scene_head : List ℕ
scene_head =
    codes "ENTS" ++ to_le_bytes w32 1 ++ to_le_bytes w16 3
    ++ plain_type (codes "Position") (0 ∷ 0 ∷ []) ++ plain_type (codes "Seen") (0 ∷ []) ++ plain_type (codes "Target") (2 ∷ [])

-- numbers of two and of four bytes, the lowest byte first
unfoldable pub u16_bytes : ℕ → List ℕ
u16_bytes n = to_le_bytes w16 n

unfoldable pub u32_bytes : ℕ → List ℕ
u32_bytes n = to_le_bytes w32 n

-- a part of a node: the place of its type in the list, then its fields; an entity is two fields
unfoldable pub part_bytes : ℕ → List ℕ → List ℕ
part_bytes place fields = u16_bytes place ++ flat_map u32_bytes fields

-- node i of count nodes of scene k: i:1 with Position(i, k), Seen(0), and as its Target the next node of the ring
unfoldable pub node_bytes : ℕ → ℕ → ℕ → List ℕ
node_bytes k count i =
    u32_bytes i ++ u32_bytes 1 ++ u16_bytes 3
    ++ part_bytes 0 (i ∷ k ∷ []) ++ part_bytes 1 (0 ∷ []) ++ part_bytes 2 ((i + 1) % count ∷ 1 ∷ [])

-- all nodes of scene k, one after another
abbrev pub ring_bytes : ℕ → ℕ → List ℕ
ring_bytes k count = flat_map (node_bytes k count) (range_with_len 0 count)

-- the bytes of scene k of this number
abbrev pub scene_bytes : ℕ → ℕ → List ℕ
scene_bytes number k =
    let count = node_count number k in
    scene_head ++ u32_bytes count ++ ring_bytes k count
