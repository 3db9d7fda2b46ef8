use Rattle.std.proofs.Common.{ℕ, ◌≡◌, ◌++◌, map}
use Rattle.world_model.specs.Members.{In}
use Rattle.world_model.specs.Part.{part_of as seen}
use Rattle.archetype_store.specs.Stores.{Numbered, OfNumber}
use Rattle.world_rows.specs.Reading.{CanRead, parts_in}
use Rattle.structural_ops.proofs.reading.read_parts.Given as goal

-- the parts so far, and those of the types that are left
abbrev pub invariant-loop-ty : goal.invariant-loop-ty
invariant-loop-ty l =
    OfNumber l.place.block
    (λ (b : Numbered). (map seen l.parts.items ++ parts_in l.place.row b l.ty-iterator ≡ map seen l.initial.parts.items ++ parts_in l.place.row b l.types)
    × (CanRead l.registry l.place.row b × ((t : ℕ) → In t l.ty-iterator → In t b.block.types)))
    l.store.blocks
