use Rattle.std.proofs.Common.{ℕ, ◌≡◌, ◌++◌}
use Rattle.std.specs.List.{flat_map}
use Rattle.world_model.specs.Members.{In}
use Rattle.archetype_store.specs.Stores.{Numbered, OfNumber}
use Rattle.world_rows.specs.Reading.{CanRead, found_at}
use Rattle.world_text.specs.Lines.{type_text}
use Rattle.world_text.proofs.rows.push_types.Given as goal

-- the types so far, and those that are left
abbrev pub invariant-loop-ty : goal.invariant-loop-ty
invariant-loop-ty l =
    OfNumber l.place.block
    (λ (b : Numbered). (l.line.items ++ flat_map (type_text l.registry (found_at l.place.row b)) l.ty-iterator ≡ l.fn.line.items ++ flat_map (type_text l.registry (found_at l.place.row b)) b.block.types)
    × (CanRead l.registry l.place.row b × ((t : ℕ) → In t l.ty-iterator → In t b.block.types)))
    l.store.blocks
