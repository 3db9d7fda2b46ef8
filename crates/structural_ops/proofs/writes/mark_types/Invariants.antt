use Rattle.std.specs.Prelude.{◌≡◌, ⊤}
use Rattle.archetype_store.specs.Stores.{OfBlock}
use Rattle.world_rows.specs.Marks.{all_marked}
use Rattle.structural_ops.proofs.writes.mark_types.Given as goal

-- what is left to mark makes the store what all marks make of it
abbrev pub invariant-loop-ty : goal.invariant-loop-ty
invariant-loop-ty l =
    (all_marked l.number l.version.0 l.ty-iterator l.store ≡ all_marked l.number l.version.0 l.types l.initial.store) × OfBlock l.number (λ _. ⊤) l.store.blocks
