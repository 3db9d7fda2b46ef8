use Rattle.std.proofs.Common.{ℕ, ◌≡◌, ◌∷◌, ◌∙◌, inl, inr, refl, sym, ap, subst, List}
use Rattle.world_model.specs.Members.{In}
use Rattle.chunk_block.specs.Blocks.{BlockState}
use Rattle.archetype_store.specs.Stores.{numbered_blocks}
use Rattle.world_tests.proofs.Planned.{walked_there}
use Rattle.world_tests.proofs.lending.two_blocks.Goals as goal

pub returns-clause-first : goal.returns-clause-first
returns-clause-first c =
    let first = c.in-Some.field-0-1.now in
    walked_there c.args.world.now c.store.result.now c.store.ensures c.in-Some.first first
    (subst (λ (xs : List (ℕ × BlockState)). In (c.in-Some.first, first) xs) (sym c.in-Some.ensures.steps ∙ c.blocks-blocks.ensures) (inl refl))

pub returns-clause-second : goal.returns-clause-second
returns-clause-second c =
    let first = c.in-Some.field-0-1.now in
    let second = c.in-Some-next.field-0-1.now in
    walked_there c.args.world.now c.store.result.now c.store.ensures c.in-Some-next.second second
    (subst (λ (xs : List (ℕ × BlockState)). In (c.in-Some-next.second, second) xs)
    (ap (λ (xs : List (ℕ × BlockState)). (c.in-Some.first, first) ∷ xs) (sym c.in-Some-next.ensures.steps) ∙ sym c.in-Some.ensures.steps ∙ c.blocks-blocks.ensures)
    (inr (inl refl)))
