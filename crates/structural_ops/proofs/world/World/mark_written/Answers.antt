use Rattle.std.proofs.Common.{◌∙◌, ap, sym, subst}
use Rattle.std.specs.Prelude.{⊤}
use Rattle.archetype_store.specs.Stores.{StoreState}
use Rattle.structural_ops.specs.Worlds.{WorldState, IsConsistent, state_of}
use Rattle.structural_ops.specs.Numbered.{HasBlock, types_written, with_each}
use Rattle.structural_ops.specs.declared.tables.Tables.{Tables}
use Rattle.structural_ops.proofs.Numbered.{of_numbered}
use Rattle.structural_ops.proofs.Present.{marked_at_once, marked_consistent, marked_state}
use Rattle.structural_ops.proofs.world.World.mark_written.Goals as goal

pub mark_types-requires : goal.mark_types-requires
mark_types-requires c = of_numbered c.args.block (λ _. ⊤) c.self.inside.tables.store.blocks (subst (HasBlock c.args.block (λ _. ⊤)) (sym c.self.view_is) c.requires)

pub invariant_of-self : goal.invariant_of-self
invariant_of-self c =
    let w = c.self.inside.tables in
    let there = of_numbered c.args.block (λ _. ⊤) w.store.blocks (subst (HasBlock c.args.block (λ _. ⊤)) (sym c.self.view_is) c.requires) in
    subst (λ (s : StoreState). IsConsistent (record w { store = s }))
    (sym (c.mark_types.ensures ∙ marked_at_once w c.self.invariant c.args.block there c.args.types.now))
    (marked_consistent w c.self.invariant c.args.block there c.args.types.now)

pub returns : goal.returns
returns c =
    let w = c.self.inside.tables in
    let there = of_numbered c.args.block (λ _. ⊤) w.store.blocks (subst (HasBlock c.args.block (λ _. ⊤)) (sym c.self.view_is) c.requires) in
    ap (λ (s : StoreState). state_of (record w { store = s })) (c.mark_types.ensures ∙ marked_at_once w c.self.invariant c.args.block there c.args.types.now)
    ∙ marked_state w c.self.invariant c.args.block there c.args.types.now
    ∙ ap (λ (s : WorldState). with_each (types_written c.args.block s.world.moment c.args.types.now) s) c.self.view_is
