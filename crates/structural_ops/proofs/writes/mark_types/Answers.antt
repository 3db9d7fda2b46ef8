use Rattle.std.proofs.Common.{◌∙◌, ap, sym, subst}
use Rattle.std.specs.Prelude.{⊤}
use Rattle.archetype_store.specs.Stores.{OfBlock}
use Rattle.world_places.proofs.Numbers.{of_changed}
use Rattle.world_rows.specs.Marks.{all_marked, block_marked}
use Rattle.structural_ops.proofs.writes.mark_types.Goals as goal

pub loop-ty-preserved : goal.loop-ty-preserved
loop-ty-preserved c = (
  ap (all_marked c.args.number c.args.version.0 c.next.new.self) c.mark.ensures
      ∙ ap (λ ts. all_marked c.args.number c.args.version.0 ts c.loop-ty.store) (sym c.in-Some.ensures.steps)
      ∙ c.loop-ty.invariant.0,
  subst (λ s. OfBlock c.args.number (λ _. ⊤) s.blocks) (sym c.mark.ensures)
      (of_changed c.args.number (block_marked c.in-Some.ty.0 c.args.version.0) (λ _. ⊤) c.loop-ty.store.blocks c.loop-ty.invariant.1),
)
