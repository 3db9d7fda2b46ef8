use Rattle.std.proofs.Common.{◌≡◌, ◌+◌, ◌∙◌, ◌∷◌, inl, inr, refl, sym, ap, subst, drop, get_or, map}
use Rattle.std.proofs.lemmas.List.{at_drop_more}
use Rattle.world_model.specs.Members.{In}
use Rattle.world_model.specs.World.{mark_type}
use Rattle.archetype_store.specs.Stores.{OfBlock, StoreState}
use Rattle.structural_ops.specs.Attaching.{each_written}
use Rattle.structural_ops.proofs.Marked.{marks_still}
use Rattle.structural_ops.proofs.attach.mark_blocks.Goals as goal

pub mark_block-requires : goal.mark_block-requires
mark_block-requires c =
    let ns = c.args.numbers.now in
    let k = c.loop-number.number-index in
    c.loop-number.invariant.marked (get_or ns k 0) (subst (In (get_or ns k 0)) (sym (at_drop_more (λ xs. xs) ns k 0 c.loop-number-test.true)) (inl refl))

pub loop-number-preserved : goal.loop-number-preserved
loop-number-preserved c =
    let ns = c.args.numbers.now in
    let k = c.loop-number.number-index in
    let now = c.args.version.0 in
    let s : StoreState = c.loop-number.store in
    let left = at_drop_more (λ xs. xs) ns k 0 c.loop-number-test.true in
    record {
      written = ap (each_written now (drop (k + 1) ns)) c.mark_block.ensures ∙ ap (λ xs. each_written now xs s) (sym left) ∙ c.loop-number.invariant.written;
      marked = λ m i.
          subst (λ (u : StoreState). OfBlock m (λ b. map mark_type b.marks ≡ b.types) u.blocks) (sym c.mark_block.ensures)
          (marks_still now m (get_or ns k 0) s.blocks (c.loop-number.invariant.marked m (subst (In m) (sym left) (inr i))));
    }
