use Rattle.std.proofs.Common.{ℕ, ◌≡◌, ◌+◌, ◌∙◌, ◌∷◌, inl, inr, refl, sym, ap, subst, List, drop, get_or}
use Rattle.std.specs.Prelude.{⊤}
use Rattle.std.proofs.lemmas.List.{at_drop_more}
use Rattle.entity_table.specs.Table.{Table}
use Rattle.world_model.specs.Members.{In}
use Rattle.world_model.specs.Row.{Row}
use Rattle.archetype_store.specs.Stores.{OfBlock}
use Rattle.world_places.proofs.Numbers.{of_more}
use Rattle.structural_ops.specs.Attaching.{all_noted, rows_noted}
use Rattle.structural_ops.proofs.Noting.{AllAlive, others_alive, rows_got, rows_got_alive}
use Rattle.structural_ops.proofs.attach.note_blocks.Goals as goal

pub block-requires : goal.block-requires
block-requires c =
    let ns = c.args.numbers.now in
    let k = c.loop-number.number-index in
    let left = at_drop_more (λ xs. xs) ns k 0 c.loop-number-test.true in
    of_more (get_or ns k 0) _ (λ _. ⊤) c.args.store.now.blocks (λ b alive. tt) (c.loop-number.invariant.alive (get_or ns k 0) (subst (In (get_or ns k 0)) (sym left) (inl refl)))

pub note_rows-requires : goal.note_rows-requires
note_rows-requires c =
    let ns = c.args.numbers.now in
    let k = c.loop-number.number-index in
    let left = at_drop_more (λ xs. xs) ns k 0 c.loop-number-test.true in
    rows_got_alive (get_or ns k 0) c.block.result.now c.loop-number.table.table c.args.store.now.blocks c.block.ensures
    (c.loop-number.invariant.alive (get_or ns k 0) (subst (In (get_or ns k 0)) (sym left) (inl refl)))

pub loop-number-preserved : goal.loop-number-preserved
loop-number-preserved c =
    let blocks = c.args.store.now.blocks in
    let ns = c.args.numbers.now in
    let k = c.loop-number.number-index in
    let t : Table = c.loop-number.table.table in
    let left = at_drop_more (λ xs. xs) ns k 0 c.loop-number-test.true in
    let all =
    rows_got_alive (get_or ns k 0) c.block.result.now t blocks c.block.ensures (c.loop-number.invariant.alive (get_or ns k 0) (subst (In (get_or ns k 0)) (sym left) (inl refl))) in
    record {
      noted = ap (all_noted blocks (drop (k + 1) ns))
          (c.note_rows.ensures ∙ ap (λ (rows : List Row). rows_noted (get_or ns k 0) 0 rows t) (sym (rows_got (get_or ns k 0) c.block.result.now blocks c.block.ensures)))
          ∙ ap (λ xs. all_noted blocks xs t) (sym left)
          ∙ c.loop-number.invariant.noted;
      alive = λ m i.
          subst (λ u. OfBlock m (λ b. AllAlive b.rows u) blocks) (sym c.note_rows.ensures)
          (others_alive (get_or ns k 0) c.block.result.now.rows t all m blocks (c.loop-number.invariant.alive m (subst (In m) (sym left) (inr i))));
    }
