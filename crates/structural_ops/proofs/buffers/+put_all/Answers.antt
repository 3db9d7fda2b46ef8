use Rattle.std.proofs.Common.{ap, sym, subst, length, map, reverse, ◌∷◌, [], arith}
use Rattle.std.proofs.lemmas.List.{length-append}
use Rattle.world_rows.specs.Writes.{CanWrite}
use Rattle.world_rows.proofs.Composed.{can_first, can_rest}
use Rattle.structural_ops.specs.Buffers.{prepared_write}
use Rattle.structural_ops.proofs.Prepared.{last_first}
use Rattle.structural_ops.proofs.buffers.+put_all.Goals as goal

pub put_elements-requires : goal.put_elements-requires
put_elements-requires t c =
    can_first c.args.number c.args.row (prepared_write c.in-Some.field-0) (reverse (map prepared_write c.pop.new.self.items)) c.args.store.now
    (subst (λ ws. CanWrite c.args.number c.args.row ws c.args.store.now) (last_first c.args.prepared.now.items c.pop.new.self.items c.in-Some.field-0 c.in-Some.ensures.items) c.requires)

pub put_all-requires : goal.put_all-requires
put_all-requires t c = (
  omega (arith, c.decreases, ap length c.in-Some.ensures.items, length-append c.pop.new.self.items (c.in-Some.field-0 ∷ [])),
  subst (λ s. CanWrite c.args.number c.args.row (reverse (map prepared_write c.pop.new.self.items)) s) (sym c.put_elements.ensures.new)
      (can_rest c.args.number c.args.row (prepared_write c.in-Some.field-0) (reverse (map prepared_write c.pop.new.self.items)) c.args.store.now
      (subst (λ ws. CanWrite c.args.number c.args.row ws c.args.store.now) (last_first c.args.prepared.now.items c.pop.new.self.items c.in-Some.field-0 c.in-Some.ensures.items) c.requires)),
)
