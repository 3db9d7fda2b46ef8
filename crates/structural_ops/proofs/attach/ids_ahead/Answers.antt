use Rattle.std.proofs.Common.{◌≡◌, ◌∙◌, ◌++◌, ◌∷◌, [], ap, sym, List}
use Rattle.ent_types.specs.declared.entity.Entity.{Entity}
use Rattle.entity_table.specs.Table.{Table, made}
use Rattle.world_model.specs.Ids.{next_ids}
use Rattle.structural_ops.proofs.Naming.{next_more}
use Rattle.structural_ops.proofs.attach.ids_ahead.Goals as goal

pub loop-k-preserved : goal.loop-k-preserved
loop-k-preserved c =
    let t : Table = c.args.table.now.table in
    c.in_ok-push.ensures.items
    ∙ ap (λ (es : List Entity). es ++ c.ahead.result ∷ []) c.loop-k.invariant
    ∙ ap (λ e. next_ids c.loop-k.k t.free (made t) t.first_version ++ e ∷ []) c.ahead.ensures
    ∙ sym (next_more c.loop-k.k t.free (made t) t.first_version)
