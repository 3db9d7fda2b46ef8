use Rattle.std.proofs.Common.{◌≡◌, ◌≤◌, ◌∙◌, sym, ap, subst, length}
use Rattle.std.proofs.lemmas.List.{length-map}
use Rattle.ent_types.specs.declared.type_info.FieldInfo.{FieldInfo}
use Rattle.ent_types.specs.Registries.{type_at}
use Rattle.chunk_block.proofs.New.{width_at}
use Rattle.chunk_block.proofs.make.shape_of.Goals as goal

pub returns-clause-width : goal.returns-clause-width
returns-clause-width c = λ is.
    let long : length c.in_ok-kinds.kinds ≡ length (type_at c.args.registry.now c.args.ty.0).fields =
    ap length c.in_ok-kinds.ensures ∙ (length-map c.fields.result.now (λ (f : FieldInfo). f.kind) ∙ ap length c.fields.ensures.value) in
    let width = width_at c.args.registry.now c.types.ensures.lawful c.args.ty.0 (sym c.is_buffer-is_buffer.ensures ∙ is) in
    (subst (λ n. 1 ≤ n) (sym long) width.0, subst (λ n. n ≤ 8) (sym long) width.1)
