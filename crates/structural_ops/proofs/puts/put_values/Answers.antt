use Rattle.std.proofs.Common.{◌≡◌, ◌∙◌, ap, refl, sym, subst, length, arith}
use Rattle.std.specs.Prelude.{⊤}
use Rattle.world_model.specs.Part.{part_of as seen}
use Rattle.archetype_store.specs.Stores.{OfBlock, StoreState, with_block_in}
use Rattle.world_rows.specs.Marks.{block_marked}
use Rattle.world_rows.specs.Types.{row_put}
use Rattle.world_rows.specs.Writes.{CanWrite, field_writes, written}
use Rattle.world_rows.proofs.Filled.{values_length}
use Rattle.structural_ops.proofs.Looked.{entity_there}
use Rattle.structural_ops.proofs.Written.{can_mark, can_write, its_row, put_at, takes_values, values_are, written_agrees, written_at}
use Rattle.structural_ops.proofs.puts.put_values.Goals as goal

pub write_fields-requires-clause-room : goal.write_fields-requires-clause-room
write_fields-requires-clause-room c =
    let w = c.args.w.now in
    let (e, at) = put_at w c.args.part.now.ty.0 c.args.place c.requires.there in
    subst (λ vs. CanWrite c.args.place.block c.args.place.row (field_writes c.args.part.now.ty.0 0 vs) w.store) (sym c.as_slice.ensures)
    (can_write w c.requires.consistent e c.args.place at (field_writes c.args.part.now.ty.0 0 c.args.part.now.values)
    (takes_values w c.requires.consistent e c.args.place at c.args.part.now.ty.0 c.requires.there c.requires.own c.requires.plain c.args.part.now.values c.requires.fit.fit))

pub write_fields-requires-clause-few : goal.write_fields-requires-clause-few
write_fields-requires-clause-few c =
    omega (
      arith,
      values_length c.args.w.now.registry c.args.part.now.ty.0 c.args.part.now.values c.requires.plain c.requires.fit.fit,
      c.fields.ensures.width,
      ap length c.fields.ensures.value,
      ap length c.as_slice.ensures,
    )

pub mark-requires : goal.mark-requires
mark-requires c =
    let w = c.args.w.now in
    let (e, at) = put_at w c.args.part.now.ty.0 c.args.place c.requires.there in
    subst (λ (s : StoreState). OfBlock c.args.place.block (λ _. ⊤) s.blocks) (sym c.write_fields.ensures)
    (can_mark w c.requires.consistent e c.args.place at (field_writes c.args.part.now.ty.0 0 c.as_slice.result.now))

pub returns : goal.returns
returns c =
    let w = c.args.w.now in
    let t = c.args.part.now.ty.0 in
    let vs = c.args.part.now.values in
    let (e, at) = put_at w t c.args.place c.requires.there in
    let store : c.mark.new.self ≡ with_block_in c.args.place.block (block_marked t w.version.0) (written c.args.place.block c.args.place.row (field_writes t 0 vs) w.store) =
    c.mark.ensures
    ∙ ap (with_block_in c.args.place.block (block_marked t w.version.0)) (c.write_fields.ensures ∙ ap (λ us. written c.args.place.block c.args.place.row (field_writes t 0 us) w.store) c.as_slice.ensures) in
    let row = its_row w c.requires.consistent e c.args.place at in
    let becomes = values_are w c.requires.consistent e c.args.place at t c.requires.there c.requires.own c.requires.plain vs c.requires.fit.fit in
    let same = entity_there w c.requires.consistent e c.args.place at in
    record {
      agrees = written_agrees w c.requires.consistent e c.args.place at t (field_writes t 0 vs) (row_put (seen c.args.part.now) row) same becomes c.mark.new.self store;
      puts = written_at w c.requires.consistent e c.args.place at t (field_writes t 0 vs) (row_put (seen c.args.part.now) row) same becomes c.mark.new.self store (row_put (seen c.args.part.now)) refl;
    }
