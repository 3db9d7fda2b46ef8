use Rattle.std.proofs.Common.{◌≡◌, ◌++◌, ◌<◌, ◌∙◌, cond, ap, sym, subst, length, List, [], ℕ, codes}
use Rattle.std.specs.List.{flat_map}
use Rattle.chunk_block.specs.Blocks.{BlockState, row_in}
use Rattle.archetype_store.specs.Stores.{Numbered}
use Rattle.world_places.proofs.Numbers.{of_both, of_more}
use Rattle.world_rows.specs.Reading.{CanRead, found_at}
use Rattle.structural_ops.proofs.Readable.{at_block}
use Rattle.world_text.specs.Lines.{entity_text, type_text}
use Rattle.world_text.proofs.Appended.{three_pieces}
use Rattle.world_text.proofs.Places.{line_there}
use Rattle.world_text.proofs.RowText.{row_line-is}
use Rattle.world_text.proofs.rows.push_row.Goals as goal

pub block-block-requires : goal.block-block-requires
block-block-requires c = of_more c.args.place.block _ _ c.args.store.now.blocks (λ b is. tt) c.requires

pub entity_at-requires : goal.entity_at-requires
entity_at-requires c =
    at_block c.args.place.block (CanRead c.args.registry.now c.args.place.row) c.args.store.now.blocks c.block-block.result.now c.block-block.ensures c.requires
    (λ b is can. subst (λ (s : BlockState). c.args.place.row < length s.rows) (sym is) can.there)

pub push_types-requires : goal.push_types-requires
push_types-requires c =
    of_both c.args.place.block (CanRead c.args.registry.now c.args.place.row) (λ (b : Numbered). c.block-block.result.now ≡ b.block) _ c.args.store.now.blocks
    (λ b can is. (can, c.types.ensures.value ∙ ap (λ (s : BlockState). s.types) is)) c.requires c.block-block.ensures

pub dying-requires : goal.dying-requires
dying-requires c =
    at_block c.args.place.block (CanRead c.args.registry.now c.args.place.row) c.args.store.now.blocks c.block-block.result.now c.block-block.ensures c.requires
    (λ b is can. subst (λ (s : BlockState). c.args.place.row < length s.rows) (sym is) can.there)

pub returns : goal.returns
returns c =
    let registry = c.args.registry.now in
    let k = c.args.place.row in
    let blocks = c.args.store.now.blocks in
    let now = c.block-block.result.now in
    line_there registry c.args.place c.args.line.now.items c.extend_from_slice.new.self.items blocks
    (of_both c.args.place.block (λ (b : Numbered). CanRead registry k b × (now ≡ b.block))
    (λ (b : Numbered). c.push_types.new.line.items ≡ c.push_entity.new.line.items ++ flat_map (type_text registry (found_at k b)) b.block.types) _ blocks
    (λ b is pushed. (
      is.0.there,
      three_pieces c.args.line.now.items (entity_text (row_in k b.block.rows).entity) (flat_map (type_text registry (found_at k b)) b.block.types)
          (cond (row_in k b.block.rows).dying (codes " dying") [] ++ codes "\n") c.push_entity.new.line.items c.push_types.new.line.items c.extend_from_slice.new.self.items
          (c.in_ok-push_entity.ensures ∙ ap (λ e. c.args.line.now.items ++ entity_text e) (c.entity_at.ensures ∙ ap (λ (s : BlockState). (row_in k s.rows).entity) is.1))
          pushed
          (c.in_ok-extend_from_slice.ensures.items
          ∙ ap (λ (text : List ℕ). c.push_types.new.line.items ++ text)
          (c.after_types.ensures ∙ ap (λ d. cond d (codes " dying") [] ++ codes "\n") (c.dying.ensures ∙ ap (λ (s : BlockState). (row_in k s.rows).dying) is.1)))
          ∙ ap (λ (text : List ℕ). c.args.line.now.items ++ text) (sym (row_line-is registry (found_at k b))),
    ))
    (of_both c.args.place.block (CanRead registry k) (λ (b : Numbered). now ≡ b.block) (λ (b : Numbered). CanRead registry k b × (now ≡ b.block)) blocks (λ b can is. (can, is)) c.requires c.block-block.ensures)
    c.in_ok-push_types.ensures)
