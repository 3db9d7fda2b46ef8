use Rattle.std.proofs.Common.{◌≡◌, ◌+◌, ◌∙◌, ℕ, List, arith, inl, inr, ap, length, refl, sym, subst}
use Rattle.std.proofs.lemmas.List.{length-map}
use Rattle.ent_types.specs.declared.type_info.TypeInfo.{TypeInfo}
use Rattle.ent_io.specs.Text.{AppendsPrefix, Leaves, appended}
use Rattle.ent_io.proofs.Appends.{leaves_all, leaves_rest, prefix_left_within}
use Rattle.ent_io.proofs.Exits.{exit_writes}
use Rattle.world_model.specs.Members.{In}
use Rattle.chunk_block.specs.Blocks.{BlockState}
use Rattle.archetype_store.specs.Stores.{Numbered, numbered_blocks}
use Rattle.world_text.specs.Layout.{block_line, block_lines}
use Rattle.world_text.specs.Listed.{IsListed}
use Rattle.world_text.proofs.Listing.{all_listed, lines_from, lines_of_world}
use Rattle.world_text.proofs.layout.write_blocks.Goals as goal

pub loop-block-init : goal.loop-block-init
loop-block-init g c =
    let w = c.args.world.now in
    let s = c.store-store.result.now in
    let text = g.W.Sink.text c.args.out.now in
    let whole = block_lines w.world.registry 0 w.world.blocks in
    let is : c.into_iter-block-iterator.result ≡ numbered_blocks s.blocks = c.into_iter-block-iterator.ensures.into_iter_gives ∙ c.blocks-block-items.ensures in
    record {
      text = subst (λ left. Leaves whole left text text) (sym (ap (lines_from w.world.registry 0) is ∙ lines_of_world w s c.store-store.ensures)) (leaves_all whole text);
      faults = refl;
      listed = λ e i. all_listed w s c.store-store.ensures c.is_lawful.ensures e (subst (In e) is i);
      count = (
          let same : length c.into_iter-block-iterator.result ≡ length s.blocks = ap length is ∙ length-map s.blocks (λ (b : Numbered). (let p : ℕ × BlockState = (b.number, b.block) in p)) in
          let few = c.is_sound.ensures.few in
          omega arith);
    }

pub write_block-requires : goal.write_block-requires
write_block-requires g c =
    let e : ℕ × BlockState = (c.in-Some.field-0-0, c.in-Some.block.now) in
    subst (λ (registry : List TypeInfo). IsListed registry c.in-Some.block.now) (sym c.registry-registry.ensures)
    (c.loop-block.invariant.listed e (subst (In e) (sym c.in-Some.ensures.steps) (inl refl)))

pub loop-block-preserved : goal.loop-block-preserved
loop-block-preserved g c =
    let w = c.args.world.now in
    let registry = w.world.registry in
    let b = c.in-Some.block.now in
    let k = c.loop-block.k in
    record {
      text = leaves_rest (block_lines registry 0 w.world.blocks) (lines_from registry k c.loop-block.block-iterator) (block_line registry k b.types (length b.rows)) (lines_from registry (k + 1) c.next.new.self)
          (g.W.Sink.text c.args.out.now) (g.W.Sink.text c.loop-block.out) (g.W.Sink.text c.write_block.new.out) c.loop-block.invariant.text (ap (lines_from registry k) c.in-Some.ensures.steps)
          (subst (λ (r : List TypeInfo). g.W.Sink.text c.write_block.new.out ≡ appended (g.W.Sink.text c.loop-block.out) (block_line r k b.types (length b.rows))) c.registry-registry.ensures
          c.in_ok-write_block.ensures.text);
      faults = c.in_ok-write_block.ensures.causes ∙ c.loop-block.invariant.faults;
      listed = λ e i. c.loop-block.invariant.listed e (subst (In e) (sym c.in-Some.ensures.steps) (inr i));
      count = (let count = c.loop-block.invariant.count in let more = ap length c.in-Some.ensures.steps in omega arith);
    }

pub returns-in_err-write_block-clause-text : goal.returns-in_err-write_block-clause-text
returns-in_err-write_block-clause-text g c =
    let w = c.args.world.now in
    let registry = w.world.registry in
    let b = c.in-Some.block.now in
    let k = c.loop-block.k in
    exit_writes _ _ _ _ c.from_residual.ensures.0
    (prefix_left_within (block_lines registry 0 w.world.blocks) (lines_from registry k c.loop-block.block-iterator) (block_line registry k b.types (length b.rows)) (lines_from registry (k + 1) c.next.new.self)
    (g.W.Sink.text c.args.out.now) (g.W.Sink.text c.loop-block.out) (g.W.Sink.text c.write_block.new.out) c.loop-block.invariant.text (ap (lines_from registry k) c.in-Some.ensures.steps)
    (subst (λ (r : List TypeInfo). AppendsPrefix (block_line r k b.types (length b.rows)) (g.W.Sink.text c.loop-block.out) (g.W.Sink.text c.write_block.new.out)) c.registry-registry.ensures
    c.in_err-write_block.ensures.text))
