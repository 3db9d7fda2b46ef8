use Rattle.std.proofs.Common.{◌≡◌, ◌≢◌, ℕ, ◌<◌, length, filter, not, sym, ap, ◌∙◌, subst, arith}
use Rattle.chunk_block.specs.Blocks.{BlockState, IsWhole}
use Rattle.world_model.specs.World.{capacity}
use Rattle.archetype_store.specs.Stores.{registry_of, StoreState, Numbered, OfBlock, is_emptied, without_row}
use Rattle.archetype_store.proofs.Writes.{of-changed}
use Rattle.archetype_store.proofs.Left.{emptied-goes, of-each, of-each-in, others-stay}
use Rattle.archetype_store.proofs.store.ArchetypeStore.leave.Goals as goal

abbrev Asked : ℕ → Numbered → Type 0
Asked row b = (row < length b.block.rows) × IsWhole b.block.columns

pub block-requires : goal.block-requires
block-requires c =
    subst (λ (v : StoreState). OfBlock c.args.number (λ _. Unit {0}) v.blocks) (sym c.remove_row-moved.ensures.store)
    (of-changed c.args.number (without_row c.args.row) (λ _. Unit {0}) (Asked c.args.row) c.args.self.now.blocks c.requires (λ b _. tt))

pub remove_block-requires : goal.remove_block-requires
remove_block-requires c =
    let mid : StoreState = c.remove_row-moved.new.self in
    of-each-in c.args.number (λ b. c.block.result.now ≡ b.block) (λ b. length b.block.rows < b.block.capacity) mid.blocks c.block.ensures
    (λ b is same.
    let of = c.is_sound.ensures.blocks b is in
    omega (
      arith,
      ap (λ (x : BlockState). length x.rows) same,
      c.len.ensures.value,
      c.if-len-eq0.true,
      of.capacity,
      ap (λ ts. capacity (registry_of mid) ts) of.types,
      c.is_sound.ensures.fit b.archetype of.there,
    ))

pub returns-then-len-eq0-clause-blocks : goal.returns-then-len-eq0-clause-blocks
returns-then-len-eq0-clause-blocks c =
    let mid : StoreState = c.remove_row-moved.new.self in
    let keep : Numbered → _ = λ (b : Numbered). not (is_emptied c.args.number b) in
    let empty : OfBlock c.args.number (λ b. length b.rows ≡ 0) mid.blocks =
    of-each c.args.number (λ b. c.block.result.now ≡ b) (λ b. length b.rows ≡ 0) mid.blocks c.block.ensures (λ b is. omega (arith, ap (λ (x : BlockState). length x.rows) is, c.len.ensures.value, c.if-len-eq0.true)) in
    record {
      registry = c.close_gaps.ensures.registry ∙ c.remove_block.ensures.registry ∙ ap (λ (v : StoreState). v.registry) c.remove_row-moved.ensures.store;
      archetypes = c.close_gaps.ensures.archetypes ∙ c.remove_block.ensures.archetypes ∙ ap (λ (v : StoreState). v.archetypes) c.remove_row-moved.ensures.store;
      blocks =
          c.close_gaps.ensures.blocks ∙ c.remove_block.ensures.blocks ∙ sym (emptied-goes c.args.number mid.blocks c.is_sound.ensures.numbers empty)
          ∙ ap (λ (v : StoreState). filter keep v.blocks) c.remove_row-moved.ensures.store;
    }

pub returns-else-len-eq0-clause-blocks : goal.returns-else-len-eq0-clause-blocks
returns-else-len-eq0-clause-blocks c =
    let mid : StoreState = c.remove_row-moved.new.self in
    let keep : Numbered → _ = λ (b : Numbered). not (is_emptied c.args.number b) in
    let some : OfBlock c.args.number (λ b. length b.rows ≢ 0) mid.blocks =
    of-each c.args.number (λ b. c.block.result.now ≡ b) (λ b. length b.rows ≢ 0) mid.blocks c.block.ensures (λ b is none. c.if-len-eq0.false (c.len.ensures.value ∙ ap (λ (x : BlockState). length x.rows) is ∙ none)) in
    record {
      registry = ap (λ (v : StoreState). v.registry) c.remove_row-moved.ensures.store;
      archetypes = ap (λ (v : StoreState). v.archetypes) c.remove_row-moved.ensures.store;
      blocks = sym (others-stay c.args.number mid.blocks c.is_sound.ensures.numbers some) ∙ ap (λ (v : StoreState). filter keep v.blocks) c.remove_row-moved.ensures.store;
    }
