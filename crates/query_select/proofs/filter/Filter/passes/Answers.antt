use Rattle.std.proofs.Common.{ℕ, ◌≡◌, ◌∙◌, ◌&&◌, [], map, ap, sym}
use Rattle.std.specs.Prelude.{⊤}
use Rattle.world_model.specs.Members.{In, AreDistinct}
use Rattle.world_model.specs.World.{mark_type}
use Rattle.chunk_block.specs.Blocks.{BlockState}
use Rattle.world_places.specs.Placing.{home_of}
use Rattle.world_places.proofs.Numbers.{of_more, of_both}
use Rattle.run_model.specs.Clock.{versions}
use Rattle.run_model.specs.Query.{has_shared, is_fresh}
use Rattle.query_select.specs.Entries.{last_run, only_filter}
use Rattle.query_select.specs.Filters.{CanCompareAll, CanFilter, passes_filter}
use Rattle.query_select.proofs.ByNumber.{of_seen}
use Rattle.query_select.proofs.filter.Filter.passes.Goals as goal

pub block-requires : goal.block-requires
block-requires c = of_more c.args.number (CanFilter c.args.self.now) (λ b. ⊤) c.args.store.now.blocks (λ b h. tt) c.requires

pub is_fresh-requires-clause-once : goal.is_fresh-requires-clause-once
is_fresh-requires-clause-once c =
    of_seen c.args.number c.args.store.now.blocks c.block.result.now (CanFilter c.args.self.now) (λ s. AreDistinct (map mark_type s.marks)) (λ b h. h.once) c.requires c.block.ensures

pub is_fresh-requires-clause-marked : goal.is_fresh-requires-clause-marked
is_fresh-requires-clause-marked c =
    of_seen c.args.number c.args.store.now.blocks c.block.result.now (CanFilter c.args.self.now) (λ s. (t : ℕ) → In t c.args.self.now.changed → In t (map mark_type s.marks)) (λ b h. h.marked) c.requires c.block.ensures

pub has_shared-requires : goal.has_shared-requires
has_shared-requires c = of_more c.args.number (CanFilter c.args.self.now) (CanCompareAll c.args.self.now.shared) c.args.store.now.blocks (λ b h. h.shared) c.requires

pub returns-then-is_fresh : goal.returns-then-is_fresh
returns-then-is_fresh c =
    let filter = c.args.self.now in
    of_both c.args.number (λ b. c.has_shared.result ≡ has_shared (only_filter filter) (home_of b)) (λ b. c.block.result.now ≡ b.block) (λ b. c.has_shared.result ≡ passes_filter filter c.args.last.0 b) c.args.store.now.blocks
    (λ b h e. h ∙ ap (λ t. t && has_shared (only_filter filter) (home_of b)) (sym c.if-is_fresh.true ∙ c.is_fresh.ensures (home_of b)
    ∙ ap (λ (s : BlockState). is_fresh [] versions (only_filter filter) (last_run c.args.last.0) (record { home = home_of b; marks = s.marks; rows = s.rows; order = s.order })) e))
    c.has_shared.ensures c.block.ensures

pub returns-else-is_fresh : goal.returns-else-is_fresh
returns-else-is_fresh c =
    let filter = c.args.self.now in
    of_more c.args.number (λ b. c.block.result.now ≡ b.block) (λ b. c.is_fresh.result ≡ passes_filter filter c.args.last.0 b) c.args.store.now.blocks
    (λ b e. c.if-is_fresh.false ∙ ap (λ t. t && has_shared (only_filter filter) (home_of b)) (sym c.if-is_fresh.false ∙ c.is_fresh.ensures (home_of b)
    ∙ ap (λ (s : BlockState). is_fresh [] versions (only_filter filter) (last_run c.args.last.0) (record { home = home_of b; marks = s.marks; rows = s.rows; order = s.order })) e)) c.block.ensures
