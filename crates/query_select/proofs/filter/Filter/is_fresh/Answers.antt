use Rattle.std.proofs.Common.{◌∙◌, ◌&&◌, ◌||◌, ap, ap₂, sym, ne_eqb}
use Rattle.std.specs.List.{list_any}
use Rattle.system_version.specs.Versions.{is_later}
use Rattle.chunk_block.specs.Blocks.{mark_at}
use Rattle.query_select.proofs.Freshness.{fresh_is}
use Rattle.query_select.proofs.filter.Filter.is_fresh.Goals as goal

pub returns-then-any_changed : goal.returns-then-any_changed
returns-then-any_changed c = λ home.
    let filter = c.args.self.now in
    let block = c.args.block.now in
    let last = c.args.last.0 in
    c.if-any_changed.true
    ∙ sym (fresh_is filter last home block.marks block.rows block.order c.requires.once c.requires.marked
    ∙ ap₂ (λ e n. e || (n || (list_any (λ t. is_later (mark_at t block.marks) last) filter.changed || (filter.order && is_later block.order last))))
    (ne_eqb last 0 c.if-last-eq0.false) (sym c.asks_for_nothing.ensures ∙ c.if-asks_for_nothing.false)
    ∙ ap (λ a. a || (filter.order && is_later block.order last)) (sym c.any_changed.ensures ∙ c.if-any_changed.true))

pub returns-then-self : goal.returns-then-self
returns-then-self c = λ home.
    let filter = c.args.self.now in
    let block = c.args.block.now in
    let last = c.args.last.0 in
    c.did_change.ensures.value ∙ ap (λ v. is_later v last) c.order_version.ensures
    ∙ sym (fresh_is filter last home block.marks block.rows block.order c.requires.once c.requires.marked
    ∙ ap₂ (λ e n. e || (n || (list_any (λ t. is_later (mark_at t block.marks) last) filter.changed || (filter.order && is_later block.order last))))
    (ne_eqb last 0 c.if-last-eq0.false) (sym c.asks_for_nothing.ensures ∙ c.if-asks_for_nothing.false)
    ∙ ap₂ (λ a o. a || (o && is_later block.order last)) (sym c.any_changed.ensures ∙ c.if-any_changed.false) c.if-self.true)

pub returns-else-self : goal.returns-else-self
returns-else-self c = λ home.
    let filter = c.args.self.now in
    let block = c.args.block.now in
    let last = c.args.last.0 in
    c.if-self.false
    ∙ sym (fresh_is filter last home block.marks block.rows block.order c.requires.once c.requires.marked
    ∙ ap₂ (λ e n. e || (n || (list_any (λ t. is_later (mark_at t block.marks) last) filter.changed || (filter.order && is_later block.order last))))
    (ne_eqb last 0 c.if-last-eq0.false) (sym c.asks_for_nothing.ensures ∙ c.if-asks_for_nothing.false)
    ∙ ap₂ (λ a o. a || (o && is_later block.order last)) (sym c.any_changed.ensures ∙ c.if-any_changed.false) c.if-self.false)
