use Rattle.std.proofs.Common.{◌≡◌, ◌∙◌, Bool, List, [], ap, sym, subst, arith, length, take, drop, map, false, true, get_or}
use Rattle.std.specs.List.{All}
use Rattle.std.proofs.lemmas.List.{take_at}
use Rattle.system_order.specs.Chain.{chained, earliest_on_cycle, widened}
use Rattle.system_order.specs.Child.{precedes}
use Rattle.system_order.proofs.Rows.{find_here, find_past}
use Rattle.system_order.proofs.Tables.{length-table_row, square_table, table_mark, table_more}
use Rattle.system_order.proofs.cycle.find_cycle.Goals as goal

pub loop-middle-init : goal.loop-middle-init
unfolding chained
loop-middle-init c = c.in_ok-rows.ensures

pub lead_through-requires-clause-square : goal.lead_through-requires-clause-square
lead_through-requires-clause-square c =
    let P : List (List Bool) → Type 0 = λ rows. All (λ row. length row ≡ length rows) rows in
    subst P (sym (c.deref_mut.ensures.value ∙ c.loop-middle.invariant))
    (square_table (chained (precedes c.args.children.now) (take c.loop-middle.middle c.args.siblings.now)) c.args.siblings.now)

pub loop-middle-preserved : goal.loop-middle-preserved
loop-middle-preserved c =
    let e = c.deref_mut.ensures.value ∙ c.loop-middle.invariant in
    take_at c.lead_through.new.rows (drop (length c.lead_through.new.rows) c.loop-middle.rows.items) c.loop-middle.rows.len (omega (arith, c.lead_through.auto.rows, c.deref_mut.ensures.len))
    ∙ c.in_ok-lead_through.ensures
    ∙ ap (λ (rows : List (List Bool)). map (widened (get_or rows c.loop-middle.middle []) c.loop-middle.middle) rows) e
    ∙ table_more (precedes c.args.children.now) c.args.siblings.now c.loop-middle.middle [] c.loop-middle-test.true

pub has-requires : goal.has-requires
has-requires c =
    let leads = chained (precedes c.args.children.now) c.args.siblings.now in
    let row = c.index.ensures ∙ ap (λ (rows : List (List Bool)). get_or rows c.loop-at.at c.index.result.now) c.loop-at.invariant.chains in
    let long : length c.index.result.now ≡ length c.args.siblings.now =
    ap (λ (r : List Bool). length r) row ∙ length-table_row leads c.args.siblings.now c.loop-at.at c.index.result.now c.loop-at-test.true in
    omega (arith, long, c.loop-at-test.true)

pub returns-then-has : goal.returns-then-has
unfolding earliest_on_cycle
returns-then-has c =
    let leads = chained (precedes c.args.children.now) c.args.siblings.now in
    let row = c.index.ensures ∙ ap (λ (rows : List (List Bool)). get_or rows c.loop-at.at c.index.result.now) c.loop-at.invariant.chains in
    let mark = c.has.ensures ∙ ap (λ (r : List Bool). get_or r c.loop-at.at false) row ∙ table_mark leads c.args.siblings.now c.loop-at.at c.index.result.now c.loop-at-test.true in
    sym (find_here (λ sibling. leads sibling sibling) c.args.siblings.now c.loop-at.at 0 c.loop-at-test.true c.loop-at.invariant.none (sym mark ∙ c.if-has.true))

pub loop-at-preserved : goal.loop-at-preserved
loop-at-preserved c =
    let leads = chained (precedes c.args.children.now) c.args.siblings.now in
    let row = c.index.ensures ∙ ap (λ (rows : List (List Bool)). get_or rows c.loop-at.at c.index.result.now) c.loop-at.invariant.chains in
    let mark = c.has.ensures ∙ ap (λ (r : List Bool). get_or r c.loop-at.at false) row ∙ table_mark leads c.args.siblings.now c.loop-at.at c.index.result.now c.loop-at-test.true in
    record {
      chains = c.loop-at.invariant.chains;
      none = find_past (λ sibling. leads sibling sibling) c.args.siblings.now c.loop-at.at 0 c.loop-at-test.true c.loop-at.invariant.none (sym mark ∙ c.if-has.false);
    }
