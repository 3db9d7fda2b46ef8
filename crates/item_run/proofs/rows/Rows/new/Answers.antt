use Rattle.std.proofs.Common.{◌≤◌, length, arith}
use Rattle.ent_types.specs.declared.limits.TheConstants.{MOST_BLOCK_ROWS}
use Rattle.item_run.specs.ItemRows.{RowsState}
use Rattle.item_run.proofs.Seen.{block_is, lawful_rows}
use Rattle.item_run.proofs.rows.Rows.new.Goals as goal

pub invariant_of-result : goal.invariant_of-result
invariant_of-result c =
    let x : RowsState = record { frozen = c.args.frozen.now; loan = c.args.loan.now; item = c.args.item; frame = c.args.frame } in
    let b = c.block-block.result.now in
    let few : length b.rows ≤ MOST_BLOCK_ROWS = omega (arith, c.len.ensures, c.capacity.ensures) in
    record {
      rows = c.requires;
      lawful = lawful_rows x c.requires c.number.result c.number.ensures b c.block-block.ensures.block c.block-block.ensures.home c.block-block.ensures.blank c.types.ensures.cells few;
      registry_is = c.registry.ensures;
      block_is = block_is x c.requires c.number.result c.number.ensures b c.block-block.ensures.block c.block-block.ensures.home c.block-block.ensures.blank c.types.ensures.cells few;
    }

pub returns-clause-lawful : goal.returns-clause-lawful
returns-clause-lawful c =
    let x : RowsState = record { frozen = c.args.frozen.now; loan = c.args.loan.now; item = c.args.item; frame = c.args.frame } in
    let b = c.block-block.result.now in
    let few : length b.rows ≤ MOST_BLOCK_ROWS = omega (arith, c.len.ensures, c.capacity.ensures) in
    lawful_rows x c.requires c.number.result c.number.ensures b c.block-block.ensures.block c.block-block.ensures.home c.block-block.ensures.blank c.types.ensures.cells few
