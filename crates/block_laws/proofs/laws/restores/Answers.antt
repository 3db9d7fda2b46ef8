use Rattle.std.proofs.Common.{◌∙◌, ap, map}
use Rattle.chunk_block.specs.Blocks.{BlockState, LoanState, lent_type, lent_row}
use Rattle.block_laws.specs.Lending.{given_back}
use Rattle.block_laws.proofs.Restored.{restored}
use Rattle.block_laws.proofs.laws.restores.Goals as goal

pub returns : goal.returns
returns c =
    let b = c.args.block.now in
    let ts = c.args.types.now in
    let bare : BlockState = record b { columns = map (lent_type ts) b.columns; rows = map (lent_row ts) b.rows } in
    c.give_back.ensures.block
    ∙ (ap (λ (x : BlockState). given_back x c.lend-loan.result) c.lend-loan.ensures.block
    ∙ (ap (λ (l : LoanState). given_back bare l) c.lend-loan.ensures.loan
    ∙ restored ts b c.types.ensures.distinct c.types.ensures.cells c.requires))
