use Rattle.block_laws.proofs.Written.{comes_back}
use Rattle.block_laws.proofs.writes.loan_comes_back.Goals as goal

pub returns : goal.returns
returns c = comes_back
