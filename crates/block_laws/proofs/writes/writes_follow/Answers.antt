use Rattle.block_laws.proofs.Written.{nothing_written, piece_written}
use Rattle.block_laws.proofs.writes.writes_follow.Goals as goal

pub returns-clause-none : goal.returns-clause-none
returns-clause-none c = nothing_written

pub returns-clause-next : goal.returns-clause-next
returns-clause-next c = piece_written
