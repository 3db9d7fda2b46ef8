use Rattle.run_laws.proofs.Matches.{matches_pass}
use Rattle.run_laws.proofs.rows_that_match_have_types_that_pass.Goals as goal

pub returns : goal.returns
returns c = λ registry s x h. matches_pass registry s x h
