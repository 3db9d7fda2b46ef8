use Rattle.std.proofs.Common.{arith}
use Rattle.std.proofs.lemmas.Grind.{common_steps}
use Rattle.scenario_tables.proofs.form.ListOfForm.read.Goals as goal

pub returns-in_err-item-clause-answer : goal.returns-in_err-item-clause-answer
returns-in_err-item-clause-answer g c = grind (arith, common_steps, c.in_ok-values.ensures.found, c.loop-i.invariant)
