use Rattle.std.proofs.Common.{ap, map, rules}
use Rattle.phase_core.proofs.Keeps.{opened_kept, sound}
use Rattle.phase_core.proofs.machine.Machine.new.Goals as goal

pub invariant_of-result : goal.invariant_of-result
invariant_of-result g c = opened_kept _ _ _ _ (ap (λ v. map g.I.ItemWork.work v.items) c.of.ensures) (search rules) c.requires.unrun c.requires.workers

pub returns-clause-sound : goal.returns-clause-sound
returns-clause-sound g c = sound _ (invariant_of-result g c)
