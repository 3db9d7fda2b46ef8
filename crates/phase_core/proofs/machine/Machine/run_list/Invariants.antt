use Rattle.std.proofs.Common.{◌≡◌, take}
use Rattle.phase_core.specs.Core.{AllLawful, after_all, IsSound}
use Rattle.phase_core.specs.Phase.{core_of}
use Rattle.phase_core.proofs.machine.Machine.run_list.Given as goal

abbrev pub invariant-loop-step : goal.invariant-loop-step
invariant-loop-step g l = (AllLawful (core_of g.I.ItemWork.work l.initial.self) (take l.step-index l.steps)) × (core_of g.I.ItemWork.work l.self ≡ after_all (core_of g.I.ItemWork.work l.initial.self) (take l.step-index l.steps)) × IsSound (core_of g.I.ItemWork.work l.self)
