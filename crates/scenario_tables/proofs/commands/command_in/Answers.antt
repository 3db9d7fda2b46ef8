use Rattle.std.proofs.Common.{refl}
use Rattle.scenario_tables.specs.ReadCommands.{command}
use Rattle.scenario_tables.proofs.FirstFaultLemmas.{reads, leaves, settles, answered}
use Rattle.scenario_tables.proofs.commands.command_in.Goals as goal

pub returns : goal.returns
unfolding command
returns c =
    let act = rw (c.as_slice.ensures.value, c.in_ok-made.ensures) at c.required_after-act.ensures in
    answered (leaves _ (reads c.in_ok-table.ensures) (leaves _ c.optional-buffer.ensures.answer (leaves _ c.optional-when.ensures.answer
    (leaves _ c.optional-key.ensures.answer (leaves _ act (settles _ refl c.settled.ensures))))))
