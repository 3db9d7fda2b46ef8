use Rattle.std.proofs.Common.{◌≡◌, ◌++◌, drop}
use Rattle.scenario_tables.specs.ReadCommands.{made_from}
use Rattle.scenario_tables.proofs.commands.made_by.Given as goal

abbrev pub invariant-loop-i : goal.invariant-loop-i
invariant-loop-i l = (l.made.items ++ made_from l.i l.buffer (drop l.i l.earlier)) ≡ made_from 0 l.buffer l.earlier
