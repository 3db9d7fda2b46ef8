use Rattle.std.proofs.Common.{◌≡◌, drop}
use Rattle.std.specs.List.{flat_map}
use Rattle.scenario_record.specs.Uses.{in_command}
use Rattle.scenario_faults.specs.Found.{with_uses}
use Rattle.scenario_faults.proofs.uses.in_commands.Given as goal

-- the commands that are left
abbrev pub invariant-loop-command : goal.invariant-loop-command
invariant-loop-command l = with_uses l.found (flat_map in_command (drop l.command-index l.commands)) ≡ with_uses l.initial.found (flat_map in_command l.commands)
