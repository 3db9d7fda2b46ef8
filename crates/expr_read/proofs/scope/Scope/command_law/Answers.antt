use Rattle.std.proofs.Common.{length, ap, arith}
use Rattle.expr_read.proofs.CommandScopeLaws.{scope_serves_commands}
use Rattle.expr_read.proofs.scope.Scope.command_law.Goals as goal

pub returns : goal.returns
returns c = scope_serves_commands c.args.self.now.registry.now c.types.ensures.lawful c.args.self.now.place c.args.self.now.bound.now c.args.self.now.made.now (omega (arith, ap length c.iter.ensures.rest))
