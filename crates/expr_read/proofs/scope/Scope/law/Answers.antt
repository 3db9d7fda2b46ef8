use Rattle.expr_read.proofs.ScopeLaws.{scope_is_lawful}
use Rattle.expr_read.proofs.scope.Scope.law.Goals as goal

pub returns : goal.returns
returns c = scope_is_lawful c.args.self.now.registry.now c.types.ensures.lawful c.args.self.now.place c.args.self.now.bound.now c.args.self.now.made.now
