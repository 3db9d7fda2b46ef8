use Rattle.std.specs.Prelude.{not, ◌&&◌}
use Rattle.expr_grammar.specs.Machine.{ids}
use Rattle.expr_read.specs.ScopeOf.{allows_of, is_listed}
use Rattle.expr_read.proofs.TypesLeft.{LeftFrom}
use Rattle.expr_read.proofs.scope.Scope.has_left.Given as goal

abbrev pub invariant-loop-at : goal.invariant-loop-at
invariant-loop-at l = LeftFrom (λ ty. allows_of l.self.registry.now l.self.place l.self.bound.now l.role ty && not (is_listed (ids l.used) ty)) l.self.registry.now l.at
