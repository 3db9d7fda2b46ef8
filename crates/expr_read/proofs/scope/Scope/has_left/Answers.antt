use Rattle.std.proofs.Common.{not, ◌&&◌, refl, sym, ◌∙◌, arith}
use Rattle.expr_grammar.specs.Machine.{ids}
use Rattle.expr_read.specs.ScopeOf.{allows_of, is_listed}
use Rattle.expr_read.proofs.TypesLeft.{found_at, passed_by, none_found}
use Rattle.expr_read.proofs.scope.Scope.has_left.Goals as goal

pub loop-at-init : goal.loop-at-init
loop-at-init c = refl

pub returns-then-may_join : goal.returns-then-may_join
returns-then-may_join c =
    sym (found_at (λ ty. allows_of c.args.self.now.registry.now c.args.self.now.place c.args.self.now.bound.now c.args.role ty && not (is_listed (ids c.args.used) ty)) c.args.self.now.registry.now c.loop-at.at (omega arith) (sym c.may_join.ensures ∙ c.if-may_join.true) c.loop-at.invariant)

pub loop-at-preserved : goal.loop-at-preserved
loop-at-preserved c =
    passed_by (λ ty. allows_of c.args.self.now.registry.now c.args.self.now.place c.args.self.now.bound.now c.args.role ty && not (is_listed (ids c.args.used) ty)) c.args.self.now.registry.now c.loop-at.at (omega arith) (sym c.may_join.ensures ∙ c.if-may_join.false) c.loop-at.invariant

pub returns : goal.returns
returns c =
    sym (none_found (λ ty. allows_of c.args.self.now.registry.now c.args.self.now.place c.args.self.now.bound.now c.args.role ty && not (is_listed (ids c.args.used) ty)) c.args.self.now.registry.now c.loop-at.at (omega arith) c.loop-at.invariant)
