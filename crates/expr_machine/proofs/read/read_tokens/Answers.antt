use Rattle.std.proofs.Common.{arith}
use Rattle.std.proofs.lemmas.Result.{MatchResult-weaker, err_from_is_err_and}
use Rattle.expr_steps.specs.Expecting.{symbols}
use Rattle.expr_machine.proofs.TokenSteps.{begun, next_at, refused_at, ran, ends}
use Rattle.expr_machine.proofs.read.read_tokens.Goals as goal

pub loop-lexeme-init : goal.loop-lexeme-init
loop-lexeme-init g c = begun (g.N.Names.scope c.args.names.now) (symbols c.args.expected) c.args.lexemes.now c.new-operands.result c.new-operands.ensures

pub returns-in_err-step : goal.returns-in_err-step
returns-in_err-step g c =
    let p = err_from_is_err_and c.from_residual.result c.from_residual.ensures.1 in
    let r = refused_at (g.N.Names.scope c.args.names.now) (symbols c.args.expected) c.args.lexemes.now c.loop-lexeme.lexeme-index _ (record { waits = symbols c.loop-lexeme.expected; built = c.loop-lexeme.operands }) c.args.end c.in_err-step.field-0.0 c.loop-lexeme-test.true c.loop-lexeme.invariant c.in_err-step.ensures.refused in
    rw (p.1, p.2) r

pub loop-lexeme-preserved : goal.loop-lexeme-preserved
loop-lexeme-preserved g c =
    next_at (g.N.Names.scope c.args.names.now) (symbols c.args.expected) c.args.lexemes.now c.loop-lexeme.lexeme-index _ (record { waits = symbols c.loop-lexeme.expected; built = c.loop-lexeme.operands }) (record { waits = symbols c.step.new.expected; built = c.step.new.operands }) c.loop-lexeme-test.true c.loop-lexeme.invariant c.in_ok-step.ensures.taken

pub returns : goal.returns
returns g c =
    MatchResult-weaker c.finish.result c.finish.ensures
    (λ ws k. ran (g.N.Names.scope c.args.names.now) (symbols c.args.expected) c.args.lexemes.now c.loop-lexeme.lexeme-index (record { waits = symbols c.loop-lexeme.expected; built = c.loop-lexeme.operands }) ws (omega arith) c.loop-lexeme.invariant k)
    (λ f k. ends (g.N.Names.scope c.args.names.now) (symbols c.args.expected) c.args.lexemes.now c.loop-lexeme.lexeme-index (record { waits = symbols c.loop-lexeme.expected; built = c.loop-lexeme.operands }) c.args.end f (omega arith) c.loop-lexeme.invariant k)
