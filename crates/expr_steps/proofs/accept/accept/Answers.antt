use Rattle.std.proofs.Common.{ℕ, ◌≡◌, refl, ◌∙◌}
use Rattle.expr_tokens.specs.Tokens.{Token}
use Rattle.expr_tokens.specs.Seen.{token_seen}
use Rattle.expr_grammar.specs.Scopes.{Scope}
use Rattle.expr_steps.specs.declared.expected.Expected.{Expected}
use Rattle.expr_steps.specs.declared.expected.Expected.TheVariants as expect
use Rattle.expr_steps.specs.Expecting.{take_rest, takes}
use Rattle.expr_steps.proofs.accept.accept.Goals as goal

no_operand : (s : Scope) (limit : ℕ) (e : Expected) (t : Token) → ((level depth : ℕ) → e ≡ expect.Level level depth → ⊥) → take_rest s limit e t ≡ takes s limit e t
no_operand s limit (expect.Level level depth) t never = absurd (never level depth refl)
no_operand s limit e t never = refl

pub returns-in-Some-rest : goal.returns-in-Some-rest
returns-in-Some-rest g c =
    c.in-Some-rest.ensures ∙ no_operand (g.N.Names.scope c.args.names.now) c.args.limit c.args.expected.now (token_seen c.args.token) c.in_default.not-Level
