use Rattle.std.proofs.Common.{◌++◌, ap, sym, ◌∙◌, append_assoc}
use Rattle.expr_grammar.specs.Machine.{tails}
use Rattle.expr_steps.specs.Expecting.{expected_of, rest_of, symbols}
use Rattle.expr_steps.proofs.Tails.{tails_are}
use Rattle.expr_steps.proofs.Things.{operators_are, things_are}
use Rattle.expr_steps.proofs.expand.push_accepted.Goals as goal

pub returns-in_ok-push_rest-in-Operand : goal.returns-in_ok-push_rest-in-Operand
returns-in_ok-push_rest-in-Operand c =
    let low = symbols c.args.expected.now in
    ap symbols c.in_ok-push_rest-in-Operand.ensures ∙ things_are c.in-Operand.left _
    ∙ ap (λ w. rest_of c.in-Operand.left ++ w)
    (ap symbols c.in_ok-push_operators-in-Operand.ensures ∙ operators_are 0 c.in-Operand.level c.in-Operand.depth c.args.expected.now
    ∙ ap (λ ts. ts ++ low) (sym (tails_are c.in-Operand.level c.in-Operand.depth)))
    ∙ sym (append_assoc (rest_of c.in-Operand.left) (tails c.in-Operand.level c.in-Operand.depth) low)
    ∙ ap (λ a. expected_of a ++ low) (sym c.in-Operand.is)

pub returns-in_ok-push_rest-in-Other : goal.returns-in_ok-push_rest-in-Other
returns-in_ok-push_rest-in-Other c =
    ap symbols c.in_ok-push_rest-in-Other.ensures ∙ things_are c.in-Other.left c.args.expected.now
    ∙ ap (λ a. expected_of a ++ symbols c.args.expected.now) (sym c.in-Other.is)
