use Rattle.std.proofs.Common.{sym, refl, subst}
use Rattle.std.specs.Char.{is_ascii_digit}
use Rattle.expr_tokens.specs.Tokens.{IsLongest, number}
use Rattle.expr_tokens.proofs.Fronts.{all_taken, longest_word, longest_number, longest_sign, begins_none}
use Rattle.expr_tokens.proofs.lexer.token_at.Goals as goal

pub returns-then-is_start : goal.returns-then-is_start
returns-then-is_start c =
    let run = c.run_len-n.ensures in
    longest_word _ _ c.requires.some (sym c.if-is_start.ensures) (record { within = run.within; same = run.same; stops = run.stops })

pub number_value-requires : goal.number_value-requires
number_value-requires c =
    let run = c.run_len-n-then-is_ascii_digit.ensures in
    all_taken is_ascii_digit _ _ run.within run.same

pub returns-then-is_ascii_digit : goal.returns-then-is_ascii_digit
returns-then-is_ascii_digit c =
    let run = c.run_len-n-then-is_ascii_digit.ensures in
    subst (λ v. IsLongest (number v) c.run_len-n-then-is_ascii_digit.result c.args.bytes.now) (sym c.number_value.ensures)
    (longest_number _ _ c.requires.some (sym c.if-is_ascii_digit.ensures.value) (record { within = run.within; same = run.same; stops = run.stops }))

pub returns-in-Some : goal.returns-in-Some
returns-in-Some c = longest_sign _ _ _ (record { start = sym c.if-is_start.ensures; digit = sym c.if-is_ascii_digit.ensures.value }) c.in-Some.ensures

pub returns-in-None : goal.returns-in-None
returns-in-None c = (begins_none _ c.requires.some c.requires.no_space (record { start = sym c.if-is_start.ensures; digit = sym c.if-is_ascii_digit.ensures.value }) c.in-None.ensures, refl)
