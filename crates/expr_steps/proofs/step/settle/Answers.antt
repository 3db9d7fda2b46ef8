use Rattle.std.proofs.Common.{ℕ, suc, ◌≡◌, ◌++◌, List, drop, ap, ◌∙◌, add-one}
use Rattle.std.proofs.lemmas.List.{drop-drop}
use Rattle.expr_steps.specs.declared.expected.Expected.{Expected}
use Rattle.expr_steps.specs.Expecting.{symbols, done, action_at, move_of, expected_of}
use Rattle.expr_steps.proofs.Passing.{expanded}
use Rattle.expr_steps.proofs.step.settle.Goals as goal

lowered : (n : ℕ) (old middle low : List Expected) → middle ≡ drop n old → low ≡ drop 1 middle → low ≡ drop (suc n) old
lowered n old middle low m l = l ∙ ap (λ w. drop 1 w) m ∙ drop-drop 1 n old ∙ ap (λ k. drop k old) (add-one n)

pub returns-in_ok-expand-in-Some : goal.returns-in_ok-expand-in-Some
returns-in_ok-expand-in-Some g c =
    let low = lowered c.in-Some.place.above c.args.expected.now c.end_first.new.expected c.lower.new.self c.in_ok-end_first-in-Some.ensures.expected c.lower.ensures in
    expanded c.in-Some.place.accepted (symbols (drop (suc c.in-Some.place.above) c.args.expected.now)) (symbols c.expand.new.expected) _ c.expand.new.operands _
    (c.in-Some.ensures c.args.operands.now)
    (c.in_ok-expand-in-Some.ensures.expects ∙ ap (λ w. expected_of c.in-Some.place.accepted ++ symbols w) low)
    (c.in_ok-expand-in-Some.ensures.builds ∙ ap (λ w. done (action_at (move_of c.in-Some.place.accepted)) w) c.in_ok-end_first-in-Some.ensures.operands)
