use Rattle.std.proofs.Common.{◌≡◌, ◌∙◌, ap, sym, length, [], ◌∷◌, rules}
use Rattle.ent_types.proofs.TypeWalk.{next_type-empty, first_and_others}
use Rattle.ent_types.proofs.type_set.TypesIterator.next.Goals as goal

first : (c : goal.After-self-1) → c.args.self.now ≡ c.in_ok-first.first.0 ∷ c.without-self-inside.result
first c =
    sym c.self.view_is ∙ (first_and_others 256 c.in_ok-first.first.0 c.self.inside.left c.next_from.ensures.rising c.in_ok-first.ensures.value).1
    ∙ ap (λ types. c.in_ok-first.first.0 ∷ types) (sym c.without-self-inside.ensures.value)

pub returns-in_err-first-clause-steps : goal.returns-in_err-first-clause-steps
returns-in_err-first-clause-steps c =
    let empty : c.args.self.now ≡ [] = sym c.self.view_is ∙ next_type-empty c.self.inside.left (sym c.in_err-first.ensures.value) in
    rw c.from_residual.ensures (empty, empty)

pub without-self-inside-requires : goal.without-self-inside-requires
without-self-inside-requires c =
    (first_and_others 256 c.in_ok-first.first.0 c.self.inside.left c.next_from.ensures.rising c.in_ok-first.ensures.value).0

pub returns-clause-steps : goal.returns-clause-steps
returns-clause-steps c = first c

pub returns-clause-goes : goal.returns-clause-goes
returns-clause-goes c = let shorter : length c.args.self.now ≡ length (c.in_ok-first.first.0 ∷ c.without-self-inside.result) = ap length (first c) in search rules
