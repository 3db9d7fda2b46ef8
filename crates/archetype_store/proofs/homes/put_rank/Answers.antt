use Rattle.std.proofs.Common.{◌≡◌, List, ℕ, Ok, Err, cond, sym, ap, ◌∙◌, subst, arith}
use Rattle.std.specs.List.{insert}
use Rattle.std.proofs.lemmas.Bool.{false≢true}
use Rattle.std.proofs.lemmas.List.Sorted.{searched}
use Rattle.archetype_store.specs.Homes.{TakesRank}
use Rattle.archetype_store.proofs.RankLists.{has-at, ordered, takes-rank}
use Rattle.archetype_store.proofs.homes.put_rank.Goals as goal

pub returns-in-Err-clause-ranks : goal.returns-in-Err-clause-ranks
returns-in-Err-clause-ranks c =
    let xs : List ℕ = c.args.ranks.now.items in
    let place : ℕ = c.in-Err.place in
    let lacks = searched xs c.args.rank (Err place) (rw (← c.deref.ensures.value) c.in-Err.ensures.position) (ordered xs c.requires.rising) in
    let done : c.insert.new.self.items ≡ insert xs place c.args.rank =
    c.insert.ensures.items ∙ ap (λ b. cond b (insert xs place c.args.rank) xs) (c.insert.ensures.succeeds (omega (arith, c.requires.room))) in
    subst (λ ys. TakesRank xs ys c.args.rank) (sym done) (takes-rank xs place c.args.rank c.requires.rising lacks.0 lacks.1 lacks.2)

pub returns-in_default-clause-ranks : goal.returns-in_default-clause-ranks
returns-in_default-clause-ranks c =
    let xs : List ℕ = c.args.ranks.now.items in
    let found = searched xs c.args.rank (Ok c.in_default.field-0) (rw (← c.deref.ensures.value) c.in_default.ensures.position) (ordered xs c.requires.rising) in
    absurd (false≢true (sym c.requires.new ∙ has-at xs c.in_default.field-0 c.args.rank found.0 found.1))
