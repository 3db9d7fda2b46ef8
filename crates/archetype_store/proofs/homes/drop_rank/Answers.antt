use Rattle.std.proofs.Common.{List, ℕ, Ok, Err, sym, subst}
use Rattle.std.proofs.lemmas.List.Sorted.{searched}
use Rattle.archetype_store.specs.Homes.{LosesRank}
use Rattle.archetype_store.proofs.RankLists.{has-not, loses-rank, ordered}
use Rattle.archetype_store.proofs.homes.drop_rank.Goals as goal

pub returns-in-Ok-clause-ranks : goal.returns-in-Ok-clause-ranks
returns-in-Ok-clause-ranks c =
    let xs : List ℕ = c.args.ranks.now.items in
    let found = searched xs c.args.rank (Ok c.in-Ok.place) (rw (← c.deref.ensures.value) c.in-Ok.ensures.position) (ordered xs c.requires.rising) in
    subst (λ ys. LosesRank xs ys c.args.rank) (sym c.remove.ensures.items) (loses-rank xs c.in-Ok.place c.args.rank c.requires.rising found.0 found.1)

pub returns-in_default-clause-ranks : goal.returns-in_default-clause-ranks
returns-in_default-clause-ranks c =
    let xs : List ℕ = c.args.ranks.now.items in
    let lacks = searched xs c.args.rank (Err c.in_default.field-0) (rw (← c.deref.ensures.value) c.in_default.ensures.position) (ordered xs c.requires.rising) in
    absurd (has-not xs c.in_default.field-0 c.args.rank lacks.1 lacks.2 c.requires.there)
