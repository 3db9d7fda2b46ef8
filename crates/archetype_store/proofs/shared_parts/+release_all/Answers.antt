use Rattle.std.proofs.Common.{sym, subst}
use Rattle.archetype_store.specs.Holding.{Releases}
use Rattle.archetype_store.proofs.Holding.{releases-more}
use Rattle.archetype_store.proofs.shared_parts.+release_all.Goals as goal

pub returns-in-Some : goal.returns-in-Some
returns-in-Some t c =
    subst (Releases c.args.table.now c.release_all.new.table) (sym c.in-Some.ensures.cases.0)
    (releases-more c.args.table.now c.release.new.self c.release_all.new.table c.in-Some.part.now c.in-Some.rest.now c.release.ensures c.release_all.ensures)
