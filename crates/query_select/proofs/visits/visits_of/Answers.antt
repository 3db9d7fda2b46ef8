use Rattle.query_select.specs.declared.visits.Candidate.{Candidate}
use Rattle.query_select.specs.Entries.{entry_of}
use Rattle.query_select.specs.Visits.{visits_at}
use Rattle.query_select.proofs.Walks.{get_in, one_more, all_done}
use Rattle.query_select.proofs.visits.visits_of.Goals as goal

pub add_visit-requires : goal.add_visit-requires
add_visit-requires c = c.requires _ (get_in c.args.candidates.now c.loop-candidate.candidate-index (record { rank = 0; number = 0 }) c.loop-candidate-test.true)

pub loop-candidate-preserved : goal.loop-candidate-preserved
loop-candidate-preserved c = λ filter.
    one_more (λ (k : Candidate). visits_at c.args.store.now (entry_of c.args.query.now filter) k.number) c.args.candidates.now c.loop-candidate.candidate-index (record { rank = 0; number = 0 })
    c.loop-candidate.visits.items c.add_visit.new.visits.items _ c.loop-candidate-test.true (c.in_ok-add_visit.ensures filter) (c.loop-candidate.invariant filter)

pub returns : goal.returns
returns c = λ filter.
    all_done (λ (k : Candidate). visits_at c.args.store.now (entry_of c.args.query.now filter) k.number) c.args.candidates.now c.loop-candidate.candidate-index c.loop-candidate.visits.items _
    c.loop-candidate-test.false (c.loop-candidate.invariant filter)
