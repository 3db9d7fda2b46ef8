use Rattle.scenario_faults.proofs.LabelLemmas.{labels_all}
use Rattle.scenario_faults.proofs.events.labels_of.Goals as goal

pub returns : goal.returns
returns c = labels_all c.args.events.now c.loop-event.event-index c.loop-event.labels.keys c.loop-event-test.false c.loop-event.invariant
