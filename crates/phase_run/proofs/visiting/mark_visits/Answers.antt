use Rattle.std.proofs.Common.{◌∙◌, ◌++◌, ◌∷◌, [], List, sym, ap, subst, take}
use Rattle.std.specs.Prelude.{⊤}
use Rattle.std.proofs.lemmas.List.{take_more}
use Rattle.structural_ops.specs.Numbered.{HasBlock, types_written, with_each}
use Rattle.structural_ops.specs.Worlds.{WorldState}
use Rattle.item_run.proofs.Done.{in_at}
use Rattle.query_select.specs.declared.visits.Visit.{Visit}
use Rattle.phase_run.specs.After.{visit_marked}
use Rattle.phase_run.proofs.Marking.{marked_more, none_marked}
use Rattle.phase_run.proofs.Numbers.{there_changed}
use Rattle.phase_run.proofs.visiting.mark_visits.Goals as goal

pub loop-visit-init : goal.loop-visit-init
loop-visit-init c = sym (none_marked c.args.world.now.world.moment c.args.types.now c.args.world.now)

pub mark_written-requires : goal.mark_written-requires
mark_written-requires c =
    let w = c.args.world.now in
    let v = c.visit-item.result in
    subst (HasBlock v.block (λ _. ⊤)) (sym c.loop-visit.invariant)
    (there_changed v.block (visit_marked (take c.loop-visit.visit-index c.args.visits.now) w.world.moment c.args.types.now) w.numbers w.world.blocks
    (c.requires v (in_at c.args.visits.now c.loop-visit.visit-index v c.loop-visit-test.true c.visit-item.is)))

pub loop-visit-preserved : goal.loop-visit-preserved
loop-visit-preserved c =
    let w = c.args.world.now in
    let vs = c.args.visits.now in
    let k = c.loop-visit.visit-index in
    let v = c.visit-item.result in
    let now = w.world.moment in
    let types = c.args.types.now in
    c.mark_written.ensures
    ∙ (ap (λ (y : WorldState). with_each (types_written v.block y.world.moment types) y) c.loop-visit.invariant
    ∙ (marked_more now types (take k vs) v w
    ∙ ap (λ (us : List Visit). with_each (visit_marked us now types) w)
    (sym (take_more vs k v c.loop-visit-test.true ∙ ap (λ (u : Visit). take k vs ++ u ∷ []) (sym c.visit-item.is)))))
