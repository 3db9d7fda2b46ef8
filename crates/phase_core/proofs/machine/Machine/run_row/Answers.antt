use Rattle.std.proofs.Common.{◌≡◌, ◌<◌, ◌+◌, ◌∙◌, sym, ap, subst, arith, Some, slice_get, map, length, take, drop, ◌++◌}
use Rattle.std.proofs.lemmas.Grind.{common_steps}
use Rattle.std.proofs.lemmas.Option.{slice_get_within}
use Rattle.phase_core.specs.Core.{IsKept, rows_of, ran_of, with_row_run, with_worker}
use Rattle.phase_core.specs.Phase.{core_of}
use Rattle.phase_core.specs.declared.machine.WorkerState.TheVariants.{AtRow}
use Rattle.phase_core.proofs.Keeps.{row_kept, ran_of-held, sound}
use Rattle.phase_core.proofs.machine.Machine.run_row.Goals as goal

pub returns-in_default-clause-sound : goal.returns-in_default-clause-sound
returns-in_default-clause-sound g c = sound _ (subst (λ p. IsKept (core_of g.I.ItemWork.work p)) c.self.view_is c.self.invariant)

pub returns-then-row-rows_at-clause-sound : goal.returns-then-row-rows_at-clause-sound
returns-then-row-rows_at-clause-sound g c = sound _ (subst (λ p. IsKept (core_of g.I.ItemWork.work p)) c.self.view_is c.self.invariant)

pub run_row_at-requires-clause-next : goal.run_row_at-requires-clause-next
run_row_at-requires-clause-next g c =
    let here : slice_get c.self.inside.workers.items c.args.worker ≡ Some (AtRow c.in-Some-AtRow.item c.in-Some-AtRow.row) =
    ap (λ p. slice_get p.workers c.args.worker) c.self.view_is ∙ sym c.state_of.ensures ∙ c.in-Some-AtRow.is ∙ ap Some c.in-Some-AtRow.field-0-is in
    let before = core_of g.I.ItemWork.work record { opened = c.self.inside.opened.value.items; items = c.self.inside.items.items; next = c.self.inside.next; workers = c.self.inside.workers.items } in
    sym (ran_of-held before c.args.worker c.in-Some-AtRow.item c.in-Some-AtRow.row c.self.invariant here)
    ∙ ap (λ items. ran_of (map g.I.ItemWork.work items) c.in-Some-AtRow.item) (sym c.deref_mut.ensures.value)

pub returns-in_err-run_row_at-clause-sound : goal.returns-in_err-run_row_at-clause-sound
returns-in_err-run_row_at-clause-sound g c =
    let before = core_of g.I.ItemWork.work record { opened = c.self.inside.opened.value.items; items = c.self.inside.items.items; next = c.self.inside.next; workers = c.self.inside.workers.items } in
    let whole : take c.self.inside.items.len (c.run_row_at.new.items ++ drop (length c.run_row_at.new.items) c.self.inside.items.items) ≡ c.run_row_at.new.items = grind (arith, common_steps) in
    let same : map g.I.ItemWork.work (take c.self.inside.items.len (c.run_row_at.new.items ++ drop (length c.run_row_at.new.items) c.self.inside.items.items)) ≡ map g.I.ItemWork.work c.self.inside.items.items =
    ap (map g.I.ItemWork.work) whole ∙ c.in_err-run_row_at.ensures.err ∙ ap (map g.I.ItemWork.work) c.deref_mut.ensures.value in
    sound _ (subst (λ items. IsKept (record before { items = items })) (sym same) c.self.invariant)

pub index_mut-requires : goal.index_mut-requires
index_mut-requires g c =
    let here : slice_get c.self.inside.workers.items c.args.worker ≡ Some (AtRow c.in-Some-AtRow.item c.in-Some-AtRow.row) =
    ap (λ p. slice_get p.workers c.args.worker) c.self.view_is ∙ sym c.state_of.ensures ∙ c.in-Some-AtRow.is ∙ ap Some c.in-Some-AtRow.field-0-is in
    let within = slice_get_within c.self.inside.workers.items c.args.worker (AtRow c.in-Some-AtRow.item c.in-Some-AtRow.row) here in
    omega (arith, c.self.inside.workers.ok)

pub invariant_of-self-2 : goal.invariant_of-self-2
invariant_of-self-2 g c =
    let here : slice_get c.self.inside.workers.items c.args.worker ≡ Some (AtRow c.in-Some-AtRow.item c.in-Some-AtRow.row) =
    ap (λ p. slice_get p.workers c.args.worker) c.self.view_is ∙ sym c.state_of.ensures ∙ c.in-Some-AtRow.is ∙ ap Some c.in-Some-AtRow.field-0-is in
    let before = core_of g.I.ItemWork.work record { opened = c.self.inside.opened.value.items; items = c.self.inside.items.items; next = c.self.inside.next; workers = c.self.inside.workers.items } in
    let left : c.in-Some-AtRow.row < rows_of (map g.I.ItemWork.work c.self.inside.items.items) c.in-Some-AtRow.item =
    subst (λ items. c.in-Some-AtRow.row < rows_of (map g.I.ItemWork.work items) c.in-Some-AtRow.item) c.deref.ensures.value (subst (λ n. c.in-Some-AtRow.row < n) c.rows_at.ensures c.if-row-rows_at.false) in
    let whole : take c.self.inside.items.len (c.run_row_at.new.items ++ drop (length c.run_row_at.new.items) c.self.inside.items.items) ≡ c.run_row_at.new.items = grind (arith, common_steps) in
    let ran : map g.I.ItemWork.work (take c.self.inside.items.len (c.run_row_at.new.items ++ drop (length c.run_row_at.new.items) c.self.inside.items.items)) ≡ with_row_run (map g.I.ItemWork.work c.self.inside.items.items) c.in-Some-AtRow.item =
    ap (map g.I.ItemWork.work) whole ∙ c.in_ok-run_row_at.ensures.ok ∙ ap (λ items. with_row_run (map g.I.ItemWork.work items) c.in-Some-AtRow.item) c.deref_mut.ensures.value in
    subst (λ items. IsKept (record (with_worker before c.args.worker (AtRow c.in-Some-AtRow.item (c.in-Some-AtRow.row + 1))) { items = items })) (sym ran)
    (row_kept before c.args.worker c.in-Some-AtRow.item c.in-Some-AtRow.row c.self.invariant here left)

pub returns-clause-sound : goal.returns-clause-sound
returns-clause-sound g c = sound _ (invariant_of-self-2 g c)
