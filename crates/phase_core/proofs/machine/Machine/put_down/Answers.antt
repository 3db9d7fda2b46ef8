use Rattle.std.proofs.Common.{◌≡◌, ◌∙◌, sym, ap, subst, arith, Some, slice_get, map}
use Rattle.std.proofs.lemmas.Option.{slice_get_within}
use Rattle.phase_core.specs.Core.{IsKept, rows_of}
use Rattle.phase_core.specs.Phase.{core_of}
use Rattle.phase_core.specs.declared.machine.WorkerState.TheVariants.{AtRow}
use Rattle.phase_core.proofs.Keeps.{put_down_kept, sound}
use Rattle.phase_core.proofs.machine.Machine.put_down.Goals as goal

pub returns-in_default-clause-sound : goal.returns-in_default-clause-sound
returns-in_default-clause-sound g c = sound _ (subst (λ p. IsKept (core_of g.I.ItemWork.work p)) c.self.view_is c.self.invariant)

pub returns-then-row-rows_at-clause-sound : goal.returns-then-row-rows_at-clause-sound
returns-then-row-rows_at-clause-sound g c = sound _ (subst (λ p. IsKept (core_of g.I.ItemWork.work p)) c.self.view_is c.self.invariant)

pub index_mut-requires : goal.index_mut-requires
index_mut-requires g c =
    let here : slice_get c.self.inside.workers.items c.args.worker ≡ Some (AtRow c.in-Some-AtRow.item c.in-Some-AtRow.row) =
    ap (λ p. slice_get p.workers c.args.worker) c.self.view_is ∙ sym c.state_of.ensures ∙ c.in-Some-AtRow.is ∙ ap Some c.in-Some-AtRow.field-0-is in
    let within = slice_get_within c.self.inside.workers.items c.args.worker (AtRow c.in-Some-AtRow.item c.in-Some-AtRow.row) here in
    omega (arith, c.self.inside.workers.ok)

pub invariant_of-self : goal.invariant_of-self
invariant_of-self g c =
    let here : slice_get c.self.inside.workers.items c.args.worker ≡ Some (AtRow c.in-Some-AtRow.item c.in-Some-AtRow.row) =
    ap (λ p. slice_get p.workers c.args.worker) c.self.view_is ∙ sym c.state_of.ensures ∙ c.in-Some-AtRow.is ∙ ap Some c.in-Some-AtRow.field-0-is in
    let all : c.in-Some-AtRow.row ≡ rows_of (map g.I.ItemWork.work c.self.inside.items.items) c.in-Some-AtRow.item =
    c.if-row-rows_at.false ∙ c.rows_at.ensures ∙ ap (λ items. rows_of (map g.I.ItemWork.work items) c.in-Some-AtRow.item) c.deref.ensures.value in
    put_down_kept _ c.args.worker c.in-Some-AtRow.item c.in-Some-AtRow.row c.self.invariant here all

pub returns-clause-sound : goal.returns-clause-sound
returns-clause-sound g c = sound _ (invariant_of-self g c)
