use Rattle.std.proofs.Common.{◌≡◌, ◌∙◌, sym, ap, subst, arith, Some, slice_get}
use Rattle.std.proofs.lemmas.List.{length-map}
use Rattle.std.proofs.lemmas.Option.{slice_get_within}
use Rattle.phase_core.specs.Core.{IsKept}
use Rattle.phase_core.specs.Phase.{core_of}
use Rattle.phase_core.specs.declared.machine.WorkerState.TheVariants.{Idle}
use Rattle.phase_core.proofs.Keeps.{drawn_kept, ended_kept, sound}
use Rattle.phase_core.proofs.machine.Machine.draw.Goals as goal

pub returns-in_default-clause-sound : goal.returns-in_default-clause-sound
returns-in_default-clause-sound g c = sound _ (subst (λ p. IsKept (core_of g.I.ItemWork.work p)) c.self.view_is c.self.invariant)

pub index_mut-requires : goal.index_mut-requires
index_mut-requires g c =
    let idle : slice_get c.self.inside.workers.items c.args.worker ≡ Some Idle =
    ap (λ p. slice_get p.workers c.args.worker) c.self.view_is ∙ sym c.state_of.ensures ∙ c.in-Some-Idle.is ∙ ap Some c.in-Some-Idle.field-0-is in
    let within = slice_get_within c.self.inside.workers.items c.args.worker Idle idle in
    omega (arith, c.self.inside.workers.ok)

pub index_mut-requires-else-self-len : goal.index_mut-requires-else-self-len
index_mut-requires-else-self-len g c =
    let idle : slice_get c.self.inside.workers.items c.args.worker ≡ Some Idle =
    ap (λ p. slice_get p.workers c.args.worker) c.self.view_is ∙ sym c.state_of.ensures ∙ c.in-Some-Idle.is ∙ ap Some c.in-Some-Idle.field-0-is in
    let within = slice_get_within c.self.inside.workers.items c.args.worker Idle idle in
    omega (arith, c.self.inside.workers.ok)

pub invariant_of-self : goal.invariant_of-self
invariant_of-self g c =
    drawn_kept (core_of g.I.ItemWork.work record { opened = c.self.inside.opened.value.items; items = c.self.inside.items.items; next = c.self.inside.next; workers = c.self.inside.workers.items })
    c.args.worker c.self.invariant
    (ap (λ p. slice_get p.workers c.args.worker) c.self.view_is ∙ sym c.state_of.ensures ∙ c.in-Some-Idle.is ∙ ap Some c.in-Some-Idle.field-0-is)
    (omega (arith, length-map c.self.inside.items.items g.I.ItemWork.work, c.if-self-len.true, c.len.ensures))

pub invariant_of-self-else-self-len : goal.invariant_of-self-else-self-len
invariant_of-self-else-self-len g c =
    ended_kept (core_of g.I.ItemWork.work record { opened = c.self.inside.opened.value.items; items = c.self.inside.items.items; next = c.self.inside.next; workers = c.self.inside.workers.items })
    c.args.worker c.self.invariant
    (ap (λ p. slice_get p.workers c.args.worker) c.self.view_is ∙ sym c.state_of.ensures ∙ c.in-Some-Idle.is ∙ ap Some c.in-Some-Idle.field-0-is)
    (omega (arith, length-map c.self.inside.items.items g.I.ItemWork.work, c.if-self-len.false, c.len.ensures))

pub returns-then-self-len-clause-sound : goal.returns-then-self-len-clause-sound
returns-then-self-len-clause-sound g c = sound _ (invariant_of-self g c)

pub returns-else-self-len-clause-sound : goal.returns-else-self-len-clause-sound
returns-else-self-len-clause-sound g c = sound _ (invariant_of-self-else-self-len g c)
