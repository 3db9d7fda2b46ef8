use Rattle.std.proofs.Common.{◌∙◌, ◌++◌, ◌||◌, sym, ap, subst}
use Rattle.ent_types.specs.TypeSets.{has_type}
use Rattle.world_model.specs.Members.{In}
use Rattle.world_loans.proofs.Lent.{has_append}
use Rattle.phase_run.specs.Queries.{assigned_types, switched_types}
use Rattle.phase_run.proofs.Prepared.{bound_small, types_written}
use Rattle.phase_run.proofs.system_query.written_types.Goals as goal

pub with_assigned-assigned-requires : goal.with_assigned-assigned-requires
with_assigned-assigned-requires c a i =
    bound_small c.args.registry.now c.args.system.now c.types.ensures.lawful c.requires a.ty.0 (c.requires.assigns a (subst (In a) c.as_slice.ensures i)).bound

pub with_switched-requires : goal.with_switched-requires
with_switched-requires c w i =
    bound_small c.args.registry.now c.args.system.now c.types.ensures.lawful c.requires w.ty.0 (c.requires.switches w (subst (In w) c.as_slice-2.ensures i)).bound

pub returns : goal.returns
returns c = λ t.
    let assigned = assigned_types c.args.system.now.set in
    let switched = switched_types c.args.system.now.enable in
    c.with_switched.ensures t
    ∙ (has_append c.with_assigned-assigned.result (switched_types c.as_slice-2.result.now) t
    ∙ (ap (λ b. b || has_type (switched_types c.as_slice-2.result.now) t)
    (c.with_assigned-assigned.ensures t ∙ (ap (λ ts. has_type (ts ++ assigned_types c.as_slice.result.now) t) c.empty.ensures ∙ ap (λ xs. has_type (assigned_types xs) t) c.as_slice.ensures))
    ∙ (ap (λ xs. has_type assigned t || has_type (switched_types xs) t) c.as_slice-2.ensures
    ∙ (sym (has_append assigned switched t) ∙ ap (λ ts. has_type ts t) (sym (types_written c.args.system.now))))))
