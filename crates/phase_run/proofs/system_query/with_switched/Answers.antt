use Rattle.std.proofs.Common.{◌∙◌, ◌+◌, ◌||◌, ◌≡◌, ◌∷◌, Bool, true, false, refl, sym, ap, drop}
use Rattle.std.proofs.lemmas.List.{at_drop_all, at_drop_more}
use Rattle.ent_types.specs.TypeSets.{has_type}
use Rattle.world_loans.proofs.Lent.{has_append}
use Rattle.item_run.proofs.Done.{in_at}
use Rattle.phase_run.specs.Queries.{switched_types}
use Rattle.phase_run.proofs.Prepared.{one_with}
use Rattle.phase_run.proofs.system_query.with_switched.Goals as goal

pub with-written-requires : goal.with-written-requires
with-written-requires c = c.requires c.text-item.result (in_at c.args.texts.now c.loop-text.text-index c.text-item.result c.loop-text-test.true c.text-item.is)

pub loop-text-init : goal.loop-text-init
loop-text-init c = λ t. sym (has_append c.args.types (switched_types c.args.texts.now) t)

pub loop-text-preserved : goal.loop-text-preserved
loop-text-preserved c = λ t.
    let ts = c.args.texts.now in
    let k = c.loop-text.text-index in
    let text = c.text-item.result in
    ap (λ us. has_type us t || has_type (switched_types (drop (k + 1) ts)) t) c.with-written.ensures.value
    ∙ (one_with c.loop-text.written (switched_types (drop (k + 1) ts)) text.ty.0 t
    ∙ (sym (at_drop_more (λ xs. has_type c.loop-text.written t || has_type (switched_types xs) t) ts k text c.loop-text-test.true
    ∙ ap (λ x. has_type c.loop-text.written t || has_type (switched_types (x ∷ drop (k + 1) ts)) t) (sym c.text-item.is))
    ∙ c.loop-text.invariant t))

pub returns : goal.returns
returns c = λ t.
    or_false (has_type c.loop-text.written t)
    ∙ (sym (at_drop_all (λ xs. has_type c.loop-text.written t || has_type (switched_types xs) t) c.args.texts.now c.loop-text.text-index c.loop-text-test.false)
    ∙ c.loop-text.invariant t)
  where
    or_false : (b : Bool) → b ≡ (b || false)
    or_false true = refl
    or_false false = refl
