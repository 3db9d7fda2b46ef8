use Rattle.std.proofs.Common.{◌≡◌, ◌&&◌, ◌||◌, ◌∙◌, not, inl, inr, false, refl, ap, sym, subst}
use Rattle.std.proofs.lemmas.Bool.{and_left, and_right}
use Rattle.std.specs.List.{list_any}
use Rattle.ent_types.specs.TypeSets.{has_type}
use Rattle.world_model.specs.Members.{In}
use Rattle.structural_ops.proofs.Sets.{set_below}
use Rattle.query_select.proofs.query.can_be_disabled.Goals as goal
use Rattle.query_select.proofs.query.can_be_disabled.Goals.{else-has-via-then-has+else-not-has, else-has-via-else-has}

pub loop-ty-init : goal.loop-ty-init
loop-ty-init c =
    let is : c.into_iter-ty-iterator.result ≡ c.args.some.now = c.into_iter-ty-iterator.ensures.into_iter_gives ∙ c.iter-ty-items.ensures.value in (
      λ t i. set_below c.args.some.now c.iter-ty-items.ensures.rising t (subst (In t) is i),
      ap (list_any (λ t. has_type c.args.types.now t && not (has_type c.args.enableable.now t))) is,
    )

pub has-requires : goal.has-requires
has-requires c = c.loop-ty.invariant.0 c.in-Some.ty.0 (subst (In c.in-Some.ty.0) (sym c.in-Some.ensures.steps) (inl refl))

pub has-requires-then-has : goal.has-requires-then-has
has-requires-then-has c = c.loop-ty.invariant.0 c.in-Some.ty.0 (subst (In c.in-Some.ty.0) (sym c.in-Some.ensures.steps) (inl refl))

pub loop-ty-preserved : goal.loop-ty-preserved
loop-ty-preserved c =
    let fine : (has_type c.args.types.now c.in-Some.ty.0 && not (has_type c.args.enableable.now c.in-Some.ty.0)) ≡ false =
    elim c.else-has.branch [
      | else-has-via-then-has+else-not-has w ↦ and_right (has_type c.args.types.now c.in-Some.ty.0) _ (ap not (sym w.has-then-has.ensures.value ∙ w.if-not-has.false))
      | else-has-via-else-has w ↦ and_left _ (not (has_type c.args.enableable.now c.in-Some.ty.0)) (sym c.has.ensures.value ∙ w.if-has.false)
    ] in (
      λ t i. c.loop-ty.invariant.0 t (subst (In t) (sym c.in-Some.ensures.steps) (inr i)),
      ap (λ b. b || list_any (λ t. has_type c.args.types.now t && not (has_type c.args.enableable.now t)) c.next.new.self) (sym fine)
          ∙ ap (list_any (λ t. has_type c.args.types.now t && not (has_type c.args.enableable.now t))) (sym c.in-Some.ensures.steps) ∙ c.loop-ty.invariant.1,
    )
