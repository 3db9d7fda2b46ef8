use Rattle.std.proofs.Common.{◌≡◌, Bool, true, false, ◌&&◌, ◌||◌, ◌∙◌, inl, inr, refl, ap, sym, subst}
use Rattle.ent_types.specs.TypeLookups.{is_enableable_at}
use Rattle.ent_types.specs.TypeSets.{has_type}
use Rattle.world_model.specs.Members.{In}
use Rattle.structural_ops.proofs.Sets.{set_below}
use Rattle.run_laws.proofs.Lists.{in_has}
use Rattle.query_select.proofs.Archetypes.{one_enableable, one_lasting}
use Rattle.query_select.proofs.cache.enableable_among.Goals as goal

pub loop-ty-init : goal.loop-ty-init
loop-ty-init c =
    let is : c.into_iter-ty-iterator.result ≡ c.args.types.now = c.into_iter-ty-iterator.ensures.into_iter_gives ∙ c.iter-ty-items.ensures.value in (
      λ t i. set_below c.args.types.now c.iter-ty-items.ensures.rising t (subst (In t) is i),
      λ t. ap (λ es. has_type es t || (has_type c.into_iter-ty-iterator.result t && is_enableable_at c.args.registry.now t)) c.empty-enableable.ensures
          ∙ ap (λ ts. has_type ts t && is_enableable_at c.args.registry.now t) is,
    )

pub with-enableable-requires : goal.with-enableable-requires
with-enableable-requires c = c.loop-ty.invariant.0 c.in-Some.ty.0 (subst (In c.in-Some.ty.0) (sym c.in-Some.ensures.steps) (inl refl))

pub loop-ty-preserved-then-is_enableable : goal.loop-ty-preserved-then-is_enableable
loop-ty-preserved-then-is_enableable c = (
  λ t i. c.loop-ty.invariant.0 t (subst (In t) (sym c.in-Some.ensures.steps) (inr i)),
  λ t. ap (λ es. has_type es t || (has_type c.next.new.self t && is_enableable_at c.args.registry.now t)) c.with-enableable.ensures.value
      ∙ one_enableable (is_enableable_at c.args.registry.now) c.loop-ty.enableable c.in-Some.ty.0 c.next.new.self t (sym c.is_enableable.ensures ∙ c.if-is_enableable.true)
      ∙ ap (λ ts. has_type c.loop-ty.enableable t || (has_type ts t && is_enableable_at c.args.registry.now t)) (sym c.in-Some.ensures.steps) ∙ c.loop-ty.invariant.1 t,
)

pub loop-ty-preserved : goal.loop-ty-preserved
loop-ty-preserved c = (
  λ t i. c.loop-ty.invariant.0 t (subst (In t) (sym c.in-Some.ensures.steps) (inr i)),
  λ t. one_lasting (is_enableable_at c.args.registry.now) c.loop-ty.enableable c.in-Some.ty.0 c.next.new.self t (sym c.is_enableable.ensures ∙ c.if-is_enableable.false)
      ∙ ap (λ ts. has_type c.loop-ty.enableable t || (has_type ts t && is_enableable_at c.args.registry.now t)) (sym c.in-Some.ensures.steps) ∙ c.loop-ty.invariant.1 t,
)

pub returns : goal.returns
returns c = λ t i.
    or_false (has_type c.loop-ty.enableable t)
    ∙ ap (λ ts. has_type c.loop-ty.enableable t || (has_type ts t && is_enableable_at c.args.registry.now t)) (sym c.in-None.ensures.steps.0)
    ∙ c.loop-ty.invariant.1 t ∙ ap (λ h. h && is_enableable_at c.args.registry.now t) (in_has t c.args.types.now i)
  where
    or_false : (b : Bool) → b ≡ (b || false)
    or_false true = refl
    or_false false = refl
