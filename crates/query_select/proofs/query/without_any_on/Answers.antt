use Rattle.std.proofs.Common.{◌≡◌, ◌&&◌, ◌∙◌, not, inl, inr, refl, ap, sym, subst}
use Rattle.std.specs.List.{list_any}
use Rattle.ent_types.specs.TypeSets.{has_type}
use Rattle.enable_bits.specs.Masks.{has, IsMask}
use Rattle.enable_bits.proofs.MaskLemmas.{places_where-IsMask}
use Rattle.world_model.specs.Members.{In}
use Rattle.structural_ops.proofs.Sets.{set_below}
use Rattle.query_select.specs.Rows.{is_off_in, is_on_in}
use Rattle.query_select.proofs.Cuts.{cut_on, lacks_on}
use Rattle.query_select.proofs.RowMasks.{and_true}
use Rattle.query_select.proofs.query.without_any_on.Goals as goal

pub loop-ty-init : goal.loop-ty-init
loop-ty-init c =
    let is : c.into_iter-ty-iterator.result ≡ c.args.types.now = c.into_iter-ty-iterator.ensures.into_iter_gives ∙ c.iter-ty-items.ensures.value in (
      c.requires.mask,
      (
        λ t i. set_below c.args.types.now c.iter-ty-items.ensures.rising t (subst (In t) is i),
        λ k below. ap (λ ts. has c.args.rows k && not (list_any (is_on_in c.args.block.now k) ts)) is,
      ),
    )

pub has-requires : goal.has-requires
has-requires c = c.loop-ty.invariant.1.0 c.in-Some.ty.0 (subst (In c.in-Some.ty.0) (sym c.in-Some.ensures.steps) (inl refl))

pub loop-ty-preserved-then-has : goal.loop-ty-preserved-then-has
loop-ty-preserved-then-has c = (
  subst IsMask (sym c.and-left.ensures) (places_where-IsMask _),
  (
    λ t i. c.loop-ty.invariant.1.0 t (subst (In t) (sym c.in-Some.ensures.steps) (inr i)),
    λ k below.
        cut_on c.loop-ty.left c.disabled_rows.result c.and-left.result k below (has_type c.args.block.now.types) (is_off_in c.args.block.now k) c.in-Some.ty.0 c.next.new.self
        (sym (c.has.ensures.value ∙ ap (λ ts. has_type ts c.in-Some.ty.0) c.types.ensures.value) ∙ c.if-has.true) c.and-left.ensures (c.disabled_rows.ensures k)
        ∙ ap (λ ts. has c.loop-ty.left k && not (list_any (is_on_in c.args.block.now k) ts)) (sym c.in-Some.ensures.steps) ∙ c.loop-ty.invariant.1.1 k below,
  ),
)

pub loop-ty-preserved : goal.loop-ty-preserved
loop-ty-preserved c = (
  c.loop-ty.invariant.0,
  (
    λ t i. c.loop-ty.invariant.1.0 t (subst (In t) (sym c.in-Some.ensures.steps) (inr i)),
    λ k below.
        lacks_on c.loop-ty.left k (has_type c.args.block.now.types) (is_off_in c.args.block.now k) c.in-Some.ty.0 c.next.new.self
        (sym (c.has.ensures.value ∙ ap (λ ts. has_type ts c.in-Some.ty.0) c.types.ensures.value) ∙ c.if-has.false)
        ∙ ap (λ ts. has c.loop-ty.left k && not (list_any (is_on_in c.args.block.now k) ts)) (sym c.in-Some.ensures.steps) ∙ c.loop-ty.invariant.1.1 k below,
  ),
)

pub returns : goal.returns
returns c = record {
  mask = c.loop-ty.invariant.0;
  rows = λ k below.
      sym (and_true (has c.loop-ty.left k)) ∙ ap (λ ts. has c.loop-ty.left k && not (list_any (is_on_in c.args.block.now k) ts)) (sym c.in-None.ensures.steps.0)
      ∙ c.loop-ty.invariant.1.1 k below;
}
