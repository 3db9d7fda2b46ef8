use Rattle.std.proofs.Common.{◌&&◌, ◌∙◌, not, ap, sym, subst}
use Rattle.std.specs.List.{list_all}
use Rattle.enable_bits.specs.Masks.{has, IsMask}
use Rattle.enable_bits.proofs.MaskLemmas.{places_where-IsMask}
use Rattle.query_select.specs.Rows.{is_off_in}
use Rattle.query_select.proofs.Cuts.{cut_disabled}
use Rattle.query_select.proofs.RowMasks.{and_true}
use Rattle.query_select.proofs.query.without_disabled.Goals as goal

pub loop-ty-init : goal.loop-ty-init
loop-ty-init c = (
  c.requires.mask,
  λ k below. ap (λ ts. has c.args.rows k && list_all (λ t. not (is_off_in c.args.block.now k t)) ts) (c.into_iter-ty-iterator.ensures.into_iter_gives ∙ c.iter-ty-items.ensures.value),
)

pub loop-ty-preserved : goal.loop-ty-preserved
loop-ty-preserved c = (
  subst IsMask (sym c.and_not-left.ensures) (places_where-IsMask _),
  λ k below.
      cut_disabled c.loop-ty.left c.disabled_rows.result c.and_not-left.result k below (is_off_in c.args.block.now k) c.in-Some.ty.0 c.next.new.self c.and_not-left.ensures (c.disabled_rows.ensures k)
      ∙ ap (λ ts. has c.loop-ty.left k && list_all (λ t. not (is_off_in c.args.block.now k t)) ts) (sym c.in-Some.ensures.steps) ∙ c.loop-ty.invariant.1 k below,
)

pub returns : goal.returns
returns c = record {
  mask = c.loop-ty.invariant.0;
  rows = λ k below.
      sym (and_true (has c.loop-ty.left k)) ∙ ap (λ ts. has c.loop-ty.left k && list_all (λ t. not (is_off_in c.args.block.now k t)) ts) (sym c.in-None.ensures.steps.0)
      ∙ c.loop-ty.invariant.1 k below;
}
