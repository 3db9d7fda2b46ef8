use Rattle.std.proofs.Common.{◌∙◌, sym, ap, ap₂, subst, ◌≡◌, ◌-◌, false, length, take, arith}
use Rattle.std.proofs.lemmas.List.{take_all}
use Rattle.ent_types.specs.Fitting.{fits_elements, fits_fields}
use Rattle.structural_ops.proofs.Suited.{bad_element, empty_list, filled_list, good_element, no_elements, no_more, too_few}
use Rattle.structural_ops.proofs.suits.+fits_buffer.Goals as goal

pub returns-then-is_empty : goal.returns-then-is_empty
returns-then-is_empty t c = sym (no_elements c.args.most c.args.fields.now c.args.values.now (empty_list c.args.values.now c.if-is_empty.ensures))

pub returns-then-most-eq0 : goal.returns-then-most-eq0
returns-then-most-eq0 t c =
    sym (subst (λ m. fits_elements m c.args.fields.now c.args.values.now ≡ false) (sym c.if-most-eq0.true) (no_more c.args.fields.now c.args.values.now (filled_list c.args.values.now c.if-is_empty.ensures)))

pub returns-then-values-fields : goal.returns-then-values-fields
returns-then-values-fields t c =
    sym (bad_element c.args.most c.args.fields.now c.args.values.now (filled_list c.args.values.now c.if-is_empty.ensures) c.if-most-eq0.false
    (ap (fits_fields c.args.fields.now) (take_all (length c.args.fields.now) c.args.values.now (omega (arith, c.if-values-fields.true))) ∙ too_few c.args.fields.now c.args.values.now c.if-values-fields.true))

pub returns-then-not-fits_fields : goal.returns-then-not-fits_fields
returns-then-not-fits_fields t c =
    sym (bad_element c.args.most c.args.fields.now c.args.values.now (filled_list c.args.values.now c.if-is_empty.ensures) c.if-most-eq0.false
    (ap (fits_fields c.args.fields.now) (sym c.split_at.ensures.front) ∙ sym c.if-not-fits_fields.ensures))

pub returns : goal.returns
returns t c =
    c.fits_buffer.ensures ∙ ap (fits_elements (c.args.most - 1) c.args.fields.now) c.split_at.ensures.back
    ∙ sym (good_element c.args.most c.args.fields.now c.args.values.now (filled_list c.args.values.now c.if-is_empty.ensures) c.if-most-eq0.false
    (ap (fits_fields c.args.fields.now) (sym c.split_at.ensures.front) ∙ sym c.if-not-fits_fields.ensures))
