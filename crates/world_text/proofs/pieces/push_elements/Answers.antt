use Rattle.std.proofs.Common.{◌++◌, ◌∙◌, ap, sym, List, ℕ, codes, drop, take}
use Rattle.world_text.specs.Lines.{values_text}
use Rattle.world_text.proofs.Appended.{four_pieces}
use Rattle.world_text.proofs.Elements.{elements_text-none, elements_text-some, further_text}
use Rattle.world_text.proofs.pieces.push_elements.Goals as goal

pub returns-then-values-width : goal.returns-then-values-width
returns-then-values-width c =
    c.in_ok-extend_from_slice.ensures.items ∙ ap (λ (l : List ℕ). c.args.line.now.items ++ l) (sym (elements_text-none c.args.width c.args.values.now c.if-values-width.true))

pub returns : goal.returns
returns c =
    let w = c.args.width in
    let vs = c.args.values.now in
    four_pieces c.args.line.now.items (codes "[") (values_text (take w vs)) (further_text w (drop w vs)) (codes "]") c.push.new.self.items c.push_values.new.line.items c.push_further_elements.new.line.items
    c.push-2.new.self.items c.in_ok-push.ensures.items
    (c.in_ok-push_values.ensures ∙ ap (λ us. c.push.new.self.items ++ values_text us) c.split_at.ensures.front)
    (c.in_ok-push_further_elements.ensures ∙ ap (λ us. c.push_values.new.line.items ++ further_text w us) c.split_at.ensures.back)
    c.in_ok-push-2.ensures.items
    ∙ ap (λ (l : List ℕ). c.args.line.now.items ++ l) (sym (elements_text-some w vs c.requires c.if-values-width.false))
