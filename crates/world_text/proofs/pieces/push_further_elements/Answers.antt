use Rattle.std.proofs.Common.{◌++◌, ◌∙◌, ap, sym, List, codes}
use Rattle.std.specs.List.{flat_map}
use Rattle.std.proofs.lemmas.List.{append-nil}
use Rattle.ent_types.specs.declared.value.Value.{Value}
use Rattle.world_text.specs.Lines.{values_text}
use Rattle.world_text.proofs.Elements.{element_pushed, elements_none, further_text}
use Rattle.world_text.proofs.pieces.push_further_elements.Goals as goal

pub loop-left-preserved : goal.loop-left-preserved
loop-left-preserved c =
    ap (λ vs. c.push_values.new.line.items ++ further_text c.args.width vs) c.split_at.ensures.back
    ∙ element_pushed c.args.width c.loop-left.left.now c.requires c.loop-left-test.true c.loop-left.line.items c.push.new.self.items c.push_values.new.line.items
    (c.args.line.now.items ++ further_text c.args.width c.args.values.now) c.in_ok-push.ensures.items
    (c.in_ok-push_values.ensures ∙ ap (λ vs. c.push.new.self.items ++ values_text vs) c.split_at.ensures.front) c.loop-left.invariant

pub returns : goal.returns
returns c =
    sym (append-nil c.loop-left.line.items)
    ∙ ap (λ (es : List (List Value)). c.loop-left.line.items ++ flat_map (λ element. codes "," ++ values_text element) es) (sym (elements_none c.args.width c.loop-left.left.now c.loop-left-test.false))
    ∙ c.loop-left.invariant
