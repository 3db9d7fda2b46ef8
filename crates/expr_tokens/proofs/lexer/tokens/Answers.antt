use Rattle.std.proofs.Common.{◌≡◌, ◌++◌, sym, ◌∙◌, ap, refl, arith, get_or, map, subst, is_ok}
use Rattle.std.proofs.ResultArms.{chosen}
use Rattle.std.proofs.lemmas.List.{take_rest, get_or-drop}
use Rattle.std.proofs.Common.{add-zero}
use Rattle.expr_tokens.specs.Tokens.{AreTokens}
use Rattle.expr_tokens.specs.Seen.{seen}
use Rattle.expr_tokens.proofs.Texts.{skip_space, one_more, ended}
use Rattle.expr_tokens.proofs.lexer.tokens.Goals as goal

pub loop-at-preserved-then-rest-eq32 : goal.loop-at-preserved-then-rest-eq32
loop-at-preserved-then-rest-eq32 c =
    let text = c.args.text.now in
    let at = c.loop-at.at in
    let space : get_or text at 0 ≡ 32 = sym (ap (λ k. get_or text k 0) (add-zero at)) ∙ sym (get_or-drop at text 0 0) ∙ sym (ap (λ xs. get_or xs 0 0) (take_rest text at)) ∙ c.if-rest-eq32.true in
    record {
      within = omega arith;
      whole = λ rest follows. c.loop-at.invariant.whole rest (skip_space at text rest (omega arith) space follows);
    }

pub loop-at-preserved : goal.loop-at-preserved
loop-at-preserved c =
    let pushed = chosen _ _ _ _ c.push.ensures.items (ap is_ok c.in_ok-push.was) in
    let more = one_more c.args.text.now c.loop-at.out.items _ c.loop-at.at _ c.args.text.now c.loop-at.invariant.whole (omega arith) refl c.token_at-len.ensures in
    record {
      within = more.0;
      whole = λ rest follows. subst (λ items. AreTokens 0 c.args.text.now (map seen items ++ rest)) (sym pushed) (more.1 rest follows);
    }

pub returns : goal.returns
returns c = ended c.args.text.now _ _ c.args.text.now c.loop-at.invariant.whole (omega arith)
