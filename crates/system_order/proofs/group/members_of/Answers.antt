use Rattle.std.proofs.Common.{◌-◌, ◌<◌, ◌∙◌, ℕ, Bool, List, [], ◌∷◌, ◌++◌, ap, sym, refl, subst, append-nil, cond, eqb, get_or, length, take}
use Rattle.std.specs.List.{All, filter, range_with_len}
use Rattle.std.proofs.lemmas.Bool.{eq-eqb, ne_eqb}
use Rattle.std.proofs.lemmas.List.Elements.{All-push}
use Rattle.system_order.specs.Child.{child_at}
use Rattle.system_order.proofs.Members.{members_all, members_more}
use Rattle.system_order.proofs.group.members_of.Goals as goal
use Rattle.system_order.proofs.group.members_of.Goals.{then-children-number+in_ok-push, else-children-number}

pub loop-number-preserved : goal.loop-number-preserved
loop-number-preserved c =
    let children = c.args.children.now in
    let number = c.loop-number.number in
    let child = get_or children number c.index-children-number.result in
    let front = filter (λ (n : ℕ). eqb (child_at children n).parent c.args.group) (take (number - 3) (range_with_len 3 (length children - 3))) in
    let more = members_more children c.args.group number child c.index-children-number.result c.loop-number.auto.number c.loop-number-test.true refl in
    let Known : List ℕ → Type 0 = λ numbers. All (λ n. n < length children) numbers in
    elim c.if-children-number.branch [
      | then-children-number+in_ok-push w ↦
          let items = ap (λ v. v.items) w.siblings-is ∙ w.in_ok-push.ensures.items in
          record {
            value = items ∙ ap (λ (xs : List ℕ). xs ++ number ∷ []) c.loop-number.invariant.value
                ∙ sym (more ∙ ap (λ (b : Bool). front ++ cond b (number ∷ []) []) (eq-eqb child.parent c.args.group w.if-children-number.true));
            known = subst Known (sym items) (All-push (λ n. n < length children) c.loop-number.siblings.items number c.loop-number.invariant.known c.loop-number-test.true);
          }
      | else-children-number w ↦
          let items = ap (λ v. v.items) w.siblings-is in
          record {
            value = items ∙ c.loop-number.invariant.value
                ∙ sym (more ∙ ap (λ (b : Bool). front ++ cond b (number ∷ []) []) (ne_eqb child.parent c.args.group w.if-children-number.false) ∙ append-nil front);
            known = subst Known (sym items) c.loop-number.invariant.known;
          }
    ]

pub returns-clause-value : goal.returns-clause-value
returns-clause-value c =
    c.loop-number.invariant.value ∙ members_all c.args.children.now c.args.group c.loop-number.number c.loop-number.auto.number c.loop-number-test.false
