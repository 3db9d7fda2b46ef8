-- The children of a group, as a loop over the numbers comes to them.
use Rattle.std.proofs.Common.{◌≡◌, ℕ, ◌+◌, ◌-◌, ◌<◌, ◌≤◌, eqb, Bool, cond, List, [], ◌∷◌, ◌++◌, length, get_or, take, ap, ◌∙◌, sym, arith}
use Rattle.std.specs.List.{filter, range_with_len}
use Rattle.std.proofs.lemmas.List.{get_or_default, take_all}
use Rattle.std.proofs.lemmas.List.Elements.{filter_more}
use Rattle.std.proofs.lemmas.List.FromFn.{get_or-range_with_len, length-range_with_len}
use Rattle.system_order.specs.Child.{child_at, members, no_child}
use Rattle.system_order.specs.declared.child.Child.{Child}

-- one number more
pub members_more : (children : List Child) (group number : ℕ) (child none : Child) → 3 ≤ number → number < length children → child ≡ get_or children number none → filter (λ n. eqb (child_at children n).parent group) (take (number + 1 - 3) (range_with_len 3 (length children - 3))) ≡ filter (λ n. eqb (child_at children n).parent group) (take (number - 3) (range_with_len 3 (length children - 3))) ++ cond (eqb child.parent group) (number ∷ []) []
members_more children group number child none low within read =
    let all = range_with_len 3 (length children - 3) in
    let p : ℕ → Bool = λ n. eqb (child_at children n).parent group in
    let i = number - 3 in
    let next : number + 1 - 3 ≡ i + 1 = omega (arith, low) in
    let inside : i < length all = omega (arith, low, within, length-range_with_len 3 (length children - 3)) in
    let is_number : get_or all i 0 ≡ number = get_or-range_with_len 3 (length children - 3) i 0 (omega (arith, low, within)) ∙ omega (arith, low) in
    let is_child : child ≡ child_at children number = read ∙ get_or_default children number none no_child within in
    ap (λ n. filter p (take n all)) next
    ∙ filter_more p all i 0 inside
    ∙ ap (λ n. filter p (take i all) ++ cond (p n) (n ∷ []) []) is_number
    ∙ ap (λ (c : Child). filter p (take i all) ++ cond (eqb c.parent group) (number ∷ []) []) (sym is_child)

-- all numbers
pub members_all : (children : List Child) (group number : ℕ) → 3 ≤ number → length children ≤ number → filter (λ n. eqb (child_at children n).parent group) (take (number - 3) (range_with_len 3 (length children - 3))) ≡ members children group
unfolding members
members_all children group number low past =
    ap (filter (λ n. eqb (child_at children n).parent group)) (take_all (number - 3) (range_with_len 3 (length children - 3)) (omega (arith, low, past, length-range_with_len 3 (length children - 3))))
