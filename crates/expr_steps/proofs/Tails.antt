-- Operators of several levels as one expected thing.
use Rattle.std.proofs.Common.{ℕ, zero, suc, ◌≡◌, ◌<◌, ◌≤◌, ◌+◌, ◌-◌, ⊎_elim, List, [], ◌∷◌, ◌++◌, Bool, true, false, not, cond, Option, Some, None, refl, sym, ap, ◌∙◌, arith, add-zero, zero-add}
use Rattle.std.proofs.lemmas.Bool.{eq-eqb, ne_eqb, lt-ltb, le-ltb, le-leb, lt-leb, cond-true, cond-false, cases_lt, cases_order}
use Rattle.std.proofs.lemmas.List.{append-nil}
use Rattle.std.specs.Prelude.{nat_eq, nat_lt, nat_le}
use Rattle.expr_trees.specs.declared.tree.BinaryOp.{BinaryOp}
use Rattle.expr_grammar.specs.declared.symbol.Symbol.{Symbol}
use Rattle.expr_grammar.specs.declared.symbol.Symbol.TheVariants as wait
use Rattle.expr_grammar.specs.declared.symbol.Action.TheVariants as act
use Rattle.expr_grammar.specs.Fitting.{associates}
use Rattle.expr_grammar.specs.Machine.{tails, when, map_some, take_operator}
use Rattle.expr_steps.specs.declared.expected.Expected.{Expected}
use Rattle.expr_steps.specs.declared.expected.Expected.TheVariants as expect
use Rattle.expr_steps.specs.Expecting.{before, tails_from, take_tails}

last_tail : (n l d : ℕ) → tails_from (suc n) l d ≡ tails_from n l d ++ wait.Tail (l + n) d ∷ []
last_tail zero l d = ap (λ k. wait.Tail k d ∷ []) (sym (add-zero l))
last_tail (suc n) l d =
    let k : l + 1 + n ≡ l + suc n = omega arith in
    ap (λ ts. wait.Tail l d ∷ ts) (last_tail n (l + 1) d ∙ ap (λ m. tails_from n (l + 1) d ++ wait.Tail m d ∷ []) k)

-- the tails below level n are those of n levels from 0 on
pub tails_are : (n d : ℕ) → tails n d ≡ tails_from n 0 d
tails_are zero d = refl
tails_are (suc n) d =
    ap (λ ts. ts ++ wait.Tail n d ∷ []) (tails_are n d) ∙ sym (last_tail n 0 d ∙ ap (λ k. tails_from n 0 d ++ wait.Tail k d ∷ []) (zero-add n))

pub before_none : (e : Expected) (below : List Symbol) → before e below ≡ before e [] ++ below
before_none (expect.Operators l c d) below = ap (λ ts. ts ++ below) (sym (append-nil (tails_from c l d)))
before_none e below = refl

-- ---- what an operator leaves of them

abbrev pub first_some : {A : Type 0} → Option A → Option A → Option A
first_some None later = later
first_some (Some x) later = Some x

module _ (d : ℕ) (op : BinaryOp) (at : ℕ) where
  -- what is left at the operator's own level, if n levels are left from it on
  abbrev Left : ℕ → List Symbol
  Left n = wait.Level at d ∷ wait.Do (act.Binary op) ∷ cond (nat_eq at 2) (tails_from (n - 1) (at + 1) d) (tails_from n at d)

  abbrev Taken : ℕ → ℕ → Option (List Symbol)
  Taken c l = take_tails c l d (Some (op, at))

  stronger : (c l : ℕ) → at < l → Taken c l ≡ None
  stronger c l less = cond-true (nat_lt at l) None (cond (nat_le c (at - l)) None (Some (Left (c - (at - l))))) (lt-ltb at l less)

  from_level : (c l : ℕ) → l ≤ at → Taken c l ≡ cond (nat_le c (at - l)) None (Some (Left (c - (at - l))))
  from_level c l low = cond-false (nat_lt at l) None (cond (nat_le c (at - l)) None (Some (Left (c - (at - l))))) (le-ltb at l low)

  weaker : (c l : ℕ) → l ≤ at → c ≤ at - l → Taken c l ≡ None
  weaker c l low past = from_level c l low ∙ cond-true (nat_le c (at - l)) None (Some (Left (c - (at - l)))) (le-leb c (at - l) past)

  among : (c l : ℕ) → l ≤ at → at - l < c → Taken c l ≡ Some (Left (c - (at - l)))
  among c l low within = from_level c l low ∙ cond-false (nat_le c (at - l)) None (Some (Left (c - (at - l)))) (lt-leb c (at - l) within)

  none_at : (l : ℕ) → Taken 0 l ≡ None
  none_at l = ⊎_elim (λ less. stronger 0 l less) (λ low. weaker 0 l low (omega arith)) (cases_lt at l)

  -- what the first of these levels leaves
  abbrev New : ℕ → List Symbol
  New l = wait.Level l d ∷ wait.Do (act.Binary op) ∷ cond (associates l) (wait.Tail l d ∷ []) []

  abbrev First : ℕ → ℕ → Bool → Option (List Symbol)
  First c l b = first_some (map_some (λ new. new ++ tails_from c (l + 1) d) (when b (New l))) (Taken c (l + 1))

  abbrev OneMore : ℕ → ℕ → Type 0
  OneMore c l = Taken (suc c) l ≡ First c l (nat_eq at l)

  other_level : (c l : ℕ) → (at ≡ l → ⊥) → First c l (nat_eq at l) ≡ Taken c (l + 1)
  other_level c l other = ap (λ b. First c l b) (ne_eqb at l other)

  one_before : (c l : ℕ) → at < l → OneMore c l
  one_before c l less = stronger (suc c) l less ∙ sym (other_level c l (λ e. omega arith) ∙ stronger c (l + 1) (omega arith))

  one_after : (c l : ℕ) → l < at → OneMore c l
  one_after c l more =
      ⊎_elim
      (λ within.
      let low : l + 1 ≤ at = omega arith in
      let below : at - (l + 1) < c = omega arith in
      let same : suc c - (at - l) ≡ c - (at - (l + 1)) = omega arith in
      let here : l ≤ at = omega arith in
      among (suc c) l here within ∙ ap (λ n. Some (Left n)) same ∙ sym (other_level c l (λ e. omega arith) ∙ among c (l + 1) low below))
      (λ past.
      let low : l + 1 ≤ at = omega arith in
      let below : c ≤ at - (l + 1) = omega arith in
      let here : l ≤ at = omega arith in
      weaker (suc c) l here past ∙ sym (other_level c l (λ e. omega arith) ∙ weaker c (l + 1) low below))
      (cases_lt (at - l) (suc c))

  split : (c : ℕ) (b : Bool) → cond b (tails_from (suc c - 1) (at + 1) d) (tails_from (suc c) at d) ≡ cond (not b) (wait.Tail at d ∷ []) [] ++ tails_from c (at + 1) d
  split c true = let k : suc c - 1 ≡ c = omega arith in ap (λ n. tails_from n (at + 1) d) k
  split c false = refl

  one_at : (c l : ℕ) → at ≡ l → OneMore c l
  one_at c l e =
      let low : l ≤ at = omega arith in
      let within : at - l < suc c = omega arith in
      let count : suc c - (at - l) ≡ suc c = omega arith in
      among (suc c) l low within ∙ ap (λ n. Some (Left n)) count
      ∙ ap (λ rest. Some (wait.Level at d ∷ wait.Do (act.Binary op) ∷ rest)) (split c (nat_eq at 2))
      ∙ ap (λ k. Some (New k ++ tails_from c (k + 1) d)) e ∙ sym (ap (λ b. First c l b) (eq-eqb at l e))

  one_more : (c l : ℕ) → OneMore c l
  one_more c l = ⊎_elim (λ e. one_at c l e) (λ s. ⊎_elim (λ less. one_before c l less) (λ more. one_after c l more) s) (cases_order at l)

pub no_levels : (l d : ℕ) (o : Option (BinaryOp × ℕ)) → take_tails 0 l d o ≡ None
no_levels l d None = refl
no_levels l d (Some (op, at)) = none_at d op at l

pub one_more_level : (c l d : ℕ) (o : Option (BinaryOp × ℕ))
    → take_tails (suc c) l d o ≡ first_some (map_some (λ new. new ++ tails_from c (l + 1) d) (take_operator l d o)) (take_tails c (l + 1) d o)
one_more_level c l d None = refl
one_more_level c l d (Some (op, at)) = one_more d op at c l
