-- How the machine runs over one token, and over none.
use Rattle.std.proofs.Common.{ℕ, ◌≡◌, List, [], ◌∷◌, ◌++◌, Bool, true, false, cond, Option, Some, None, refl, ap}
use Rattle.std.specs.Prelude.{nat_le}
use Rattle.expr_tokens.specs.Tokens.{Token, word, number, sign, bad}
use Rattle.expr_tokens.specs.declared.sign.Sign.{Sign}
use Rattle.expr_tokens.specs.declared.sign.Sign.TheVariants.{Open, Dot}
use Rattle.expr_grammar.specs.declared.symbol.Symbol.{Symbol}
use Rattle.expr_grammar.specs.declared.symbol.Symbol.TheVariants as wait
use Rattle.expr_grammar.specs.declared.symbol.Action.{Action}
use Rattle.expr_grammar.specs.declared.symbol.Built.{Built}
use Rattle.expr_trees.specs.declared.tree.BinaryOp.{BinaryOp}
use Rattle.expr_grammar.specs.Fitting.{operator_of}
use Rattle.expr_grammar.specs.Scopes.{Scope}
use Rattle.expr_grammar.specs.Machine.{take, may_end, ended, settle, finish, run, onward, go_on, when, apply}

pub when_true : {A : Type 0} (b : Bool) (x : A) → b ≡ true → when b x ≡ Some x
when_true b x e = rw e refl

module _ (s : Scope) (limit : ℕ) where
  pub run_take : (symbol : Symbol) (below : List Symbol) (bs : List Built) (t : Token) (ts : List Token) (new : List Symbol)
      → take s limit symbol t ≡ Some new → run s limit (symbol ∷ below) bs (t ∷ ts) ≡ run s limit (new ++ below) bs ts
  unfolding run settle
  run_take symbol below bs t ts new e =
      ap (λ r. go_on (onward r (may_end symbol) below bs (settle s limit below (ended symbol bs) t)) (λ state. run s limit state.waits state.built ts)) e

  -- the symbol doesn't take the next token
  abbrev pub Leaves : Symbol → List Token → Type 0
  Leaves symbol [] = Unit {0}
  Leaves symbol (t ∷ ts) = take s limit symbol t ≡ None

  pub run_end : (symbol : Symbol) (below : List Symbol) (bs : List Built) (us : List Token)
      → may_end symbol ≡ true → Leaves symbol us → run s limit (symbol ∷ below) bs us ≡ run s limit below (ended symbol bs) us
  unfolding run settle finish
  run_end symbol below bs [] ends leaves = ap (λ b. cond b (finish below (ended symbol bs)) None) ends
  run_end symbol below bs (t ∷ ts) ends leaves =
      rw (leaves, ends) refl

  pub run_do : (a : Action) (below : List Symbol) (bs : List Built) (us : List Token)
      → run s limit (wait.Do a ∷ below) bs us ≡ run s limit below (apply a bs) us
  unfolding run settle finish take may_end ended
  run_do a below bs [] = refl
  run_do a below bs (word name ∷ ts) = refl
  run_do a below bs (number n ∷ ts) = refl
  run_do a below bs (sign g ∷ ts) = refl
  run_do a below bs (bad ∷ ts) = refl

-- `true` if the next token is no operator of a level below, no dot and no opening parenthesis.
abbrev pub stops_operator : ℕ → Option (BinaryOp × ℕ) → Bool
stops_operator level None = true
stops_operator level (Some (op, at)) = nat_le level at

abbrev pub stops_sign : ℕ → Sign → Bool
stops_sign level Dot = false
stops_sign level Open = false
stops_sign level g = stops_operator level (operator_of g)

abbrev pub stops : ℕ → List Token → Bool
stops level [] = true
stops level (sign g ∷ ts) = stops_sign level g
stops level (t ∷ ts) = true
