-- What a move leaves, as expected things and as symbols.
use Rattle.std.proofs.Common.{ℕ, zero, suc, ◌≡◌, List, [], ◌∷◌, ◌++◌, true, false, cond, refl, ap, arith}
use Rattle.std.proofs.lemmas.Bool.{ne_eqb}
use Rattle.expr_grammar.specs.declared.words.Call.{Call}
use Rattle.expr_grammar.specs.declared.words.Call.TheVariants as calls
use Rattle.expr_grammar.specs.declared.words.Verb.{Verb}
use Rattle.expr_grammar.specs.declared.words.Verb.TheVariants as verbs
use Rattle.expr_grammar.specs.declared.symbol.Symbol.TheVariants as wait
use Rattle.expr_grammar.specs.declared.symbol.Action.TheVariants as act
use Rattle.expr_grammar.specs.Machine.{arguments, behind_verb}
use Rattle.expr_steps.specs.declared.expected.Expected.{Expected}
use Rattle.expr_steps.specs.declared.expected.Expected.TheVariants as expect
use Rattle.expr_steps.specs.declared.moves.Move.{Move}
use Rattle.expr_steps.specs.declared.moves.Move.TheVariants as moves
use Rattle.expr_steps.specs.Expecting.{rest_of, some_operators, symbols, tails_from, things_behind, things_in, things_of}
use Rattle.expr_steps.proofs.Tails.{before_none}

pub operators_are : (level count depth : ℕ) (es : List Expected) → symbols (some_operators level count depth ++ es) ≡ tails_from count level depth ++ symbols es
operators_are level zero depth es = refl
operators_are level (suc n) depth es =
    let some : suc n ≡ 0 → ⊥ = λ e. omega arith in
    ap (λ b. symbols (cond b [] (expect.Operators level (suc n) depth ∷ []) ++ es)) (ne_eqb (suc n) 0 some)

in_call : (call : Call) (depth : ℕ) (es : List Expected) → symbols (things_in call depth ++ es) ≡ arguments call depth ++ symbols es
in_call (calls.Two op) depth es = refl
in_call calls.Pick depth es = refl
in_call calls.Get depth es = refl
in_call calls.Alive depth es = refl
in_call calls.Has depth es = refl
in_call calls.Same depth es = refl
in_call calls.On depth es = refl

behind : (verb : Verb) (es : List Expected) → symbols (things_behind verb ++ es) ≡ behind_verb verb ++ symbols es
behind verbs.Create es = refl
behind verbs.Destroy es = refl
behind (verbs.Change c) es = refl
behind (verbs.Turn t) es = refl
behind verbs.Instantiate es = refl

pub things_are : (m : Move) (es : List Expected) → symbols (things_of m ++ es) ≡ rest_of m ++ symbols es
things_are (moves.One e) es = before_none e (symbols es)
things_are (moves.Operator op level from count depth) es =
    ap (λ w. wait.Level level depth ∷ wait.Do (act.Binary op) ∷ w) (operators_are from count depth es)
things_are (moves.Arguments call depth) es = in_call call depth es
things_are (moves.Behind verb) es = behind verb es
things_are (moves.Assigned ty i true) es = refl
things_are (moves.Assigned ty i false) es = refl
things_are (moves.Part ty true) es = refl
things_are (moves.Part ty false) es = refl
things_are (moves.Joined ty true used) es = refl
things_are (moves.Joined ty false used) es = refl
things_are (moves.Value ty true next) es = refl
things_are (moves.Value ty false next) es = refl
things_are m es = refl
