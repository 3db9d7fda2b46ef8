-- A greater limit changes no step of the machine that is made.
use Rattle.std.proofs.Common.{ℕ, ◌≡◌, ◌<◌, ◌≤◌, List, [], ◌∷◌, ◌++◌, Bool, true, false, ◌&&◌, ◌||◌, Option, Some, None, refl, ap, ◌∙◌, arith}
use Rattle.std.proofs.lemmas.Bool.{false≢true, lt-ltb, ltb-true}
use Rattle.std.specs.Prelude.{is_some, nat_lt}
use Rattle.expr_tokens.specs.Tokens.{Token, word, number as numeral, sign, bad}
use Rattle.expr_tokens.specs.declared.sign.Sign.{Sign}
use Rattle.expr_tokens.specs.declared.sign.Sign.TheVariants.{Open}
use Rattle.ent_types.specs.declared.entity.TypeId.{TypeId}
use Rattle.expr_grammar.specs.declared.symbol.Symbol.{Symbol}
use Rattle.expr_grammar.specs.declared.symbol.Symbol.TheVariants as wait
use Rattle.expr_grammar.specs.declared.symbol.Built.{Built}
use Rattle.expr_trees.specs.declared.tree.UnaryOp.{UnaryOp}
use Rattle.expr_trees.specs.declared.tree.Variable.{Variable}
use Rattle.expr_grammar.specs.declared.words.Call.{Call}
use Rattle.expr_grammar.specs.Fitting.{sign_of}
use Rattle.expr_grammar.specs.Scopes.{Scope, IsLawful}
use Rattle.expr_grammar.specs.Machine.{State, take, may_end, ended, settle, steps, onward, and_then, map_some, when, tails, take_operand, take_call, begins_group, begins_signed, begins_named, begins_sign}
use Rattle.expr_grammar.proofs.Completions.{soft, Good, Needs}
use Rattle.expr_grammar.proofs.Keeps.{keeps}

module _ (s : Scope) (limit up : ℕ) (above : limit ≤ up) where
  -- a test that holds under the limit holds under the greater one
  abbrev Grows : Bool → Bool → Type 0
  Grows a b = a ≡ true → b ≡ true

  deeper : (d : ℕ) → Grows (nat_lt d limit) (nat_lt d up)
  deeper d h = let within : d < limit = ltb-true d limit h in lt-ltb d up (omega arith)

  grown : {A : Type 0} (a b : Bool) (x new : A) → Grows a b → when a x ≡ Some new → when b x ≡ Some new
  grown true b x new g h = ap (λ v. when v x) (g refl) ∙ h
  grown false b x new g h = absurd cc

  and_grown : (a b c : Bool) → Grows b c → Grows (a && b) (a && c)
  and_grown true b c g h = g h
  and_grown false b c g h = h

  or_grown : (a b c : Bool) → Grows b c → Grows (a || b) (a || c)
  or_grown true b c g h = refl
  or_grown false b c g h = g h

  group_grown : (d : ℕ) (new : List Symbol) → begins_group limit d ≡ Some new → begins_group up d ≡ Some new
  group_grown d new h = grown (nat_lt d limit) (nat_lt d up) _ new (deeper d) h

  signed_grown : (d : ℕ) (op : Option UnaryOp) (new : List Symbol) → begins_signed limit d op ≡ Some new → begins_signed up d op ≡ Some new
  signed_grown d None new h = h
  signed_grown d (Some op) new h = grown (nat_lt d limit) (nat_lt d up) _ new (deeper d) h

  sign_grown : (d : ℕ) (g : Sign) (new : List Symbol) → begins_sign limit d g ≡ Some new → begins_sign up d g ≡ Some new
  sign_grown d Open new h = group_grown d new h
  sign_grown d g new h = signed_grown d (sign_of g) new h

  named_grown : (d : ℕ) (v : Option Variable) (ty : Option TypeId) (call : Option Call) (new : List Symbol)
      → begins_named limit d v ty call ≡ Some new → begins_named up d v ty call ≡ Some new
  named_grown d v ty call new h =
      grown ((is_some v || is_some ty) || (is_some call && nat_lt d limit)) ((is_some v || is_some ty) || (is_some call && nat_lt d up)) _ new
      (or_grown (is_some v || is_some ty) _ _ (and_grown (is_some call) _ _ (deeper d))) h

  call_grown : (d : ℕ) (call : Option Call) (new : List Symbol) → take_call limit d call ≡ Some new → take_call up d call ≡ Some new
  call_grown d None new h = h
  call_grown d (Some c) new h = grown (nat_lt d limit) (nat_lt d up) _ new (deeper d) h

  operand_grown : (d : ℕ) (t : Token) (new : List Symbol) → take_operand s limit d t ≡ Some new → take_operand s up d t ≡ Some new
  operand_grown d (numeral n) new h = h
  operand_grown d (sign g) new h = sign_grown d g new h
  operand_grown d (word name) new h = named_grown d _ _ _ new h
  operand_grown d bad new h = h

  map_grown : (f : List Symbol → List Symbol) (o p : Option (List Symbol)) (new : List Symbol) → ((x : List Symbol) → o ≡ Some x → p ≡ Some x) → map_some f o ≡ Some new → map_some f p ≡ Some new
  map_grown f None p new g h = absurd cc
  map_grown f (Some x) p new g h = ap (map_some f) (g x refl) ∙ h

  -- what takes a token takes it under a greater limit
  taken : (x : Symbol) (t : Token) (new : List Symbol) → take s limit x t ≡ Some new → take s up x t ≡ Some new
  unfolding take
  taken (wait.Level level d) t new h = map_grown (λ x. x ++ tails level d) (take_operand s limit d t) (take_operand s up d t) new (λ x e. operand_grown d t x e) h
  taken (wait.Named v ty call d) (sign Open) new h = call_grown d call new h
  taken x (word name) new h = h
  taken x (numeral n) new h = h
  taken x (sign g) new h = h
  taken x bad new h = h

  -- the symbol below an expression takes no opening parenthesis
  no_open : (ws : List Symbol) (bs : List Built) → soft ws ≡ true → settle s limit ws bs (sign Open) ≡ None
  unfolding settle take may_end ended
  no_open [] bs h = refl
  no_open (wait.Close ∷ below) bs h = refl
  no_open (wait.Comma ∷ below) bs h = refl
  no_open (wait.Do a ∷ below) bs h = no_open below _ h
  no_open (wait.Tail level d ∷ below) bs h = no_open below bs h
  no_open (wait.Type role ∷ below) bs h = refl
  no_open (wait.Part role ∷ below) bs h = refl
  no_open (wait.MoreValues ty at ∷ below) bs h = refl
  no_open (x ∷ below) bs h = absurd (false≢true h)

module _ (s : Scope) (lawful : IsLawful s) (limit up : ℕ) (above : limit ≤ up) where
  -- a symbol that ends before the token does so under a greater limit, except a name before an opening parenthesis
  passed : (x : Symbol) (t : Token) (below : List Symbol) (bs : List Built) (st : State) → may_end x ≡ true → Needs s lawful limit x below → take s limit x t ≡ None
      → settle s limit below bs t ≡ Some st → take s up x t ≡ None
  unfolding take may_end
  passed (wait.Level level d) t below bs st ends n h later = absurd (false≢true ends)
  passed (wait.Named v ty call d) (sign Open) below bs st ends n h later = absurd (let none = no_open s limit up above below bs n in cc)
  passed x (word name) below bs st ends n h later = h
  passed x (numeral k) below bs st ends n h later = h
  passed x (sign g) below bs st ends n h later = h
  passed x bad below bs st ends n h later = h

  settled : (ws : List Symbol) (bs : List Built) (t : Token) (st : State) → Good s lawful limit ws → settle s limit ws bs t ≡ Some st → settle s up ws bs t ≡ Some st
  unfolding settle
  settled [] bs t st g h = absurd cc
  settled (x ∷ below) bs t st g h = by (take s limit x t) (may_end x) refl refl h (settled below (ended x bs) t st g.2) where
    by : (r : Option (List Symbol)) (b : Bool) → take s limit x t ≡ r → may_end x ≡ b → onward r b below bs (settle s limit below (ended x bs) t) ≡ Some st
        → (settle s limit below (ended x bs) t ≡ Some st → settle s up below (ended x bs) t ≡ Some st)
        → onward (take s up x t) (may_end x) below bs (settle s up below (ended x bs) t) ≡ Some st
    by (Some new) b e ends k later = ap (λ o. onward o (may_end x) below bs (settle s up below (ended x bs) t)) (taken s limit up above x t new e) ∙ k
    by None true e ends k later =
        ap (λ o. onward o (may_end x) below bs (settle s up below (ended x bs) t)) (passed x t below (ended x bs) st ends g.1 e k)
        ∙ ap (λ b. onward None b below bs (settle s up below (ended x bs) t)) ends ∙ later k
    by None false e ends k later = absurd cc

  -- the machine's state is the same under a greater limit
  pub raised : (front : List Token) (state last : State) → Good s lawful limit state.waits → steps s limit state front ≡ Some last → steps s up state front ≡ Some last
  unfolding steps
  raised [] state last g h = h
  raised (t ∷ ts) state last g h = by (settle s limit state.waits state.built t) refl h (λ next. raised ts next last) where
    by : (r : Option State) → settle s limit state.waits state.built t ≡ r → and_then r (λ next. steps s limit next ts) ≡ Some last
        → ((next : State) → Good s lawful limit next.waits → steps s limit next ts ≡ Some last → steps s up next ts ≡ Some last)
        → and_then (settle s up state.waits state.built t) (λ next. steps s up next ts) ≡ Some last
    by None e k later = absurd cc
    by (Some next) e k later =
        ap (λ r. and_then r (λ next. steps s up next ts)) (settled state.waits state.built t next g e)
        ∙ later next (keeps s lawful limit state.waits state.built t next g e) k
