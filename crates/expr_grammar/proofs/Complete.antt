-- The machine reads each tree that fits, and builds what it means.
use Rattle.std.proofs.Common.{ℕ, zero, suc, ◌≡◌, ◌<◌, ◌≤◌, List, [], ◌∷◌, ◌++◌, Bool, true, false, cond, Option, Some, None, refl, ap, ◌∙◌, arith, append_assoc}
use Rattle.std.proofs.lemmas.Bool.{false≢true, leb-true, le-leb}
use Rattle.ent_types.specs.declared.entity.TypeId.{TypeId}
use Rattle.expr_tokens.specs.Tokens.{Token, word, number as numeral, sign, bad}
use Rattle.expr_tokens.specs.declared.sign.Sign.{Sign}
use Rattle.expr_tokens.specs.declared.sign.Sign.TheVariants.{Open, Close, Comma, Dot, Colon}
use Rattle.expr_grammar.specs.declared.symbol.Symbol.{Symbol}
use Rattle.expr_grammar.specs.declared.symbol.Symbol.TheVariants as wait
use Rattle.expr_grammar.specs.declared.symbol.Action.TheVariants as act
use Rattle.expr_grammar.specs.declared.symbol.Built.{Built}
use Rattle.expr_grammar.specs.declared.symbol.Built.TheVariants as built
use Rattle.expr_trees.specs.declared.tree.Expr.{Expr}
use Rattle.expr_trees.specs.declared.tree.Expr.TheVariants as exprs
use Rattle.expr_trees.specs.declared.tree.BinaryOp.{BinaryOp}
use Rattle.expr_trees.specs.declared.tree.Variable.{Variable}
use Rattle.expr_trees.specs.declared.tree.RefExpr.{RefExpr}
use Rattle.expr_grammar.specs.declared.words.Call.{Call}
use Rattle.expr_grammar.specs.declared.words.FieldUse.{FieldUse}
use Rattle.expr_grammar.specs.declared.words.TypeUse.{TypeUse}
use Rattle.expr_grammar.specs.declared.words.FieldUse.TheVariants.{Number as NumberField, Entity as EntityField, Looked}
use Rattle.expr_grammar.specs.declared.words.Call.TheVariants as calls
use Rattle.expr_grammar.specs.Fitting.{operator_of, associates, MayGoOn, FitsRef, FitsType, FitsField, Fits}
use Rattle.expr_grammar.specs.Grammar.{plain, own, Ref, entity, called, Sort, operand, suffix, expr, tail, Syntax, number, group, signed, named, alone, field, two, pick, get, alive, has, same, on, lone, chain, stop, more, spell, spell_ref}
use Rattle.expr_grammar.specs.Meaning.{meaning, meaning_ref}
use Rattle.expr_grammar.specs.Scopes.{Scope, IsLawful}
use Rattle.expr_grammar.specs.Machine.{State, take, may_end, ended, settle, finish, run, onward, go_on, map_some, take_operand, tails, field_type, arguments, with_variable}
use Rattle.expr_grammar.proofs.Runs.{run_take, run_end, run_do, stops, stops_sign, stops_operator}
use Rattle.expr_grammar.proofs.Takes.{sign_stops, tail_leaves, named_leaves, named_ref_leaves, take_numeral, take_open, take_signed, take_binary, take_begin_name, take_dot, take_arguments, take_field, take_type, take_index, take_version, take_colon, take_close, take_comma, take_dot_sign, take_ref_dot, take_plain, take_owner, take_type_field, typed, name_begins}

module _ (s : Scope) (limit : ℕ) where
  -- an expression of one level more is one of the level with its tail
  pub level_split : (level d : ℕ) (below : List Symbol) (bs : List Built) (ts : List Token)
      → run s limit (wait.Level (suc level) d ∷ below) bs ts ≡ run s limit (wait.Level level d ∷ wait.Tail level d ∷ below) bs ts
  unfolding run settle finish take may_end ended
  level_split level d below bs [] = refl
  level_split level d below bs (t ∷ ts) = split (take_operand s limit d t) (settle s limit below bs t) (settle s limit (wait.Tail level d ∷ below) bs t) where
    split : (r : Option (List Symbol)) (later later' : Option State)
        → go_on (onward (map_some (λ new. new ++ (tails level d ++ wait.Tail level d ∷ [])) r) false below bs later) (λ state. run s limit state.waits state.built ts)
        ≡ go_on (onward (map_some (λ new. new ++ tails level d) r) false (wait.Tail level d ∷ below) bs later') (λ state. run s limit state.waits state.built ts)
    split None later later' = refl
    split (Some new) later later' = ap (λ w. run s limit w bs ts) (simp append_assoc)

weaker : (level : ℕ) (o : Option (BinaryOp × ℕ)) → stops_operator (suc level) o ≡ true → stops_operator level o ≡ true
weaker level None h = refl
weaker level (Some (op, at)) h = le-leb level at (let above : suc level ≤ at = leb-true (suc level) at h in omega arith)

stops_weaker : (level : ℕ) (us : List Token) → stops (suc level) us ≡ true → stops level us ≡ true
stops_weaker level [] h = refl
stops_weaker level (word name ∷ us) h = refl
stops_weaker level (numeral n ∷ us) h = refl
stops_weaker level (bad ∷ us) h = refl
stops_weaker level (sign g ∷ us) h = by g h where
  by : (g : Sign) → stops_sign (suc level) g ≡ true → stops_sign level g ≡ true
  by Open h = absurd (false≢true h)
  by Dot h = absurd (false≢true h)
  by g h = weaker level (operator_of g) (sign_stops (suc level) g h)

pub stops_lower : (level : ℕ) (us : List Token) → stops level us ≡ true → stops 0 us ≡ true
stops_lower zero us h = h
stops_lower (suc level) us h = stops_lower level us (stops_weaker level us h)

operator_stops : (level : ℕ) (g : Sign) (op : BinaryOp) → operator_of g ≡ Some (op, level) → stops_sign level g ≡ true
operator_stops level g op is = by g is ∙ ap (stops_operator level) is ∙ le-leb level level (omega arith) where
  by : (g : Sign) → operator_of g ≡ Some (op, level) → stops_sign level g ≡ stops_operator level (operator_of g)
  by Open h = absurd cc
  by Dot h = absurd cc
  by g h = refl

module _ (s : Scope) (lawful : IsLawful s) (limit : ℕ) where
  pub stops_tail : (t : Syntax tail) (level d : ℕ) (us : List Token) → Fits s limit level d [] t → stops (suc level) us ≡ true → stops level (spell t us) ≡ true
  stops_tail stop level d us fits h = stops_weaker level us h
  stops_tail (more g op e t) level d us fits h = operator_stops level g op fits.0

  pub end_plain : (r : RefExpr) (ty : Option TypeId) (below : List Symbol) (bs : List Built) (us : List Token) → stops 0 us ≡ true
      → run s limit (wait.NamedRef (Some r) ty ∷ below) bs us ≡ run s limit below (built.Ref r ∷ bs) us
  unfolding may_end ended
  end_plain r ty below bs us h = run_end s limit (wait.NamedRef (Some r) ty) below bs us refl (named_ref_leaves s limit (Some r) ty 0 us h)

  end_variable : (d : ℕ) (name : List ℕ) (v : Variable) (below : List Symbol) (bs : List Built) (us : List Token) → s.variable name ≡ Some v → stops 0 us ≡ true
      → run s limit (wait.Named (s.variable name) (field_type s NumberField name) (s.call name) d ∷ below) bs us ≡ run s limit below (built.Int (exprs.Variable v) ∷ bs) us
  unfolding may_end ended
  end_variable d name v below bs us is h =
      run_end s limit (wait.Named (s.variable name) (field_type s NumberField name) (s.call name) d) below bs us (rw is refl) (named_leaves s limit (s.variable name) _ _ d 0 us h)
      ∙ ap (λ o. run s limit below (with_variable o bs) us) is

  pub complete_ref : (r : Ref) (made : Bool) (below : List Symbol) (bs : List Built) (us : List Token) → FitsRef s made r → stops 0 us ≡ true
      → run s limit (wait.Ref made ∷ below) bs (spell_ref r us) ≡ run s limit below (built.Ref (meaning_ref r) ∷ bs) us
  complete_ref (entity i v) made below bs us fits h =
      run_take s limit (wait.Ref made) below bs (numeral i) _ _ (take_index s limit made i fits.0)
      ∙ run_take s limit (wait.Colon i) below bs (sign Colon) _ _ (take_colon s limit i)
      ∙ run_take s limit (wait.Version i) below bs (numeral v) us _ (take_version s limit i v fits.1)
      ∙ run_do s limit _ below bs us
  complete_ref (called name (plain r)) made below bs us fits h =
      run_take s limit (wait.Ref made) below bs (word name) us _ (take_plain s limit made name r fits)
      ∙ end_plain r _ below bs us h
  complete_ref (called name (own f ty i)) made below bs us fits h =
      run_take s limit (wait.Ref made) below bs (word name) _ _ (take_owner s limit made name ty (typed s lawful limit EntityField name ty f i fits))
      ∙ run_take s limit (wait.NamedRef (s.reference made name) (Some ty)) below bs (sign Dot) _ _ (take_ref_dot s limit _ ty)
      ∙ run_take s limit (wait.Field ty EntityField) below bs (word f) us _ (take_field s limit EntityField ty f i fits.1)
      ∙ run_do s limit _ below bs us

  type_field : (role : FieldUse) (t : List ℕ) (ty : TypeId) (f : List ℕ) (i : ℕ) (below : List Symbol) (bs : List Built) (us : List Token) → FitsField s Looked t ty f i
      → run s limit (wait.TypeField Looked ∷ below) bs (word t ∷ sign Dot ∷ word f ∷ us) ≡ run s limit below (built.Field ty i ∷ bs) us
  type_field role t ty f i below bs us fits =
      run_take s limit (wait.TypeField Looked) below bs (word t) _ _ (take_type_field s limit Looked t ty (typed s lawful limit Looked t ty f i fits))
      ∙ run_take s limit wait.Dot _ bs (sign Dot) _ [] (take_dot_sign s limit)
      ∙ run_take s limit (wait.Field ty Looked) below bs (word f) us _ (take_field s limit Looked ty f i fits.1)
      ∙ run_do s limit _ below bs us

  abbrev Completes : (sort : Sort) → Syntax sort → Type 0
  Completes operand o = (d : ℕ) (below : List Symbol) (bs : List Built) (us : List Token) → Fits s limit 0 d [] o → stops 0 us ≡ true
      → run s limit (wait.Level 0 d ∷ below) bs (spell o us) ≡ run s limit below (built.Int (meaning o) ∷ bs) us
  Completes suffix x = (d : ℕ) (name : List ℕ) (below : List Symbol) (bs : List Built) (us : List Token) → Fits s limit 0 d name x → stops 0 us ≡ true
      → run s limit (wait.Named (s.variable name) (field_type s NumberField name) (s.call name) d ∷ below) bs (spell x us) ≡ run s limit below (built.Int (meaning x) ∷ bs) us
  Completes expr e = (level d : ℕ) (below : List Symbol) (bs : List Built) (us : List Token) → Fits s limit level d [] e → stops level us ≡ true
      → run s limit (wait.Level level d ∷ below) bs (spell e us) ≡ run s limit below (built.Int (meaning e) ∷ bs) us
  Completes tail t = (level d : ℕ) (below : List Symbol) (bs : List Built) (us : List Token) (left : Expr) → Fits s limit level d [] t → stops (suc level) us ≡ true
      → run s limit (wait.Tail level d ∷ below) (built.Int left ∷ bs) (spell t us) ≡ run s limit below (built.Int ((meaning t) left) ∷ bs) us

  -- `(` of a call, its first argument begun
  pub open_call : (c : Call) (d : ℕ) (name : List ℕ) (below : List Symbol) (bs : List Built) (ts : List Token) → d < limit → s.call name ≡ Some c
      → run s limit (wait.Named (s.variable name) (field_type s NumberField name) (s.call name) d ∷ below) bs (sign Open ∷ ts) ≡ run s limit (arguments c (suc d) ++ below) bs ts
  open_call c d name below bs ts h is = run_take s limit _ below bs (sign Open) ts _ (take_arguments s limit _ _ (s.call name) c d is h)

  pub comma : (below : List Symbol) (bs : List Built) (ts : List Token) → run s limit (wait.Comma ∷ below) bs (sign Comma ∷ ts) ≡ run s limit below bs ts
  comma below bs ts = run_take s limit wait.Comma below bs (sign Comma) ts [] (take_comma s limit)

  pub close : (below : List Symbol) (bs : List Built) (ts : List Token) → run s limit (wait.Close ∷ below) bs (sign Close ∷ ts) ≡ run s limit below bs ts
  close below bs ts = run_take s limit wait.Close below bs (sign Close) ts [] (take_close s limit)

  pub type_alone : (role : TypeUse) (t : List ℕ) (ty : TypeId) (below : List Symbol) (bs : List Built) (us : List Token) → FitsType s role t ty
      → run s limit (wait.Type role ∷ below) bs (word t ∷ us) ≡ run s limit below (built.Type ty ∷ bs) us
  type_alone role t ty below bs us fits = run_take s limit (wait.Type role) below bs (word t) us _ (take_type s limit role t ty fits) ∙ run_do s limit _ below bs us

  -- more operators, where the level has them
  tail_on : (t : Syntax tail) (level d : ℕ) (b : Bool) (below : List Symbol) (bs : List Built) (us : List Token) (left : Expr)
      → Completes tail t → Fits s limit level d [] t → MayGoOn b t → stops (suc level) us ≡ true
      → run s limit (cond b (wait.Tail level d ∷ []) [] ++ below) (built.Int left ∷ bs) (spell t us) ≡ run s limit below (built.Int ((meaning t) left) ∷ bs) us
  tail_on t level d true below bs us left all fits goes h = all level d below bs us left fits h
  tail_on stop level d false below bs us left all fits goes h = refl
  tail_on (more g op e t) level d false below bs us left all fits goes h = absurd goes

  lone_at : (o : Syntax operand) → Completes operand o → Completes expr (lone o)
  lone_at o done = λ level. elim level as (λ l. (d : ℕ) (below : List Symbol) (bs : List Built) (us : List Token) → Fits s limit l d [] (lone o) → stops l us ≡ true
      → run s limit (wait.Level l d ∷ below) bs (spell o us) ≡ run s limit below (built.Int (meaning o) ∷ bs) us)
      [ zero ↦ λ d below bs us fits h. done d below bs us fits h | suc l ↦ λ d below bs us fits h. absurd fits ]

  chain_at : (e : Syntax expr) (t : Syntax tail) → Completes expr e → Completes tail t → Completes expr (chain e t)
  chain_at e t front back = λ level. elim level as (λ l. (d : ℕ) (below : List Symbol) (bs : List Built) (us : List Token) → Fits s limit l d [] (chain e t) → stops l us ≡ true
      → run s limit (wait.Level l d ∷ below) bs (spell e (spell t us)) ≡ run s limit below (built.Int ((meaning t) (meaning e)) ∷ bs) us) [
        | zero ↦ λ d below bs us fits h. absurd fits
        | suc l ↦ λ d below bs us fits h.
            level_split s limit l d below bs (spell e (spell t us))
            ∙ front l d (wait.Tail l d ∷ below) bs (spell t us) fits.0 (stops_tail t l d us fits.1 h)
            ∙ back l d below bs us (meaning e) fits.1 h
      ]

  pub stop_tail : (level d : ℕ) (below : List Symbol) (bs : List Built) (us : List Token) → stops (suc level) us ≡ true
      → run s limit (wait.Tail level d ∷ below) bs us ≡ run s limit below bs us
  unfolding may_end ended
  stop_tail level d below bs us h = run_end s limit (wait.Tail level d) below bs us refl (tail_leaves s limit level d us h)

  pub complete : {sort : Sort} (tree : Syntax sort) → Completes sort tree
  complete (number n) = λ d below bs us fits h.
      run_take s limit (wait.Level 0 d) below bs (numeral n) us _ (take_numeral s limit d n fits) ∙ run_do s limit _ below bs us
  complete (group e) = λ d below bs us fits h.
      run_take s limit (wait.Level 0 d) below bs (sign Open) _ _ (take_open s limit d fits.0)
      ∙ complete e 5 (suc d) (wait.Close ∷ below) bs (sign Close ∷ us) fits.1 refl
      ∙ close below _ us
  complete (signed g op o) = λ d below bs us fits h.
      run_take s limit (wait.Level 0 d) below bs (sign g) _ _ (take_signed s limit d g op fits.0 fits.1)
      ∙ complete o (suc d) (wait.Do (act.Unary op) ∷ below) bs us fits.2 h
      ∙ run_do s limit _ below _ us
  complete (named name after) = λ d below bs us fits h.
      run_take s limit (wait.Level 0 d) below bs (word name) _ _ (take_begin_name s limit d name (name_begins s lawful limit d name after fits))
      ∙ complete after d name below bs us fits h
  complete (alone v) = λ d name below bs us fits h. end_variable d name v below bs us fits h
  complete (field f ty i) = λ d name below bs us fits h.
      run_take s limit _ below bs (sign Dot) _ _ (take_dot s limit (s.variable name) ty (field_type s NumberField name) (s.call name) d (typed s lawful limit NumberField name ty f i fits))
      ∙ run_take s limit (wait.Field ty NumberField) below bs (word f) us _ (take_field s limit NumberField ty f i fits.1)
      ∙ run_do s limit _ below bs us
  complete (two op a b) = λ d name below bs us fits h.
      open_call (calls.Two op) d name below bs _ fits.0 fits.1
      ∙ complete a 5 (suc d) _ bs _ fits.2 refl ∙ comma _ _ _
      ∙ complete b 5 (suc d) _ _ _ fits.3 refl ∙ close _ _ us ∙ run_do s limit _ below _ us
  complete (pick c a b) = λ d name below bs us fits h.
      open_call calls.Pick d name below bs _ fits.0 fits.1
      ∙ complete c 5 (suc d) _ bs _ fits.2 refl ∙ comma _ _ _
      ∙ complete a 5 (suc d) _ _ _ fits.3 refl ∙ comma _ _ _
      ∙ complete b 5 (suc d) _ _ _ fits.4 refl ∙ close _ _ us ∙ run_do s limit _ below _ us
  complete (get r t ty f i) = λ d name below bs us fits h.
      open_call calls.Get d name below bs _ fits.0 fits.1
      ∙ complete_ref r false _ bs _ fits.2 refl ∙ comma _ _ _
      ∙ type_field Looked t ty f i _ _ _ fits.3 ∙ close _ _ us ∙ run_do s limit _ below _ us
  complete (alive r) = λ d name below bs us fits h.
      open_call calls.Alive d name below bs _ fits.0 fits.1
      ∙ complete_ref r false _ bs _ fits.2 refl ∙ close _ _ us ∙ run_do s limit _ below _ us
  complete (has r t ty) = λ d name below bs us fits h.
      open_call calls.Has d name below bs _ fits.0 fits.1
      ∙ complete_ref r false _ bs _ fits.2 refl ∙ comma _ _ _
      ∙ type_alone _ t ty _ _ _ fits.3 ∙ close _ _ us ∙ run_do s limit _ below _ us
  complete (same r q) = λ d name below bs us fits h.
      open_call calls.Same d name below bs _ fits.0 fits.1
      ∙ complete_ref r false _ bs _ fits.2 refl ∙ comma _ _ _
      ∙ complete_ref q false _ _ _ fits.3 refl ∙ close _ _ us ∙ run_do s limit _ below _ us
  complete (on t ty) = λ d name below bs us fits h.
      open_call calls.On d name below bs _ fits.0 fits.1
      ∙ type_alone _ t ty _ bs _ fits.2 ∙ close _ _ us ∙ run_do s limit _ below _ us
  complete (lone o) = lone_at o (complete o)
  complete (chain e t) = chain_at e t (complete e) (complete t)
  complete stop = λ level d below bs us left fits h. stop_tail level d below _ us h
  complete (more g op e t) = λ level d below bs us left fits h.
      run_take s limit (wait.Tail level d) below _ (sign g) _ _ (take_binary s limit level d g op fits.0)
      ∙ complete e level d _ _ (spell t us) fits.1 (stops_tail t level d us fits.3 h)
      ∙ run_do s limit _ _ _ _
      ∙ tail_on t level d (associates level) below bs us _ (complete t) fits.3 fits.2 h
