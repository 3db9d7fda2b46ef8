-- What the machine reads as an expression is one that fits.
use Rattle.std.proofs.Common.{ℕ, zero, suc, ◌≡◌, ◌<◌, ◌≤◌, ◌^◌, List, [], ◌∷◌, ◌++◌, ◌⊎◌, inl, inr, ⊎_elim, Bool, true, false, ◌&&◌, ◌||◌, cond, length, Option, Some, None, refl, sym, ap, ◌∙◌, arith}
use Rattle.std.proofs.lemmas.Bool.{ltb-true, eqb-true}
use Rattle.std.specs.Prelude.{nat_lt, nat_eq, is_some, pos}
use Rattle.ent_types.specs.declared.entity.TypeId.{TypeId}
use Rattle.expr_tokens.specs.Tokens.{Token, word, number as numeral, sign, bad}
use Rattle.expr_tokens.specs.declared.sign.Sign.{Sign}
use Rattle.expr_tokens.specs.declared.sign.Sign.TheVariants.{Open, Close, Comma, Dot}
use Rattle.expr_grammar.specs.declared.symbol.Symbol.{Symbol}
use Rattle.expr_grammar.specs.declared.symbol.Symbol.TheVariants as wait
use Rattle.expr_grammar.specs.declared.symbol.Action.TheVariants as act
use Rattle.expr_grammar.specs.declared.symbol.Built.{Built}
use Rattle.expr_trees.specs.declared.tree.BinaryOp.{BinaryOp}
use Rattle.expr_trees.specs.declared.tree.UnaryOp.{UnaryOp}
use Rattle.expr_trees.specs.declared.tree.Variable.{Variable}
use Rattle.expr_grammar.specs.declared.words.Call.{Call}
use Rattle.expr_grammar.specs.declared.words.Call.TheVariants as calls
use Rattle.expr_grammar.specs.declared.words.FieldUse.TheVariants.{Number as NumberField, Looked}
use Rattle.expr_grammar.specs.declared.words.TypeUse.TheVariants.{Asked, Own}
use Rattle.expr_grammar.specs.Fitting.{operator_of, sign_of, associates, MayGoOn, Fits}
use Rattle.expr_grammar.specs.Grammar.{operand, suffix, expr, tail, Syntax, number, group, signed, named, alone, field, two, pick, get, alive, has, same, on, lone, chain, stop, more, spell, spell_ref}
use Rattle.expr_grammar.specs.Scopes.{Scope}
use Rattle.expr_grammar.specs.Machine.{take, may_end, run, take_operand, take_operator, take_call, field_type, arguments, begins_sign, begins_signed}
use Rattle.expr_grammar.proofs.Runs.{run_do}
use Rattle.expr_grammar.proofs.Complete.{level_split}
use Rattle.expr_grammar.proofs.ReadRefs.{Taken, Ended, way, must_take, when_inv, map_inv, kept_inv, some_inv, Read, read_close, read_comma, read_dot, read_field, read_type, read_type_field, read_ref, left}

module _ (s : Scope) (limit : ℕ) where
  abbrev pub ReadExpr : ℕ → ℕ → List Symbol → List Token → List Built → Type 0
  ReadExpr level d = Read s limit {Tree = Syntax expr} (Fits s limit level d []) spell

  abbrev ReadOperand : ℕ → List Symbol → List Token → List Built → Type 0
  ReadOperand d = Read s limit {Tree = Syntax operand} (Fits s limit 0 d []) spell

  abbrev ReadSuffix : ℕ → List ℕ → List Symbol → List Token → List Built → Type 0
  ReadSuffix d name below ts ws = Read s limit {Tree = Syntax suffix} (Fits s limit 0 d name) (λ x us. word name ∷ spell x us) below (word name ∷ ts) ws

  -- what is known of shorter texts
  abbrev pub Shorter : ℕ → Type 0
  Shorter n = (level d : ℕ) (below : List Symbol) (bs : List Built) (ts : List Token) (ws : List Built) → length ts < n
      → run s limit (wait.Level level d ∷ below) bs ts ≡ Some ws → ReadExpr level d below ts ws

  -- how an operand may begin
  pub data Begun (d : ℕ) (t : Token) (new : List Symbol) : Type 0 where
    by_number : (n : ℕ) → t ≡ numeral n → n < 2 ^ 63 → wait.Do (act.Number (pos n)) ∷ [] ≡ new → Begun d t new
    by_open : t ≡ sign Open → d < limit → wait.Level 5 (suc d) ∷ wait.Close ∷ [] ≡ new → Begun d t new
    by_sign : (g : Sign) (op : UnaryOp) → t ≡ sign g → d < limit → sign_of g ≡ Some op → wait.Level 0 (suc d) ∷ wait.Do (act.Unary op) ∷ [] ≡ new → Begun d t new
    by_name : (name : List ℕ) → t ≡ word name → ((is_some (s.variable name) || is_some (field_type s NumberField name)) || (is_some (s.call name) && nat_lt d limit)) ≡ true → wait.Named (s.variable name) (field_type s NumberField name) (s.call name) d ∷ [] ≡ new → Begun d t new

  signed_inv : (d : ℕ) (g : Sign) (o : Option UnaryOp) (new : List Symbol) → sign_of g ≡ o → begins_signed limit d o ≡ Some new → Begun d (sign g) new
  signed_inv d g None new e h = absurd cc
  signed_inv d g (Some op) new e h = let w = when_inv (nat_lt d limit) _ new h in by_sign g op refl (ltb-true d limit w.0) e w.1

  sign_inv : (d : ℕ) (g : Sign) (new : List Symbol) → begins_sign limit d g ≡ Some new → Begun d (sign g) new
  sign_inv d Open new h = let w = when_inv (nat_lt d limit) _ new h in by_open refl (ltb-true d limit w.0) w.1
  sign_inv d g new h = signed_inv d g (sign_of g) new refl h

  pub begun : (d : ℕ) (t : Token) (new : List Symbol) → take_operand s limit d t ≡ Some new → Begun d t new
  begun d bad new h = absurd cc
  begun d (numeral n) new h = let w = when_inv (nat_lt n (2 ^ 63)) _ new h in by_number n refl (ltb-true n (2 ^ 63) w.0) w.1
  begun d (sign g) new h = sign_inv d g new h
  begun d (word name) new h =
      let w = when_inv ((is_some (s.variable name) || is_some (field_type s NumberField name)) || (is_some (s.call name) && nat_lt d limit)) _ new h in
      by_name name refl w.0 w.1

  -- how a name may go on
  pub data Followed (ty : Option TypeId) (call : Option Call) (d : ℕ) (t : Token) (new : List Symbol) : Type 0 where
    by_dot : (u : TypeId) → t ≡ sign Dot → ty ≡ Some u → wait.Field u NumberField ∷ [] ≡ new → Followed ty call d t new
    by_call : (c : Call) → t ≡ sign Open → call ≡ Some c → d < limit → arguments c (suc d) ≡ new → Followed ty call d t new

  call_inv : (ty : Option TypeId) (call : Option Call) (d : ℕ) (new : List Symbol) → take_call limit d call ≡ Some new → Followed ty call d (sign Open) new
  call_inv ty None d new h = absurd cc
  call_inv ty (Some c) d new h = let w = when_inv (nat_lt d limit) _ new h in by_call c refl refl (ltb-true d limit w.0) w.1

  pub followed : (v : Option Variable) (ty : Option TypeId) (call : Option Call) (d : ℕ) (t : Token) (new : List Symbol)
      → take s limit (wait.Named v ty call d) t ≡ Some new → Followed ty call d t new
  unfolding take
  followed v ty call d (word name) new h = absurd cc
  followed v ty call d (numeral n) new h = absurd cc
  followed v ty call d bad new h = absurd cc
  followed v ty call d (sign Dot) new h = let m = map_inv (λ u. wait.Field u NumberField ∷ []) ty new h in by_dot m.0 refl m.1 m.2
  followed v ty call d (sign Open) new h = call_inv ty call d new h
  followed v ty call d (sign g) new h = absurd cc

  -- an expression, then a sign
  pub record Then (g : Sign) (d : ℕ) (below : List Symbol) (ts : List Token) (ws : List Built) : Type 0 where
    pub tree : Syntax expr
    pub fits : Fits s limit 5 d [] tree
    pub rest : List Token
    pub tokens : ts ≡ spell tree (sign g ∷ rest)
    pub shorter : length rest < length ts
    pub built : List Built
    pub goes_on : run s limit below built rest ≡ Some ws

  then_comma : (n : ℕ) → Shorter n → (d : ℕ) (below : List Symbol) (bs : List Built) (ts : List Token) (ws : List Built) → length ts < n
      → run s limit (wait.Level 5 d ∷ wait.Comma ∷ below) bs ts ≡ Some ws → Then Comma d below ts ws
  then_comma n ih d below bs ts ws short h =
      let e = ih 5 d (wait.Comma ∷ below) bs ts ws short h in
      let c = read_comma s limit below e.built e.rest ws e.goes_on in
      record {
        tree = e.tree;
        fits = e.fits;
        rest = c.rest;
        tokens = e.tokens ∙ ap (λ x. spell e.tree x) c.tokens;
        shorter = omega (arith, e.shorter, ap length c.tokens);
        built = _;
        goes_on = c.goes_on;
      }

  then_close : (n : ℕ) → Shorter n → (d : ℕ) (below : List Symbol) (bs : List Built) (ts : List Token) (ws : List Built) → length ts < n
      → run s limit (wait.Level 5 d ∷ wait.Close ∷ below) bs ts ≡ Some ws → Then Close d below ts ws
  then_close n ih d below bs ts ws short h =
      let e = ih 5 d (wait.Close ∷ below) bs ts ws short h in
      let c = read_close s limit below e.built e.rest ws e.goes_on in
      record {
        tree = e.tree;
        fits = e.fits;
        rest = c.rest;
        tokens = e.tokens ∙ ap (λ x. spell e.tree x) c.tokens;
        shorter = omega (arith, e.shorter, ap length c.tokens);
        built = _;
        goes_on = c.goes_on;
      }

  -- the arguments of a call, after its name and its opening parenthesis
  call_read : (n : ℕ) → Shorter n → (c : Call) (d : ℕ) (name : List ℕ) (below : List Symbol) (bs : List Built) (ts : List Token) (ws : List Built)
      → length ts < n → d < limit → s.call name ≡ Some c → run s limit (arguments c (suc d) ++ below) bs ts ≡ Some ws → ReadSuffix d name below (sign Open ∷ ts) ws
  call_read n ih (calls.Two op) d name below bs ts ws short deep is h =
      let a = then_comma n ih (suc d) _ bs ts ws short h in
      let b = then_close n ih (suc d) _ a.built a.rest ws (omega (arith, a.shorter)) a.goes_on in
      record {
        tree = two op a.tree b.tree;
        fits = (deep, is, a.fits, b.fits);
        rest = b.rest;
        tokens = ap (λ x. word name ∷ sign Open ∷ x) (a.tokens ∙ ap (λ x. spell a.tree (sign Comma ∷ x)) b.tokens);
        shorter = omega (arith, a.shorter, b.shorter);
        built = _;
        goes_on = sym (run_do s limit _ below b.built b.rest) ∙ b.goes_on;
      }
  call_read n ih calls.Pick d name below bs ts ws short deep is h =
      let c = then_comma n ih (suc d) _ bs ts ws short h in
      let a = then_comma n ih (suc d) _ c.built c.rest ws (omega (arith, c.shorter)) c.goes_on in
      let b = then_close n ih (suc d) _ a.built a.rest ws (omega (arith, c.shorter, a.shorter)) a.goes_on in
      record {
        tree = pick c.tree a.tree b.tree;
        fits = (deep, is, c.fits, a.fits, b.fits);
        rest = b.rest;
        tokens = ap (λ x. word name ∷ sign Open ∷ x) (c.tokens ∙ ap (λ x. spell c.tree (sign Comma ∷ x)) (a.tokens ∙ ap (λ x. spell a.tree (sign Comma ∷ x)) b.tokens));
        shorter = omega (arith, c.shorter, a.shorter, b.shorter);
        built = _;
        goes_on = sym (run_do s limit _ below b.built b.rest) ∙ b.goes_on;
      }
  call_read n ih calls.Get d name below bs ts ws short deep is h =
      let r = read_ref s limit false _ bs ts ws h in
      let c = read_comma s limit _ r.built r.rest ws r.goes_on in
      let t = read_type_field s limit Looked _ r.built c.rest ws c.goes_on in
      let p = read_dot s limit _ r.built t.rest ws t.goes_on in
      let f = read_field s limit Looked t.ty _ r.built p.rest ws p.goes_on in
      let done = sym (run_do s limit _ (wait.Close ∷ wait.Do act.Get ∷ below) r.built f.rest) ∙ f.goes_on in
      let e = read_close s limit _ _ f.rest ws done in
      let tail_is : c.rest ≡ word t.name ∷ sign Dot ∷ word f.name ∷ sign Close ∷ e.rest =
      t.tokens ∙ ap (λ x. word t.name ∷ x) (p.tokens ∙ ap (λ x. sign Dot ∷ x) (f.tokens ∙ ap (λ x. word f.name ∷ x) e.tokens)) in
      record {
        tree = get r.tree t.name t.ty f.name f.place;
        fits = (deep, is, r.fits, (t.known, f.known));
        rest = e.rest;
        tokens = ap (λ x. word name ∷ sign Open ∷ x) (r.tokens ∙ ap (λ x. spell_ref r.tree x) (c.tokens ∙ ap (λ x. sign Comma ∷ x) tail_is));
        shorter = omega (arith, r.shorter, ap length c.tokens, ap length tail_is);
        built = _;
        goes_on = sym (run_do s limit _ below _ e.rest) ∙ e.goes_on;
      }
  call_read n ih calls.Alive d name below bs ts ws short deep is h =
      let r = read_ref s limit false _ bs ts ws h in
      let e = read_close s limit _ r.built r.rest ws r.goes_on in
      record {
        tree = alive r.tree;
        fits = (deep, is, r.fits);
        rest = e.rest;
        tokens = ap (λ x. word name ∷ sign Open ∷ x) (r.tokens ∙ ap (λ x. spell_ref r.tree x) e.tokens);
        shorter = omega (arith, r.shorter, ap length e.tokens);
        built = _;
        goes_on = sym (run_do s limit _ below r.built e.rest) ∙ e.goes_on;
      }
  call_read n ih calls.Has d name below bs ts ws short deep is h =
      let r = read_ref s limit false _ bs ts ws h in
      let c = read_comma s limit _ r.built r.rest ws r.goes_on in
      let t = read_type s limit Asked _ r.built c.rest ws c.goes_on in
      let done = sym (run_do s limit _ (wait.Close ∷ wait.Do act.Has ∷ below) r.built t.rest) ∙ t.goes_on in
      let e = read_close s limit _ _ t.rest ws done in
      let tail_is : c.rest ≡ word t.name ∷ sign Close ∷ e.rest = t.tokens ∙ ap (λ x. word t.name ∷ x) e.tokens in
      record {
        tree = has r.tree t.name t.ty;
        fits = (deep, is, r.fits, (t.known, t.passes));
        rest = e.rest;
        tokens = ap (λ x. word name ∷ sign Open ∷ x) (r.tokens ∙ ap (λ x. spell_ref r.tree x) (c.tokens ∙ ap (λ x. sign Comma ∷ x) tail_is));
        shorter = omega (arith, r.shorter, ap length c.tokens, ap length tail_is);
        built = _;
        goes_on = sym (run_do s limit _ below _ e.rest) ∙ e.goes_on;
      }
  call_read n ih calls.Same d name below bs ts ws short deep is h =
      let r = read_ref s limit false _ bs ts ws h in
      let c = read_comma s limit _ r.built r.rest ws r.goes_on in
      let q = read_ref s limit false _ r.built c.rest ws c.goes_on in
      let e = read_close s limit _ q.built q.rest ws q.goes_on in
      record {
        tree = same r.tree q.tree;
        fits = (deep, is, r.fits, q.fits);
        rest = e.rest;
        tokens = ap (λ x. word name ∷ sign Open ∷ x) (r.tokens ∙ ap (λ x. spell_ref r.tree x) (c.tokens ∙ ap (λ x. sign Comma ∷ x) (q.tokens ∙ ap (λ x. spell_ref q.tree x) e.tokens)));
        shorter = omega (arith, r.shorter, ap length c.tokens, q.shorter, ap length e.tokens);
        built = _;
        goes_on = sym (run_do s limit _ below q.built e.rest) ∙ e.goes_on;
      }
  call_read n ih calls.On d name below bs ts ws short deep is h =
      let t = read_type s limit Own _ bs ts ws h in
      let done = sym (run_do s limit _ (wait.Close ∷ wait.Do act.On ∷ below) bs t.rest) ∙ t.goes_on in
      let e = read_close s limit _ _ t.rest ws done in
      record {
        tree = on t.name t.ty;
        fits = (deep, is, (t.known, t.passes));
        rest = e.rest;
        tokens = ap (λ x. word name ∷ sign Open ∷ x) (t.tokens ∙ ap (λ x. word t.name ∷ x) e.tokens);
        shorter = omega (arith, ap length t.tokens, ap length e.tokens);
        built = _;
        goes_on = sym (run_do s limit _ below _ e.rest) ∙ e.goes_on;
      }

  -- a name of an expression and what follows it
  name_read : (n : ℕ) → Shorter n → (d : ℕ) (name : List ℕ) (below : List Symbol) (bs : List Built) (ts : List Token) (ws : List Built)
      → length ts < suc n → run s limit (wait.Named (s.variable name) (field_type s NumberField name) (s.call name) d ∷ below) bs ts ≡ Some ws
      → ReadSuffix d name below ts ws
  unfolding may_end
  name_read n ih d name below bs ts ws short h =
      ⊎_elim (λ t. goes t (followed (s.variable name) (field_type s NumberField name) (s.call name) d t.token t.new t.takes))
      (λ e. let v = some_inv (s.variable name) e.ends in record {
        tree = alone v.0;
        fits = v.1;
        rest = ts;
        tokens = refl;
        shorter = omega arith;
        built = _;
        goes_on = e.goes_on;
      })
      (way s limit (wait.Named (s.variable name) (field_type s NumberField name) (s.call name) d) below bs ts ws h) where
        goes : (t : Taken s limit (wait.Named (s.variable name) (field_type s NumberField name) (s.call name) d) below bs ts ws)
            → Followed (field_type s NumberField name) (s.call name) d t.token t.new → ReadSuffix d name below ts ws
        goes t (by_dot u is known leaves) =
            let k = kept_inv (s.has_field NumberField) (s.find name) u known in
            let f = read_field s limit NumberField u below bs t.rest ws (left s limit below bs t.rest ws (wait.Field u NumberField ∷ []) t.new leaves t.goes_on) in
            let whole : ts ≡ sign Dot ∷ word f.name ∷ f.rest = t.tokens ∙ (λ j. is j ∷ f.tokens j) in
            record {
              tree = field f.name u f.place;
              fits = (k.0, f.known);
              rest = f.rest;
              tokens = ap (λ x. word name ∷ x) whole;
              shorter = omega (arith, ap length whole);
              built = _;
              goes_on = sym (run_do s limit _ below bs f.rest) ∙ f.goes_on;
            }
        goes t (by_call c is known deep leaves) =
            let whole : ts ≡ sign Open ∷ t.rest = t.tokens ∙ ap (λ x. x ∷ t.rest) is in
            let r = call_read n ih c d name below bs t.rest ws (omega (arith, ap length whole)) deep known (left s limit below bs t.rest ws (arguments c (suc d)) t.new leaves t.goes_on) in
            record {
              tree = r.tree;
              fits = r.fits;
              rest = r.rest;
              tokens = ap (λ x. word name ∷ x) whole ∙ r.tokens;
              shorter = omega (arith, r.shorter, ap length whole);
              built = r.built;
              goes_on = r.goes_on;
            }

  -- an expression of no level is an operand
  operand_of : (d : ℕ) (below : List Symbol) (ts : List Token) (ws : List Built) → ReadExpr 0 d below ts ws → ReadOperand d below ts ws
  operand_of d below ts ws r = by r.tree r.fits r.tokens where
    by : (e : Syntax expr) → Fits s limit 0 d [] e → ts ≡ spell e r.rest → ReadOperand d below ts ws
    by (lone o) fits tokens = record { tree = o; fits = fits; rest = r.rest; tokens = tokens; shorter = r.shorter; built = r.built; goes_on = r.goes_on }
    by (chain e t) fits tokens = absurd fits

  never_level : (level d : ℕ) → may_end (wait.Level level d) ≡ false
  unfolding may_end
  never_level level d = refl

  pub level_takes : (d : ℕ) (t : Token) (new : List Symbol) → take s limit (wait.Level 0 d) t ≡ Some new → (begins : List Symbol) × (take_operand s limit d t ≡ Some begins) × (begins ++ [] ≡ new)
  unfolding take
  level_takes d t new h = map_inv (λ x. x ++ []) (take_operand s limit d t) new h

  operand_read : (n : ℕ) → Shorter n → (d : ℕ) (below : List Symbol) (bs : List Built) (ts : List Token) (ws : List Built)
      → length ts < suc n → run s limit (wait.Level 0 d ∷ below) bs ts ≡ Some ws → ReadOperand d below ts ws
  operand_read n ih d below bs ts ws short h =
      let t = must_take s limit (wait.Level 0 d) below bs ts ws (never_level 0 d) h in
      let m = level_takes d t.token t.new t.takes in
      goes t m.0 m.2 (begun d t.token m.0 m.1) where
        goes : (t : Taken s limit (wait.Level 0 d) below bs ts ws) (new : List Symbol) → new ++ [] ≡ t.new → Begun d t.token new → ReadOperand d below ts ws
        goes t new closed (by_number k is small leaves) =
            let whole : ts ≡ numeral k ∷ t.rest = t.tokens ∙ ap (λ x. x ∷ t.rest) is in
            let on = left s limit below bs t.rest ws (wait.Do (act.Number (pos k)) ∷ []) t.new (ap (λ x. x ++ []) leaves ∙ closed) t.goes_on in
            record {
              tree = number k;
              fits = small;
              rest = t.rest;
              tokens = whole;
              shorter = omega (arith, ap length whole);
              built = _;
              goes_on = sym (run_do s limit _ below bs t.rest) ∙ on;
            }
        goes t new closed (by_open is deep leaves) =
            let whole : ts ≡ sign Open ∷ t.rest = t.tokens ∙ ap (λ x. x ∷ t.rest) is in
            let on = left s limit below bs t.rest ws (wait.Level 5 (suc d) ∷ wait.Close ∷ []) t.new (ap (λ x. x ++ []) leaves ∙ closed) t.goes_on in
            let e = then_close n ih (suc d) below bs t.rest ws (omega (arith, ap length whole)) on in
            record {
              tree = group e.tree;
              fits = (deep, e.fits);
              rest = e.rest;
              tokens = whole ∙ ap (λ x. sign Open ∷ x) e.tokens;
              shorter = omega (arith, e.shorter, ap length whole);
              built = e.built;
              goes_on = e.goes_on;
            }
        goes t new closed (by_sign g op is deep known leaves) =
            let whole : ts ≡ sign g ∷ t.rest = t.tokens ∙ ap (λ x. x ∷ t.rest) is in
            let on = left s limit below bs t.rest ws (wait.Level 0 (suc d) ∷ wait.Do (act.Unary op) ∷ []) t.new (ap (λ x. x ++ []) leaves ∙ closed) t.goes_on in
            let o = operand_of (suc d) _ t.rest ws (ih 0 (suc d) (wait.Do (act.Unary op) ∷ below) bs t.rest ws (omega (arith, ap length whole)) on) in
            record {
              tree = signed g op o.tree;
              fits = (deep, known, o.fits);
              rest = o.rest;
              tokens = whole ∙ ap (λ x. sign g ∷ x) o.tokens;
              shorter = omega (arith, o.shorter, ap length whole);
              built = _;
              goes_on = sym (run_do s limit _ below o.built o.rest) ∙ o.goes_on;
            }
        goes t new closed (by_name name is may leaves) =
            let whole : ts ≡ word name ∷ t.rest = t.tokens ∙ ap (λ x. x ∷ t.rest) is in
            let on = left s limit below bs t.rest ws (wait.Named (s.variable name) (field_type s NumberField name) (s.call name) d ∷ []) t.new (ap (λ x. x ++ []) leaves ∙ closed) t.goes_on in
            let x = name_read n ih d name below bs t.rest ws (omega (arith, ap length whole)) on in
            record {
              tree = named name x.tree;
              fits = x.fits;
              rest = x.rest;
              tokens = whole ∙ x.tokens;
              shorter = omega (arith, x.shorter, ap length whole);
              built = x.built;
              goes_on = x.goes_on;
            }

  -- how a tail may go on
  pub record Operated (level d : ℕ) (t : Token) (new : List Symbol) : Type 0 where
    pub g : Sign
    pub op : BinaryOp
    pub token : t ≡ sign g
    pub known : operator_of g ≡ Some (op, level)
    pub leaves : wait.Level level d ∷ wait.Do (act.Binary op) ∷ cond (associates level) (wait.Tail level d ∷ []) [] ≡ new

  operator_inv : (level d : ℕ) (g : Sign) (o : Option (BinaryOp × ℕ)) (new : List Symbol) → operator_of g ≡ o → take_operator level d o ≡ Some new → Operated level d (sign g) new
  operator_inv level d g None new e h = absurd cc
  operator_inv level d g (Some (op, at)) new e h =
      let w = when_inv (nat_eq at level) _ new h in
      record { g = g; op = op; token = refl; known = e ∙ ap (λ k. Some (op, k)) (eqb-true at level w.0); leaves = w.1 }

  pub operated : (level d : ℕ) (t : Token) (new : List Symbol) → take s limit (wait.Tail level d) t ≡ Some new → Operated level d t new
  unfolding take
  operated level d (word name) new h = absurd cc
  operated level d (numeral n) new h = absurd cc
  operated level d bad new h = absurd cc
  operated level d (sign g) new h = operator_inv level d g (operator_of g) new refl h

  pub record ReadTail (level d : ℕ) (below : List Symbol) (ts : List Token) (ws : List Built) : Type 0 where
    pub tree : Syntax tail
    pub fits : Fits s limit level d [] tree
    pub rest : List Token
    pub tokens : ts ≡ spell tree rest
    pub shorter : length rest ≤ length ts
    pub built : List Built
    pub goes_on : run s limit below built rest ≡ Some ws

  -- after an operator and its operand
  tail_on : (level d : ℕ) (b : Bool) (below : List Symbol) (bs : List Built) (ts : List Token) (ws : List Built)
      → (run s limit (wait.Tail level d ∷ below) bs ts ≡ Some ws → ReadTail level d below ts ws)
      → run s limit (cond b (wait.Tail level d ∷ []) [] ++ below) bs ts ≡ Some ws → (r : ReadTail level d below ts ws) × MayGoOn b r.tree
  tail_on level d true below bs ts ws more_read h = (more_read h, tt)
  tail_on level d false below bs ts ws more_read h = (record { tree = stop; fits = tt; rest = ts; tokens = refl; shorter = omega arith; built = bs; goes_on = h }, tt)

  tail_read : (m n : ℕ) → Shorter n → (level d : ℕ) (below : List Symbol) (bs : List Built) (ts : List Token) (ws : List Built)
      → length ts < m → length ts < suc n → run s limit (wait.Tail level d ∷ below) bs ts ≡ Some ws → ReadTail level d below ts ws
  tail_read zero n ih level d below bs ts ws few short h = absurd (omega arith)
  tail_read (suc m) n ih level d below bs ts ws few short h =
      goes (way s limit (wait.Tail level d) below bs ts ws h) (λ bs' ts' fewer. tail_read m n ih level d below bs' ts' ws (omega arith) (omega arith)) where
        goes : Taken s limit (wait.Tail level d) below bs ts ws ⊎ Ended s limit (wait.Tail level d) below bs ts ws
            → ((bs' : List Built) (ts' : List Token) → length ts' < length ts → run s limit (wait.Tail level d ∷ below) bs' ts' ≡ Some ws → ReadTail level d below ts' ws)
            → ReadTail level d below ts ws
        goes (inr e) again = record { tree = stop; fits = tt; rest = ts; tokens = refl; shorter = omega arith; built = _; goes_on = e.goes_on }
        goes (inl t) again =
            let o = operated level d t.token t.new t.takes in
            let whole : ts ≡ sign o.g ∷ t.rest = t.tokens ∙ ap (λ x. x ∷ t.rest) o.token in
            let on = left s limit below bs t.rest ws _ t.new o.leaves t.goes_on in
            let e = ih level d _ bs t.rest ws (omega (arith, ap length whole)) on in
            let built = sym (run_do s limit (act.Binary o.op) (cond (associates level) (wait.Tail level d ∷ []) [] ++ below) e.built e.rest) ∙ e.goes_on in
            let r = tail_on level d (associates level) below _ e.rest ws (again _ e.rest (omega (arith, e.shorter, ap length whole))) built in
            record {
              tree = more o.g o.op e.tree r.0.tree;
              fits = (o.known, e.fits, r.1, r.0.fits);
              rest = r.0.rest;
              tokens = whole ∙ ap (λ x. sign o.g ∷ x) (e.tokens ∙ ap (λ x. spell e.tree x) r.0.tokens);
              shorter = omega (arith, r.0.shorter, e.shorter, ap length whole);
              built = r.0.built;
              goes_on = r.0.goes_on;
            }

  level_read : (n : ℕ) → Shorter n → (level d : ℕ) (below : List Symbol) (bs : List Built) (ts : List Token) (ws : List Built)
      → length ts < suc n → run s limit (wait.Level level d ∷ below) bs ts ≡ Some ws → ReadExpr level d below ts ws
  level_read n ih zero d below bs ts ws short h =
      let o = operand_read n ih d below bs ts ws short h in
      record { tree = lone o.tree; fits = o.fits; rest = o.rest; tokens = o.tokens; shorter = o.shorter; built = o.built; goes_on = o.goes_on }
  level_read n ih (suc level) d below bs ts ws short h =
      let e = level_read n ih level d (wait.Tail level d ∷ below) bs ts ws short (sym (level_split s limit level d below bs ts) ∙ h) in
      let t = tail_read (suc (length e.rest)) n ih level d below e.built e.rest ws (omega arith) (omega (arith, e.shorter)) e.goes_on in
      record {
        tree = chain e.tree t.tree;
        fits = (e.fits, t.fits);
        rest = t.rest;
        tokens = e.tokens ∙ ap (λ x. spell e.tree x) t.tokens;
        shorter = omega (arith, e.shorter, t.shorter);
        built = t.built;
        goes_on = t.goes_on;
      }

  all_read : (n : ℕ) → Shorter n
  all_read zero level d below bs ts ws short h = absurd (omega arith)
  all_read (suc n) level d below bs ts ws short h = level_read n (all_read n) level d below bs ts ws short h

  -- what is read where an expression is wanted is an expression that fits
  pub read_level : (level d : ℕ) (below : List Symbol) (bs : List Built) (ts : List Token) (ws : List Built)
      → run s limit (wait.Level level d ∷ below) bs ts ≡ Some ws → ReadExpr level d below ts ws
  read_level level d below bs ts ws h = all_read (suc (length ts)) level d below bs ts ws (omega arith) h
