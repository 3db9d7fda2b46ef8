-- What the machine reads is a tree that fits.
use Rattle.std.proofs.Common.{ℕ, ◌≡◌, ◌<◌, ◌^◌, List, [], ◌∷◌, ◌++◌, ◌⊎◌, inl, inr, ⊎_elim, Bool, true, false, ◌||◌, cond, length, Option, Some, None, refl, sym, ap, ◌∙◌, subst, arith}
use Rattle.std.proofs.lemmas.Bool.{false≢true, ltb-true}
use Rattle.std.specs.Prelude.{nat_lt, is_some}
use Rattle.ent_types.specs.declared.entity.TypeId.{TypeId}
use Rattle.expr_tokens.specs.Tokens.{Token, word, number as numeral, sign, bad}
use Rattle.expr_tokens.specs.declared.sign.Sign.{Sign}
use Rattle.expr_tokens.specs.declared.sign.Sign.TheVariants.{Close, Comma, Dot, Colon, Assign}
use Rattle.expr_grammar.specs.declared.symbol.Symbol.{Symbol}
use Rattle.expr_grammar.specs.declared.symbol.Symbol.TheVariants as wait
use Rattle.expr_grammar.specs.declared.symbol.Action.TheVariants as act
use Rattle.expr_grammar.specs.declared.symbol.Built.{Built}
use Rattle.expr_trees.specs.declared.tree.RefExpr.{RefExpr}
use Rattle.expr_trees.specs.declared.tree.RefExpr.TheVariants as refs
use Rattle.expr_grammar.specs.declared.words.FieldUse.{FieldUse}
use Rattle.expr_grammar.specs.declared.words.FieldUse.TheVariants.{Entity as EntityField}
use Rattle.expr_grammar.specs.declared.words.TypeUse.{TypeUse}
use Rattle.expr_grammar.specs.Fitting.{FitsRef}
use Rattle.expr_grammar.specs.Grammar.{plain, own, Ref, entity, called, spell_ref}
use Rattle.expr_grammar.specs.Scopes.{Scope}
use Rattle.expr_grammar.specs.Machine.{State, take, may_end, ended, settle, finish, run, onward, go_on, map_some, kept, field_type, when, behind_field}
use Rattle.expr_grammar.proofs.Runs.{run_do}

module _ (s : Scope) (limit : ℕ) where
  -- a symbol takes the next token, or it ends
  pub record Taken (symbol : Symbol) (below : List Symbol) (bs : List Built) (ts : List Token) (ws : List Built) : Type 0 where
    pub token : Token
    pub rest : List Token
    pub new : List Symbol
    pub tokens : ts ≡ token ∷ rest
    pub takes : take s limit symbol token ≡ Some new
    pub goes_on : run s limit (new ++ below) bs rest ≡ Some ws

  pub record Ended (symbol : Symbol) (below : List Symbol) (bs : List Built) (ts : List Token) (ws : List Built) : Type 0 where
    pub ends : may_end symbol ≡ true
    pub goes_on : run s limit below (ended symbol bs) ts ≡ Some ws

  pub way : (symbol : Symbol) (below : List Symbol) (bs : List Built) (ts : List Token) (ws : List Built)
      → run s limit (symbol ∷ below) bs ts ≡ Some ws → Taken symbol below bs ts ws ⊎ Ended symbol below bs ts ws
  unfolding run settle finish
  way symbol below bs [] ws h = inr (by (may_end symbol) refl h) where
    by : (b : Bool) → may_end symbol ≡ b → cond b (finish below (ended symbol bs)) None ≡ Some ws → Ended symbol below bs [] ws
    by true e h = record { ends = e; goes_on = h }
    by false e h = absurd cc
  way symbol below bs (t ∷ ts) ws h = by (take s limit symbol t) (may_end symbol) refl refl h where
    by : (r : Option (List Symbol)) (b : Bool) → take s limit symbol t ≡ r → may_end symbol ≡ b
        → go_on (onward r b below bs (settle s limit below (ended symbol bs) t)) (λ state. run s limit state.waits state.built ts) ≡ Some ws
        → Taken symbol below bs (t ∷ ts) ws ⊎ Ended symbol below bs (t ∷ ts) ws
    by (Some new) b e m h = inl (record { token = t; rest = ts; new = new; tokens = refl; takes = e; goes_on = h })
    by None true e m h = inr (record { ends = m; goes_on = h })
    by None false e m h = absurd cc

  pub must_take : (symbol : Symbol) (below : List Symbol) (bs : List Built) (ts : List Token) (ws : List Built)
      → may_end symbol ≡ false → run s limit (symbol ∷ below) bs ts ≡ Some ws → Taken symbol below bs ts ws
  must_take symbol below bs ts ws never h = ⊎_elim (λ taken. taken) (λ e. absurd (false≢true (sym never ∙ e.ends))) (way symbol below bs ts ws h)

-- what a test that passed says
pub when_inv : {A : Type 0} (b : Bool) (x y : A) → when b x ≡ Some y → (b ≡ true) × (x ≡ y)
when_inv true x y h = (refl, cc)
when_inv false x y h = absurd cc

pub map_inv : {A B : Type 0} (f : A → B) (o : Option A) (y : B) → map_some f o ≡ Some y → (x : A) × (o ≡ Some x) × (f x ≡ y)
map_inv f None y h = absurd cc
map_inv f (Some x) y h = (x, refl, cc)

pub kept_inv : (test : TypeId → Bool) (o : Option TypeId) (ty : TypeId) → kept test o ≡ Some ty → (o ≡ Some ty) × (test ty ≡ true)
kept_inv test None ty h = absurd cc
kept_inv test (Some t) ty h = let w = when_inv (test t) t ty h in (ap Some w.1, sym (ap test w.1) ∙ w.0)

pub some_inv : {A : Type 0} (o : Option A) → is_some o ≡ true → (x : A) × (o ≡ Some x)
some_inv None h = absurd (false≢true h)
some_inv (Some x) h = (x, refl)

module _ (s : Scope) (limit : ℕ) where
  -- the signs that are wanted
  pub record Sign-read (g : Sign) (below : List Symbol) (bs : List Built) (ts : List Token) (ws : List Built) : Type 0 where
    pub rest : List Token
    pub tokens : ts ≡ sign g ∷ rest
    pub goes_on : run s limit below bs rest ≡ Some ws

  pub read_close : (below : List Symbol) (bs : List Built) (ts : List Token) (ws : List Built) → run s limit (wait.Close ∷ below) bs ts ≡ Some ws → Sign-read Close below bs ts ws
  unfolding run settle finish take may_end
  read_close below bs [] ws h = absurd cc
  read_close below bs (word name ∷ ts) ws h = absurd cc
  read_close below bs (numeral n ∷ ts) ws h = absurd cc
  read_close below bs (bad ∷ ts) ws h = absurd cc
  read_close below bs (sign Close ∷ ts) ws h = record { rest = ts; tokens = refl; goes_on = h }
  read_close below bs (sign g ∷ ts) ws h = absurd cc

  pub read_comma : (below : List Symbol) (bs : List Built) (ts : List Token) (ws : List Built) → run s limit (wait.Comma ∷ below) bs ts ≡ Some ws → Sign-read Comma below bs ts ws
  unfolding run settle finish take may_end
  read_comma below bs [] ws h = absurd cc
  read_comma below bs (word name ∷ ts) ws h = absurd cc
  read_comma below bs (numeral n ∷ ts) ws h = absurd cc
  read_comma below bs (bad ∷ ts) ws h = absurd cc
  read_comma below bs (sign Comma ∷ ts) ws h = record { rest = ts; tokens = refl; goes_on = h }
  read_comma below bs (sign g ∷ ts) ws h = absurd cc

  pub read_dot : (below : List Symbol) (bs : List Built) (ts : List Token) (ws : List Built) → run s limit (wait.Dot ∷ below) bs ts ≡ Some ws → Sign-read Dot below bs ts ws
  unfolding run settle finish take may_end
  read_dot below bs [] ws h = absurd cc
  read_dot below bs (word name ∷ ts) ws h = absurd cc
  read_dot below bs (numeral n ∷ ts) ws h = absurd cc
  read_dot below bs (bad ∷ ts) ws h = absurd cc
  read_dot below bs (sign Dot ∷ ts) ws h = record { rest = ts; tokens = refl; goes_on = h }
  read_dot below bs (sign g ∷ ts) ws h = absurd cc

  pub read_becomes : (below : List Symbol) (bs : List Built) (ts : List Token) (ws : List Built) → run s limit (wait.Becomes ∷ below) bs ts ≡ Some ws → Sign-read Assign below bs ts ws
  unfolding run settle finish take may_end
  read_becomes below bs [] ws h = absurd cc
  read_becomes below bs (word name ∷ ts) ws h = absurd cc
  read_becomes below bs (numeral n ∷ ts) ws h = absurd cc
  read_becomes below bs (bad ∷ ts) ws h = absurd cc
  read_becomes below bs (sign Assign ∷ ts) ws h = record { rest = ts; tokens = refl; goes_on = h }
  read_becomes below bs (sign g ∷ ts) ws h = absurd cc

  -- a field of a type
  pub record Field-read (role : FieldUse) (ty : TypeId) (below : List Symbol) (bs : List Built) (ts : List Token) (ws : List Built) : Type 0 where
    pub name : List ℕ
    pub place : ℕ
    pub rest : List Token
    pub known : s.field role ty name ≡ Some place
    pub tokens : ts ≡ word name ∷ rest
    pub goes_on : run s limit (behind_field s role ty place ++ below) bs rest ≡ Some ws

  pub read_field : (role : FieldUse) (ty : TypeId) (below : List Symbol) (bs : List Built) (ts : List Token) (ws : List Built)
      → run s limit (wait.Field ty role ∷ below) bs ts ≡ Some ws → Field-read role ty below bs ts ws
  unfolding run settle finish take may_end ended
  read_field role ty below bs [] ws h = absurd cc
  read_field role ty below bs (numeral n ∷ ts) ws h = absurd cc
  read_field role ty below bs (sign g ∷ ts) ws h = absurd cc
  read_field role ty below bs (bad ∷ ts) ws h = absurd cc
  read_field role ty below bs (word name ∷ ts) ws h = by (s.field role ty name) refl (settle s limit below bs (word name)) h where
    by : (o : Option ℕ) → s.field role ty name ≡ o → (later : Option State)
        → go_on (onward (map_some (behind_field s role ty) o) false below bs later) (λ state. run s limit state.waits state.built ts) ≡ Some ws
        → Field-read role ty below bs (word name ∷ ts) ws
    by None e later h = absurd cc
    by (Some i) e later h = record { name = name; place = i; rest = ts; known = e; tokens = refl; goes_on = h }

  -- a type that passes a test
  pub record Word-read (new : TypeId → List Symbol) (test : TypeId → Bool) (below : List Symbol) (bs : List Built) (ts : List Token) (ws : List Built) : Type 0 where
    pub name : List ℕ
    pub ty : TypeId
    pub rest : List Token
    pub known : s.find name ≡ Some ty
    pub passes : test ty ≡ true
    pub tokens : ts ≡ word name ∷ rest
    pub goes_on : run s limit (new ty ++ below) bs rest ≡ Some ws

  word_read : (new : TypeId → List Symbol) (test : TypeId → Bool) (name : List ℕ) (below : List Symbol) (bs : List Built) (ts : List Token) (ws : List Built) (later : Option State)
      → go_on (onward (map_some new (kept test (s.find name))) false below bs later) (λ state. run s limit state.waits state.built ts) ≡ Some ws
      → Word-read new test below bs (word name ∷ ts) ws
  word_read new test name below bs ts ws later h = by (kept test (s.find name)) refl h where
    by : (o : Option TypeId) → kept test (s.find name) ≡ o → go_on (onward (map_some new o) false below bs later) (λ state. run s limit state.waits state.built ts) ≡ Some ws
        → Word-read new test below bs (word name ∷ ts) ws
    by None e h = absurd cc
    by (Some ty) e h = let w = kept_inv test (s.find name) ty e in record { name = name; ty = ty; rest = ts; known = w.0; passes = w.1; tokens = refl; goes_on = h }

  pub read_type : (role : TypeUse) (below : List Symbol) (bs : List Built) (ts : List Token) (ws : List Built)
      → run s limit (wait.Type role ∷ below) bs ts ≡ Some ws → Word-read (λ ty. wait.Do (act.Type ty) ∷ []) (s.allows role) below bs ts ws
  unfolding run settle finish take may_end ended
  read_type role below bs [] ws h = absurd cc
  read_type role below bs (numeral n ∷ ts) ws h = absurd cc
  read_type role below bs (sign g ∷ ts) ws h = absurd cc
  read_type role below bs (bad ∷ ts) ws h = absurd cc
  read_type role below bs (word name ∷ ts) ws h = word_read (λ ty. wait.Do (act.Type ty) ∷ []) (s.allows role) name below bs ts ws (settle s limit below bs (word name)) h

  pub read_type_field : (role : FieldUse) (below : List Symbol) (bs : List Built) (ts : List Token) (ws : List Built)
      → run s limit (wait.TypeField role ∷ below) bs ts ≡ Some ws → Word-read (λ ty. wait.Dot ∷ wait.Field ty role ∷ []) (s.has_field role) below bs ts ws
  unfolding run settle finish take may_end ended
  read_type_field role below bs [] ws h = absurd cc
  read_type_field role below bs (numeral n ∷ ts) ws h = absurd cc
  read_type_field role below bs (sign g ∷ ts) ws h = absurd cc
  read_type_field role below bs (bad ∷ ts) ws h = absurd cc
  read_type_field role below bs (word name ∷ ts) ws h = word_read (λ ty. wait.Dot ∷ wait.Field ty role ∷ []) (s.has_field role) name below bs ts ws (settle s limit below bs (word name)) h

  -- what was read of a tree, and what follows it
  pub record Read {Tree : Type 0} (Fit : Tree → Type 0) (spelled : Tree → List Token → List Token) (below : List Symbol) (ts : List Token) (ws : List Built) : Type 0 where
    pub tree : Tree
    pub fits : Fit tree
    pub rest : List Token
    pub tokens : ts ≡ spelled tree rest
    pub shorter : length rest < length ts
    pub built : List Built
    pub goes_on : run s limit below built rest ≡ Some ws

  abbrev pub ReadRef : Bool → List Symbol → List Token → List Built → Type 0
  ReadRef made = Read {Tree = Ref} (FitsRef s made) spell_ref

  pub dot_inv : (p : Option RefExpr) (ty : Option TypeId) (t : Token) (new : List Symbol) → take s limit (wait.NamedRef p ty) t ≡ Some new → (t ≡ sign Dot) × (map_some (λ u. wait.Field u EntityField ∷ []) ty ≡ Some new)
  unfolding take
  dot_inv p ty (word n) new h = absurd cc
  dot_inv p ty (numeral n) new h = absurd cc
  dot_inv p ty bad new h = absurd cc
  dot_inv p ty (sign Dot) new h = (refl, h)
  dot_inv p ty (sign g) new h = absurd cc

  -- a name of a reference and what follows it
  named_ref : (made : Bool) (name : List ℕ) (below : List Symbol) (bs : List Built) (ts : List Token) (ws : List Built)
      → run s limit (wait.NamedRef (s.reference made name) (field_type s EntityField name) ∷ below) bs ts ≡ Some ws
      → ReadRef made below (word name ∷ ts) ws
  unfolding may_end
  named_ref made name below bs ts ws h =
      ⊎_elim dotted
      (λ e. let r = some_inv (s.reference made name) e.ends in record {
        tree = called name (plain r.0);
        fits = r.1;
        rest = ts;
        tokens = refl;
        shorter = omega arith;
        built = _;
        goes_on = e.goes_on;
      })
      (way s limit (wait.NamedRef (s.reference made name) (field_type s EntityField name)) below bs ts ws h) where
        dotted : Taken s limit (wait.NamedRef (s.reference made name) (field_type s EntityField name)) below bs ts ws → ReadRef made below (word name ∷ ts) ws
        dotted t =
            let i = dot_inv (s.reference made name) (field_type s EntityField name) t.token t.new t.takes in
            let m = map_inv (λ u. wait.Field u EntityField ∷ []) (field_type s EntityField name) t.new i.1 in
            let k = kept_inv (s.has_field EntityField) (s.find name) m.0 m.1 in
            let f = read_field EntityField m.0 below bs t.rest ws (subst (λ w. run s limit (w ++ below) bs t.rest ≡ Some ws) (sym m.2) t.goes_on) in
            let whole : ts ≡ sign Dot ∷ word f.name ∷ f.rest = t.tokens ∙ (λ j. i.0 j ∷ f.tokens j) in
            record {
              tree = called name (own f.name m.0 f.place);
              fits = (k.0, f.known);
              rest = f.rest;
              tokens = ap (λ x. word name ∷ x) whole;
              shorter = omega (arith, ap length whole);
              built = _;
              goes_on = sym (run_do s limit _ below bs f.rest) ∙ f.goes_on;
            }

  -- a reference begins with a number or with a name
  pub record BeginsNumber (t : Token) (new : List Symbol) (wanted : ℕ → List Symbol) : Type 0 where
    pub n : ℕ
    pub token : t ≡ numeral n
    pub small : n < 2 ^ 32
    pub leaves : wanted n ≡ new

  pub record BeginsName (made : Bool) (t : Token) (new : List Symbol) : Type 0 where
    pub name : List ℕ
    pub token : t ≡ word name
    pub may : (is_some (s.reference made name) || is_some (field_type s EntityField name)) ≡ true
    pub leaves : wait.NamedRef (s.reference made name) (field_type s EntityField name) ∷ [] ≡ new

  pub ref_inv : (made : Bool) (t : Token) (new : List Symbol) → take s limit (wait.Ref made) t ≡ Some new → BeginsNumber t new (λ n. wait.Colon n ∷ []) ⊎ BeginsName made t new
  unfolding take
  ref_inv made (sign g) new h = absurd cc
  ref_inv made bad new h = absurd cc
  ref_inv made (numeral n) new h = let w = when_inv (nat_lt n (2 ^ 32)) (wait.Colon n ∷ []) new h in inl (record { n = n; token = refl; small = ltb-true n (2 ^ 32) w.0; leaves = w.1 })
  ref_inv made (word name) new h = let w = when_inv (is_some (s.reference made name) || is_some (field_type s EntityField name)) _ new h in inr (record { name = name; token = refl; may = w.0; leaves = w.1 })

  pub colon_inv : (i : ℕ) (t : Token) (new : List Symbol) → take s limit (wait.Colon i) t ≡ Some new → (t ≡ sign Colon) × (wait.Version i ∷ [] ≡ new)
  unfolding take
  colon_inv i (word n) new h = absurd cc
  colon_inv i (numeral n) new h = absurd cc
  colon_inv i bad new h = absurd cc
  colon_inv i (sign Colon) new h = (refl, cc)
  colon_inv i (sign g) new h = absurd cc

  pub version_inv : (i : ℕ) (t : Token) (new : List Symbol) → take s limit (wait.Version i) t ≡ Some new → BeginsNumber t new (λ n. wait.Do (act.Ref (refs.Entity (record { index = i; version = n }))) ∷ [])
  unfolding take
  version_inv i (word n) new h = absurd cc
  version_inv i (sign g) new h = absurd cc
  version_inv i bad new h = absurd cc
  version_inv i (numeral n) new h = let w = when_inv (nat_lt n (2 ^ 32)) _ new h in record { n = n; token = refl; small = ltb-true n (2 ^ 32) w.0; leaves = w.1 }

  never_ref : (made : Bool) → may_end (wait.Ref made) ≡ false
  unfolding may_end
  never_ref made = refl

  never_colon : (i : ℕ) → may_end (wait.Colon i) ≡ false
  unfolding may_end
  never_colon i = refl

  never_version : (i : ℕ) → may_end (wait.Version i) ≡ false
  unfolding may_end
  never_version i = refl

  -- the symbols left are those wanted
  pub left : (below : List Symbol) (bs : List Built) (rest : List Token) (ws : List Built) (wanted new : List Symbol) → wanted ≡ new
      → run s limit (new ++ below) bs rest ≡ Some ws → run s limit (wanted ++ below) bs rest ≡ Some ws
  left below bs rest ws wanted new e h = subst (λ w. run s limit (w ++ below) bs rest ≡ Some ws) (sym e) h

  numbered : (made : Bool) (below : List Symbol) (bs : List Built) (ts : List Token) (ws : List Built) (t : Taken s limit (wait.Ref made) below bs ts ws)
      → BeginsNumber t.token t.new (λ n. wait.Colon n ∷ []) → ReadRef made below ts ws
  numbered made below bs ts ws t b =
      let c = must_take s limit (wait.Colon b.n) below bs t.rest ws (never_colon b.n) (left below bs t.rest ws (wait.Colon b.n ∷ []) t.new b.leaves t.goes_on) in
      let d = colon_inv b.n c.token c.new c.takes in
      let v = must_take s limit (wait.Version b.n) below bs c.rest ws (never_version b.n) (left below bs c.rest ws (wait.Version b.n ∷ []) c.new d.1 c.goes_on) in
      let w = version_inv b.n v.token v.new v.takes in
      let whole : ts ≡ numeral b.n ∷ sign Colon ∷ numeral w.n ∷ v.rest =
      t.tokens ∙ (λ j. b.token j ∷ c.tokens j) ∙ ap (λ x. numeral b.n ∷ x) (λ j. d.0 j ∷ v.tokens j) ∙ ap (λ x. numeral b.n ∷ sign Colon ∷ x ∷ v.rest) w.token in
      record {
        tree = entity b.n w.n;
        fits = (b.small, w.small);
        rest = v.rest;
        tokens = whole;
        shorter = omega (arith, ap length whole);
        built = _;
        goes_on = sym (run_do s limit _ below bs v.rest) ∙ left below bs v.rest ws _ v.new w.leaves v.goes_on;
      }

  pub read_ref : (made : Bool) (below : List Symbol) (bs : List Built) (ts : List Token) (ws : List Built)
      → run s limit (wait.Ref made ∷ below) bs ts ≡ Some ws → ReadRef made below ts ws
  read_ref made below bs ts ws h =
      let t = must_take s limit (wait.Ref made) below bs ts ws (never_ref made) h in
      ⊎_elim (λ b. numbered made below bs ts ws t b)
      (λ b. let r = named_ref made b.name below bs t.rest ws (left below bs t.rest ws _ t.new b.leaves t.goes_on) in
      let same : ts ≡ word b.name ∷ t.rest = t.tokens ∙ ap (λ x. x ∷ t.rest) b.token in
      record {
        tree = r.tree;
        fits = r.fits;
        rest = r.rest;
        tokens = same ∙ r.tokens;
        shorter = omega (arith, r.shorter, ap length same);
        built = r.built;
        goes_on = r.goes_on;
      })
      (ref_inv made t.token t.new t.takes)
