-- Two trees that fit and have the same tokens are one.
use Rattle.std.proofs.Common.{ℕ, zero, suc, ◌≡◌, ◌≤◌, List, [], ◌∷◌, Bool, true, false, Option, Some, None, refl, sym, ap, ◌∙◌, subst, arith}
use Rattle.std.proofs.lemmas.Bool.{false≢true, leb-true}
use Rattle.std.specs.Prelude.{nat_le}
use Rattle.ent_types.specs.declared.entity.TypeId.{TypeId}
use Rattle.expr_tokens.specs.Tokens.{Token, word, sign}
use Rattle.expr_tokens.specs.declared.sign.Sign.{Sign}
use Rattle.expr_tokens.specs.declared.sign.Sign.TheVariants.{Open, Close, Comma, Dot}
use Rattle.expr_trees.specs.declared.tree.BinaryOp.{BinaryOp}
use Rattle.expr_trees.specs.declared.tree.UnaryOp.{UnaryOp}
use Rattle.expr_trees.specs.declared.tree.Variable.{Variable}
use Rattle.expr_grammar.specs.Fitting.{operator_of, sign_of, FitsRef, Fits}
use Rattle.expr_grammar.specs.Grammar.{plain, own, Ref, entity, called, Sort, operand, suffix, expr, tail, Syntax, number, group, signed, named, alone, field, two, pick, get, alive, has, same, on, lone, chain, stop, more, spell, spell_ref}
use Rattle.expr_grammar.specs.Scopes.{Scope, IsLawful}
use Rattle.expr_grammar.proofs.Runs.{stops, stops_sign, stops_operator}
use Rattle.expr_grammar.proofs.Takes.{sign_stops}
use Rattle.expr_grammar.proofs.Complete.{stops_tail}

-- nothing that stops begins with a dot, an opening parenthesis or an operator of the level
no_dot : (level : ℕ) (us rest : List Token) → stops level us ≡ true → us ≡ sign Dot ∷ rest → ⊥
no_dot level us rest h e = false≢true (sym (ap (stops level) e) ∙ h)

no_open : (level : ℕ) (us rest : List Token) → stops level us ≡ true → us ≡ sign Open ∷ rest → ⊥
no_open level us rest h e = false≢true (sym (ap (stops level) e) ∙ h)

no_operator : (level : ℕ) (us rest : List Token) (g : Sign) (op : BinaryOp) → stops (suc level) us ≡ true → operator_of g ≡ Some (op, level) → us ≡ sign g ∷ rest → ⊥
no_operator level us rest g op h is e =
    let here : stops_sign (suc level) g ≡ true = sym (ap (stops (suc level)) e) ∙ h in
    let test : nat_le (suc level) level ≡ true = sym (ap (stops_operator (suc level)) is) ∙ sign_stops (suc level) g here in
    let above : suc level ≤ level = leb-true (suc level) level test in
    omega arith

operator_or : BinaryOp → Option (BinaryOp × ℕ) → BinaryOp
operator_or d None = d
operator_or d (Some p) = p.0

one_operator : (g h : Sign) (o o' : BinaryOp) (level : ℕ) → g ≡ h → operator_of g ≡ Some (o, level) → operator_of h ≡ Some (o', level) → o ≡ o'
unfolding operator_or
one_operator g h o o' level e a b = sym (ap (operator_or o) a) ∙ ap (λ q. operator_or o (operator_of q)) e ∙ ap (operator_or o) b

module _ (s : Scope) where
  pub unique_ref : (r q : Ref) (made : Bool) (us vs : List Token) → FitsRef s made r → FitsRef s made q → stops 0 us ≡ true → stops 0 vs ≡ true
      → spell_ref r us ≡ spell_ref q vs → (r ≡ q) × (us ≡ vs)
  unique_ref (entity i v) (entity j w) made us vs f g h k e = let first : i ≡ j = cc in let second : v ≡ w = cc in (λ x. entity (first x) (second x), cc)
  unique_ref (entity i v) (called name (plain r)) made us vs f g h k e = absurd cc
  unique_ref (entity i v) (called name (own n ty p)) made us vs f g h k e = absurd cc
  unique_ref (called name (plain r)) (entity i v) made us vs f g h k e = absurd cc
  unique_ref (called name (own n ty p)) (entity i v) made us vs f g h k e = absurd cc
  unique_ref (called name (plain r)) (called other (plain q)) made us vs f g h k e =
      let names : name ≡ other = cc in let refs : r ≡ q = cc in (λ x. called (names x) (plain (refs x)), cc)
  unique_ref (called name (plain r)) (called other (own n ty p)) made us vs f g h k e = absurd (no_dot 0 us (word n ∷ vs) h cc)
  unique_ref (called name (own n ty p)) (called other (plain q)) made us vs f g h k e = absurd (no_dot 0 vs (word n ∷ us) k cc)
  unique_ref (called name (own n ty p)) (called other (own m tz q)) made us vs f g h k e =
      let names : name ≡ other = cc in let fields : n ≡ m = cc in let types : ty ≡ tz = cc in let places : p ≡ q = cc in
      (λ x. called (names x) (own (fields x) (types x) (places x)), cc)

module _ (s : Scope) (lawful : IsLawful s) (limit : ℕ) where
  abbrev Unique : (sort : Sort) → Syntax sort → Type 0
  Unique operand x = (y : Syntax operand) (d : ℕ) (us vs : List Token) → Fits s limit 0 d [] x → Fits s limit 0 d [] y → stops 0 us ≡ true → stops 0 vs ≡ true
      → spell x us ≡ spell y vs → (x ≡ y) × (us ≡ vs)
  Unique suffix x = (y : Syntax suffix) (d : ℕ) (name : List ℕ) (us vs : List Token) → Fits s limit 0 d name x → Fits s limit 0 d name y → stops 0 us ≡ true → stops 0 vs ≡ true
      → spell x us ≡ spell y vs → (x ≡ y) × (us ≡ vs)
  Unique expr x = (y : Syntax expr) (level d : ℕ) (us vs : List Token) → Fits s limit level d [] x → Fits s limit level d [] y → stops level us ≡ true → stops level vs ≡ true
      → spell x us ≡ spell y vs → (x ≡ y) × (us ≡ vs)
  Unique tail x = (y : Syntax tail) (level d : ℕ) (us vs : List Token) → Fits s limit level d [] x → Fits s limit level d [] y → stops (suc level) us ≡ true → stops (suc level) vs ≡ true
      → spell x us ≡ spell y vs → (x ≡ y) × (us ≡ vs)

  u_number : (n : ℕ) → Unique operand (number n)
  u_number n (number m) d us vs f g h k e = let n_is : n ≡ m = cc in (ap number n_is, cc)
  u_number n (group x) d us vs f g h k e = absurd cc
  u_number n (signed q op o) d us vs f g h k e = absurd cc
  u_number n (named name x) d us vs f g h k e = absurd cc

  u_group : (x : Syntax expr) → Unique expr x → Unique operand (group x)
  u_group x ih (number m) d us vs f g h k e = absurd cc
  u_group x ih (group y) d us vs f g h k e = let r = ih y 5 (suc d) (sign Close ∷ us) (sign Close ∷ vs) f.1 g.1 refl refl cc in let rest = r.1 in (ap group r.0, cc)
  u_group x ih (signed q op o) d us vs f g h k e = let open_is : Open ≡ q = cc in absurd (let known = ap sign_of open_is ∙ g.1 in cc)
  u_group x ih (named name y) d us vs f g h k e = absurd cc

  u_signed : (p : Sign) (op : UnaryOp) (x : Syntax operand) → Unique operand x → Unique operand (signed p op x)
  u_signed p op x ih (number m) d us vs f g h k e = absurd cc
  u_signed p op x ih (group y) d us vs f g h k e = let open_is : Open ≡ p = cc in absurd (let known = ap sign_of open_is ∙ f.1 in cc)
  u_signed p op x ih (signed q op' y) d us vs f g h k e =
      let signs : p ≡ q = cc in
      let known = sym f.1 ∙ ap sign_of signs ∙ g.1 in
      let ops : op ≡ op' = cc in
      let r = ih y (suc d) us vs f.2 g.2 h k cc in
      (λ i. signed (signs i) (ops i) (r.0 i), r.1)
  u_signed p op x ih (named name y) d us vs f g h k e = absurd cc

  u_named : (name : List ℕ) (x : Syntax suffix) → Unique suffix x → Unique operand (named name x)
  u_named name x ih (number m) d us vs f g h k e = absurd cc
  u_named name x ih (group y) d us vs f g h k e = absurd cc
  u_named name x ih (signed q op y) d us vs f g h k e = absurd cc
  u_named name x ih (named other y) d us vs f g h k e =
      let names : name ≡ other = cc in
      let fits : Fits s limit 0 d name y = subst (λ n. Fits s limit 0 d n y) (sym names) g in
      let r = ih y d name us vs f fits h k cc in
      (λ i. named (names i) (r.0 i), r.1)

  u_alone : (v : Variable) → Unique suffix (alone v)
  u_alone v (alone w) d name us vs f g h k e = let same_variable : v ≡ w = cc in (ap alone same_variable, e)
  u_alone v (field n ty p) d name us vs f g h k e = absurd (no_dot 0 us _ h e)
  u_alone v (two op a b) d name us vs f g h k e = absurd (no_open 0 us _ h e)
  u_alone v (pick c a b) d name us vs f g h k e = absurd (no_open 0 us _ h e)
  u_alone v (get r t ty n p) d name us vs f g h k e = absurd (no_open 0 us _ h e)
  u_alone v (alive r) d name us vs f g h k e = absurd (no_open 0 us _ h e)
  u_alone v (has r t ty) d name us vs f g h k e = absurd (no_open 0 us _ h e)
  u_alone v (same r q) d name us vs f g h k e = absurd (no_open 0 us _ h e)
  u_alone v (on t ty) d name us vs f g h k e = absurd (no_open 0 us _ h e)

  u_field : (n : List ℕ) (ty : TypeId) (p : ℕ) → Unique suffix (field n ty p)
  u_field n ty p (alone w) d name us vs f g h k e = absurd (no_dot 0 vs _ k (sym e))
  u_field n ty p (field m tz q) d name us vs f g h k e =
      let fields : n ≡ m = cc in let types : ty ≡ tz = cc in let places : p ≡ q = cc in (λ i. field (fields i) (types i) (places i), cc)
  u_field n ty p y d name us vs f g h k e = absurd cc

  -- an expression, then a sign, on both sides
  then_same : (a a' : Syntax expr) (d : ℕ) (g : Sign) (us vs : List Token) → Unique expr a → Fits s limit 5 d [] a → Fits s limit 5 d [] a' → stops_sign 5 g ≡ true
      → spell a (sign g ∷ us) ≡ spell a' (sign g ∷ vs) → (a ≡ a') × (us ≡ vs)
  then_same a a' d g us vs ia f g' h e = let r = ia a' 5 d (sign g ∷ us) (sign g ∷ vs) f g' h h e in (r.0, let rest = r.1 in cc)

  ref_then : (r r' : Ref) (g : Sign) (us vs : List Token) → FitsRef s false r → FitsRef s false r' → stops_sign 0 g ≡ true
      → spell_ref r (sign g ∷ us) ≡ spell_ref r' (sign g ∷ vs) → (r ≡ r') × (us ≡ vs)
  ref_then r r' g us vs f f' h e = let w = unique_ref s r r' false (sign g ∷ us) (sign g ∷ vs) f f' h h e in (w.0, let rest = w.1 in cc)

  -- what follows a sign
  behind : (g : Sign) (xs ys : List Token) → sign g ∷ xs ≡ sign g ∷ ys → xs ≡ ys
  behind g xs ys e = cc

  u_two : (op : BinaryOp) (a b : Syntax expr) → Unique expr a → Unique expr b → Unique suffix (two op a b)
  u_two op a b ia ib (alone w) d name us vs f g h k e = absurd (no_open 0 vs _ k (sym e))
  u_two op a b ia ib (two op' a' b') d name us vs f g h k e =
      let ops : op ≡ op' = cc in
      let ra = then_same a a' (suc d) Comma (spell b (sign Close ∷ us)) (spell b' (sign Close ∷ vs)) ia f.2 g.2 refl (behind Open _ _ e) in
      let rb = then_same b b' (suc d) Close us vs ib f.3 g.3 refl ra.1 in
      (λ i. two (ops i) (ra.0 i) (rb.0 i), rb.1)
  u_two op a b ia ib y d name us vs f g h k e = absurd cc

  u_pick : (c a b : Syntax expr) → Unique expr c → Unique expr a → Unique expr b → Unique suffix (pick c a b)
  u_pick c a b ic ia ib (alone w) d name us vs f g h k e = absurd (no_open 0 vs _ k (sym e))
  u_pick c a b ic ia ib (pick c' a' b') d name us vs f g h k e =
      let rc = then_same c c' (suc d) Comma (spell a (sign Comma ∷ spell b (sign Close ∷ us))) (spell a' (sign Comma ∷ spell b' (sign Close ∷ vs))) ic f.2 g.2 refl (behind Open _ _ e) in
      let ra = then_same a a' (suc d) Comma (spell b (sign Close ∷ us)) (spell b' (sign Close ∷ vs)) ia f.3 g.3 refl rc.1 in
      let rb = then_same b b' (suc d) Close us vs ib f.4 g.4 refl ra.1 in
      (λ i. pick (rc.0 i) (ra.0 i) (rb.0 i), rb.1)
  u_pick c a b ic ia ib y d name us vs f g h k e = absurd cc

  u_get : (r : Ref) (t : List ℕ) (ty : TypeId) (n : List ℕ) (p : ℕ) → Unique suffix (get r t ty n p)
  u_get r t ty n p (alone w) d name us vs f g h k e = absurd (no_open 0 vs _ k (sym e))
  u_get r t ty n p (get r' t' ty' n' p') d name us vs f g h k e =
      let w = ref_then r r' Comma (word t ∷ sign Dot ∷ word n ∷ sign Close ∷ us) (word t' ∷ sign Dot ∷ word n' ∷ sign Close ∷ vs) f.2 g.2 refl (behind Open _ _ e) in
      let rest = w.1 in
      let names : t ≡ t' = cc in let types : ty ≡ ty' = cc in let fields : n ≡ n' = cc in let places : p ≡ p' = cc in
      (λ i. get (w.0 i) (names i) (types i) (fields i) (places i), cc)
  u_get r t ty n p y d name us vs f g h k e = absurd cc

  u_alive : (r : Ref) → Unique suffix (alive r)
  u_alive r (alone w) d name us vs f g h k e = absurd (no_open 0 vs _ k (sym e))
  u_alive r (alive r') d name us vs f g h k e = let w = ref_then r r' Close us vs f.2 g.2 refl (behind Open _ _ e) in (ap alive w.0, w.1)
  u_alive r y d name us vs f g h k e = absurd cc

  u_has : (r : Ref) (t : List ℕ) (ty : TypeId) → Unique suffix (has r t ty)
  u_has r t ty (alone w) d name us vs f g h k e = absurd (no_open 0 vs _ k (sym e))
  u_has r t ty (has r' t' ty') d name us vs f g h k e =
      let w = ref_then r r' Comma (word t ∷ sign Close ∷ us) (word t' ∷ sign Close ∷ vs) f.2 g.2 refl (behind Open _ _ e) in
      let rest = w.1 in
      let names : t ≡ t' = cc in let types : ty ≡ ty' = cc in
      (λ i. has (w.0 i) (names i) (types i), cc)
  u_has r t ty y d name us vs f g h k e = absurd cc

  u_same : (r q : Ref) → Unique suffix (same r q)
  u_same r q (alone w) d name us vs f g h k e = absurd (no_open 0 vs _ k (sym e))
  u_same r q (same r' q') d name us vs f g h k e =
      let w = ref_then r r' Comma (spell_ref q (sign Close ∷ us)) (spell_ref q' (sign Close ∷ vs)) f.2 g.2 refl (behind Open _ _ e) in
      let x = ref_then q q' Close us vs f.3 g.3 refl w.1 in
      (λ i. same (w.0 i) (x.0 i), x.1)
  u_same r q y d name us vs f g h k e = absurd cc

  u_on : (t : List ℕ) (ty : TypeId) → Unique suffix (on t ty)
  u_on t ty (alone w) d name us vs f g h k e = absurd (no_open 0 vs _ k (sym e))
  u_on t ty (on t' ty') d name us vs f g h k e = let names : t ≡ t' = cc in let types : ty ≡ ty' = cc in (λ i. on (names i) (types i), cc)
  u_on t ty y d name us vs f g h k e = absurd cc

  u_lone : (x : Syntax operand) → Unique operand x → Unique expr (lone x)
  u_lone x ih (lone y) zero d us vs f g h k e = let r = ih y d us vs f g h k e in (ap lone r.0, r.1)
  u_lone x ih (lone y) (suc level) d us vs f g h k e = absurd f
  u_lone x ih (chain y t) zero d us vs f g h k e = absurd g
  u_lone x ih (chain y t) (suc level) d us vs f g h k e = absurd f

  u_chain : (x : Syntax expr) (t : Syntax tail) → Unique expr x → Unique tail t → Unique expr (chain x t)
  u_chain x t ix it (lone y) zero d us vs f g h k e = absurd f
  u_chain x t ix it (lone y) (suc level) d us vs f g h k e = absurd g
  u_chain x t ix it (chain y u) zero d us vs f g h k e = absurd f
  u_chain x t ix it (chain y u) (suc level) d us vs f g h k e =
      let r = ix y level d (spell t us) (spell u vs) f.0 g.0 (stops_tail s lawful limit t level d us f.1 h) (stops_tail s lawful limit u level d vs g.1 k) e in
      let q = it u level d us vs f.1 g.1 h k r.1 in
      (λ i. chain (r.0 i) (q.0 i), q.1)

  u_stop : Unique tail stop
  u_stop stop level d us vs f g h k e = (refl, e)
  u_stop (more q op x t) level d us vs f g h k e = absurd (no_operator level us _ q op h g.0 e)

  u_more : (p : Sign) (op : BinaryOp) (x : Syntax expr) (t : Syntax tail) → Unique expr x → Unique tail t → Unique tail (more p op x t)
  u_more p op x t ix it stop level d us vs f g h k e = absurd (no_operator level vs _ p op k f.0 (sym e))
  u_more p op x t ix it (more q op' y u) level d us vs f g h k e =
      let signs : p ≡ q = cc in
      let ops = one_operator p q op op' level signs f.0 g.0 in
      let rest : spell x (spell t us) ≡ spell y (spell u vs) = cc in
      let r = ix y level d (spell t us) (spell u vs) f.1 g.1 (stops_tail s lawful limit t level d us f.3 h) (stops_tail s lawful limit u level d vs g.3 k) rest in
      let w = it u level d us vs f.3 g.3 h k r.1 in
      (λ i. more (signs i) (ops i) (r.0 i) (w.0 i), w.1)

  pub unique : {sort : Sort} (x : Syntax sort) → Unique sort x
  unique (number n) = u_number n
  unique (group x) = u_group x (unique x)
  unique (signed p op x) = u_signed p op x (unique x)
  unique (named name x) = u_named name x (unique x)
  unique (alone v) = u_alone v
  unique (field n ty p) = u_field n ty p
  unique (two op a b) = u_two op a b (unique a) (unique b)
  unique (pick c a b) = u_pick c a b (unique c) (unique a) (unique b)
  unique (get r t ty n p) = u_get r t ty n p
  unique (alive r) = u_alive r
  unique (has r t ty) = u_has r t ty
  unique (same r q) = u_same r q
  unique (on t ty) = u_on t ty
  unique (lone x) = u_lone x (unique x)
  unique (chain x t) = u_chain x t (unique x) (unique t)
  unique stop = u_stop
  unique (more p op x t) = u_more p op x t (unique x) (unique t)
