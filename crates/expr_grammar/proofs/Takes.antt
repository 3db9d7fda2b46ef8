-- Which symbol takes which token, for each tree that fits.
use Rattle.std.proofs.Common.{ℕ, suc, ◌≡◌, ◌<◌, ◌≤◌, ◌^◌, List, [], ◌∷◌, Bool, true, false, ◌&&◌, ◌||◌, cond, eqb, Option, Some, None, refl, arith}
use Rattle.std.proofs.lemmas.Bool.{false≢true, lt-ltb, leb-true, ne_eqb, eq-eqb}
use Rattle.std.specs.Prelude.{nat_lt, is_some, pos}
use Rattle.ent_types.specs.declared.entity.TypeId.{TypeId}
use Rattle.expr_tokens.specs.Tokens.{Token, word, number as numeral, sign, bad}
use Rattle.expr_tokens.specs.declared.sign.Sign.{Sign}
use Rattle.expr_tokens.specs.declared.sign.Sign.TheVariants.{Open, Close, Comma, Dot, Colon, Assign}
use Rattle.expr_grammar.specs.declared.symbol.Symbol.TheVariants as wait
use Rattle.expr_grammar.specs.declared.symbol.Action.TheVariants as act
use Rattle.expr_trees.specs.declared.tree.BinaryOp.{BinaryOp}
use Rattle.expr_trees.specs.declared.tree.UnaryOp.{UnaryOp}
use Rattle.expr_trees.specs.declared.tree.Variable.{Variable}
use Rattle.expr_trees.specs.declared.tree.RefExpr.{RefExpr}
use Rattle.expr_trees.specs.declared.tree.RefExpr.TheVariants as refs
use Rattle.expr_grammar.specs.declared.words.Call.{Call}
use Rattle.expr_grammar.specs.declared.words.FieldUse.{FieldUse}
use Rattle.expr_grammar.specs.declared.words.FieldUse.TheVariants.{Number as NumberField, Entity as EntityField}
use Rattle.expr_grammar.specs.declared.words.TypeUse.{TypeUse}
use Rattle.expr_grammar.specs.Fitting.{operator_of, sign_of, associates, FitsField, FitsType, Fits}
use Rattle.expr_grammar.specs.Grammar.{Syntax, suffix, alone, field, two, pick, get, alive, has, same, on}
use Rattle.expr_grammar.specs.Scopes.{Scope, IsLawful}
use Rattle.expr_grammar.specs.Machine.{take, take_operator, take_named, arguments, begins_sign, begins_signed, field_type, behind_field}
use Rattle.expr_grammar.proofs.Runs.{Leaves, stops, stops_sign, stops_operator}

or_true : (b : Bool) → (b || true) ≡ true
or_true true = refl
or_true false = refl

-- what stops an operator is none of the level
no_operator : (level d : ℕ) (o : Option (BinaryOp × ℕ)) → stops_operator (suc level) o ≡ true → take_operator level d o ≡ None
no_operator level d None h = refl
no_operator level d (Some (op, at)) h =
    let above : suc level ≤ at = leb-true (suc level) at h in
    let other : eqb at level ≡ false = ne_eqb at level (λ (e : at ≡ level). omega arith) in
    rw other refl

pub sign_stops : (level : ℕ) (g : Sign) → stops_sign level g ≡ true → stops_operator level (operator_of g) ≡ true
sign_stops level Open h = absurd (false≢true h)
sign_stops level Dot h = absurd (false≢true h)
sign_stops level g h = h

named_sign : (level limit d : ℕ) (ty : Option TypeId) (call : Option Call) (g : Sign) → stops_sign level g ≡ true → take_named limit d ty call g ≡ None
named_sign level limit d ty call Open h = absurd (false≢true h)
named_sign level limit d ty call Dot h = absurd (false≢true h)
named_sign level limit d ty call g h = refl

signed_sign : (limit d : ℕ) (g : Sign) (op : UnaryOp) → sign_of g ≡ Some op → begins_sign limit d g ≡ begins_signed limit d (sign_of g)
signed_sign limit d Open op h = absurd cc
signed_sign limit d g op h = refl

module _ (s : Scope) (limit : ℕ) where
  pub tail_leaves : (level d : ℕ) (us : List Token) → stops (suc level) us ≡ true → Leaves s limit (wait.Tail level d) us
  unfolding take
  tail_leaves level d [] h = tt
  tail_leaves level d (word name ∷ us) h = refl
  tail_leaves level d (numeral n ∷ us) h = refl
  tail_leaves level d (bad ∷ us) h = refl
  tail_leaves level d (sign g ∷ us) h = no_operator level d (operator_of g) (sign_stops (suc level) g h)

  pub named_leaves : (v : Option Variable) (ty : Option TypeId) (call : Option Call) (d level : ℕ) (us : List Token) → stops level us ≡ true → Leaves s limit (wait.Named v ty call d) us
  unfolding take
  named_leaves v ty call d level [] h = tt
  named_leaves v ty call d level (word name ∷ us) h = refl
  named_leaves v ty call d level (numeral n ∷ us) h = refl
  named_leaves v ty call d level (bad ∷ us) h = refl
  named_leaves v ty call d level (sign g ∷ us) h = named_sign level limit d ty call g h

  named_ref_sign : (plain : Option RefExpr) (ty : Option TypeId) (level : ℕ) (g : Sign) → stops_sign level g ≡ true → take s limit (wait.NamedRef plain ty) (sign g) ≡ None
  unfolding take
  named_ref_sign plain ty level Dot h = absurd (false≢true h)
  named_ref_sign plain ty level g h = refl

  pub named_ref_leaves : (plain : Option RefExpr) (ty : Option TypeId) (level : ℕ) (us : List Token) → stops level us ≡ true → Leaves s limit (wait.NamedRef plain ty) us
  unfolding take
  named_ref_leaves plain ty level [] h = tt
  named_ref_leaves plain ty level (word name ∷ us) h = refl
  named_ref_leaves plain ty level (numeral n ∷ us) h = refl
  named_ref_leaves plain ty level (bad ∷ us) h = refl
  named_ref_leaves plain ty level (sign g ∷ us) h = named_ref_sign plain ty level g h

  pub take_numeral : (d n : ℕ) → n < 2 ^ 63 → take s limit (wait.Level 0 d) (numeral n) ≡ Some (wait.Do (act.Number (pos n)) ∷ [])
  unfolding take
  take_numeral d n h = rw (lt-ltb n (2 ^ 63) h) refl

  pub take_open : (d : ℕ) → d < limit → take s limit (wait.Level 0 d) (sign Open) ≡ Some (wait.Level 5 (suc d) ∷ wait.Close ∷ [])
  unfolding take
  take_open d h = rw (lt-ltb d limit h) refl

  pub take_signed : (d : ℕ) (g : Sign) (op : UnaryOp) → d < limit → sign_of g ≡ Some op → take s limit (wait.Level 0 d) (sign g) ≡ Some (wait.Level 0 (suc d) ∷ wait.Do (act.Unary op) ∷ [])
  unfolding take
  take_signed d g op h is = rw (signed_sign limit d g op is, is, lt-ltb d limit h) refl

  pub take_binary : (level d : ℕ) (g : Sign) (op : BinaryOp) → operator_of g ≡ Some (op, level)
      → take s limit (wait.Tail level d) (sign g) ≡ Some (wait.Level level d ∷ wait.Do (act.Binary op) ∷ cond (associates level) (wait.Tail level d ∷ []) [])
  unfolding take
  take_binary level d g op is = rw (is, eq-eqb level level refl) refl

  pub take_begin_name : (d : ℕ) (name : List ℕ)
      → ((is_some (s.variable name) || is_some (field_type s NumberField name)) || (is_some (s.call name) && nat_lt d limit)) ≡ true
      → take s limit (wait.Level 0 d) (word name) ≡ Some (wait.Named (s.variable name) (field_type s NumberField name) (s.call name) d ∷ [])
  unfolding take
  take_begin_name d name h = rw h refl

  pub take_dot : (v : Option Variable) (ty : TypeId) (t : Option TypeId) (call : Option Call) (d : ℕ) → t ≡ Some ty
      → take s limit (wait.Named v t call d) (sign Dot) ≡ Some (wait.Field ty NumberField ∷ [])
  unfolding take
  take_dot v ty t call d h = rw h refl

  pub take_arguments : (v : Option Variable) (t : Option TypeId) (call : Option Call) (c : Call) (d : ℕ) → call ≡ Some c → d < limit
      → take s limit (wait.Named v t call d) (sign Open) ≡ Some (arguments c (suc d))
  unfolding take
  take_arguments v t call c d is h = rw (is, lt-ltb d limit h) refl

  pub take_field : (role : FieldUse) (ty : TypeId) (f : List ℕ) (i : ℕ) → s.field role ty f ≡ Some i
      → take s limit (wait.Field ty role) (word f) ≡ Some (behind_field s role ty i)
  unfolding take
  take_field role ty f i is = rw is refl

  pub take_type : (role : TypeUse) (name : List ℕ) (ty : TypeId) → FitsType s role name ty
      → take s limit (wait.Type role) (word name) ≡ Some (wait.Do (act.Type ty) ∷ [])
  unfolding take
  take_type role name ty is = rw (is.0, is.1) refl

  pub take_index : (made : Bool) (n : ℕ) → n < 2 ^ 32 → take s limit (wait.Ref made) (numeral n) ≡ Some (wait.Colon n ∷ [])
  unfolding take
  take_index made n h = rw (lt-ltb n (2 ^ 32) h) refl

  pub take_version : (i n : ℕ) → n < 2 ^ 32 → take s limit (wait.Version i) (numeral n) ≡ Some (wait.Do (act.Ref (refs.Entity (record { index = i; version = n }))) ∷ [])
  unfolding take
  take_version i n h = rw (lt-ltb n (2 ^ 32) h) refl

  pub take_colon : (i : ℕ) → take s limit (wait.Colon i) (sign Colon) ≡ Some (wait.Version i ∷ [])
  unfolding take
  take_colon i = refl

  pub take_close : take s limit wait.Close (sign Close) ≡ Some []
  unfolding take
  take_close = refl

  pub take_comma : take s limit wait.Comma (sign Comma) ≡ Some []
  unfolding take
  take_comma = refl

  pub take_dot_sign : take s limit wait.Dot (sign Dot) ≡ Some []
  unfolding take
  take_dot_sign = refl

  pub take_becomes : take s limit wait.Becomes (sign Assign) ≡ Some []
  unfolding take
  take_becomes = refl

  pub take_ref_dot : (plain : Option RefExpr) (ty : TypeId) → take s limit (wait.NamedRef plain (Some ty)) (sign Dot) ≡ Some (wait.Field ty EntityField ∷ [])
  unfolding take
  take_ref_dot plain ty = refl

  pub take_plain : (made : Bool) (name : List ℕ) (r : RefExpr) → s.reference made name ≡ Some r
      → take s limit (wait.Ref made) (word name) ≡ Some (wait.NamedRef (Some r) (field_type s EntityField name) ∷ [])
  unfolding take
  take_plain made name r is = rw is refl

  pub take_owner : (made : Bool) (name : List ℕ) (ty : TypeId) → field_type s EntityField name ≡ Some ty
      → take s limit (wait.Ref made) (word name) ≡ Some (wait.NamedRef (s.reference made name) (Some ty) ∷ [])
  unfolding take
  take_owner made name ty is = rw (is, or_true (is_some (s.reference made name))) refl

  pub take_type_field : (role : FieldUse) (name : List ℕ) (ty : TypeId) → field_type s role name ≡ Some ty
      → take s limit (wait.TypeField role) (word name) ≡ Some (wait.Dot ∷ wait.Field ty role ∷ [])
  unfolding take
  take_type_field role name ty is = rw is refl

module _ (s : Scope) (lawful : IsLawful s) (limit : ℕ) where
  pub typed : (role : FieldUse) (name : List ℕ) (ty : TypeId) (f : List ℕ) (i : ℕ) → FitsField s role name ty f i → field_type s role name ≡ Some ty
  typed role name ty f i fits = rw (fits.0, lawful.field_known role ty f i fits.1) refl

  by_call : (d : ℕ) (name : List ℕ) (c : Call) → d < limit → s.call name ≡ Some c
      → ((is_some (s.variable name) || is_some (field_type s NumberField name)) || (is_some (s.call name) && nat_lt d limit)) ≡ true
  by_call d name c h is = rw (is, lt-ltb d limit h) (or_true (is_some (s.variable name) || is_some (field_type s NumberField name)))

  -- the name of a tree that fits may begin an operand
  pub name_begins : (d : ℕ) (name : List ℕ) (after : Syntax suffix) → Fits s limit 0 d name after
      → ((is_some (s.variable name) || is_some (field_type s NumberField name)) || (is_some (s.call name) && nat_lt d limit)) ≡ true
  name_begins d name (alone v) fits = rw fits refl
  name_begins d name (field f ty i) fits = rw (typed NumberField name ty f i fits, or_true (is_some (s.variable name))) refl
  name_begins d name (two op a b) fits = by_call d name _ fits.0 fits.1
  name_begins d name (pick c a b) fits = by_call d name _ fits.0 fits.1
  name_begins d name (get r t ty f i) fits = by_call d name _ fits.0 fits.1
  name_begins d name (alive r) fits = by_call d name _ fits.0 fits.1
  name_begins d name (has r t ty) fits = by_call d name _ fits.0 fits.1
  name_begins d name (same r q) fits = by_call d name _ fits.0 fits.1
  name_begins d name (on t ty) fits = by_call d name _ fits.0 fits.1
