-- Assigns and switches: the machine takes exactly the tokens of those that fit, and builds what they mean.
use Rattle.std.proofs.Common.{ℕ, ◌≡◌, List, [], ◌∷◌, Bool, true, false, Option, Some, None, refl, sym, ap, ◌∙◌, subst}
use Rattle.ent_types.specs.declared.entity.TypeId.{TypeId}
use Rattle.expr_tokens.specs.Tokens.{Token, word, number as numeral, sign, bad}
use Rattle.expr_tokens.specs.declared.sign.Sign.TheVariants.{Dot, Assign as Becomes}
use Rattle.expr_grammar.specs.declared.symbol.Symbol.TheVariants as wait
use Rattle.expr_grammar.specs.declared.symbol.Action.TheVariants as act
use Rattle.expr_grammar.specs.declared.symbol.Built.{Built}
use Rattle.expr_grammar.specs.declared.symbol.Built.TheVariants as built
use Rattle.expr_grammar.specs.declared.words.FieldUse.TheVariants.{Assigned}
use Rattle.expr_grammar.specs.declared.words.TypeUse.TheVariants.{Switched}
use Rattle.expr_grammar.specs.Fitting.{FitsValue, FitsAssign, FitsSwitch}
use Rattle.expr_grammar.specs.Grammar.{Value, int, ref, AssignText, SwitchText, spell, spell_ref, spell_value, spell_assign, spell_switch}
use Rattle.expr_grammar.specs.Meaning.{meaning, meaning_ref}
use Rattle.expr_grammar.specs.Scopes.{Scope, IsLawful}
use Rattle.expr_grammar.specs.Machine.{State, run, steps, settle, take, may_end, onward, and_then, map_some, kept, value_place}
use Rattle.expr_grammar.proofs.Runs.{run_take, run_do}
use Rattle.expr_grammar.proofs.Takes.{take_type_field, take_dot_sign, take_field, take_becomes, typed}
use Rattle.expr_grammar.proofs.Complete.{complete, complete_ref, type_alone}
use Rattle.expr_grammar.proofs.ReadRefs.{read_type, read_type_field, read_dot, read_field, read_becomes, read_ref, kept_inv}
use Rattle.expr_grammar.proofs.ReadExprs.{read_level}
use Rattle.expr_grammar.proofs.Whole.{nothing_left, run_nothing}
use Rattle.expr_grammar.proofs.Unique.{unique, unique_ref}

-- what a value is built as
abbrev pub built_value : Value → Built
built_value (int e) = built.Int (meaning e)
built_value (ref r) = built.Ref (meaning_ref r)

same_built : (a b : List Built) → Some a ≡ Some b → a ≡ b
same_built a b e = cc

module _ (s : Scope) (lawful : IsLawful s) (limit : ℕ) where
  value_built : (b : Bool) (v : Value) (bs : List Built) → FitsValue s limit false b v → run s limit (value_place false b ∷ []) bs (spell_value v []) ≡ Some (built_value v ∷ bs)
  value_built true (int e) bs fits = absurd fits
  value_built true (ref r) bs fits = complete_ref s lawful limit r false [] bs [] fits refl ∙ run_nothing s lawful limit (built.Ref (meaning_ref r) ∷ bs)
  value_built false (int e) bs fits = complete s lawful limit e 5 0 [] bs [] fits refl ∙ run_nothing s lawful limit (built.Int (meaning e) ∷ bs)
  value_built false (ref r) bs fits = absurd fits

  -- the value that was read
  record ValueRead (b : Bool) (bs : List Built) (ts : List Token) (ws : List Built) : Type 0 where
    value : Value
    fits : FitsValue s limit false b value
    tokens : spell_value value [] ≡ ts
    built : ws ≡ built_value value ∷ bs

  value_of : (b : Bool) (v : Value) (bs : List Built) (ts : List Token) (ws : List Built) → FitsValue s limit false b v → spell_value v [] ≡ ts
      → run s limit (value_place false b ∷ []) bs ts ≡ Some ws → ValueRead b bs ts ws
  value_of b v bs ts ws fits tokens h = record {
    value = v;
    fits = fits;
    tokens = tokens;
    built = same_built ws (built_value v ∷ bs) (sym h ∙ ap (λ k. run s limit (value_place false b ∷ []) bs k) (sym tokens) ∙ value_built b v bs fits);
  }

  value_read : (b : Bool) (bs : List Built) (ts : List Token) (ws : List Built) → run s limit (value_place false b ∷ []) bs ts ≡ Some ws → ValueRead b bs ts ws
  value_read true bs ts ws h =
      let r = read_ref s limit false [] bs ts ws h in
      let none = nothing_left s lawful limit r.built r.rest ws r.goes_on in
      value_of true (ref r.tree) bs ts ws r.fits (sym (r.tokens ∙ ap (λ x. spell_ref r.tree x) none)) h
  value_read false bs ts ws h =
      let r = read_level s limit 5 0 [] bs ts ws h in
      let none = nothing_left s lawful limit r.built r.rest ws r.goes_on in
      value_of false (int r.tree) bs ts ws r.fits (sym (r.tokens ∙ ap (λ x. spell r.tree x) none)) h

  value_unique : (b : Bool) (v w : Value) → FitsValue s limit false b v → FitsValue s limit false b w → spell_value v [] ≡ spell_value w [] → v ≡ w
  value_unique true (int e) w f g h = absurd f
  value_unique true (ref r) (int e) f g h = absurd g
  value_unique true (ref r) (ref q) f g h = ap ref (unique_ref s r q false [] [] f g refl refl h).0
  value_unique false (int e) (int k) f g h = ap int (unique s lawful limit e k 5 0 [] [] f g refl refl h).0
  value_unique false (int e) (ref q) f g h = absurd g
  value_unique false (ref r) w f g h = absurd f

  pub assign_built : (a : AssignText) → FitsAssign s limit a
      → run s limit (wait.TypeField Assigned ∷ []) [] (spell_assign a) ≡ Some (built_value a.value ∷ built.Field a.ty a.place ∷ [])
  assign_built a fits =
      run_take s limit (wait.TypeField Assigned) [] [] (word a.ty_name) _ _ (take_type_field s limit Assigned a.ty_name a.ty (typed s lawful limit Assigned a.ty_name a.ty a.field_name a.place fits.0))
      ∙ run_take s limit wait.Dot _ [] (sign Dot) _ [] (take_dot_sign s limit)
      ∙ run_take s limit (wait.Field a.ty Assigned) [] [] (word a.field_name) _ _ (take_field s limit Assigned a.ty a.field_name a.place fits.0.1)
      ∙ run_do s limit (act.Field a.ty a.place) (wait.Becomes ∷ value_place false (s.is_ref a.ty a.place) ∷ []) [] _
      ∙ run_take s limit wait.Becomes _ _ (sign Becomes) _ [] (take_becomes s limit)
      ∙ value_built (s.is_ref a.ty a.place) a.value (built.Field a.ty a.place ∷ []) fits.1

  -- the assign that was read
  pub record AssignRead (ts : List Token) (ws : List Built) : Type 0 where
    pub text : AssignText
    pub fits : FitsAssign s limit text
    pub tokens : spell_assign text ≡ ts
    pub built : ws ≡ built_value text.value ∷ built.Field text.ty text.place ∷ []

  pub assign_read : (ts : List Token) (ws : List Built) → run s limit (wait.TypeField Assigned ∷ []) [] ts ≡ Some ws → AssignRead ts ws
  assign_read ts ws h =
      let t = read_type_field s limit Assigned [] [] ts ws h in
      let d = read_dot s limit (wait.Field t.ty Assigned ∷ []) [] t.rest ws t.goes_on in
      let f = read_field s limit Assigned t.ty [] [] d.rest ws d.goes_on in
      let g = sym (run_do s limit (act.Field t.ty f.place) (wait.Becomes ∷ value_place false (s.is_ref t.ty f.place) ∷ []) [] f.rest) ∙ f.goes_on in
      let b = read_becomes s limit (value_place false (s.is_ref t.ty f.place) ∷ []) (built.Field t.ty f.place ∷ []) f.rest ws g in
      let v = value_read (s.is_ref t.ty f.place) (built.Field t.ty f.place ∷ []) b.rest ws b.goes_on in
      record {
        text = record { ty_name = t.name; ty = t.ty; field_name = f.name; place = f.place; value = v.value };
        fits = ((t.known, f.known), v.fits);
        tokens = sym (t.tokens ∙ ap (λ x. word t.name ∷ x) (d.tokens ∙ ap (λ x. sign Dot ∷ x) (f.tokens ∙ ap (λ x. word f.name ∷ x) (b.tokens ∙ ap (λ x. sign Becomes ∷ x) (sym v.tokens)))));
        built = v.built;
      }

  assign_same : (x y : AssignText) → x.ty_name ≡ y.ty_name → x.ty ≡ y.ty → x.field_name ≡ y.field_name → x.place ≡ y.place → x.value ≡ y.value → x ≡ y
  assign_same x y a b c d e = λ i. record { ty_name = a i; ty = b i; field_name = c i; place = d i; value = e i }

  some_same : {A : Type 0} (x y : A) → Some x ≡ Some y → x ≡ y
  some_same x y e = cc

  pub assign_unique : (x y : AssignText) → FitsAssign s limit x → FitsAssign s limit y → spell_assign x ≡ spell_assign y → x ≡ y
  assign_unique x y f g h =
      let name : x.ty_name ≡ y.ty_name = cc in
      let field_name : x.field_name ≡ y.field_name = cc in
      let rest : spell_value x.value [] ≡ spell_value y.value [] = cc in
      let ty = some_same x.ty y.ty (sym f.0.0 ∙ ap s.find name ∙ g.0.0) in
      let place = some_same x.place y.place (sym f.0.1 ∙ ap (λ t. s.field Assigned t x.field_name) ty ∙ ap (λ n. s.field Assigned y.ty n) field_name ∙ g.0.1) in
      let kind : s.is_ref y.ty y.place ≡ s.is_ref x.ty x.place = sym (ap (λ t. s.is_ref t x.place) ty ∙ ap (λ p. s.is_ref y.ty p) place) in
      assign_same x y name ty field_name place
      (value_unique (s.is_ref x.ty x.place) x.value y.value f.1 (subst (λ b. FitsValue s limit false b y.value) kind g.1) rest)

  pub switch_built : (w : SwitchText) → FitsSwitch s limit w
      → run s limit (wait.Type Switched ∷ wait.Becomes ∷ wait.Level 5 0 ∷ []) [] (spell_switch w) ≡ Some (built.Int (meaning w.value) ∷ built.Type w.ty ∷ [])
  switch_built w fits =
      type_alone s lawful limit Switched w.name w.ty (wait.Becomes ∷ wait.Level 5 0 ∷ []) [] _ fits.0
      ∙ run_take s limit wait.Becomes _ _ (sign Becomes) _ [] (take_becomes s limit)
      ∙ value_built false (int w.value) (built.Type w.ty ∷ []) fits.1

  -- the switch that was read
  pub record SwitchRead (ts : List Token) (ws : List Built) : Type 0 where
    pub text : SwitchText
    pub fits : FitsSwitch s limit text
    pub tokens : spell_switch text ≡ ts
    pub built : ws ≡ built.Int (meaning text.value) ∷ built.Type text.ty ∷ []

  pub switch_read : (ts : List Token) (ws : List Built) → run s limit (wait.Type Switched ∷ wait.Becomes ∷ wait.Level 5 0 ∷ []) [] ts ≡ Some ws → SwitchRead ts ws
  switch_read ts ws h =
      let t = read_type s limit Switched (wait.Becomes ∷ wait.Level 5 0 ∷ []) [] ts ws h in
      let g = sym (run_do s limit (act.Type t.ty) (wait.Becomes ∷ wait.Level 5 0 ∷ []) [] t.rest) ∙ t.goes_on in
      let b = read_becomes s limit (wait.Level 5 0 ∷ []) (built.Type t.ty ∷ []) t.rest ws g in
      let e = read_level s limit 5 0 [] (built.Type t.ty ∷ []) b.rest ws b.goes_on in
      let none = nothing_left s lawful limit e.built e.rest ws e.goes_on in
      let tokens : spell e.tree [] ≡ b.rest = sym (e.tokens ∙ ap (λ x. spell e.tree x) none) in
      record {
        text = record { name = t.name; ty = t.ty; value = e.tree };
        fits = ((t.known, t.passes), e.fits);
        tokens = sym (t.tokens ∙ ap (λ x. word t.name ∷ x) (b.tokens ∙ ap (λ x. sign Becomes ∷ x) (sym tokens)));
        built = same_built ws _ (sym b.goes_on ∙ ap (λ k. run s limit (wait.Level 5 0 ∷ []) (built.Type t.ty ∷ []) k) (sym tokens) ∙ value_built false (int e.tree) (built.Type t.ty ∷ []) e.fits);
      }

  switch_same : (x y : SwitchText) → x.name ≡ y.name → x.ty ≡ y.ty → x.value ≡ y.value → x ≡ y
  switch_same x y a b c = λ i. record { name = a i; ty = b i; value = c i }

  pub switch_unique : (x y : SwitchText) → FitsSwitch s limit x → FitsSwitch s limit y → spell_switch x ≡ spell_switch y → x ≡ y
  switch_unique x y f g h =
      let name : x.name ≡ y.name = cc in
      let rest : spell x.value [] ≡ spell y.value [] = cc in
      let ty = some_same x.ty y.ty (sym f.0.0 ∙ ap s.find name ∙ g.0.0) in
      switch_same x y name ty (unique s lawful limit x.value y.value 5 0 [] [] f.1 g.1 refl refl rest).0

module _ (s : Scope) (limit : ℕ) where
  -- an assign that was begun has a type to name, and so has a switch
  pub assign_begins : (t : Token) (ts : List Token) (st : State) → steps s limit (record { waits = wait.TypeField Assigned ∷ []; built = [] }) (t ∷ ts) ≡ Some st
      → (name : List ℕ) × (ty : TypeId) × (s.find name ≡ Some ty) × (s.has_field Assigned ty ≡ true)
  unfolding steps settle take may_end
  assign_begins (numeral n) ts st h = absurd cc
  assign_begins (sign g) ts st h = absurd cc
  assign_begins bad ts st h = absurd cc
  assign_begins (word name) ts st h = by (kept (s.has_field Assigned) (s.find name)) refl h where
    by : (o : Option TypeId) → kept (s.has_field Assigned) (s.find name) ≡ o
        → and_then (onward (map_some (λ ty. wait.Dot ∷ wait.Field ty Assigned ∷ []) o) false [] [] None) (λ next. steps s limit next ts) ≡ Some st
        → (name : List ℕ) × (ty : TypeId) × (s.find name ≡ Some ty) × (s.has_field Assigned ty ≡ true)
    by None e k = absurd cc
    by (Some ty) e k = let w = kept_inv (s.has_field Assigned) (s.find name) ty e in (name, ty, w.0, w.1)

  pub switch_begins : (t : Token) (ts : List Token) (st : State)
      → steps s limit (record { waits = wait.Type Switched ∷ wait.Becomes ∷ wait.Level 5 0 ∷ []; built = [] }) (t ∷ ts) ≡ Some st
      → (name : List ℕ) × (ty : TypeId) × (s.find name ≡ Some ty) × (s.allows Switched ty ≡ true)
  unfolding steps settle take may_end
  switch_begins (numeral n) ts st h = absurd cc
  switch_begins (sign g) ts st h = absurd cc
  switch_begins bad ts st h = absurd cc
  switch_begins (word name) ts st h = by (kept (s.allows Switched) (s.find name)) refl h where
    by : (o : Option TypeId) → kept (s.allows Switched) (s.find name) ≡ o
        → (and_then (onward (map_some (λ ty. wait.Do (act.Type ty) ∷ []) o) false (wait.Becomes ∷ wait.Level 5 0 ∷ []) [] (settle s limit (wait.Becomes ∷ wait.Level 5 0 ∷ []) [] (word name)))
        (λ next. steps s limit next ts) ≡ Some st)
        → (name : List ℕ) × (ty : TypeId) × (s.find name ≡ Some ty) × (s.allows Switched ty ≡ true)
    by None e k = absurd cc
    by (Some ty) e k = let w = kept_inv (s.allows Switched) (s.find name) ty e in (name, ty, w.0, w.1)
