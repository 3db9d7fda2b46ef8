-- Tokens have one derivation at most, as a command.
use Rattle.std.proofs.Common.{ℕ, ◌≡◌, List, [], ◌∷◌, Bool, true, false, Some, refl, sym, ap, ◌∙◌, subst}
use Rattle.ent_types.specs.declared.entity.TypeId.{TypeId}
use Rattle.expr_tokens.specs.Tokens.{Token, word, sign}
use Rattle.expr_tokens.specs.declared.sign.Sign.TheVariants.{Close}
use Rattle.expr_grammar.specs.declared.words.TypeUse.{TypeUse}
use Rattle.expr_grammar.specs.declared.words.Verb.{Verb}
use Rattle.expr_grammar.specs.declared.words.Verb.TheVariants as verbs
use Rattle.expr_grammar.specs.declared.words.Change.{Change}
use Rattle.expr_grammar.specs.declared.words.Change.TheVariants as changes
use Rattle.expr_grammar.specs.declared.words.Turn.{Turn}
use Rattle.expr_grammar.specs.declared.words.Turn.TheVariants as turns
use Rattle.expr_grammar.specs.Fitting.{FitsValue, FitsValues, FitsPart, FitsParts, FitsCommand, part_use}
use Rattle.expr_grammar.specs.Grammar.{Value, int, ref, Part, Command, create, destroy, change, turn, instantiate, change_word, turn_word, spell_value, spell_more_values, spell_values, spell_part, spell_more_parts, spell_parts, spell_command}
use Rattle.expr_grammar.specs.Scopes.{Scope, IsLawful}
use Rattle.expr_grammar.specs.Machine.{verb_of}
use Rattle.expr_grammar.proofs.CommandTakes.{verb_word}
use Rattle.expr_grammar.proofs.Runs.{stops}
use Rattle.expr_grammar.proofs.Unique.{unique, unique_ref}

more_stops : (vs : List Value) (us : List Token) (level : ℕ) → stops level (spell_more_values vs (sign Close ∷ us)) ≡ true
more_stops [] us level = refl
more_stops (v ∷ vs) us level = refl

some_same : {A : Type 0} (x y : A) → Some x ≡ Some y → x ≡ y
some_same x y e = cc

-- the word of a command determines the command
change_known : (c : Change) → verb_of (change_word c) ≡ Some (verbs.Change c)
change_known changes.Add = refl
change_known changes.Set = refl
change_known changes.SetShared = refl

turn_known : (t : Turn) → verb_of (turn_word t) ≡ Some (verbs.Turn t)
turn_known turns.Remove = refl
turn_known turns.Enable = refl
turn_known turns.Disable = refl

verb_known : (v : Verb) → verb_of (verb_word v) ≡ Some v
verb_known verbs.Create = refl
verb_known verbs.Destroy = refl
verb_known (verbs.Change c) = change_known c
verb_known (verbs.Turn t) = turn_known t
verb_known verbs.Instantiate = refl

abbrev verb_in : Command → Verb
verb_in (create name ps) = verbs.Create
verb_in (destroy r) = verbs.Destroy
verb_in (change c r p) = verbs.Change c
verb_in (turn t r name ty) = verbs.Turn t
verb_in (instantiate name r) = verbs.Instantiate

abbrev first_name : List Token → List ℕ
first_name (word name ∷ ts) = name
first_name ts = []

begins_so : (c : Command) → first_name (spell_command c) ≡ verb_word (verb_in c)
begins_so (create name ps) = refl
begins_so (destroy r) = refl
begins_so (change c r p) = refl
begins_so (turn t r name ty) = refl
begins_so (instantiate name r) = refl

verb_same : (x y : Command) → spell_command x ≡ spell_command y → verb_in x ≡ verb_in y
verb_same x y h =
    some_same (verb_in x) (verb_in y) (sym (verb_known (verb_in x)) ∙ ap verb_of (sym (begins_so x) ∙ ap first_name h ∙ begins_so y) ∙ verb_known (verb_in y))

behind : (a b : Token) (xs ys : List Token) → a ∷ xs ≡ b ∷ ys → xs ≡ ys
behind a b xs ys e = cc

module _ (s : Scope) (lawful : IsLawful s) (limit : ℕ) where
  value_same : (k : Bool) (v w : Value) (us vs : List Token) → FitsValue s limit true k v → FitsValue s limit true k w → ((level : ℕ) → stops level us ≡ true) → ((level : ℕ) → stops level vs ≡ true)
      → spell_value v us ≡ spell_value w vs → (v ≡ w) × (us ≡ vs)
  value_same true (int e) w us vs f g h k' e' = absurd f
  value_same true (ref r) (int e) us vs f g h k' e' = absurd g
  value_same true (ref r) (ref q) us vs f g h k' e' = let w = unique_ref s r q true us vs f g (h 0) (k' 0) e' in (ap ref w.0, w.1)
  value_same false (int e) (int o) us vs f g h k' e' = let w = unique s lawful limit e o 5 0 us vs f g (h 5) (k' 5) e' in (ap int w.0, w.1)
  value_same false (int e) (ref q) us vs f g h k' e' = absurd g
  value_same false (ref r) w us vs f g h k' e' = absurd f

  more_values_same : (ks : List Bool) (xs ys : List Value) (us vs : List Token) → FitsValues s limit ks xs → FitsValues s limit ks ys
      → spell_more_values xs (sign Close ∷ us) ≡ spell_more_values ys (sign Close ∷ vs) → (xs ≡ ys) × (us ≡ vs)
  more_values_same [] [] [] us vs f g e = (refl, behind _ _ us vs e)
  more_values_same [] [] (y ∷ ys) us vs f g e = absurd g
  more_values_same [] (x ∷ xs) ys us vs f g e = absurd f
  more_values_same (k ∷ ks) [] ys us vs f g e = absurd f
  more_values_same (k ∷ ks) (x ∷ xs) [] us vs f g e = absurd g
  more_values_same (k ∷ ks) (x ∷ xs) (y ∷ ys) us vs f g e =
      let v = value_same k x y (spell_more_values xs (sign Close ∷ us)) (spell_more_values ys (sign Close ∷ vs)) f.0 g.0 (more_stops xs us) (more_stops ys vs) (behind _ _ _ _ e) in
      let m = more_values_same ks xs ys us vs f.1 g.1 v.1 in
      (λ i. v.0 i ∷ m.0 i, m.1)

  values_same : (ks : List Bool) (xs ys : List Value) (us vs : List Token) → FitsValues s limit ks xs → FitsValues s limit ks ys
      → spell_values xs us ≡ spell_values ys vs → (xs ≡ ys) × (us ≡ vs)
  values_same [] [] [] us vs f g e = (refl, e)
  values_same [] [] (y ∷ ys) us vs f g e = absurd g
  values_same [] (x ∷ xs) ys us vs f g e = absurd f
  values_same (k ∷ ks) [] ys us vs f g e = absurd f
  values_same (k ∷ ks) (x ∷ xs) [] us vs f g e = absurd g
  values_same (k ∷ ks) (x ∷ xs) (y ∷ ys) us vs f g e =
      let v = value_same k x y (spell_more_values xs (sign Close ∷ us)) (spell_more_values ys (sign Close ∷ vs)) f.0 g.0 (more_stops xs us) (more_stops ys vs) (behind _ _ _ _ e) in
      let m = more_values_same ks xs ys us vs f.1 g.1 v.1 in
      (λ i. v.0 i ∷ m.0 i, m.1)

  part_is : (p q : Part) → p.name ≡ q.name → p.ty ≡ q.ty → p.values ≡ q.values → p ≡ q
  part_is p q a b c = λ i. record { name = a i; ty = b i; values = c i }

  part_same : (role : TypeUse) (p q : Part) (us vs : List Token) → FitsPart s limit role p → FitsPart s limit role q → spell_part p us ≡ spell_part q vs → (p ≡ q) × (us ≡ vs)
  part_same role p q us vs f g e =
      let names : p.name ≡ q.name = cc in
      let rest : spell_values p.values us ≡ spell_values q.values vs = cc in
      let types = some_same p.ty q.ty (sym f.0.0 ∙ ap s.find names ∙ g.0.0) in
      let w = values_same (s.refs p.ty) p.values q.values us vs f.1 (subst (λ t. FitsValues s limit (s.refs t) q.values) (sym types) g.1) rest in
      (part_is p q names types w.0, w.1)

  more_parts_same : (ps qs : List Part) (used others : List TypeId) → FitsParts s limit used ps → FitsParts s limit others qs → spell_more_parts ps [] ≡ spell_more_parts qs [] → ps ≡ qs
  more_parts_same [] [] used others f g e = refl
  more_parts_same [] (q ∷ qs) used others f g e = absurd cc
  more_parts_same (p ∷ ps) [] used others f g e = absurd cc
  more_parts_same (p ∷ ps) (q ∷ qs) used others f g e =
      let w = part_same _ p q (spell_more_parts ps []) (spell_more_parts qs []) f.0 g.0 (behind _ _ _ _ e) in
      let m = more_parts_same ps qs (p.ty ∷ used) (q.ty ∷ others) f.2 g.2 w.1 in
      λ i. w.0 i ∷ m i

  parts_same : (ps qs : List Part) → FitsParts s limit [] ps → FitsParts s limit [] qs → spell_parts ps [] ≡ spell_parts qs [] → ps ≡ qs
  parts_same [] [] f g e = refl
  parts_same [] (q ∷ qs) f g e = absurd cc
  parts_same (p ∷ ps) [] f g e = absurd cc
  parts_same (p ∷ ps) (q ∷ qs) f g e =
      let w = part_same _ p q (spell_more_parts ps []) (spell_more_parts qs []) f.0 g.0 (behind _ _ _ _ e) in
      let m = more_parts_same ps qs (p.ty ∷ []) (q.ty ∷ []) f.2 g.2 w.1 in
      λ i. w.0 i ∷ m i

  pub command_unique : (x y : Command) → FitsCommand s limit x → FitsCommand s limit y → spell_command x ≡ spell_command y → x ≡ y
  command_unique (create name ps) (create other qs) f g h =
      let names : name ≡ other = cc in
      let rest : spell_parts ps [] ≡ spell_parts qs [] = cc in
      let parts = parts_same ps qs f.1 g.1 rest in
      λ i. create (names i) (parts i)
  command_unique (create name ps) y f g h = absurd (let e = verb_same (create name ps) y h in cc)
  command_unique (destroy r) (destroy q) f g h = ap destroy (unique_ref s r q true [] [] f g refl refl (behind _ _ _ _ h)).0
  command_unique (destroy r) y f g h = absurd (let e = verb_same (destroy r) y h in cc)
  command_unique (change c r p) (change d q o) f g h =
      let e = verb_same (change c r p) (change d q o) h in
      let verbs_are : c ≡ d = cc in
      let w = unique_ref s r q true (spell_part p []) (spell_part o []) f.0 g.0 refl refl (behind _ _ _ _ h) in
      let v = part_same (part_use c) p o [] [] f.1 (subst (λ k. FitsPart s limit (part_use k) o) (sym verbs_are) g.1) w.1 in
      λ i. change (verbs_are i) (w.0 i) (v.0 i)
  command_unique (change c r p) y f g h = absurd (let e = verb_same (change c r p) y h in cc)
  command_unique (turn t r name ty) (turn u q other tz) f g h =
      let e = verb_same (turn t r name ty) (turn u q other tz) h in
      let verbs_are : t ≡ u = cc in
      let w = unique_ref s r q true (word name ∷ []) (word other ∷ []) f.0 g.0 refl refl (behind _ _ _ _ h) in
      let rest = w.1 in
      let names : name ≡ other = cc in
      let types = some_same ty tz (sym f.1.0 ∙ ap s.find names ∙ g.1.0) in
      λ i. turn (verbs_are i) (w.0 i) (names i) (types i)
  command_unique (turn t r name ty) y f g h = absurd (let e = verb_same (turn t r name ty) y h in cc)
  command_unique (instantiate name r) (instantiate other q) f g h =
      let names : name ≡ other = cc in
      let w = unique_ref s r q true [] [] f.1 g.1 refl refl (behind _ _ _ _ (behind _ _ _ _ (behind _ _ _ _ h))) in
      λ i. instantiate (names i) (w.0 i)
  command_unique (instantiate name r) y f g h = absurd (let e = verb_same (instantiate name r) y h in cc)
