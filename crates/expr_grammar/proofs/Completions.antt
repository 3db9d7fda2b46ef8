-- Whatever the machine waits for in the middle of a text can be completed.
use Rattle.std.proofs.Common.{ℕ, zero, suc, ◌≡◌, List, [], ◌∷◌, ◌++◌, Bool, true, false, ◌&&◌, ◌||◌, ◌+◌, drop, Option, Some, None, refl, sym, ap, subst, ◌∙◌, lit<}
use Rattle.std.proofs.lemmas.Bool.{false≢true, ltb-true}
use Rattle.std.specs.Prelude.{nat_lt, is_some, pos, codes}
use Rattle.ent_types.specs.declared.entity.TypeId.{TypeId}
use Rattle.expr_tokens.specs.Tokens.{Token, word, number as numeral, sign}
use Rattle.expr_tokens.specs.declared.sign.Sign.TheVariants.{Open, Close, Comma, Dot, Colon, Assign}
use Rattle.expr_grammar.specs.declared.symbol.Symbol.{Symbol}
use Rattle.expr_grammar.specs.declared.symbol.Symbol.TheVariants as wait
use Rattle.expr_grammar.specs.declared.symbol.Action.{Action}
use Rattle.expr_grammar.specs.declared.symbol.Action.TheVariants as act
use Rattle.expr_grammar.specs.declared.symbol.Built.{Built}
use Rattle.expr_grammar.specs.declared.symbol.Built.TheVariants as built
use Rattle.expr_trees.specs.declared.tree.Expr.TheVariants as exprs
use Rattle.expr_trees.specs.declared.tree.RefExpr.{RefExpr}
use Rattle.expr_trees.specs.declared.tree.RefExpr.TheVariants as refs
use Rattle.expr_trees.specs.declared.tree.Variable.{Variable}
use Rattle.expr_grammar.specs.declared.words.Call.{Call}
use Rattle.expr_grammar.specs.declared.words.Call.TheVariants as calls
use Rattle.expr_grammar.specs.declared.words.FieldUse.{FieldUse}
use Rattle.expr_grammar.specs.declared.words.FieldUse.TheVariants.{Number as NumberField, Entity as EntityField, Looked, Assigned}
use Rattle.expr_grammar.specs.declared.words.TypeUse.{TypeUse}
use Rattle.expr_grammar.specs.declared.words.TypeUse.TheVariants.{Asked, Own, Added}
use Rattle.expr_grammar.specs.declared.words.Verb.TheVariants as verbs
use Rattle.ent_types.specs.TypeSets.{with_type}
use Rattle.expr_grammar.specs.CommandScopes.{ServesCommands}
use Rattle.expr_grammar.proofs.CommandTakes.{drop_next, first_split, take_no_more, take_next_value, take_first_value, take_part, take_joined, joined_append, take_new, take_from, take_verb}
use Rattle.expr_grammar.specs.Grammar.{called, plain, number}
use Rattle.expr_grammar.specs.Scopes.{Scope, IsLawful}
use Rattle.expr_grammar.specs.Machine.{may_end, ended, run, finish, arguments, behind_field, value_place, apply, field_type, ids, kind_at, first_of, values_of}
use Rattle.expr_grammar.proofs.Runs.{run_take, run_end, run_do, stops}
use Rattle.expr_grammar.proofs.Takes.{take_close, take_comma, take_dot_sign, take_becomes, take_dot, take_arguments, take_field, take_type_field, take_ref_dot, take_colon, take_version, named_leaves}
use Rattle.expr_grammar.proofs.Complete.{level_split, complete, complete_ref, stop_tail, end_plain, type_alone}

-- the next symbol below can't be taken for more of an expression or of a reference
abbrev pub soft : List Symbol → Bool
soft [] = true
soft (wait.Close ∷ below) = true
soft (wait.Comma ∷ below) = true
soft (wait.Do a ∷ below) = soft below
soft (wait.Tail level d ∷ below) = soft below
soft (wait.Type role ∷ below) = true
soft (wait.Part role ∷ below) = true
soft (wait.MoreValues ty at ∷ below) = true
soft (symbol ∷ below) = false

module _ (s : Scope) (lawful : IsLawful s) (limit : ℕ) where
  -- a type by its name that passes a test
  abbrev pub NamedType : (TypeId → Bool) → Type 0
  NamedType test = (t : List ℕ) × (ty : TypeId) × (s.find t ≡ Some ty) × (test ty ≡ true)

  abbrev pub CanCall : Call → Type 0
  CanCall calls.Get = NamedType (s.has_field Looked)
  CanCall calls.Has = NamedType (s.allows Asked)
  CanCall calls.On = NamedType (s.allows Own)
  CanCall c = Unit {0}

  -- what has to hold of a symbol for it to be completed
  abbrev pub Ready : Symbol → Type 0
  Ready (wait.Named v ty call d) =
      (((is_some v || is_some ty) || (is_some call && nat_lt d limit)) ≡ true) × ((u : TypeId) → ty ≡ Some u → s.has_field NumberField u ≡ true) × ((c : Call) → call ≡ Some c → CanCall c)
  Ready (wait.NamedRef r ty) = ((is_some r || is_some ty) ≡ true) × ((u : TypeId) → ty ≡ Some u → s.has_field EntityField u ≡ true)
  Ready (wait.Field ty role) = s.has_field role ty ≡ true
  Ready (wait.TypeField role) = NamedType (s.has_field role)
  Ready (wait.Type role) = NamedType (s.allows role)
  Ready wait.Verb = ServesCommands s
  Ready wait.New = ServesCommands s
  Ready wait.With = ServesCommands s
  Ready (wait.Part role) = NamedType (s.allows role)
  Ready (wait.Parts used) = ServesCommands s × (s.has_type Added (ids used) ≡ true)
  Ready (wait.MoreParts used) = ServesCommands s
  Ready (wait.Values ty) = (k : Bool) × (kind_at (s.refs ty) 0 ≡ Some k)
  Ready symbol = Unit {0}

  -- what has to be below it
  abbrev pub Needs : Symbol → List Symbol → Type 0
  Needs (wait.Level level d) below = soft below ≡ true
  Needs (wait.Tail level d) below = soft below ≡ true
  Needs (wait.Named v ty call d) below = soft below ≡ true
  Needs (wait.NamedRef r ty) below = soft below ≡ true
  Needs (wait.Ref made) below = soft below ≡ true
  Needs (wait.Field ty role) below = soft below ≡ true
  Needs (wait.TypeField role) below = soft below ≡ true
  Needs wait.Verb below = below ≡ []
  Needs wait.With below = below ≡ wait.Do act.Create ∷ []
  Needs (wait.Parts used) below = below ≡ wait.Do act.Create ∷ []
  Needs (wait.MoreParts used) below = below ≡ wait.Do act.Create ∷ []
  Needs symbol below = Unit {0}

  abbrev pub Good : List Symbol → Type 0
  Good [] = Unit {0}
  Good (symbol ∷ below) = Ready symbol × Needs symbol below × Good below

  -- tokens that complete what is waited for, whatever was built
  pub record Completion (waits : List Symbol) : Type 0 where
    pub us : List Token
    pub stop_there : soft waits ≡ true → (level : ℕ) → stops level us ≡ true
    pub builds : (bs : List Built) → (ws : List Built) × (run s limit waits bs us ≡ Some ws)

  nothing : Completion []
  unfolding run finish
  nothing = record { us = []; stop_there = λ h level. refl; builds = λ bs. (bs, refl) }

  zero_level : (level d : ℕ) (below : List Symbol) (bs : List Built) (us : List Token) → ((k : ℕ) → stops k us ≡ true)
      → run s limit (wait.Level level d ∷ below) bs (numeral 0 ∷ us) ≡ run s limit below (built.Int (exprs.Number (pos 0)) ∷ bs) us
  zero_level zero d below bs us h = complete s lawful limit (number 0) d below bs us (lit< tt) (h 0)
  zero_level (suc level) d below bs us h =
      level_split s limit level d below bs (numeral 0 ∷ us) ∙ zero_level level d (wait.Tail level d ∷ below) bs us h ∙ stop_tail s lawful limit level d below _ us (h (suc level))

  at_level : (level d : ℕ) (below : List Symbol) → soft below ≡ true → Completion below → Completion (wait.Level level d ∷ below)
  at_level level d below n c = record {
    us = numeral 0 ∷ c.us;
    stop_there = λ h. absurd (false≢true h);
    builds = λ bs. let w = c.builds (built.Int (exprs.Number (pos 0)) ∷ bs) in (w.0, zero_level level d below bs c.us (c.stop_there n) ∙ w.1);
  }

  at_tail : (level d : ℕ) (below : List Symbol) → soft below ≡ true → Completion below → Completion (wait.Tail level d ∷ below)
  at_tail level d below n c = record {
    us = c.us;
    stop_there = c.stop_there;
    builds = λ bs. let w = c.builds bs in (w.0, stop_tail s lawful limit level d below bs c.us (c.stop_there n (suc level)) ∙ w.1);
  }

  at_do : (a : Action) (below : List Symbol) → Completion below → Completion (wait.Do a ∷ below)
  at_do a below c = record {
    us = c.us;
    stop_there = c.stop_there;
    builds = λ bs. let w = c.builds (apply a bs) in (w.0, run_do s limit a below bs c.us ∙ w.1);
  }

  at_close : (below : List Symbol) → Completion below → Completion (wait.Close ∷ below)
  at_close below c = record {
    us = sign Close ∷ c.us;
    stop_there = λ h level. refl;
    builds = λ bs. let w = c.builds bs in (w.0, run_take s limit wait.Close below bs (sign Close) c.us [] (take_close s limit) ∙ w.1);
  }

  at_comma : (below : List Symbol) → Completion below → Completion (wait.Comma ∷ below)
  at_comma below c = record {
    us = sign Comma ∷ c.us;
    stop_there = λ h level. refl;
    builds = λ bs. let w = c.builds bs in (w.0, run_take s limit wait.Comma below bs (sign Comma) c.us [] (take_comma s limit) ∙ w.1);
  }

  at_dot : (below : List Symbol) → Completion below → Completion (wait.Dot ∷ below)
  at_dot below c = record {
    us = sign Dot ∷ c.us;
    stop_there = λ h. absurd (false≢true h);
    builds = λ bs. let w = c.builds bs in (w.0, run_take s limit wait.Dot below bs (sign Dot) c.us [] (take_dot_sign s limit) ∙ w.1);
  }

  at_becomes : (below : List Symbol) → Completion below → Completion (wait.Becomes ∷ below)
  at_becomes below c = record {
    us = sign Assign ∷ c.us;
    stop_there = λ h. absurd (false≢true h);
    builds = λ bs. let w = c.builds bs in (w.0, run_take s limit wait.Becomes below bs (sign Assign) c.us [] (take_becomes s limit) ∙ w.1);
  }

  at_ref : (made : Bool) (below : List Symbol) → soft below ≡ true → Completion below → Completion (wait.Ref made ∷ below)
  at_ref made below n c = record {
    us = word (codes "null") ∷ c.us;
    stop_there = λ h. absurd (false≢true h);
    builds = λ bs. let w = c.builds (built.Ref refs.Null ∷ bs) in (w.0, complete_ref s lawful limit (called (codes "null") (plain refs.Null)) made below bs c.us (lawful.null made) (c.stop_there n 0) ∙ w.1);
  }

  at_type : (role : TypeUse) (below : List Symbol) → NamedType (s.allows role) → Completion below → Completion (wait.Type role ∷ below)
  at_type role below t c = record {
    us = word t.0 ∷ c.us;
    stop_there = λ h level. refl;
    builds = λ bs. let w = c.builds (built.Type t.1 ∷ bs) in (w.0, type_alone s lawful limit role t.0 t.1 below bs c.us (t.2, t.3) ∙ w.1);
  }

  at_value : (made b : Bool) (below : List Symbol) → soft below ≡ true → Completion below → Completion (value_place made b ∷ below)
  at_value made true below n c = at_ref made below n c
  at_value made false below n c = at_level 5 0 below n c

  -- after a field
  at_behind : (role : FieldUse) (ty : TypeId) (i : ℕ) (below : List Symbol) → soft below ≡ true → Completion below → Completion (behind_field s role ty i ++ below)
  at_behind NumberField ty i below n c = at_do _ below c
  at_behind EntityField ty i below n c = at_do _ below c
  at_behind Looked ty i below n c = at_do _ below c
  at_behind Assigned ty i below n c = at_do _ _ (at_becomes _ (at_value false (s.is_ref ty i) below n c))

  at_field : (role : FieldUse) (ty : TypeId) (below : List Symbol) → s.has_field role ty ≡ true → soft below ≡ true → Completion below → Completion (wait.Field ty role ∷ below)
  at_field role ty below has n c =
      let f = lawful.field_there role ty has in
      let b = at_behind role ty f.1 below n c in
      record {
        us = word f.0 ∷ b.us;
        stop_there = λ h. absurd (false≢true h);
        builds = λ bs. let w = b.builds bs in (w.0, run_take s limit (wait.Field ty role) below bs (word f.0) b.us _ (take_field s limit role ty f.0 f.1 f.2) ∙ w.1);
      }

  at_type_field : (role : FieldUse) (below : List Symbol) → NamedType (s.has_field role) → soft below ≡ true → Completion below → Completion (wait.TypeField role ∷ below)
  at_type_field role below t n c =
      let b = at_dot _ (at_field role t.1 below t.3 n c) in
      let known : field_type s role t.0 ≡ Some t.1 = rw (t.2, t.3) refl in
      record {
        us = word t.0 ∷ b.us;
        stop_there = λ h. absurd (false≢true h);
        builds = λ bs. let w = b.builds bs in (w.0, run_take s limit (wait.TypeField role) below bs (word t.0) b.us _ (take_type_field s limit role t.0 t.1 known) ∙ w.1);
      }

  -- the arguments of a call
  at_arguments : (c : Call) (d : ℕ) (below : List Symbol) → CanCall c → Completion below → Completion (arguments c d ++ below)
  at_arguments (calls.Two op) d below can c = at_level 5 d _ refl (at_comma _ (at_level 5 d _ refl (at_close _ (at_do _ below c))))
  at_arguments calls.Pick d below can c = at_level 5 d _ refl (at_comma _ (at_level 5 d _ refl (at_comma _ (at_level 5 d _ refl (at_close _ (at_do _ below c))))))
  at_arguments calls.Get d below can c = at_ref false _ refl (at_comma _ (at_type_field Looked _ can refl (at_close _ (at_do _ below c))))
  at_arguments calls.Alive d below can c = at_ref false _ refl (at_close _ (at_do _ below c))
  at_arguments calls.Has d below can c = at_ref false _ refl (at_comma _ (at_type Asked _ can (at_close _ (at_do _ below c))))
  at_arguments calls.Same d below can c = at_ref false _ refl (at_comma _ (at_ref false _ refl (at_close _ (at_do _ below c))))
  at_arguments calls.On d below can c = at_type Own _ can (at_close _ (at_do _ below c))

  -- a name of an expression, by what it may be
  at_named : (v : Option Variable) (ty : Option TypeId) (call : Option Call) (d : ℕ) (below : List Symbol) → Ready (wait.Named v ty call d) → soft below ≡ true → Completion below
      → Completion (wait.Named v ty call d ∷ below)
  unfolding may_end ended
  at_named (Some v) ty call d below r n c = record {
    us = c.us;
    stop_there = λ h. absurd (false≢true h);
    builds = λ bs. let w = c.builds (built.Int (exprs.Variable v) ∷ bs) in (w.0, run_end s limit (wait.Named (Some v) ty call d) below bs c.us refl (named_leaves s limit (Some v) ty call d 0 c.us (c.stop_there n 0)) ∙ w.1);
  }
  at_named None (Some u) call d below r n c =
      let f = at_field NumberField u below (r.1 u refl) n c in
      record {
        us = sign Dot ∷ f.us;
        stop_there = λ h. absurd (false≢true h);
        builds = λ bs. let w = f.builds bs in (w.0, run_take s limit _ below bs (sign Dot) f.us _ (take_dot s limit None u (Some u) call d refl) ∙ w.1);
      }
  at_named None None (Some k) d below r n c =
      let a = at_arguments k (suc d) below (r.2 k refl) c in
      record {
        us = sign Open ∷ a.us;
        stop_there = λ h. absurd (false≢true h);
        builds = λ bs. let w = a.builds bs in (w.0, run_take s limit _ below bs (sign Open) a.us _ (take_arguments s limit None None (Some k) k d refl (ltb-true d limit r.0)) ∙ w.1);
      }
  at_named None None None d below r n c = absurd (false≢true r.0)

  at_named_ref : (p : Option RefExpr) (ty : Option TypeId) (below : List Symbol) → Ready (wait.NamedRef p ty) → soft below ≡ true → Completion below → Completion (wait.NamedRef p ty ∷ below)
  at_named_ref (Some r) ty below ready n c = record {
    us = c.us;
    stop_there = λ h. absurd (false≢true h);
    builds = λ bs. let w = c.builds (built.Ref r ∷ bs) in (w.0, end_plain s lawful limit r ty below bs c.us (c.stop_there n 0) ∙ w.1);
  }
  at_named_ref None (Some u) below ready n c =
      let f = at_field EntityField u below (ready.1 u refl) n c in
      record {
        us = sign Dot ∷ f.us;
        stop_there = λ h. absurd (false≢true h);
        builds = λ bs. let w = f.builds bs in (w.0, run_take s limit _ below bs (sign Dot) f.us _ (take_ref_dot s limit None u) ∙ w.1);
      }
  at_named_ref None None below ready n c = absurd (false≢true ready.0)

  at_version : (i : ℕ) (below : List Symbol) → Completion below → Completion (wait.Version i ∷ below)
  at_version i below c =
      let b = at_do (act.Ref (refs.Entity (record { index = i; version = 0 }))) below c in
      record {
        us = numeral 0 ∷ b.us;
        stop_there = λ h. absurd (false≢true h);
        builds = λ bs. let w = b.builds bs in (w.0, run_take s limit (wait.Version i) below bs (numeral 0) b.us _ (take_version s limit i 0 (lit< tt)) ∙ w.1);
      }

  at_colon : (i : ℕ) (below : List Symbol) → Completion below → Completion (wait.Colon i ∷ below)
  at_colon i below c =
      let b = at_version i below c in
      record {
        us = sign Colon ∷ b.us;
        stop_there = λ h. absurd (false≢true h);
        builds = λ bs. let w = b.builds bs in (w.0, run_take s limit (wait.Colon i) below bs (sign Colon) b.us _ (take_colon s limit i) ∙ w.1);
      }

  -- the values of a part that are left
  at_more_values : (ks : List Bool) (ty : TypeId) (at : ℕ) (below : List Symbol) → drop at (s.refs ty) ≡ ks → Completion below → Completion (wait.MoreValues ty at ∷ below)
  at_more_values [] ty at below e c = record {
    us = sign Close ∷ c.us;
    stop_there = λ h level. refl;
    builds = λ bs. let w = c.builds bs in (w.0, run_take s limit (wait.MoreValues ty at) below bs (sign Close) c.us [] (take_no_more s limit ty at (ap first_of e)) ∙ w.1);
  }
  at_more_values (k ∷ ks) ty at below e c =
      let b = at_value true k _ refl (at_do act.Value _ (at_more_values ks ty (at + 1) below (drop_next at (s.refs ty) k ks e) c)) in
      record {
        us = sign Comma ∷ b.us;
        stop_there = λ h level. refl;
        builds = λ bs. let w = b.builds bs in (w.0, run_take s limit (wait.MoreValues ty at) below bs (sign Comma) b.us _ (take_next_value s limit ty at k (ap first_of e)) ∙ w.1);
      }

  at_values : (ty : TypeId) (k : Bool) (below : List Symbol) → kind_at (s.refs ty) 0 ≡ Some k → Completion below → Completion (wait.Values ty ∷ below)
  at_values ty k below e c =
      let r = first_split (s.refs ty) k e in
      let b = at_value true k _ refl (at_do act.Value _ (at_more_values r.0 ty 1 below (drop_next 0 (s.refs ty) k r.0 r.1) c)) in
      record {
        us = sign Open ∷ b.us;
        stop_there = λ h. absurd (false≢true h);
        builds = λ bs. let w = b.builds bs in (w.0, run_take s limit (wait.Values ty) below bs (sign Open) b.us _ (take_first_value s limit ty k e) ∙ w.1);
      }

  at_values_of : (ty : TypeId) (o : Option Bool) (below : List Symbol) → kind_at (s.refs ty) 0 ≡ o → Completion below → Completion (values_of ty o ++ below)
  at_values_of ty None below e c = c
  at_values_of ty (Some k) below e c = at_values ty k below e c

  at_part : (role : TypeUse) (below : List Symbol) → NamedType (s.allows role) → Completion below → Completion (wait.Part role ∷ below)
  at_part role below t c =
      let b = at_do (act.Part t.1) _ (at_values_of t.1 (kind_at (s.refs t.1) 0) below refl c) in
      record {
        us = word t.0 ∷ b.us;
        stop_there = λ h level. refl;
        builds = λ bs. let w = b.builds bs in (w.0, run_take s limit (wait.Part role) below bs (word t.0) b.us _ (take_part s limit role t.0 t.1 (t.2, t.3)) ∙ w.1);
      }

  -- a symbol that may end above the end of a creation
  at_end : (x : Symbol) (below : List Symbol) → may_end x ≡ true → below ≡ wait.Do act.Create ∷ [] → Completion (x ∷ below)
  unfolding run finish
  at_end x below ends is =
      subst (λ w. Completion (x ∷ w)) (sym is) (record {
        us = [];
        stop_there = λ h level. refl;
        builds = λ bs. (apply act.Create (ended x bs), run_end s limit x (wait.Do act.Create ∷ []) bs [] ends tt ∙ run_do s limit act.Create [] (ended x bs) []);
      })

  at_with : (below : List Symbol) → below ≡ wait.Do act.Create ∷ [] → Completion (wait.With ∷ below)
  unfolding may_end
  at_with below is = at_end wait.With below refl is

  at_more_parts : (used : List ℕ) (below : List Symbol) → below ≡ wait.Do act.Create ∷ [] → Completion (wait.MoreParts used ∷ below)
  unfolding may_end
  at_more_parts used below is = at_end (wait.MoreParts used) below refl is

  at_parts : (used : List ℕ) (below : List Symbol) → Ready (wait.Parts used) → below ≡ wait.Do act.Create ∷ [] → Completion (wait.Parts used ∷ below)
  at_parts used below r is =
      let t = r.0.type_there Added (ids used) r.1 in
      let more = at_do act.Join _ (at_more_parts (with_type used t.1.0) below is) in
      let b = at_do (act.Part t.1) _ (at_values_of t.1 (kind_at (s.refs t.1) 0) _ refl more) in
      record {
        us = word t.0 ∷ b.us;
        stop_there = λ h. absurd (false≢true h);
        builds = λ bs. let w = b.builds bs in (
          w.0,
          run_take s limit (wait.Parts used) below bs (word t.0) b.us _ (take_joined s limit used t.0 t.1 t.2 t.3 t.4)
              ∙ ap (λ l. run s limit l bs b.us) (joined_append s used t.1 below) ∙ w.1,
        );
      }

  at_new : (below : List Symbol) → ServesCommands s → Completion below → Completion (wait.New ∷ below)
  at_new below serves c =
      let n = serves.new_there in
      let b = at_do (act.New n.0) below c in
      record {
        us = word n.0 ∷ b.us;
        stop_there = λ h. absurd (false≢true h);
        builds = λ bs. let w = b.builds bs in (w.0, run_take s limit wait.New below bs (word n.0) b.us _ (take_new s limit n.0 n.1) ∙ w.1);
      }

  at_from : (below : List Symbol) → Completion below → Completion (wait.From ∷ below)
  at_from below c = record {
    us = word (codes "from") ∷ c.us;
    stop_there = λ h. absurd (false≢true h);
    builds = λ bs. let w = c.builds bs in (w.0, run_take s limit wait.From below bs (word (codes "from")) c.us [] (take_from s limit) ∙ w.1);
  }

  at_verb : (below : List Symbol) → below ≡ [] → Completion below → Completion (wait.Verb ∷ below)
  at_verb below is c =
      let b = at_ref true (wait.Do act.Destroy ∷ below) (ap soft is) (at_do act.Destroy below c) in
      record {
        us = word (codes "destroy") ∷ b.us;
        stop_there = λ h. absurd (false≢true h);
        builds = λ bs. let w = b.builds bs in (w.0, run_take s limit wait.Verb below bs (word (codes "destroy")) b.us _ (take_verb s limit verbs.Destroy refl) ∙ w.1);
      }

  at_symbol : (x : Symbol) (below : List Symbol) → Ready x → Needs x below → Completion below → Completion (x ∷ below)
  at_symbol (wait.Level level d) below r n c = at_level level d below n c
  at_symbol (wait.Tail level d) below r n c = at_tail level d below n c
  at_symbol (wait.Named v ty call d) below r n c = at_named v ty call d below r n c
  at_symbol wait.Close below r n c = at_close below c
  at_symbol wait.Comma below r n c = at_comma below c
  at_symbol wait.Dot below r n c = at_dot below c
  at_symbol wait.Becomes below r n c = at_becomes below c
  at_symbol (wait.Field ty role) below r n c = at_field role ty below r n c
  at_symbol (wait.TypeField role) below r n c = at_type_field role below r n c
  at_symbol (wait.Ref made) below r n c = at_ref made below n c
  at_symbol (wait.NamedRef p ty) below r n c = at_named_ref p ty below r n c
  at_symbol (wait.Colon i) below r n c = at_colon i below c
  at_symbol (wait.Version i) below r n c = at_version i below c
  at_symbol (wait.Type role) below r n c = at_type role below r c
  at_symbol (wait.Do a) below r n c = at_do a below c
  at_symbol wait.Verb below r n c = at_verb below n c
  at_symbol wait.New below r n c = at_new below r c
  at_symbol wait.From below r n c = at_from below c
  at_symbol wait.With below r n c = at_with below n
  at_symbol (wait.Part role) below r n c = at_part role below r c
  at_symbol (wait.Parts used) below r n c = at_parts used below r n
  at_symbol (wait.MoreParts used) below r n c = at_more_parts used below n
  at_symbol (wait.Values ty) below r n c = at_values ty r.0 below r.1 c
  at_symbol (wait.MoreValues ty at) below r n c = at_more_values (drop at (s.refs ty)) ty at below refl c

  pub completes : (waits : List Symbol) → Good waits → Completion waits
  completes [] g = nothing
  completes (x ∷ below) g = at_symbol x below g.0 g.1 (completes below g.2)
