-- The machine takes the tokens of each command that fits, and builds what it means.
use Rattle.std.proofs.Common.{ℕ, ◌≡◌, ◌+◌, List, [], ◌∷◌, ◌++◌, Bool, true, false, ◌||◌, Some, drop, map, refl, sym, ap, ◌∙◌, append_assoc}
use Rattle.std.proofs.lemmas.List.{append-nil}
use Rattle.std.specs.Prelude.{codes, ◌==◌}
use Rattle.ent_types.specs.TypeSets.{with_type, has_type}
use Rattle.ent_types.proofs.TypeSetLemmas.{has_type-with_type}
use Rattle.ent_types.specs.declared.entity.TypeId.{TypeId}
use Rattle.expr_tokens.specs.Tokens.{Token, word, sign}
use Rattle.expr_tokens.specs.declared.sign.Sign.TheVariants.{Open, Close, Comma}
use Rattle.expr_grammar.specs.declared.symbol.Symbol.{Symbol}
use Rattle.expr_grammar.specs.declared.symbol.Symbol.TheVariants as wait
use Rattle.expr_grammar.specs.declared.symbol.Action.TheVariants as act
use Rattle.expr_grammar.specs.declared.symbol.Built.{Built}
use Rattle.expr_grammar.specs.declared.symbol.Built.TheVariants as built
use Rattle.expr_trees.specs.declared.tree.ValueExpr.{ValueExpr}
use Rattle.expr_trees.specs.declared.tree.PartExpr.{PartExpr}
use Rattle.expr_grammar.specs.declared.words.TypeUse.TheVariants.{Added}
use Rattle.expr_grammar.specs.declared.words.Verb.TheVariants as verbs
use Rattle.expr_grammar.specs.CommandScopes.{ServesCommands}
use Rattle.expr_grammar.specs.Fitting.{FitsValue, FitsValues, FitsPart, FitsParts, FitsCommand, part_use, turn_use}
use Rattle.expr_grammar.specs.Grammar.{Value, int, ref, Part, Command, create, destroy, change, turn, instantiate, spell_value, spell_more_values, spell_values, spell_part, spell_more_parts, spell_parts, spell_command}
use Rattle.expr_grammar.specs.Meaning.{meaning_value, meaning_part, meaning_command}
use Rattle.expr_grammar.specs.Scopes.{Scope, IsLawful}
use Rattle.expr_grammar.specs.Machine.{run, apply, value_place, first_of, kind_at, values_of, part_places, ids, may_end, ended}
use Rattle.expr_grammar.proofs.Assigning.{built_value}
use Rattle.expr_grammar.proofs.CommandTakes.{drop_next, joined_append, take_verb, take_new, take_from, take_with, take_part, take_joined, take_comma_of_parts, take_first_value, take_next_value, take_no_more}
use Rattle.expr_grammar.proofs.Complete.{complete, complete_ref, type_alone}
use Rattle.expr_grammar.proofs.Runs.{run_take, run_end, run_do, stops}
use Rattle.expr_grammar.proofs.Whole.{run_nothing}

more_stops : (vs : List Value) (us : List Token) (level : ℕ) → stops level (spell_more_values vs (sign Close ∷ us)) ≡ true
more_stops [] us level = refl
more_stops (v ∷ vs) us level = refl

with_built : (v : Value) (p : PartExpr) (bs : List Built)
    → apply act.Value (built_value v ∷ built.Part p ∷ bs) ≡ built.Part (record { ty = p.ty; values = p.values ++ meaning_value v ∷ [] }) ∷ bs
with_built (int e) p bs = refl
with_built (ref r) p bs = refl

abbrev pub part_of : TypeId → List ValueExpr → Built
part_of ty values = built.Part (record { ty = ty; values = values })

-- a set of types and a list hold the same
abbrev pub SameTypes : Scope → List ℕ → List TypeId → Type 0
SameTypes s set used = (u : TypeId) → s.holds (ids set) u ≡ s.holds used u

module _ (s : Scope) (serves : ServesCommands s) where
  in_set : (set : List ℕ) (u : TypeId) → s.holds (ids set) u ≡ has_type set u.0
  in_set [] u = serves.holds_none u
  in_set (x ∷ xs) u = serves.holds_more (record { 0 = x }) (ids xs) u ∙ ap (λ b. (x == u.0) || b) (in_set xs u)

  pub same_more : (set : List ℕ) (used : List TypeId) (ty : TypeId) → SameTypes s set used → SameTypes s (with_type set ty.0) (ty ∷ used)
  same_more set used ty same u =
      in_set (with_type set ty.0) u ∙ has_type-with_type set ty.0 u.0
      ∙ ap (λ b. (ty.0 == u.0) || b) (sym (in_set set u) ∙ same u) ∙ sym (serves.holds_more ty used u)

module _ (s : Scope) (lawful : IsLawful s) (serves : ServesCommands s) (limit : ℕ) where
  value_reads : (k : Bool) (v : Value) (below : List Symbol) (bs : List Built) (us : List Token) → FitsValue s limit true k v → ((level : ℕ) → stops level us ≡ true)
      → run s limit (value_place true k ∷ below) bs (spell_value v us) ≡ run s limit below (built_value v ∷ bs) us
  value_reads true (int e) below bs us fits h = absurd fits
  value_reads true (ref r) below bs us fits h = complete_ref s lawful limit r true below bs us fits (h 0)
  value_reads false (int e) below bs us fits h = complete s lawful limit e 5 0 below bs us fits (h 5)
  value_reads false (ref r) below bs us fits h = absurd fits

  -- a value, and the part with it
  value_joins : (k : Bool) (v : Value) (ty : TypeId) (done : List ValueExpr) (below : List Symbol) (bs : List Built) (us : List Token) → FitsValue s limit true k v → ((level : ℕ) → stops level us ≡ true)
      → run s limit (value_place true k ∷ wait.Do act.Value ∷ below) (part_of ty done ∷ bs) (spell_value v us) ≡ run s limit below (part_of ty (done ++ meaning_value v ∷ []) ∷ bs) us
  value_joins k v ty done below bs us fits h =
      value_reads k v (wait.Do act.Value ∷ below) (part_of ty done ∷ bs) us fits h
      ∙ run_do s limit act.Value below (built_value v ∷ part_of ty done ∷ bs) us
      ∙ ap (λ w. run s limit below w us) (with_built v (record { ty = ty; values = done }) bs)

  more_values_built : (vs : List Value) (ks : List Bool) (ty : TypeId) (at : ℕ) (done : List ValueExpr) (below : List Symbol) (bs : List Built) (us : List Token)
      → drop at (s.refs ty) ≡ ks → FitsValues s limit ks vs
      → run s limit (wait.MoreValues ty at ∷ below) (part_of ty done ∷ bs) (spell_more_values vs (sign Close ∷ us)) ≡ run s limit below (part_of ty (done ++ map meaning_value vs) ∷ bs) us
  more_values_built [] [] ty at done below bs us e fits =
      run_take s limit (wait.MoreValues ty at) below _ (sign Close) us [] (take_no_more s limit ty at (ap first_of e))
      ∙ ap (λ l. run s limit below (part_of ty l ∷ bs) us) (sym (append-nil done))
  more_values_built (v ∷ vs) [] ty at done below bs us e fits = absurd fits
  more_values_built [] (k ∷ ks) ty at done below bs us e fits = absurd fits
  more_values_built (v ∷ vs) (k ∷ ks) ty at done below bs us e fits =
      run_take s limit (wait.MoreValues ty at) below _ (sign Comma) _ _ (take_next_value s limit ty at k (ap first_of e))
      ∙ value_joins k v ty done (wait.MoreValues ty (at + 1) ∷ below) bs (spell_more_values vs (sign Close ∷ us)) fits.0 (more_stops vs us)
      ∙ more_values_built vs ks ty (at + 1) (done ++ meaning_value v ∷ []) below bs us (drop_next at (s.refs ty) k ks e) fits.1
      ∙ ap (λ l. run s limit below (part_of ty l ∷ bs) us) (append_assoc done (meaning_value v ∷ []) (map meaning_value vs))

  values_built : (vs : List Value) (ks : List Bool) (ty : TypeId) (below : List Symbol) (bs : List Built) (us : List Token) → s.refs ty ≡ ks → FitsValues s limit ks vs
      → run s limit (values_of ty (kind_at (s.refs ty) 0) ++ below) (part_of ty [] ∷ bs) (spell_values vs us) ≡ run s limit below (part_of ty (map meaning_value vs) ∷ bs) us
  values_built [] [] ty below bs us e fits = ap (λ r. run s limit (values_of ty (kind_at r 0) ++ below) (part_of ty [] ∷ bs) us) e
  values_built (v ∷ vs) [] ty below bs us e fits = absurd fits
  values_built [] (k ∷ ks) ty below bs us e fits = absurd fits
  values_built (v ∷ vs) (k ∷ ks) ty below bs us e fits =
      ap (λ r. run s limit (values_of ty (kind_at r 0) ++ below) (part_of ty [] ∷ bs) (spell_values (v ∷ vs) us)) e
      ∙ run_take s limit (wait.Values ty) below _ (sign Open) _ _ (take_first_value s limit ty k (ap (λ r. kind_at r 0) e))
      ∙ value_joins k v ty [] (wait.MoreValues ty 1 ∷ below) bs (spell_more_values vs (sign Close ∷ us)) fits.0 (more_stops vs us)
      ∙ more_values_built vs ks ty 1 (meaning_value v ∷ []) below bs us (drop_next 0 (s.refs ty) k ks e) fits.1

  -- after the type of a part
  pub part_built : (p : Part) (below : List Symbol) (bs : List Built) (us : List Token) → FitsValues s limit (s.refs p.ty) p.values
      → run s limit (part_places s p.ty ++ below) bs (spell_values p.values us) ≡ run s limit below (built.Part (meaning_part p) ∷ bs) us
  part_built p below bs us fits =
      run_do s limit (act.Part p.ty) (values_of p.ty (kind_at (s.refs p.ty) 0) ++ below) bs (spell_values p.values us)
      ∙ values_built p.values (s.refs p.ty) p.ty below bs us refl fits

  more_parts_ended : (set : List ℕ) (bs : List Built) → run s limit (wait.MoreParts set ∷ wait.Do act.Create ∷ []) bs [] ≡ Some (apply act.Create bs)
  unfolding may_end ended
  more_parts_ended set bs =
      run_end s limit (wait.MoreParts set) (wait.Do act.Create ∷ []) bs [] refl tt ∙ run_do s limit act.Create [] bs [] ∙ run_nothing s lawful limit (apply act.Create bs)

  -- a part of a creation
  joined_built : (p : Part) (set : List ℕ) (used : List TypeId) (done : List PartExpr) (below : List Symbol) (bs : List Built) (us : List Token) → SameTypes s set used
      → FitsPart s limit Added p → s.holds used p.ty ≡ false
      → run s limit (wait.Parts set ∷ below) (built.Parts done ∷ bs) (spell_part p us) ≡ run s limit (wait.MoreParts (with_type set p.ty.0) ∷ below) (built.Parts (done ++ meaning_part p ∷ []) ∷ bs) us
  joined_built p set used done below bs us same fits new =
      run_take s limit (wait.Parts set) below _ (word p.name) _ _ (take_joined s limit set p.name p.ty fits.0.0 fits.0.1 (same p.ty ∙ new))
      ∙ ap (λ l. run s limit l (built.Parts done ∷ bs) (spell_values p.values us)) (joined_append s set p.ty below)
      ∙ part_built p (wait.Do act.Join ∷ wait.MoreParts (with_type set p.ty.0) ∷ below) (built.Parts done ∷ bs) us fits.1
      ∙ run_do s limit act.Join _ _ us

  more_parts_built : (ps : List Part) (set : List ℕ) (used : List TypeId) (done : List PartExpr) (bs : List Built) → SameTypes s set used → FitsParts s limit used ps
      → run s limit (wait.MoreParts set ∷ wait.Do act.Create ∷ []) (built.Parts done ∷ bs) (spell_more_parts ps []) ≡ Some (apply act.Create (built.Parts (done ++ map meaning_part ps) ∷ bs))
  more_parts_built [] set used done bs same fits =
      more_parts_ended set (built.Parts done ∷ bs) ∙ ap (λ l. Some (apply act.Create (built.Parts l ∷ bs))) (sym (append-nil done))
  more_parts_built (p ∷ ps) set used done bs same fits =
      run_take s limit (wait.MoreParts set) _ _ (sign Comma) _ _ (take_comma_of_parts s limit set (serves.type_known Added (ids set) p.name p.ty fits.0.0.0 fits.0.0.1 (same p.ty ∙ fits.1)))
      ∙ joined_built p set used done (wait.Do act.Create ∷ []) bs (spell_more_parts ps []) same fits.0 fits.1
      ∙ more_parts_built ps (with_type set p.ty.0) (p.ty ∷ used) (done ++ meaning_part p ∷ []) bs (same_more s serves set used p.ty same) fits.2
      ∙ ap (λ l. Some (apply act.Create (built.Parts l ∷ bs))) (append_assoc done (meaning_part p ∷ []) (map meaning_part ps))

  parts_built : (ps : List Part) (bs : List Built) → FitsParts s limit [] ps
      → run s limit (wait.With ∷ wait.Do act.Create ∷ []) (built.Parts [] ∷ bs) (spell_parts ps []) ≡ Some (apply act.Create (built.Parts (map meaning_part ps) ∷ bs))
  unfolding may_end ended
  parts_built [] bs fits =
      run_end s limit wait.With (wait.Do act.Create ∷ []) (built.Parts [] ∷ bs) [] refl tt ∙ run_do s limit act.Create [] (built.Parts [] ∷ bs) []
      ∙ run_nothing s lawful limit (apply act.Create (built.Parts [] ∷ bs))
  parts_built (p ∷ ps) bs fits =
      run_take s limit wait.With _ _ (word (codes "with")) _ _ (take_with s limit (serves.type_known Added [] p.name p.ty fits.0.0.0 fits.0.0.1 fits.1))
      ∙ joined_built p [] [] [] (wait.Do act.Create ∷ []) bs (spell_more_parts ps []) (λ u. refl) fits.0 fits.1
      ∙ more_parts_built ps (with_type [] p.ty.0) (p.ty ∷ []) (meaning_part p ∷ []) bs (same_more s serves [] [] p.ty (λ u. refl)) fits.2

  pub command_built : (c : Command) → FitsCommand s limit c → run s limit (wait.Verb ∷ []) [] (spell_command c) ≡ Some (built.Command (meaning_command c) ∷ [])
  command_built (create name parts) fits =
      run_take s limit wait.Verb [] [] (word (codes "create")) _ _ (take_verb s limit verbs.Create refl)
      ∙ run_take s limit wait.New _ [] (word name) _ _ (take_new s limit name fits.0)
      ∙ run_do s limit (act.New name) _ [] _
      ∙ run_do s limit act.NoParts _ (built.Name name ∷ []) _
      ∙ parts_built parts (built.Name name ∷ []) fits.1
  command_built (destroy r) fits =
      run_take s limit wait.Verb [] [] (word (codes "destroy")) _ _ (take_verb s limit verbs.Destroy refl)
      ∙ complete_ref s lawful limit r true (wait.Do act.Destroy ∷ []) [] [] fits refl
      ∙ run_do s limit act.Destroy [] _ []
      ∙ run_nothing s lawful limit _
  command_built (change c r p) fits =
      let may = serves.type_known (part_use c) [] p.name p.ty fits.1.0.0 fits.1.0.1 (serves.holds_none p.ty) in
      run_take s limit wait.Verb [] [] (word _) _ _ (take_verb s limit (verbs.Change c) may)
      ∙ complete_ref s lawful limit r true (wait.Part (part_use c) ∷ wait.Do (act.Change c) ∷ []) [] (spell_part p []) fits.0 refl
      ∙ run_take s limit (wait.Part (part_use c)) (wait.Do (act.Change c) ∷ []) _ (word p.name) _ _ (take_part s limit (part_use c) p.name p.ty fits.1.0)
      ∙ part_built p (wait.Do (act.Change c) ∷ []) _ [] fits.1.1
      ∙ run_do s limit (act.Change c) [] _ []
      ∙ run_nothing s lawful limit _
  command_built (turn t r name ty) fits =
      let may = serves.type_known (turn_use t) [] name ty fits.1.0 fits.1.1 (serves.holds_none ty) in
      run_take s limit wait.Verb [] [] (word _) _ _ (take_verb s limit (verbs.Turn t) may)
      ∙ complete_ref s lawful limit r true (wait.Type (turn_use t) ∷ wait.Do (act.Turn t) ∷ []) [] (word name ∷ []) fits.0 refl
      ∙ type_alone s lawful limit (turn_use t) name ty (wait.Do (act.Turn t) ∷ []) _ [] fits.1
      ∙ run_do s limit (act.Turn t) [] _ []
      ∙ run_nothing s lawful limit _
  command_built (instantiate name r) fits =
      run_take s limit wait.Verb [] [] (word (codes "instantiate")) _ _ (take_verb s limit verbs.Instantiate refl)
      ∙ run_take s limit wait.New _ [] (word name) _ _ (take_new s limit name fits.0)
      ∙ run_do s limit (act.New name) _ [] _
      ∙ run_take s limit wait.From _ _ (word (codes "from")) _ [] (take_from s limit)
      ∙ complete_ref s lawful limit r true (wait.Do act.Instantiate ∷ []) _ [] fits.1 refl
      ∙ run_do s limit act.Instantiate [] _ []
      ∙ run_nothing s lawful limit _
