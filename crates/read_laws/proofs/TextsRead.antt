-- Each text that is read names only what its place has.
use Rattle.std.proofs.Common.{ℕ, ◌≡◌, ◌<◌, ◌^◌, List, [], ◌∷◌, Bool, true, false, Some, Result, Ok, Err, length, map, refl, sym, ap, subst}
use Rattle.std.specs.List.{list_all}
use Rattle.std.proofs.lemmas.Bool.{and_parts, and_from, or_from, or_left, or_right, both_ways, not_from_false, eq-eqb, ne_eqb}
use Rattle.ent_types.specs.declared.entity.TypeId.{TypeId}
use Rattle.ent_types.specs.declared.kinds.Kind.{Kind}
use Rattle.ent_types.specs.declared.kinds.Kind.TheVariants.{Plain, Tag, Shared as SharedKind, Cleanup, Buffer}
use Rattle.ent_types.specs.declared.type_info.TypeInfo.{TypeInfo}
use Rattle.ent_types.specs.Registries.{IsLawfulRegistry}
use Rattle.ent_types.specs.Types.{has_column, is_buffer}
use Rattle.ent_types.specs.TypeLookups.{kind_at, field_kind_at}
use Rattle.ent_types.specs.TypeSets.{has_type}
use Rattle.expr_trees.specs.declared.tree.Expr.{Expr}
use Rattle.expr_trees.specs.declared.tree.RefExpr.{RefExpr}
use Rattle.expr_trees.specs.declared.tree.Assign.{Assign}
use Rattle.expr_trees.specs.declared.tree.Switch.{Switch}
use Rattle.expr_trees.specs.declared.tree.CommandText.{CommandText}
use Rattle.expr_grammar.specs.Answers.{expr_answer, ref_answer, assign_answer, switch_answer, command_answer}
use Rattle.expr_grammar.specs.declared.fault.ExprFault.{ExprFault}
use Rattle.expr_grammar.specs.declared.words.FieldUse.TheVariants.{Assigned}
use Rattle.expr_grammar.specs.declared.words.TypeUse.{TypeUse}
use Rattle.expr_grammar.specs.declared.words.TypeUse.TheVariants.{Added, Set, Shared}
use Rattle.expr_grammar.specs.declared.words.Change.TheVariants as changes
use Rattle.expr_grammar.specs.declared.words.Turn.TheVariants as turns
use Rattle.expr_grammar.specs.Fitting.{FitsRef, FitsPart, FitsParts, FitsAssign, FitsSwitch, FitsCommand}
use Rattle.expr_grammar.specs.Grammar.{Ref, Part, AssignText, SwitchText, Command, create, destroy, change, turn, instantiate}
use Rattle.expr_grammar.specs.Languages.{exprs, refs, assigns, switches, commands}
use Rattle.expr_grammar.specs.Meaning.{meaning_ref, meaning_part, meaning_assign, meaning_switch, meaning_command}
use Rattle.expr_grammar.specs.Readings.{ReadsText, IsMeant}
use Rattle.expr_grammar.specs.Scopes.{Scope, IsLawful}
use Rattle.expr_grammar.proofs.ByGrammar.{expr_by_grammar, ref_by_grammar, assign_by_grammar, switch_by_grammar}
use Rattle.expr_grammar.proofs.CommandAnswers.{command_by_grammar}
use Rattle.expr_read.specs.declared.scope.TextPlace.{TextPlace}
use Rattle.expr_read.specs.declared.scope.TextPlace.TheVariants.{System}
use Rattle.expr_read.specs.declared.scope.Made.{Made}
use Rattle.expr_read.specs.ScopeOf.{is_listed, scope_of}
use Rattle.expr_read.proofs.ScopeLaws.{scope_is_lawful}
use Rattle.expr_read.proofs.CommandScopeLaws.{scope_serves_commands}
use Rattle.scenario_record.specs.declared.record.CommandEntry.{CommandEntry}
use Rattle.scenario_record.specs.TextNames.{Names, are_once, none_made, ref_fits, expr_fits, part_fits, new_part_fits, command_fits, assign_fits, switch_fits, names_of_a_system}
use Rattle.scenario_record.specs.Lawful.{name_made, is_new_name}
use Rattle.scenario_tables.specs.ReadTexts.{text_reading}
use Rattle.read_laws.proofs.Inversions.{ok_same}
use Rattle.read_laws.proofs.TextsFit.{Serves, ref_ok, expr_ok, value_ok, values_ok}
use Rattle.read_laws.proofs.ScopesServe.{open_field, field_there, system_serves}

-- the tree of a text that was read
pub text_reading_ok : {A : Type 0} (answer : Result A ExprFault) (x : A) → text_reading answer ≡ Ok x → answer ≡ Ok x
text_reading_ok (Ok y) x is = ap (λ z. Ok z) (ok_same y x is)
text_reading_ok (Err f) x is = absurd cc

-- a kind with a column is no buffer
column_kind : (kind : Kind) → has_column kind ≡ true → is_buffer kind ≡ false
column_kind Plain has = refl
column_kind Tag has = refl
column_kind SharedKind has = refl
column_kind Cleanup has = refl
column_kind Buffer has = absurd cc

module _ (s : Scope) (lawful : IsLawful s) (names : Names) (serves : Serves s names) where
  pub expr_read : (text : List ℕ) (e : Expr) → expr_answer s text ≡ Ok e → expr_fits names e ≡ true
  expr_read text e is =
      let meant : IsMeant (exprs s) text e = subst (ReadsText (exprs s) text) is (expr_by_grammar s lawful text) in
      subst (λ x. expr_fits names x ≡ true) meant.only.means (expr_ok s 64 names serves meant.only.tree meant.only.fits)

  pub ref_read : (text : List ℕ) (r : RefExpr) → ref_answer s text ≡ Ok r → ref_fits names none_made r ≡ true
  ref_read text r is =
      let meant : IsMeant (refs s) text r = subst (ReadsText (refs s) text) is (ref_by_grammar s lawful text) in
      subst (λ x. ref_fits names none_made x ≡ true) meant.only.means (ref_ok s 64 names serves none_made false serves.reference meant.only.tree meant.only.fits)

module _ (types : List TypeInfo) (lawful : IsLawfulRegistry types) where
  -- ---- assignments and switches

  module _ (bound : List ℕ) (is_bound : ℕ → Bool) (binds : (t : ℕ) → has_type bound t ≡ true → is_bound t ≡ true) where
    abbrev s : Scope
    s = scope_of types System bound []

    serves : Serves s (names_of_a_system types is_bound)
    serves = system_serves types lawful bound is_bound binds []

    assign_ok : (a : AssignText) → FitsAssign s 64 a → assign_fits types is_bound (meaning_assign a) ≡ true
    assign_ok a h =
        let opens = open_field types System bound Assigned a.ty a.field_name a.place h.0.1 in
        let (own, column) = and_parts _ _ opens.named in
        and_from _ _ (and_from _ _ (binds a.ty.0 own) column)
        (and_from _ _ (field_there types lawful a.ty a.place opens.known opens.within (column_kind (kind_at types a.ty.0) column))
        (value_ok s 64 (names_of_a_system types is_bound) serves types none_made false serves.reference (field_kind_at types a.ty.0 a.place) a.value h.1))

    pub assign_read : (text : List ℕ) (a : Assign) → assign_answer s text ≡ Ok a → assign_fits types is_bound a ≡ true
    assign_read text a is =
        let law = scope_is_lawful types lawful System bound [] in
        let meant : IsMeant (assigns s) text a = subst (ReadsText (assigns s) text) is (assign_by_grammar s law text) in
        subst (λ x. assign_fits types is_bound x ≡ true) meant.only.means (assign_ok meant.only.tree meant.only.fits)

    switch_ok : (w : SwitchText) → FitsSwitch s 64 w → switch_fits types is_bound (meaning_switch w) ≡ true
    switch_ok w h =
        let (known, may) = and_parts _ _ h.0.1 in
        let (own, enableable) = and_parts _ _ may in
        and_from _ _ (and_from _ _ (binds w.ty.0 own) (and_from _ _ known enableable))
        (expr_ok s 64 (names_of_a_system types is_bound) serves w.value h.1)

    pub switch_read : (text : List ℕ) (w : Switch) → switch_answer s text ≡ Ok w → switch_fits types is_bound w ≡ true
    switch_read text w is =
        let law = scope_is_lawful types lawful System bound [] in
        let meant : IsMeant (switches s) text w = subst (ReadsText (switches s) text) is (switch_by_grammar s law text) in
        subst (λ x. switch_fits types is_bound x ≡ true) meant.only.means (switch_ok meant.only.tree meant.only.fits)

  -- ---- commands

  module _ (place : TextPlace) (bound : List ℕ) (made : List Made) (names : Names) (named : ℕ → Bool) where
    abbrev here : Scope
    here = scope_of types place bound made

    module _ (serves : Serves here names) (known : (n : List ℕ) (r : RefExpr) → here.reference true n ≡ Some r → ref_fits names named r ≡ true) where
      ref_there : (r : Ref) → FitsRef here true r → ref_fits names named (meaning_ref r) ≡ true
      ref_there = ref_ok here 64 names serves named true known

      part_ok : (role : TypeUse) (p : Part) → FitsPart here 64 role p → part_fits types names named (meaning_part p) ≡ true
      part_ok role p h =
          and_from _ _ (and_parts _ _ h.0.1).0 (values_ok here 64 names serves types named known _ p.values h.1)

      new_part_ok : (p : Part) → FitsPart here 64 Added p → new_part_fits types names named (meaning_part p) ≡ true
      new_part_ok p h = and_from _ _ (and_parts _ _ h.0.1).1 (part_ok Added p h)

      parts_ok : (used : List TypeId) (ps : List Part) → FitsParts here 64 used ps → list_all (new_part_fits types names named) (map meaning_part ps) ≡ true
      parts_ok used [] h = refl
      parts_ok used (p ∷ ps) h = and_from _ _ (new_part_ok p h.0) (parts_ok (p.ty ∷ used) ps h.2)

      abbrev types_of : List Part → List ℕ
      types_of ps = map (λ p. p.ty.0) (map meaning_part ps)

      -- a type that was used comes no more
      not_later : (used : List TypeId) (t : TypeId) → is_listed used t ≡ true → (ps : List Part) → FitsParts here 64 used ps → has_type (types_of ps) t.0 ≡ false
      not_later used t there [] h = refl
      not_later used t there (q ∷ qs) h =
          or_from _ _
          (ne_eqb q.ty.0 t.0 (λ same. both_ways _ h.1 (subst (λ n. is_listed used (record { 0 = n }) ≡ true) (sym same) there)))
          (not_later (q.ty ∷ used) t (or_right _ _ there) qs h.2)

      once_ok : (used : List TypeId) (ps : List Part) → FitsParts here 64 used ps → are_once (types_of ps) ≡ true
      once_ok used [] h = refl
      once_ok used (p ∷ ps) h =
          and_from _ _
          (not_from_false _ (not_later (p.ty ∷ used) p.ty (or_left _ _ (eq-eqb p.ty.0 p.ty.0 refl)) ps h.2))
          (once_ok (p.ty ∷ used) ps h.2)

      command_ok : (c : Command) → FitsCommand here 64 c → command_fits types names named (meaning_command c) ≡ true
      command_ok (create name ps) h = and_from _ _ (parts_ok [] ps h.1) (once_ok [] ps h.1)
      command_ok (destroy r) h = ref_there r h
      command_ok (change changes.Add r p) h = and_from _ _ (ref_there r h.0) (new_part_ok p h.1)
      command_ok (change changes.Set r p) h =
          and_from _ _ (ref_there r h.0) (and_from _ _ (and_parts _ _ h.1.0.1).1 (part_ok Set p h.1))
      command_ok (change changes.SetShared r p) h =
          and_from _ _ (ref_there r h.0) (and_from _ _ (and_parts _ _ h.1.0.1).1 (part_ok Shared p h.1))
      command_ok (turn turns.Remove r name ty) h = and_from _ _ (ref_there r h.0) h.1.1
      command_ok (turn turns.Enable r name ty) h = and_from _ _ (ref_there r h.0) h.1.1
      command_ok (turn turns.Disable r name ty) h = and_from _ _ (ref_there r h.0) h.1.1
      command_ok (instantiate name r) h = ref_there r h.1

      -- a name that is made is new
      new_ok : (earlier : List CommandEntry) → ((n : List ℕ) → here.is_new n ≡ true → is_new_name earlier (Some n) ≡ true)
          → (c : Command) → FitsCommand here 64 c → is_new_name earlier (name_made (meaning_command c)) ≡ true
      new_ok earlier new (create name ps) h = new name h.0
      new_ok earlier new (destroy r) h = refl
      new_ok earlier new (change changes.Add r p) h = refl
      new_ok earlier new (change changes.Set r p) h = refl
      new_ok earlier new (change changes.SetShared r p) h = refl
      new_ok earlier new (turn turns.Remove r name ty) h = refl
      new_ok earlier new (turn turns.Enable r name ty) h = refl
      new_ok earlier new (turn turns.Disable r name ty) h = refl
      new_ok earlier new (instantiate name r) h = new name h.0

      pub command_read : length made < 2 ^ 64 → (earlier : List CommandEntry) → ((n : List ℕ) → here.is_new n ≡ true → is_new_name earlier (Some n) ≡ true)
          → (text : List ℕ) (c : CommandText) → command_answer here text ≡ Ok c
          → (command_fits types names named c ≡ true) × (is_new_name earlier (name_made c) ≡ true)
      command_read few earlier new text c is =
          let law = scope_is_lawful types lawful place bound made in
          let serves_commands = scope_serves_commands types lawful place bound made few in
          let meant : IsMeant (commands here) text c = subst (ReadsText (commands here) text) is (command_by_grammar here text law serves_commands) in (
            subst (λ x. command_fits types names named x ≡ true) meant.only.means (command_ok meant.only.tree meant.only.fits),
            subst (λ x. is_new_name earlier (name_made x) ≡ true) meant.only.means (new_ok earlier new meant.only.tree meant.only.fits),
          )
