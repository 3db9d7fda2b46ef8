-- Each system that was read, and looks up no type that it writes, can be run.
use Rattle.std.proofs.Common.{ℕ, ◌≡◌, ◌≤◌, List, [], ◌∷◌, ◌++◌, Bool, true, false, not, ◌&&◌, length, map, None, inl, inr, sym, ◌∙◌, subst, arith}
use Rattle.std.specs.Prelude.{nat_lt}
use Rattle.std.specs.List.{list_all, flat_map}
use Rattle.std.proofs.lemmas.Bool.{and_parts, and_from, not-true, not_from_false, ltb-true}
use Rattle.std.proofs.lemmas.List.{append_assoc}
use Rattle.ent_types.specs.declared.limits.TheConstants.{MOST_TYPES}
use Rattle.ent_types.specs.declared.type_info.TypeInfo.{TypeInfo}
use Rattle.ent_types.specs.declared.value.Part.{Part}
use Rattle.ent_types.specs.declared.value.Value.{Value}
use Rattle.ent_types.specs.Fitting.{fits_fields, fits_type}
use Rattle.ent_types.specs.Registries.{type_at}
use Rattle.ent_types.specs.Types.{is_buffer}
use Rattle.ent_types.specs.TypeLookups.{kind_at, fields_at, field_kind_at, has_column_at, is_shared_at, is_enableable_at}
use Rattle.ent_types.specs.TypeSets.{has_type}
use Rattle.expr_trees.specs.declared.tree.Assign.{Assign}
use Rattle.expr_trees.specs.declared.tree.Expr.{Expr}
use Rattle.expr_trees.specs.declared.tree.Switch.{Switch}
use Rattle.scenario_record.specs.declared.record.CommandEntry.{CommandEntry}
use Rattle.scenario_record.specs.declared.record.SystemEntry.{SystemEntry}
use Rattle.scenario_record.specs.Lawful.{is_made, clause_types, is_bound, shared_filter_fits, IsLawfulCommand, AreLawfulCommands, IsLawfulSystem}
use Rattle.scenario_record.specs.TextNames.{are_once, is_known, has_values, has_field, has_number, has_ref, none_made, expr_fits, assign_fits, switch_fits, names_of_a_system}
use Rattle.scenario_record.specs.Uses.{in_expr, in_act, in_assign, in_switch, in_command, uses_of, uses_of_assigns}
use Rattle.scenario_faults.specs.Checks.{lookup_fault}
use Rattle.world_model.specs.Members.{In}
use Rattle.world_laws.proofs.Types.{has_in}
use Rattle.run_model.specs.LawfulQuery.{query_types, IsLawfulQuery, IsWatched, IsShared, IsLawfulFilter}
use Rattle.run_laws.specs.Runnable.{sources_of, ExprReads, AssignRuns, SwitchRuns, SystemReads, SystemRuns}
use Rattle.run_laws.specs.Suits.{SystemSuits}
use Rattle.scenario_laws.proofs.Lookups.{IsUnwritten, looks_clear}
use Rattle.scenario_laws.proofs.Members.{are_distinct, passes}
use Rattle.scenario_laws.proofs.TextReads.{Gives, Looks, looks_left, looks_right, looks_at, expr_reading, value_reading, act_reading}
use Rattle.scenario_laws.proofs.Suits.{column_is_flat, shared_is_flat, values_are_flat, value_of_kind, act_suits}

fit_flat : (info : TypeInfo) (vs : List Value) → is_buffer info.kind ≡ false → fits_fields info.fields vs ≡ true → fits_type info vs ≡ true
unfolding fits_type
fit_flat info vs flat fit = rw flat fit

-- each command is lawful after those before it
lawful_command : (registry : List TypeInfo) (bound : ℕ → Bool) (earlier : List CommandEntry) (c : CommandEntry) (cs : List CommandEntry)
    → AreLawfulCommands registry bound earlier cs → In c cs → (before : List CommandEntry) × IsLawfulCommand registry bound before c
lawful_command registry bound earlier c [] lawful here = absurd here
lawful_command registry bound earlier c (d ∷ ds) lawful (inl e) = (earlier, subst (IsLawfulCommand registry bound earlier) (sym e) lawful.0)
lawful_command registry bound earlier c (d ∷ ds) lawful (inr here) = lawful_command registry bound (earlier ++ d ∷ []) c ds lawful.1 here

module _ (registry : List TypeInfo) (few_types : length registry ≤ MOST_TYPES) (s : SystemEntry) (lawful : IsLawfulSystem registry s) where
  -- ---- queries and filters

  clauses_are : clause_types s ≡ query_types s
  clauses_are =
      append_assoc ((s.all ++ s.any) ++ s.none) s.disabled s.absent
      ∙ (append_assoc (s.all ++ s.any) s.none (s.disabled ++ s.absent)
      ∙ append_assoc s.all s.any (s.none ++ (s.disabled ++ s.absent)))

  lawful_query : IsLawfulQuery registry s
  lawful_query = record {
    known = λ t here. ltb-true t (length registry)
        (passes (λ t. nat_lt t (length registry)) t (query_types s) (subst (λ ts. list_all (λ t. nat_lt t (length registry)) ts ≡ true) clauses_are lawful.known) here);
    once = are_distinct (query_types s) (subst (λ ts. are_once ts ≡ true) clauses_are lawful.once);
    disabled = λ t here. passes (is_enableable_at registry) t s.disabled lawful.disabled here;
  }

  watched : (t : ℕ) → In t s.changed → IsWatched registry s t
  watched t here =
      let both = and_parts (has_type s.all t) (not (is_shared_at registry t)) (passes (λ t. has_type s.all t && not (is_shared_at registry t)) t s.changed lawful.changed here) in
      record { bound = has_in t s.all both.0; own = not-true _ both.1 }

  shared : (p : Part) → In p s.shared → IsShared registry s p
  shared p here =
      let fit = and_parts (has_type s.all p.ty.0 && is_shared_at registry p.ty.0) (fits_fields (fields_at registry p.ty.0) p.values)
      (passes (shared_filter_fits registry s.all) p s.shared lawful.shared here) in
      let both = and_parts (has_type s.all p.ty.0) (is_shared_at registry p.ty.0) fit.0 in
      record {
        bound = has_in p.ty.0 s.all both.0;
        shared = both.1;
        fit = fit_flat (type_at registry p.ty.0) p.values (shared_is_flat (kind_at registry p.ty.0) both.1) fit.1;
      }

  lawful_filter : IsLawfulFilter registry s
  lawful_filter = record {
    few_changed = lawful.changed_few;
    changed = watched;
    few_shared = lawful.shared_few;
    once = are_distinct (map (λ (p : Part). p.ty.0) s.shared) lawful.shared_once;
    shared = shared;
  }

  -- ---- its texts

  assign_fit : (a : Assign) → In a s.set → assign_fits registry (is_bound s) a ≡ true
  assign_fit a here = passes (assign_fits registry (is_bound s)) a s.set lawful.set here

  assign_runs : (a : Assign) → In a s.set → AssignRuns registry s a
  assign_runs a here =
      let fit = and_parts (is_bound s a.ty.0 && has_column_at registry a.ty.0) _ (assign_fit a here) in
      let first = and_parts (is_bound s a.ty.0) (has_column_at registry a.ty.0) fit.0 in
      let rest = and_parts (has_field registry a.ty a.field) _ fit.1 in
      record {
        bound = first.0;
        column = first.1;
        field = rest.0;
        kind = value_of_kind registry (names_of_a_system registry (is_bound s)) none_made (field_kind_at registry a.ty.0 a.field) a.value rest.1;
      }

  switch_fit : (w : Switch) → In w s.enable → switch_fits registry (is_bound s) w ≡ true
  switch_fit w here = passes (switch_fits registry (is_bound s)) w s.enable lawful.enable here

  switch_runs : (w : Switch) → In w s.enable → SwitchRuns registry s w
  switch_runs w here =
      let fit = and_parts (is_bound s w.ty.0 && (is_known registry w.ty && is_enableable_at registry w.ty.0)) _ (switch_fit w here) in
      let first = and_parts (is_bound s w.ty.0) (is_known registry w.ty && is_enableable_at registry w.ty.0) fit.0 in
      let both = and_parts (is_known registry w.ty) (is_enableable_at registry w.ty.0) first.1 in
      record { bound = first.0; known = ltb-true _ _ both.0; enableable = both.1 }

  -- what commands earlier than this one make
  abbrev earlier : (c : CommandEntry) → In c s.command → List CommandEntry
  earlier c here = (lawful_command registry (is_bound s) [] c s.command lawful.command here).0

  command_is : (c : CommandEntry) (here : In c s.command) → IsLawfulCommand registry (is_bound s) (earlier c here) c
  command_is c here = (lawful_command registry (is_bound s) [] c s.command lawful.command here).1

  suits : SystemSuits registry s
  suits = record {
    texts = record {
      assigns = λ a here. column_is_flat (kind_at registry a.ty.0) (assign_runs a here).column;
      switches = λ w here. (switch_runs w here).enableable;
    };
    commands = λ c here. act_suits registry (names_of_a_system registry (is_bound s)) (is_made c.buffer (earlier c here)) c.act (command_is c here).act;
  }

  -- ---- what its texts read

  gives : Gives (names_of_a_system registry (is_bound s)) (IsUnwritten s) (sources_of registry s)
  gives = record {
    own_numbers = λ ty i named.
        let both = and_parts (is_bound s ty.0) (has_number registry ty i) named in
        and_from _ _ both.0 (and_parts (has_field registry ty i) _ both.1).0;
    own_refs = λ ty i named.
        let both = and_parts (is_bound s ty.0) (has_ref registry ty i) named in
        and_from _ _ both.0 (and_parts (has_field registry ty i) _ both.1).0;
    lookups = λ ty i named unwritten.
        let field = (and_parts (has_field registry ty i) _ named).0 in
        let known = and_parts (is_known registry ty) _ field in
        let flat = values_are_flat (kind_at registry ty.0) (and_parts _ (has_values (kind_at registry ty.0)) known.1).1 in
        let below = ltb-true ty.0 (length registry) known.0 in
        and_from _ _ (not_from_false _ (unwritten (omega (arith, below, few_types)))) (not_from_false _ flat);
  }

  module _ (looks : Looks (IsUnwritten s) (uses_of s)) where
    looks_of_assigns : Looks (IsUnwritten s) (uses_of_assigns s)
    looks_of_assigns = looks_left (IsUnwritten s) (uses_of_assigns s) (flat_map in_switch s.enable ++ flat_map in_command s.command) looks

    looks_later : Looks (IsUnwritten s) (flat_map in_switch s.enable ++ flat_map in_command s.command)
    looks_later = looks_right (IsUnwritten s) (uses_of_assigns s) (flat_map in_switch s.enable ++ flat_map in_command s.command) looks

    looks_of_switches : Looks (IsUnwritten s) (flat_map in_switch s.enable)
    looks_of_switches = looks_left (IsUnwritten s) (flat_map in_switch s.enable) (flat_map in_command s.command) looks_later

    looks_of_command : (c : CommandEntry) → In c s.command → Looks (IsUnwritten s) (in_command c)
    looks_of_command c here =
        looks_at (IsUnwritten s) in_command c s.command here (looks_right (IsUnwritten s) (flat_map in_switch s.enable) (flat_map in_command s.command) looks_later)

    looks_after_when : (c : CommandEntry) → In c s.command → Looks (IsUnwritten s) (in_expr c.key ++ in_act c.act)
    looks_after_when c here = looks_right (IsUnwritten s) (in_expr c.when) (in_expr c.key ++ in_act c.act) (looks_of_command c here)

    expr_reads : (e : Expr) → expr_fits (names_of_a_system registry (is_bound s)) e ≡ true → Looks (IsUnwritten s) (in_expr e) → ExprReads (sources_of registry s) e
    expr_reads = expr_reading (names_of_a_system registry (is_bound s)) (IsUnwritten s) (sources_of registry s) gives

    system_reads : SystemReads (sources_of registry s) s
    system_reads = record {
      assigns = λ a here.
          let fit = (and_parts (is_bound s a.ty.0 && has_column_at registry a.ty.0) _ (assign_fit a here)).1 in
          value_reading (names_of_a_system registry (is_bound s)) (IsUnwritten s) (sources_of registry s) gives registry none_made
          (field_kind_at registry a.ty.0 a.field) a.value (and_parts (has_field registry a.ty a.field) _ fit).1
          (looks_at (IsUnwritten s) in_assign a s.set here looks_of_assigns);
      switches = λ w here.
          expr_reads w.value (and_parts (is_bound s w.ty.0 && (is_known registry w.ty && is_enableable_at registry w.ty.0)) _ (switch_fit w here)).1
          (looks_at (IsUnwritten s) in_switch w s.enable here looks_of_switches);
      when = λ c here. expr_reads c.when (command_is c here).when (looks_left (IsUnwritten s) (in_expr c.when) (in_expr c.key ++ in_act c.act) (looks_of_command c here));
      key = λ c here. expr_reads c.key (command_is c here).key (looks_left (IsUnwritten s) (in_expr c.key) (in_act c.act) (looks_after_when c here));
      acts = λ c here.
          act_reading (names_of_a_system registry (is_bound s)) (IsUnwritten s) (sources_of registry s) gives registry (is_made c.buffer (earlier c here)) c.act
          (command_is c here).act (looks_right (IsUnwritten s) (in_expr c.key) (in_act c.act) (looks_after_when c here));
    }

  pub system_runs : lookup_fault s ≡ None → SystemRuns registry s
  system_runs clear = record {
    every = lawful.every_some;
    query = lawful_query;
    filter = lawful_filter;
    assigns = assign_runs;
    switches = switch_runs;
    few_commands = lawful.command_few;
    reads = system_reads (looks_clear s clear);
    suits = suits;
  }
