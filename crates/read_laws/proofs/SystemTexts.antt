-- What a system does with each row, as it is read: each text names only what its place has.
use Rattle.std.proofs.Common.{ℕ, ◌≡◌, ◌≤◌, ◌<◌, ◌+◌, ◌^◌, List, [], ◌∷◌, ◌++◌, Bool, true, Ok, length, length-append, append_assoc, refl, sym, ◌∙◌, subst, arith}
use Rattle.std.specs.Prelude.{codes, pos}
use Rattle.std.specs.List.{list_all}
use Rattle.std.proofs.lemmas.List.{append-nil}
use Rattle.toml.specs.Data.{Data, Members}
use Rattle.ent_types.specs.declared.limits.TheConstants.{MOST_ASSIGNS, MOST_SWITCHES, MOST_COMMANDS}
use Rattle.ent_types.specs.declared.point.Point.{Point}
use Rattle.ent_types.specs.declared.point.Point.TheVariants.{EndSimulation}
use Rattle.ent_types.specs.declared.type_info.TypeInfo.{TypeInfo}
use Rattle.ent_types.specs.Registries.{IsLawfulRegistry}
use Rattle.ent_types.specs.TypeSets.{has_type}
use Rattle.expr_trees.specs.declared.tree.Expr.{Expr}
use Rattle.expr_trees.specs.declared.tree.Expr.TheVariants.{Number, Variable}
use Rattle.expr_trees.specs.declared.tree.Variable.TheVariants.{Chunk}
use Rattle.expr_trees.specs.declared.tree.Assign.{Assign}
use Rattle.expr_trees.specs.declared.tree.Switch.{Switch}
use Rattle.expr_trees.specs.declared.tree.CommandText.{CommandText}
use Rattle.expr_grammar.specs.Answers.{expr_answer, assign_answer, switch_answer, command_answer}
use Rattle.expr_grammar.specs.Scopes.{Scope}
use Rattle.expr_read.specs.declared.scope.TextPlace.TheVariants.{System}
use Rattle.expr_read.specs.declared.scope.Made.{Made}
use Rattle.expr_read.specs.ScopeOf.{scope_of}
use Rattle.expr_read.proofs.ScopeLaws.{scope_is_lawful}
use Rattle.scenario_record.specs.declared.record.CommandEntry.{CommandEntry}
use Rattle.scenario_record.specs.TextNames.{Names, expr_fits, assign_fits, switch_fits, command_fits, names_of_a_system}
use Rattle.scenario_record.specs.Lawful.{is_made, name_made, is_new_name, IsLawfulCommand, AreLawfulCommands}
use Rattle.scenario_tables.specs.ReadKeys.{known_table, required, optional, text, list_up_to, each_over, each_up_to}
use Rattle.scenario_tables.specs.ReadTexts.{system_expr, system_assign, system_switch, system_command}
use Rattle.scenario_tables.specs.ReadCommands.{point, made_from, command, one_more_command, command_list}
use Rattle.scenario_tables.specs.ReadSystems.{acts}
use Rattle.scenario_tables.specs.Parts.{Acts}
use Rattle.read_laws.proofs.Inversions.{then_ok, ok_same, required_found, optional_ok, optional_each_ok, optional_up_to_ok, list_up_to_ok, each_over_ok}
use Rattle.read_laws.proofs.Lists.{all_from_each}
use Rattle.read_laws.proofs.MadeNames.{named_is_made, few_made, new_is_new}
use Rattle.read_laws.proofs.TextsFit.{number_fits, variable_fits}
use Rattle.read_laws.proofs.TextsRead.{text_reading_ok, expr_read, assign_read, switch_read, command_read}
use Rattle.read_laws.proofs.ScopesServe.{system_serves, own_reference_ok}

module _ (registry : List TypeInfo) (lawful : IsLawfulRegistry registry) (bound : List ℕ) (is_bound : ℕ → Bool)
    (binds : (t : ℕ) → has_type bound t ≡ true → is_bound t ≡ true) where
  abbrev names : Names
  names = names_of_a_system registry is_bound

  abbrev s : Scope
  s = scope_of registry System bound []

  expr_ok : (d : Data) (e : Expr) → system_expr registry bound d ≡ Ok e → expr_fits names e ≡ true
  expr_ok d e is =
      let t = then_ok _ (text d) e is in
      expr_read s (scope_is_lawful registry lawful System bound []) names (system_serves registry lawful bound is_bound binds []) t.0 e
      (text_reading_ok (expr_answer s t.0) e t.2)

  assign_ok : (d : Data) (a : Assign) → system_assign registry bound d ≡ Ok a → assign_fits registry is_bound a ≡ true
  assign_ok d a is =
      let t = then_ok _ (text d) a is in
      assign_read registry lawful bound is_bound binds t.0 a (text_reading_ok (assign_answer s t.0) a t.2)

  switch_ok : (d : Data) (w : Switch) → system_switch registry bound d ≡ Ok w → switch_fits registry is_bound w ≡ true
  switch_ok d w is =
      let t = then_ok _ (text d) w is in
      switch_read registry lawful bound is_bound binds t.0 w (text_reading_ok (switch_answer s t.0) w t.2)

  -- ---- commands

  act_ok : (buffer : Point) (earlier : List CommandEntry) → length earlier < MOST_COMMANDS → (d : Data) (c : CommandText)
      → system_command registry bound (made_from 0 buffer earlier) d ≡ Ok c
      → (command_fits registry names (is_made buffer earlier) c ≡ true) × (is_new_name earlier (name_made c) ≡ true)
  act_ok buffer earlier few d c is =
      let made : List Made = made_from 0 buffer earlier in
      let t = then_ok _ (text d) c is in
      let few_names : length made < 2 ^ 64 = omega (arith, few_made buffer 0 earlier) in
      command_read registry lawful System bound made names (is_made buffer earlier) (system_serves registry lawful bound is_bound binds made)
      (λ n r known. own_reference_ok registry lawful bound is_bound binds made (is_made buffer earlier) true n r (λ m may found. named_is_made buffer names earlier n m found) known)
      few_names earlier (λ n new. new_is_new buffer n earlier new) t.0 c (text_reading_ok (command_answer (scope_of registry System bound made) t.0) c t.2)

  command_ok : (earlier : List CommandEntry) → length earlier < MOST_COMMANDS → (d : Data) (c : CommandEntry) → command registry bound earlier d ≡ Ok c
      → IsLawfulCommand registry is_bound earlier c
  unfolding command
  command_ok earlier few d c is =
      let ms = then_ok _ (known_table (codes "buffer" ∷ codes "when" ∷ codes "key" ∷ codes "do" ∷ []) d) c is in
      let buffer = then_ok _ (optional (codes "buffer") EndSimulation point ms.0) c ms.2 in
      let when = then_ok _ (optional (codes "when") (Number (pos 1)) (system_expr registry bound) ms.0) c buffer.2 in
      let key = then_ok _ (optional (codes "key") (Variable Chunk) (system_expr registry bound) ms.0) c when.2 in
      let act = then_ok _ (required (codes "do") (system_command registry bound (made_from 0 buffer.0 earlier)) ms.0) c key.2 in
      let found = required_found (codes "do") (system_command registry bound (made_from 0 buffer.0 earlier)) ms.0 act.0 act.1 in
      let lawful_act = act_ok buffer.0 earlier few found.0 act.0 found.1 in
      let Fits : Expr → Type 0 = λ e. expr_fits names e ≡ true in
      subst (IsLawfulCommand registry is_bound earlier) (ok_same _ c act.2) (record {
        when = optional_ok Fits (codes "when") (Number (pos 1)) (system_expr registry bound) ms.0 when.0
            (number_fits names (pos 1)) (λ e got. expr_ok e when.0 got) when.1;
        key = optional_ok Fits (codes "key") (Variable Chunk) (system_expr registry bound) ms.0 key.0
            (variable_fits names Chunk refl) (λ e got. expr_ok e key.0 got) key.1;
        act = lawful_act.0;
        new = lawful_act.1;
      })

  joined : (front cs : List CommandEntry) (c : CommandEntry) → AreLawfulCommands registry is_bound front cs → IsLawfulCommand registry is_bound (front ++ cs) c
      → AreLawfulCommands registry is_bound front (cs ++ c ∷ [])
  joined front [] c h last = (subst (λ earlier. IsLawfulCommand registry is_bound earlier c) (append-nil front) last, tt)
  joined front (x ∷ xs) c h last =
      (h.0, joined (front ++ x ∷ []) xs c h.1 (subst (λ earlier. IsLawfulCommand registry is_bound earlier c) (sym (append_assoc front (x ∷ []) xs)) last))

  -- so many commands, each lawful after those before it
  record AreLawfulUpTo (count : ℕ) (cs : List CommandEntry) : Type 0 where
    pub each : AreLawfulCommands registry is_bound [] cs
    pub counted : length cs ≡ count

  one_more : (i : ℕ) (cs ds : List CommandEntry) (d : Data) → i < MOST_COMMANDS → AreLawfulUpTo i cs → one_more_command registry bound cs d ≡ Ok ds
      → AreLawfulUpTo (i + 1) ds
  one_more i cs ds d below first is =
      let c = then_ok (λ c. Ok (cs ++ c ∷ [])) (command registry bound cs d) ds is in
      subst (AreLawfulUpTo (i + 1)) (ok_same (cs ++ c.0 ∷ []) ds c.2) (record {
        each = joined [] cs c.0 first.each (command_ok cs (omega (arith, first.counted, below)) d c.0 c.1);
        counted = length-append cs (c.0 ∷ []) ∙ omega (arith, first.counted);
      })

  pub record AreFewCommands (cs : List CommandEntry) : Type 0 where
    pub few : length cs ≤ MOST_COMMANDS
    pub each : AreLawfulCommands registry is_bound [] cs

  commands_ok : (d : Data) (cs : List CommandEntry) → command_list registry bound d ≡ Ok cs → AreFewCommands cs
  commands_ok d cs is =
      let all = then_ok (each_over (one_more_command registry bound) [] 0) (list_up_to MOST_COMMANDS d) cs is in
      let few = list_up_to_ok MOST_COMMANDS d all.0 all.1 in
      let whole = each_over_ok AreLawfulUpTo (one_more_command registry bound) MOST_COMMANDS one_more 0 [] cs all.0 (omega (arith, few))
      (record { each = tt; counted = refl }) all.2 in
      record { few = omega (arith, whole.counted, few); each = whole.each }

  -- ---- all of them

  pub record AreLawfulActs (a : Acts) : Type 0 where
    pub set_few : length a.set ≤ MOST_ASSIGNS
    pub set : list_all (assign_fits registry is_bound) a.set ≡ true
    pub enable_few : length a.enable ≤ MOST_SWITCHES
    pub enable : list_all (switch_fits registry is_bound) a.enable ≡ true
    pub command : AreFewCommands a.command

  pub acts_ok : (ms : Members) (a : Acts) → acts registry bound ms ≡ Ok a → AreLawfulActs a
  acts_ok ms a is =
      let set = then_ok _ (optional (codes "set") [] (each_up_to MOST_ASSIGNS (system_assign registry bound)) ms) a is in
      let enable = then_ok _ (optional (codes "enable") [] (each_up_to MOST_SWITCHES (system_switch registry bound)) ms) a set.2 in
      let command = then_ok _ (optional (codes "command") [] (command_list registry bound) ms) a enable.2 in
      subst AreLawfulActs (ok_same _ a command.2) (record {
        set_few = optional_up_to_ok (codes "set") MOST_ASSIGNS (system_assign registry bound) ms set.0 set.1;
        set = all_from_each (assign_fits registry is_bound) set.0
            (optional_each_ok (λ x. assign_fits registry is_bound x ≡ true) (codes "set") MOST_ASSIGNS (system_assign registry bound) ms set.0 assign_ok set.1);
        enable_few = optional_up_to_ok (codes "enable") MOST_SWITCHES (system_switch registry bound) ms enable.0 enable.1;
        enable = all_from_each (switch_fits registry is_bound) enable.0
            (optional_each_ok (λ x. switch_fits registry is_bound x ≡ true) (codes "enable") MOST_SWITCHES (system_switch registry bound) ms enable.0 switch_ok enable.1);
        command = optional_ok AreFewCommands (codes "command") [] (command_list registry bound) ms command.0 (record { few = omega arith; each = tt })
            (λ d got. commands_ok d command.0 got) command.1;
      })
