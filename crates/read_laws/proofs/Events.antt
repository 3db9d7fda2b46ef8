-- Each event that is read is lawful.
use Rattle.std.proofs.Common.{ℕ, ◌≡◌, ◌≤◌, List, [], ◌∷◌, true, not, ◌&&◌, Option, None, Some, Ok, length, subst, arith}
use Rattle.std.specs.Prelude.{codes, nat_le}
use Rattle.std.proofs.lemmas.Bool.{and_parts, not-false, leb-true}
use Rattle.std.specs.Option.{unwrap_or}
use Rattle.toml.specs.Data.{Data, Members}
use Rattle.ent_types.specs.declared.limits.TheConstants.{MOST_FRAMES, LONGEST_FILE_NAME}
use Rattle.ent_types.specs.declared.type_info.TypeInfo.{TypeInfo}
use Rattle.ent_types.specs.Names.{is_name}
use Rattle.ent_types.specs.Registries.{IsLawfulRegistry}
use Rattle.expr_trees.specs.declared.tree.CommandText.{CommandText}
use Rattle.expr_grammar.specs.Answers.{command_answer}
use Rattle.expr_grammar.specs.Scopes.{Scope}
use Rattle.expr_read.specs.declared.scope.TextPlace.TheVariants.{Event}
use Rattle.expr_read.specs.ScopeOf.{scope_of}
use Rattle.scenario_record.specs.declared.fault.Cause.TheVariants.{BadName}
use Rattle.scenario_record.specs.declared.record.EventEntry.{EventEntry}
use Rattle.scenario_record.specs.declared.record.EventAct.{EventAct}
use Rattle.scenario_record.specs.declared.record.EventAct.TheVariants.{Operate, Load, Unload}
use Rattle.scenario_record.specs.Readings.{Reading, changed}
use Rattle.scenario_record.specs.TextNames.{none_made, names_of_an_event}
use Rattle.scenario_record.specs.Lawful.{IsLawfulOperation, IsLawfulAct, IsLawfulEvent}
use Rattle.scenario_tables.specs.ReadKeys.{known_table, required, perhaps, number, text, name}
use Rattle.scenario_tables.specs.ReadTexts.{event_command}
use Rattle.scenario_tables.specs.ReadEvents.{file_name, scene_keys, load_act, lone_act, act_by, act_of, event}
use Rattle.scenario_tables.specs.Parts.{SceneKeys}
use Rattle.read_laws.proofs.Inversions.{then_ok, changed_ok, ok_same, fault_ok, number_ok, required_found, optional_ok}
use Rattle.read_laws.proofs.TypeLists.{name_ok}
use Rattle.read_laws.proofs.TextsRead.{text_reading_ok, command_read}
use Rattle.read_laws.proofs.ScopesServe.{event_serves, event_reference}

-- ---- keys that may be left out

abbrev IfThere : {A : Type 0} → (A → Type 0) → Option A → Type 0
IfThere P None = Unit {0}
IfThere P (Some x) = P x

perhaps_ok : {A : Type 0} (P : A → Type 0) (key : List ℕ) (read : Data → Reading A) (ms : Members) (o : Option A)
    → ((d : Data) (x : A) → read d ≡ Ok x → P x) → perhaps key read ms ≡ Ok o → IfThere P o
perhaps_ok P key read ms o each is =
    optional_ok (IfThere P) key None (λ d. changed (λ x. Some x) (read d)) ms o tt
    (λ d got. let x = changed_ok (λ x. Some x) (read d) o got in subst (IfThere P) x.2 (each d x.0 x.1)) is

record IsFileName (s : List ℕ) : Type 0 where
  pub some : 1 ≤ length s
  pub few : length s ≤ LONGEST_FILE_NAME

file_ok : (d : Data) (s : List ℕ) → file_name d ≡ Ok s → IsFileName s
file_ok d s is =
    let t = then_ok _ (text d) s is in
    let within = fault_ok (not (nat_le 1 (length t.0) && nat_le (length t.0) LONGEST_FILE_NAME)) BadName (Ok t.0) s t.2 in
    let (above, below) = and_parts _ _ (not-false _ within.0) in
    subst IsFileName (ok_same t.0 s within.1) (record { some = leb-true _ _ above; few = leb-true _ _ below })

abbrev IsName : List ℕ → Type 0
IsName n = is_name n ≡ true

abbrev IsDelay : ℕ → Type 0
IsDelay n = n ≤ MOST_FRAMES

record AreLawfulKeys (keys : SceneKeys) : Type 0 where
  pub load : IfThere IsFileName keys.load
  pub label : IfThere IsName keys.label
  pub delay : IfThere IsDelay keys.delay
  pub unload : IfThere IsName keys.unload

keys_ok : (ms : Members) (keys : SceneKeys) → scene_keys ms ≡ Ok keys → AreLawfulKeys keys
keys_ok ms keys is =
    let load = then_ok _ (perhaps (codes "load") file_name ms) keys is in
    let label = then_ok _ (perhaps (codes "as") name ms) keys load.2 in
    let delay = then_ok _ (perhaps (codes "delay") (number 0 MOST_FRAMES) ms) keys label.2 in
    let unload = then_ok _ (perhaps (codes "unload") name ms) keys delay.2 in
    subst AreLawfulKeys (ok_same _ keys unload.2) (record {
      load = perhaps_ok IsFileName (codes "load") file_name ms load.0 file_ok load.1;
      label = perhaps_ok IsName (codes "as") name ms label.0 name_ok label.1;
      delay = perhaps_ok IsDelay (codes "delay") (number 0 MOST_FRAMES) ms delay.0 (λ d x got. (number_ok 0 MOST_FRAMES d x got).1) delay.1;
      unload = perhaps_ok IsName (codes "unload") name ms unload.0 name_ok unload.1;
    })

-- ---- the act

module _ (registry : List TypeInfo) (lawful : IsLawfulRegistry registry) where
  abbrev s : Scope
  s = scope_of registry Event [] []

  operation_ok : (d : Data) (c : CommandText) → event_command registry d ≡ Ok c → IsLawfulOperation registry c
  operation_ok d c is =
      let t = then_ok _ (text d) c is in
      let read = command_read registry lawful Event [] [] names_of_an_event none_made (event_serves registry lawful) (event_reference registry lawful)
      (omega arith) [] (λ n new. new) t.0 c (text_reading_ok (command_answer s t.0) c t.2) in
      record { fits = read.0; new = read.1 }

  lone_ok : (label : Option (List ℕ)) (delay : Option ℕ) (act done : EventAct) → IsLawfulAct registry act → lone_act label delay act ≡ Ok done → IsLawfulAct registry done
  lone_ok None None act done h is = subst (IsLawfulAct registry) (ok_same act done is) h
  lone_ok (Some n) delay act done h is = absurd cc
  lone_ok None (Some n) act done h is = absurd cc

  delay_ok : (delay : Option ℕ) → IfThere IsDelay delay → unwrap_or delay 1 ≤ MOST_FRAMES
  delay_ok None h = omega arith
  delay_ok (Some n) h = h

  load_ok : (file : List ℕ) (label : Option (List ℕ)) (delay : Option ℕ) (done : EventAct) → IsFileName file → IfThere IsName label → IfThere IsDelay delay
      → load_act file label delay ≡ Ok done → IsLawfulAct registry done
  load_ok file None delay done f n d is = absurd cc
  load_ok file (Some label) delay done f n d is =
      subst (IsLawfulAct registry) (ok_same (Load file label (unwrap_or delay 1)) done is)
      (record { some = f.some; few = f.few; label = n; delay = delay_ok delay d })

  act_ok : (operation : Option CommandText) (load unload label : Option (List ℕ)) (delay : Option ℕ) (done : EventAct)
      → IfThere (IsLawfulOperation registry) operation → IfThere IsFileName load → IfThere IsName unload → IfThere IsName label → IfThere IsDelay delay
      → act_by operation load unload label delay ≡ Ok done → IsLawfulAct registry done
  act_ok (Some operation) None None label delay done o f u n d is = lone_ok label delay (Operate operation) done o is
  act_ok None (Some file) None label delay done o f u n d is = load_ok file label delay done f n d is
  act_ok None None (Some load) label delay done o f u n d is = lone_ok label delay (Unload load) done u is
  act_ok operation load unload label delay done o f u n d is = absurd cc

  pub event_ok : (d : Data) (e : EventEntry) → event registry d ≡ Ok e → IsLawfulEvent registry e
  unfolding event
  event_ok d e is =
      let ms = then_ok _ (known_table (codes "frame" ∷ codes "do" ∷ codes "load" ∷ codes "as" ∷ codes "delay" ∷ codes "unload" ∷ []) d) e is in
      let frame = then_ok _ (required (codes "frame") (number 1 MOST_FRAMES) ms.0) e ms.2 in
      let operation = then_ok _ (perhaps (codes "do") (event_command registry) ms.0) e frame.2 in
      let keys = then_ok _ (scene_keys ms.0) e operation.2 in
      let act = then_ok _ (act_of operation.0 keys.0) e keys.2 in
      let found = required_found (codes "frame") (number 1 MOST_FRAMES) ms.0 frame.0 frame.1 in
      let frames = number_ok 1 MOST_FRAMES found.0 frame.0 found.1 in
      let known = keys_ok ms.0 keys.0 keys.1 in
      subst (IsLawfulEvent registry) (ok_same _ e act.2) (record {
        some = frames.0;
        few = frames.1;
        act = act_ok operation.0 keys.0.load keys.0.unload keys.0.label keys.0.delay act.0
            (perhaps_ok (IsLawfulOperation registry) (codes "do") (event_command registry) ms.0 operation.0 operation_ok operation.1)
            known.load known.unload known.label known.delay act.1;
      })
