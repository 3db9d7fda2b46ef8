-- An entry that is played alone does the operation that its change asks for where nothing was made.
use Rattle.std.proofs.Common.{◌≡◌, ℕ, Bool, List, [], ◌∷◌, map, Option, Some, None, refl, ap, ap₂, ◌∙◌}
use Rattle.ent_types.specs.declared.entity.Entity.{Entity}
use Rattle.ent_types.specs.declared.value.Value.{Value}
use Rattle.world_model.specs.Part.{PartOf, part_map}
use Rattle.world_model.specs.World.{World, capacity}
use Rattle.world_model.specs.Operations.{Act, act_map, On, Reply, Made, Done, Skipped, Answer}
use Rattle.world_model.specs.Operations as world
use Rattle.expr_trees.specs.declared.tree.CommandText.{CommandText}
use Rattle.scenario_record.specs.declared.record.EventAct.TheVariants.{Operate}
use Rattle.run_model.specs.Clock.{Clock}
use Rattle.run_model.specs.Commands.{GivenValue, ActsOn}
use Rattle.run_model.specs.Frames.{State, Noted, with_lines, with_world, event_done, event_lines}
use Rattle.run_model.specs.Loads.{SceneFile}
use Rattle.run_model.specs.Playback.{value_given, operation_of, done_by}
use Rattle.run_model.specs.Tasks.{nothing_made, frame_event_of}
use Rattle.run_model.specs.declared.lines.NoteLine.{NoteLine}
use Rattle.command_record.specs.declared.command.Target.{Target}
use Rattle.command_record.specs.declared.command.Target.TheVariants.{Live, Placeholder}
use Rattle.command_record.specs.declared.command.CmdValue.{CmdValue}
use Rattle.command_record.specs.declared.command.CmdValue.TheVariants.{Int, Ref}
use Rattle.command_record.specs.declared.command.CmdPart.{CmdPart}
use Rattle.command_record.specs.declared.command.Command.{Command}
use Rattle.command_record.specs.declared.command.Command.TheVariants.{Create, Destroy, Add, Remove, Set, SetShared, SetEnabled, Instantiate, Append, Clear}
use Rattle.command_record.specs.declared.chain.Entry.{Entry}
use Rattle.command_record.specs.Entries.{target_of, value_of, part_of, change_of}
use Rattle.playback.specs.Asked.{value_for, part_for, on_target, operation_for}
use Rattle.playback.specs.Played.{note_of, played}
use Rattle.command_texts.specs.Events.{event_change, event_operation, event_skips, with_event_played}

-- ---- where nothing was made

abbrev nothing : ℕ → ℕ → Option Entity
nothing row number = None

values_alone : (vs : List CmdValue) → map (value_for nothing) vs ≡ map (value_given nothing_made) (map value_of vs)
values_alone [] = refl
values_alone (Int z ∷ vs) = ap (λ us. value_for nothing (Int z) ∷ us) (values_alone vs)
values_alone (Ref (Live e) ∷ vs) = ap (λ us. value_for nothing (Ref (Live e)) ∷ us) (values_alone vs)
values_alone (Ref (Placeholder row number) ∷ vs) = ap (λ us. value_for nothing (Ref (Placeholder row number)) ∷ us) (values_alone vs)

part_alone : (p : CmdPart) → part_for nothing p ≡ part_map (value_given nothing_made) (part_of p)
part_alone p = ap (λ (vs : List Value). let q : PartOf Value = record { type_id = p.ty.0; values = vs } in q) (values_alone p.values)

parts_alone : (ps : List CmdPart) → map (part_for nothing) ps ≡ map (part_map (value_given nothing_made)) (map part_of ps)
parts_alone [] = refl
parts_alone (p ∷ ps) = ap₂ (λ (q : PartOf Value) qs. q ∷ qs) (part_alone p) (parts_alone ps)

act_alone : (t : Target) (a : Act Value) (b : Act GivenValue) → a ≡ act_map (value_given nothing_made) b
    → on_target nothing t a ≡ operation_of nothing_made (ActsOn (target_of t) b)
act_alone (Live e) a b same = ap (λ c. Some (On e c)) same
act_alone (Placeholder row number) a b same = refl

asked_alone : (c : Command) → operation_for nothing c ≡ operation_of nothing_made (change_of c)
asked_alone (Create ps) = ap (λ qs. Some (world.Create qs)) (parts_alone ps)
asked_alone (Destroy t) = act_alone t world.Destroy world.Destroy refl
asked_alone (Add t p) = act_alone t (world.Add (part_for nothing p)) (world.Add (part_of p)) (ap world.Add (part_alone p))
asked_alone (Remove t ty) = act_alone t (world.Remove ty.0) (world.Remove ty.0) refl
asked_alone (Set t p) = act_alone t (world.Set (part_for nothing p)) (world.Set (part_of p)) (ap world.Set (part_alone p))
asked_alone (SetShared t p) = act_alone t (world.SetShared (part_for nothing p)) (world.SetShared (part_of p)) (ap world.SetShared (part_alone p))
asked_alone (SetEnabled t ty on) = act_alone t (world.SetEnabled ty.0 on) (world.SetEnabled ty.0 on) refl
asked_alone (Instantiate t) = act_alone t world.Instantiate world.Instantiate refl
asked_alone (Append t p) = act_alone t (world.Append (part_for nothing p)) (world.Append (part_of p)) (ap world.Append (part_alone p))
asked_alone (Clear t ty) = act_alone t (world.Clear ty.0) (world.Clear ty.0) refl

-- ---- the playback of one entry

skips_are : (frame k : ℕ) (x : Entry) (r : Reply) → event_skips frame k (note_of x r) ≡ event_lines frame k r
skips_are frame k x (Made e) = refl
skips_are frame k x Done = refl
skips_are frame k x (Skipped cause) = refl

module _ (w : World) (frame : ℕ) (act : CommandText) (x : Entry) (is : change_of x.command ≡ event_change w.registry frame act) where
  answer_is : done_by (capacity w.registry) w (operation_for nothing x.command) ≡ done_by (capacity w.registry) w (event_operation w.registry frame act)
  answer_is = ap (done_by (capacity w.registry) w) (asked_alone x.command ∙ ap (operation_of nothing_made) is)

  pub world_is : (played w (x ∷ [])).world ≡ (done_by (capacity w.registry) w (event_operation w.registry frame act)).world
  unfolding played
  world_is = ap (λ (a : Answer). a.world) answer_is

  pub lines_are : (k : ℕ) → event_skips frame k (played w (x ∷ [])).notes ≡ event_lines frame k (done_by (capacity w.registry) w (event_operation w.registry frame act)).reply
  unfolding played
  lines_are k = ap (λ (a : Answer). event_skips frame k (note_of x a.reply)) answer_is ∙ skips_are frame k x _

pub state_is : (clock : Clock) (trace : Bool) (files : List ℕ → SceneFile) (frame k : ℕ) (st : State) (act : CommandText) (x : Entry)
    → change_of x.command ≡ event_change st.world.registry frame act
    → with_event_played frame k st (played st.world (x ∷ []))
    ≡ event_done clock (capacity st.world.registry) trace frame st (frame_event_of files st.world.registry frame k (Operate act))
state_is clock trace files frame k st act x is =
    ap₂ (λ (w : World) (lines : List NoteLine). with_lines (with_world st w) (map Noted lines))
    (world_is st.world frame act x is) (lines_are st.world frame act x is k)
