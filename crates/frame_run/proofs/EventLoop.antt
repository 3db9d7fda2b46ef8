-- The events of a frame, one after another.
use Rattle.std.proofs.Common.{Result, Ok, Err, OnOk, arith, eq-eqb, ◌≡◌, ℕ, ◌+◌, ◌<◌, nat_eq, Bool, true, false, if◌then◌else◌, List, [], ◌∷◌, ◌++◌, map, Option, Some, None, refl, sym, ap, ◌∙◌, subst, get_or, drop, length}
use Rattle.std.specs.List.{flat_map}
use Rattle.std.proofs.lemmas.List.{drop_more}
use Rattle.std.proofs.lemmas.List.Concat.{flat_map-append}
use Rattle.ent_io.specs.Text.{AppendsPrefix, Leaves, appended}
use Rattle.ent_io.proofs.Appends.{leaves_all, leaves_none, leaves_rest, prefix_left_within}
use Rattle.ent_types.specs.declared.type_info.TypeInfo.{TypeInfo}
use Rattle.world_model.specs.Operations.{Operation, Answer}
use Rattle.world_model.specs.World.{World}
use Rattle.world_laws.proofs.Built.{operate_registry}
use Rattle.scenario_record.specs.declared.record.EventEntry.{EventEntry}
use Rattle.run_model.specs.declared.lines.NoteLine.{NoteLine}
use Rattle.run_model.specs.declared.lines.NoteLine.TheVariants.{EventSkip}
use Rattle.run_model.specs.Frames.{Line, Noted}
use Rattle.run_model.specs.Playback.{done_by}
use Rattle.run_model.specs.Tasks.{FrameEvent, Operates, Loads, Unloads, frame_event_of}
use Rattle.playback.specs.declared.player.Note.{Note}
use Rattle.command_texts.specs.Events.{event_skips}
use Rattle.world_text.specs.Lines.{line_text, lines_text, note_text}
use Rattle.frame_run.specs.Stages.{after_event, after_events, events_at, lines_of_event, lines_of_events, no_files}

-- the first of some events is of this frame, or of another one
pub event_due : (registry : List TypeInfo) (frame k : ℕ) (e : EventEntry) (es : List EventEntry) → e.frame ≡ frame
    → events_at registry frame k (e ∷ es) ≡ frame_event_of no_files registry frame k e.act ∷ events_at registry frame (k + 1) es
event_due registry frame k e es due = ap (λ (b : Bool). (if b then frame_event_of no_files registry frame k e.act ∷ [] else []) ++ events_at registry frame (k + 1) es) (eq-eqb e.frame frame due)

pub event_not_due : (registry : List TypeInfo) (frame k : ℕ) (e : EventEntry) (es : List EventEntry) → (e.frame ≡ frame → ⊥)
    → events_at registry frame k (e ∷ es) ≡ events_at registry frame (k + 1) es
event_not_due registry frame k e es other = ap (λ (b : Bool). (if b then frame_event_of no_files registry frame k e.act ∷ [] else []) ++ events_at registry frame (k + 1) es) (let off : nat_eq e.frame frame ≡ false = grind (arith, other) in off)

-- two facts of a call that succeeded, and what follows of both
pub both_ok : {T E : Type 0} (r : Result T E) (A B C : Type 0) → OnOk r A → OnOk r B → (A → B → C) → OnOk r C
both_ok (Ok value) A B C a b f = f a b
both_ok (Err error) A B C a b f = tt

-- ---- events keep the types

module _ (capacity : List ℕ → ℕ) where
  pub done_types : (w : World) (o : Option Operation) → (done_by capacity w o).world.registry ≡ w.registry
  done_types w None = refl
  done_types w (Some operation) = operate_registry capacity w operation

  pub event_types : (frame : ℕ) (w : World) (e : FrameEvent) → (after_event capacity frame w e).registry ≡ w.registry
  event_types frame w (Operates k operation) = done_types w operation
  event_types frame w (Loads file name delay) = refl
  event_types frame w (Unloads name) = refl

  pub events_types : (frame : ℕ) (es : List FrameEvent) (w : World) → (after_events capacity frame es w).registry ≡ w.registry
  events_types frame [] w = refl
  events_types frame (e ∷ es) w = events_types frame es (after_event capacity frame w e) ∙ event_types frame w e

-- ---- texts

-- the bytes of note lines
pub notes_text : (notes : List NoteLine) → lines_text (map Noted notes) ≡ flat_map note_text notes
notes_text [] = refl
notes_text (n ∷ ns) = ap (λ (text : List ℕ). note_text n ++ text) (notes_text ns)

-- The events so far lead from the first world to the present one; those that are left lead on, and their lines are left to write.
pub record AreUnderway (capacity : List ℕ → ℕ) (frame : ℕ) (whole left : List FrameEvent) (first now : World) (old new : Option (List ℕ)) : Type 0 where
  pub world : after_events capacity frame left now ≡ after_events capacity frame whole first
  pub text : Leaves (lines_text (lines_of_events capacity frame whole first)) (lines_text (lines_of_events capacity frame left now)) old new

module _ (capacity : List ℕ → ℕ) (frame : ℕ) where
  abbrev text_at : List FrameEvent → World → List ℕ
  text_at es w = lines_text (lines_of_events capacity frame es w)

  abbrev pub event_text : World → FrameEvent → List ℕ
  event_text w e = lines_text (lines_of_event capacity frame w e)

  pub all_left : (whole : List FrameEvent) (w : World) (text : Option (List ℕ)) → AreUnderway capacity frame whole whole w w text text
  all_left whole w text = record { world = refl; text = leaves_all (text_at whole w) text }

  module _ (whole left : List FrameEvent) (e : FrameEvent) (rest : List FrameEvent) (is : left ≡ e ∷ rest) (first now : World) (old mid new : Option (List ℕ))
      (h : AreUnderway capacity frame whole left first now old mid) where
    text_left : text_at left now ≡ event_text now e ++ text_at rest (after_event capacity frame now e)
    text_left =
        ap (λ (es : List FrameEvent). text_at es now) is
        ∙ flat_map-append line_text (lines_of_event capacity frame now e) (lines_of_events capacity frame rest (after_event capacity frame now e))

    pub one_done : (next : World) → next ≡ after_event capacity frame now e → new ≡ appended mid (event_text now e) → AreUnderway capacity frame whole rest first next old new
    one_done next to text = record {
      world = ap (after_events capacity frame rest) to ∙ (sym (ap (λ (es : List FrameEvent). after_events capacity frame es now) is) ∙ h.world);
      text = leaves_rest (text_at whole first) (text_at left now) (event_text now e) (text_at rest next) old mid new h.text
          (text_left ∙ ap (λ (w : World). event_text now e ++ text_at rest w) (sym to)) text;
    }

    pub one_stopped : AppendsPrefix (event_text now e) mid new → AppendsPrefix (text_at whole first) old new
    one_stopped prefix = prefix_left_within (text_at whole first) (text_at left now) (event_text now e) (text_at rest (after_event capacity frame now e)) old mid new h.text text_left prefix

  pub one_skipped : (whole left rest : List FrameEvent) → left ≡ rest → (first now : World) (old new : Option (List ℕ)) → AreUnderway capacity frame whole left first now old new → AreUnderway capacity frame whole rest first now old new
  one_skipped whole left rest is first now old new h = subst (λ es. AreUnderway capacity frame whole es first now old new) is h

  pub none_left : (whole left : List FrameEvent) → left ≡ [] → (first now : World) (old new : Option (List ℕ)) → AreUnderway capacity frame whole left first now old new
      → (now ≡ after_events capacity frame whole first) × (new ≡ appended old (text_at whole first))
  none_left whole left none first now old new h = (
    sym (ap (λ (es : List FrameEvent). after_events capacity frame es now) none) ∙ h.world,
    leaves_none (text_at whole first) (text_at left now) old new h.text (ap (λ (es : List FrameEvent). text_at es now) none),
  )

-- ---- the notes of an event

module _ (frame k : ℕ) where
  abbrev pub skips_text : List Note → List ℕ
  skips_text notes = flat_map note_text (event_skips frame k notes)

  pub next_skip : (notes : List Note) (i : ℕ) (n : Note) → i < length notes → n ≡ get_or notes i n
      → skips_text (drop i notes) ≡ note_text (EventSkip frame k n.skip) ++ skips_text (drop (i + 1) notes)
  next_skip notes i n below is = ap skips_text (drop_more notes i n below ∙ ap (λ (x : Note). x ∷ drop (i + 1) notes) (sym is))
