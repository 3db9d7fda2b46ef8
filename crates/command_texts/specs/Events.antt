-- The operation of an event, as the run has it: its text sees no row, and nothing was made before it.
use Rattle.std.specs.Prelude.{ℕ, List, map, Option}
use Rattle.ent_types.specs.declared.type_info.TypeInfo.{TypeInfo}
use Rattle.world_model.specs.Operations.{Operation}
use Rattle.expr_trees.specs.declared.tree.CommandText.{CommandText}
use Rattle.run_model.specs.declared.lines.NoteLine.{NoteLine}
use Rattle.run_model.specs.declared.lines.NoteLine.TheVariants.{EventSkip}
use Rattle.run_model.specs.Commands.{Change, change_of}
use Rattle.run_model.specs.Frames.{Noted, State, with_lines, with_world}
use Rattle.run_model.specs.Job.{no_row}
use Rattle.run_model.specs.Playback.{operation_of}
use Rattle.run_model.specs.Tasks.{no_others, nothing_made}
use Rattle.playback.specs.declared.player.Note.{Note}
use Rattle.playback.specs.Played.{Playing}

abbrev pub event_change : List TypeInfo → ℕ → CommandText → Change
event_change registry frame act = change_of registry (no_row 0 frame) no_others act

abbrev pub event_operation : List TypeInfo → ℕ → CommandText → Option Operation
event_operation registry frame act = operation_of nothing_made (event_change registry frame act)

-- the lines of an event, of which this is the place in the list, by the notes of its playback
abbrev pub event_skips : ℕ → ℕ → List Note → List NoteLine
event_skips frame k notes = map (λ n. EventSkip frame k n.skip) notes

-- the state after an event whose entry was played alone
abbrev pub with_event_played : ℕ → ℕ → State → Playing → State
with_event_played frame k st p = with_lines (with_world st p.world) (map Noted (event_skips frame k p.notes))
