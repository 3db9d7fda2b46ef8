-- Entries as the definitions of a run have them: a placeholder there is one of the entry's own row.
use Rattle.std.specs.Prelude.{ℕ, ◌≡◌, List, map}
use Rattle.ent_types.specs.declared.point.Point.{Point}
use Rattle.ent_types.specs.declared.value.Value.TheVariants as values
use Rattle.world_model.specs.Members.{In}
use Rattle.world_model.specs.Part.{PartOf}
use Rattle.world_model.specs.Operations as world
use Rattle.run_model.specs.Commands.{GivenValue, Known, MadeBy, Change, Creates, ActsOn, Recorded}
use Rattle.run_model.specs.Commands as model
use Rattle.run_model.specs.Run as run
use Rattle.command_record.specs.declared.command.Target.{Target}
use Rattle.command_record.specs.declared.command.Target.TheVariants.{Live, Placeholder}
use Rattle.command_record.specs.declared.command.CmdValue.{CmdValue}
use Rattle.command_record.specs.declared.command.CmdValue.TheVariants.{Int, Ref}
use Rattle.command_record.specs.declared.command.CmdPart.{CmdPart}
use Rattle.command_record.specs.declared.command.Command.{Command}
use Rattle.command_record.specs.declared.command.Command.TheVariants.{Create, Destroy, Add, Remove, Set, SetShared, SetEnabled, Instantiate, Append, Clear}
use Rattle.command_record.specs.declared.chain.Entry.{Entry}

abbrev pub target_of : Target → model.Target
target_of (Live e) = model.Live e
target_of (Placeholder row number) = model.Placeholder number

abbrev pub reference_of : Target → GivenValue
reference_of (Live e) = Known (values.Ref e)
reference_of (Placeholder row number) = MadeBy number

abbrev pub value_of : CmdValue → GivenValue
value_of (Int z) = Known (values.Int z)
value_of (Ref target) = reference_of target

abbrev pub part_of : CmdPart → PartOf GivenValue
part_of p = record { type_id = p.ty.0; values = map value_of p.values }

abbrev pub change_of : Command → Change
change_of (Create parts) = Creates (map part_of parts)
change_of (Destroy target) = ActsOn (target_of target) world.Destroy
change_of (Add target part) = ActsOn (target_of target) (world.Add (part_of part))
change_of (Remove target ty) = ActsOn (target_of target) (world.Remove ty.0)
change_of (Set target part) = ActsOn (target_of target) (world.Set (part_of part))
change_of (SetShared target part) = ActsOn (target_of target) (world.SetShared (part_of part))
change_of (SetEnabled target ty on) = ActsOn (target_of target) (world.SetEnabled ty.0 on)
change_of (Instantiate source) = ActsOn (target_of source) world.Instantiate
change_of (Append target part) = ActsOn (target_of target) (world.Append (part_of part))
change_of (Clear target ty) = ActsOn (target_of target) (world.Clear ty.0)

-- an entry of a chain that is played at a point
abbrev pub entry_at : Point → Entry → run.Entry
entry_at point e = record {
  item = e.item;
  place = e.row;
  command = record { key = e.key; point = point; number = e.number; change = change_of e.command };
}

abbrev pub entries_at : Point → List Entry → List run.Entry
entries_at point es = map (entry_at point) es

-- ---- placeholders of the row for which a command is recorded

abbrev pub OwnTarget : ℕ → Target → Type 0
OwnTarget place (Live e) = Unit {0}
OwnTarget place (Placeholder row number) = row ≡ place

abbrev pub OwnValue : ℕ → CmdValue → Type 0
OwnValue place (Int z) = Unit {0}
OwnValue place (Ref target) = OwnTarget place target

abbrev pub OwnPart : ℕ → CmdPart → Type 0
OwnPart place p = (v : CmdValue) → In v p.values → OwnValue place v

abbrev pub OwnCommand : ℕ → Command → Type 0
OwnCommand place (Create parts) = (p : CmdPart) → In p parts → OwnPart place p
OwnCommand place (Destroy target) = OwnTarget place target
OwnCommand place (Add target part) = OwnTarget place target × OwnPart place part
OwnCommand place (Remove target ty) = OwnTarget place target
OwnCommand place (Set target part) = OwnTarget place target × OwnPart place part
OwnCommand place (SetShared target part) = OwnTarget place target × OwnPart place part
OwnCommand place (SetEnabled target ty on) = OwnTarget place target
OwnCommand place (Instantiate source) = OwnTarget place source
OwnCommand place (Append target part) = OwnTarget place target × OwnPart place part
OwnCommand place (Clear target ty) = OwnTarget place target

-- each placeholder that an entry names is of its own row
abbrev pub NamesOwnRow : Entry → Type 0
NamesOwnRow e = OwnCommand e.row e.command
