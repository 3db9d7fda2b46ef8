-- Which commands name a placeholder.
use Rattle.std.specs.Prelude.{◌≡◌, Bool, true, false, ◌||◌, List}
use Rattle.std.specs.List.{list_any}
use Rattle.command_record.specs.declared.command.Target.{Target}
use Rattle.command_record.specs.declared.command.Target.TheVariants.{Live, Placeholder}
use Rattle.command_record.specs.declared.command.CmdValue.{CmdValue}
use Rattle.command_record.specs.declared.command.CmdValue.TheVariants.{Int, Ref}
use Rattle.command_record.specs.declared.command.CmdPart.{CmdPart}
use Rattle.command_record.specs.declared.command.Command.{Command}
use Rattle.command_record.specs.declared.command.Command.TheVariants.{Create, Destroy, Add, Remove, Set, SetShared, SetEnabled, Instantiate, Append, Clear}
use Rattle.command_record.specs.declared.chain.Entry.{Entry}

abbrev pub names_target : Target → Bool
names_target (Live e) = false
names_target (Placeholder row number) = true

abbrev pub names_value : CmdValue → Bool
names_value (Int z) = false
names_value (Ref target) = names_target target

abbrev pub names_part : CmdPart → Bool
names_part p = list_any names_value p.values

abbrev pub names_in : Command → Bool
names_in (Create parts) = list_any names_part parts
names_in (Destroy target) = names_target target
names_in (Add target part) = names_target target || names_part part
names_in (Remove target ty) = names_target target
names_in (Set target part) = names_target target || names_part part
names_in (SetShared target part) = names_target target || names_part part
names_in (SetEnabled target ty on) = names_target target
names_in (Instantiate source) = names_target source
names_in (Append target part) = names_target target || names_part part
names_in (Clear target ty) = names_target target

abbrev pub names_among : List Entry → Bool
names_among es = list_any (λ e. names_in e.command) es

-- Entities that are made are kept, or the command names none.
abbrev pub IsKept : Bool → Command → Type 0
IsKept keeps c = keeps ≡ false → names_in c ≡ false
