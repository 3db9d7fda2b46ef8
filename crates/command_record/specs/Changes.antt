-- A prepared command after its target or one of its values was replaced.
use Rattle.std.specs.Prelude.{ℕ, zero, suc, ◌<◌, List, [], ◌∷◌, length, slice_set}
use Rattle.command_record.specs.declared.command.Target.{Target}
use Rattle.command_record.specs.declared.command.CmdValue.{CmdValue}
use Rattle.command_record.specs.declared.command.CmdPart.{CmdPart}
use Rattle.command_record.specs.declared.command.Command.{Command}
use Rattle.command_record.specs.declared.command.Command.TheVariants.{Create, Destroy, Add, Remove, Set, SetShared, SetEnabled, Instantiate, Append, Clear}

-- the parts that a command has
abbrev pub parts_in : Command → List CmdPart
parts_in (Create parts) = parts
parts_in (Destroy target) = []
parts_in (Add target part) = part ∷ []
parts_in (Remove target ty) = []
parts_in (Set target part) = part ∷ []
parts_in (SetShared target part) = part ∷ []
parts_in (SetEnabled target ty on) = []
parts_in (Instantiate source) = []
parts_in (Append target part) = part ∷ []
parts_in (Clear target ty) = []

-- the values of the part at a place; none where there is no part
abbrev pub values_at : List CmdPart → ℕ → List CmdValue
values_at [] at = []
values_at (p ∷ ps) zero = p.values
values_at (p ∷ ps) (suc at) = values_at ps at

-- the command has a value at this place of this part
abbrev pub HasValue : Command → ℕ → ℕ → Type 0
HasValue command part at = at < length (values_at (parts_in command) part)

-- the part with another value at a place
abbrev pub changed : CmdPart → ℕ → CmdValue → CmdPart
changed p at value = record p { values = slice_set p.values at value }

-- the parts with another value at a place of one of them
abbrev pub with_value_in : List CmdPart → ℕ → ℕ → CmdValue → List CmdPart
with_value_in [] part at value = []
with_value_in (p ∷ ps) zero at value = changed p at value ∷ ps
with_value_in (p ∷ ps) (suc part) at value = p ∷ with_value_in ps part at value

-- the command with another value at a place of a part that it has
abbrev pub with_value : Command → ℕ → ℕ → CmdValue → Command
with_value (Create parts) part at value = Create (with_value_in parts part at value)
with_value (Destroy target) part at value = Destroy target
with_value (Add target own) part at value = Add target (changed own at value)
with_value (Remove target ty) part at value = Remove target ty
with_value (Set target own) part at value = Set target (changed own at value)
with_value (SetShared target own) part at value = SetShared target (changed own at value)
with_value (SetEnabled target ty on) part at value = SetEnabled target ty on
with_value (Instantiate source) part at value = Instantiate source
with_value (Append target own) part at value = Append target (changed own at value)
with_value (Clear target ty) part at value = Clear target ty

-- the command with another target
abbrev pub with_target : Command → Target → Command
with_target (Create parts) new = Create parts
with_target (Destroy target) new = Destroy new
with_target (Add target part) new = Add new part
with_target (Remove target ty) new = Remove new ty
with_target (Set target part) new = Set new part
with_target (SetShared target part) new = SetShared new part
with_target (SetEnabled target ty on) new = SetEnabled new ty on
with_target (Instantiate source) new = Instantiate new
with_target (Append target part) new = Append new part
with_target (Clear target ty) new = Clear new ty
