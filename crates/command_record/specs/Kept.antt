-- How commands are kept in flat lists, and the command that what is kept gives back.
use Rattle.std.specs.Prelude.{ℕ, List, [], ◌∷◌, length, map, sum_by, take, drop, flat_map, slice_range}
use Rattle.command_record.specs.declared.command.CmdValue.{CmdValue}
use Rattle.command_record.specs.declared.command.CmdPart.{CmdPart}
use Rattle.command_record.specs.declared.command.Command.{Command}
use Rattle.command_record.specs.declared.command.Command.TheVariants as commands
use Rattle.command_record.specs.declared.kept.Act.{Act}
use Rattle.command_record.specs.declared.kept.Act.TheVariants as acts
use Rattle.command_record.specs.declared.kept.PartHead.{PartHead}
use Rattle.command_record.specs.declared.kept.Span.{Span}

-- ---- from a command to what is kept

-- a command without the values of its parts
abbrev pub act_of : Command → Act
act_of (commands.Create parts) = acts.Create
act_of (commands.Destroy target) = acts.Destroy target
act_of (commands.Add target part) = acts.Add target part.ty
act_of (commands.Remove target ty) = acts.Remove target ty
act_of (commands.Set target part) = acts.Set target part.ty
act_of (commands.SetShared target part) = acts.SetShared target part.ty
act_of (commands.SetEnabled target ty on) = acts.SetEnabled target ty on
act_of (commands.Instantiate source) = acts.Instantiate source
act_of (commands.Append target part) = acts.Append target part.ty
act_of (commands.Clear target ty) = acts.Clear target ty

abbrev pub part_head_of : CmdPart → PartHead
part_head_of p = record { ty = p.ty; count = length p.values }

-- the heads of a command's parts; a command with one part needs none
abbrev pub part_heads_of : Command → List PartHead
part_heads_of (commands.Create parts) = map part_head_of parts
part_heads_of (commands.Destroy target) = []
part_heads_of (commands.Add target part) = []
part_heads_of (commands.Remove target ty) = []
part_heads_of (commands.Set target part) = []
part_heads_of (commands.SetShared target part) = []
part_heads_of (commands.SetEnabled target ty on) = []
part_heads_of (commands.Instantiate source) = []
part_heads_of (commands.Append target part) = []
part_heads_of (commands.Clear target ty) = []

-- the values of some parts, one part after another
abbrev pub values_in : List CmdPart → List CmdValue
values_in parts = flat_map (λ p. p.values) parts

-- the values of a command, one part after another
abbrev pub values_of : Command → List CmdValue
values_of (commands.Create parts) = values_in parts
values_of (commands.Destroy target) = []
values_of (commands.Add target part) = part.values
values_of (commands.Remove target ty) = []
values_of (commands.Set target part) = part.values
values_of (commands.SetShared target part) = part.values
values_of (commands.SetEnabled target ty on) = []
values_of (commands.Instantiate source) = []
values_of (commands.Append target part) = part.values
values_of (commands.Clear target ty) = []

-- ---- from what is kept to the command

-- the elements of a list in a span
abbrev pub within : {X : Type 0} → List X → Span → List X
within xs span = slice_range xs span.start span.end

-- how many values the parts with these heads have
abbrev pub count_in : List PartHead → ℕ
count_in heads = sum_by (λ h. h.count) heads

-- the parts with these heads, whose values come one after another
abbrev pub parts_from : List PartHead → List CmdValue → List CmdPart
parts_from [] values = []
parts_from (h ∷ hs) values = record { ty = h.ty; values = take h.count values } ∷ parts_from hs (drop h.count values)

-- the command that these part heads and these values are of
abbrev pub command_from : Act → List PartHead → List CmdValue → Command
command_from acts.Create heads values = commands.Create (parts_from heads values)
command_from (acts.Destroy target) heads values = commands.Destroy target
command_from (acts.Add target ty) heads values = commands.Add target (record { ty = ty; values = values })
command_from (acts.Remove target ty) heads values = commands.Remove target ty
command_from (acts.Set target ty) heads values = commands.Set target (record { ty = ty; values = values })
command_from (acts.SetShared target ty) heads values = commands.SetShared target (record { ty = ty; values = values })
command_from (acts.SetEnabled target ty on) heads values = commands.SetEnabled target ty on
command_from (acts.Instantiate source) heads values = commands.Instantiate source
command_from (acts.Append target ty) heads values = commands.Append target (record { ty = ty; values = values })
command_from (acts.Clear target ty) heads values = commands.Clear target ty
