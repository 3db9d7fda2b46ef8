-- A part of a list that is lent, so that its values can be replaced in place.
use Rattle.std.specs.Prelude.{ℕ, List, slice_set}
use Rattle.std.specs.Borrow.{Lends, MutBor, Fml}
use Rattle.command_record.specs.declared.command.CmdPart.{CmdPart}
use Rattle.command_record.specs.contracts.command.CmdPart.{the_row as part_row}
use Rattle.command_record.specs.contracts.lists.CmdParts.{the_row as parts_row}

-- the parts end with the last value behind the result at this place
abbrev pub LendsPart : MutBor (List CmdPart) → ℕ → MutBor CmdPart → Fml
LendsPart parts at part = Lends parts_row part_row parts part (λ last. slice_set parts.now at last)
