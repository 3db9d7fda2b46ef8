use Rattle.std.proofs.Common.{drop}
use Rattle.expr_eval.specs.Rows.{others_of}
use Rattle.command_texts.proofs.Parts.{AreSoFar}
use Rattle.command_texts.proofs.commands.part.Given as goal

-- the values so far, and those of the texts that are left
abbrev pub invariant-loop-at : goal.invariant-loop-at
invariant-loop-at g l =
    AreSoFar l.registry (g.R.RowReader.own_row l.row) (others_of (g.L.Lookup.found l.others)) l.place l.text.ty.0 l.values l.at (drop l.at l.text.values) l.text.values
