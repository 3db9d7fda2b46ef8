use Rattle.std.proofs.Common.{take}
use Rattle.expr_eval.specs.Rows.{others_of}
use Rattle.command_texts.proofs.Parts.{AreParts}
use Rattle.command_texts.proofs.commands.parts.Given as goal

-- the parts so far
abbrev pub invariant-loop-text : goal.invariant-loop-text
invariant-loop-text g l =
    AreParts l.registry (g.R.RowReader.own_row l.row) (others_of (g.L.Lookup.found l.others)) l.place l.made (take l.text-index l.texts)
