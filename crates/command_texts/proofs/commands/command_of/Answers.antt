use Rattle.std.proofs.Common.{List, sym, subst}
use Rattle.world_model.specs.Members.{In}
use Rattle.expr_trees.specs.declared.tree.PartExpr.{PartExpr}
use Rattle.run_laws.specs.Runnable.{Sources, CommandReads, PartReads}
use Rattle.command_texts.proofs.commands.command_of.Goals as goal

pub parts-requires : goal.parts-requires
parts-requires g c =
    let from : Sources = record { own = g.R.RowReader.has_field c.args.row.now; others = g.L.Lookup.can_read c.args.others.now } in
    subst (λ (texts : List PartExpr). (p : PartExpr) → In p texts → PartReads from p) (sym c.as_slice.ensures) (subst (CommandReads from) c.in-Create.is c.requires.reads)
