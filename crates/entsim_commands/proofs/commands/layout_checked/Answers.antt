use Rattle.std.proofs.Common.{sym, ◌∙◌}
use Rattle.entsim_commands.proofs.Ends.{ends_built, ends_unbuilt}
use Rattle.entsim_commands.proofs.commands.layout_checked.Goals as goal

pub returns-then-not-is_built-clause-headline : goal.returns-then-not-is_built-clause-headline
returns-then-not-is_built-clause-headline g c =
    ends_unbuilt _ _ _ _ _ (sym c.is_built.ensures ∙ c.if-not-is_built.true) c.refuse.ensures.headline

pub returns-clause-headline : goal.returns-clause-headline
returns-clause-headline g c =
    ends_built _ _ _ _ _ (sym c.is_built.ensures ∙ c.if-not-is_built.false) c.show_layout.ensures.headline
