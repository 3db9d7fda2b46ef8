use Rattle.ent_io.proofs.Exits.{exit_writes}
use Rattle.entsim_commands.proofs.Layouts.{layout_of_spawned}
use Rattle.entsim_commands.proofs.commands.write_layout_after_spawns.Goals as goal

pub returns-in_err-write_layout-clause-text : goal.returns-in_err-write_layout-clause-text
returns-in_err-write_layout-clause-text g c =
    exit_writes _ _ _ _ c.from_residual.ensures.0 (rw (layout_of_spawned _ c.requires.runnable c.requires.ordered _ c.in-Ok.ensures) at c.in_err-write_layout.ensures.text)

pub returns-clause-text : goal.returns-clause-text
returns-clause-text g c =
    rw (layout_of_spawned _ c.requires.runnable c.requires.ordered _ c.in-Ok.ensures) at c.in_ok-write_layout.ensures.text
