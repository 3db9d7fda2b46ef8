use Rattle.phase_run.proofs.system_run.run_system.Given as goal

abbrev pub ghosts-select_visits : goal.ghosts-select_visits
ghosts-select_visits a = record { name = a.blank.name; parts = a.blank.parts }
