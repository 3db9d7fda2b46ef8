use Rattle.world_tests.proofs.selecting.selects_one.Given as goal

abbrev pub ghosts-select_new : goal.ghosts-select_new
ghosts-select_new a = record { name = a.blank.name; parts = a.blank.parts }
