use Rattle.undo_isolation.proofs.tests.row.take_steps.Given as goal

abbrev pub ghosts-steps_on : goal.ghosts-steps_on
ghosts-steps_on a = record { name = a.blank.name; parts = a.blank.parts }
