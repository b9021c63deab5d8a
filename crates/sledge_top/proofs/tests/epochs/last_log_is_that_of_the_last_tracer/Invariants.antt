use Rattle.sledge_top.proofs.tests.epochs.last_log_is_that_of_the_last_tracer.Given as goal

abbrev pub ghosts-logged : goal.ghosts-logged
ghosts-logged g a = record { name = a.blank.name; parts = a.blank.parts }
