use Rattle.machine_tests.proofs.tests.replays.break_of.Given as goal

abbrev pub ghosts-break_in : goal.ghosts-break_in
ghosts-break_in a = record { name = a.blank.name; parts = a.blank.parts }
