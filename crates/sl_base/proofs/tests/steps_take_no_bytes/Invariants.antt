use Rattle.sl_base.proofs.tests.steps_take_no_bytes.Given as goal

abbrev pub ghosts-count_down_alone : goal.ghosts-count_down_alone
ghosts-count_down_alone g a = record { name = a.blank.name; parts = a.blank.parts }
