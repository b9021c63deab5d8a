use Rattle.rv_machine.proofs.tests.marked_page.one_step.Given as goal

abbrev pub ghosts-step_on : goal.ghosts-step_on
ghosts-step_on a = record { name = a.blank.name; parts = a.blank.parts }
