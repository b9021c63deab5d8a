use Rattle.machine_tests.proofs.tests.checks.the_page_of_a_store_is_compared.Given as goal

abbrev pub ghosts-step_once : goal.ghosts-step_once
ghosts-step_once g a = record { name = a.blank.name; parts = a.blank.parts }
