use Rattle.call_recorder.proofs.recutting.recut.Given as goal

abbrev pub ghosts-replay_on : goal.ghosts-replay_on
ghosts-replay_on a = record { name = a.blank.name; parts = a.blank.parts }
