use Rattle.sl_model.specs.State.{Fits}
use Rattle.rv_machine.specs.Machine.{state_of}
use Rattle.machine_tests.proofs.tests.replays.break_in.Given as goal

abbrev pub invariant-loop : goal.invariant-loop
invariant-loop g l = Fits (state_of l.m l.frames.pages)
