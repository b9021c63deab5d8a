use Rattle.std.proofs.Common.{true}
use Rattle.sl_model.specs.Marks.{MarksGoOn}
use Rattle.machine_tests.proofs.tests.checks.replayed.Given as goal

abbrev pub invariant-loop-i : goal.invariant-loop-i
invariant-loop-i l = MarksGoOn true l.initial.frames.pages l.initial.frames.dirty l.frames.pages l.frames.dirty
