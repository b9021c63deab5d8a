use Rattle.std.specs.Prelude.{IfSome, Contains}
use Rattle.machine_tests.proofs.tests.memory.walk.Given as goal

abbrev pub invariant-loop-page : goal.invariant-loop-page
invariant-loop-page l = IfSome l.at (Contains l.frames.dirty)
