use Rattle.std.specs.List.{AllByRecursion}
use Rattle.replay.specs.Advance.{IsShort}
use Rattle.machine_tests.proofs.tests.replays.calls_of.Given as goal

abbrev pub invariant-loop-number : goal.invariant-loop-number
invariant-loop-number l = AllByRecursion IsShort l.calls
