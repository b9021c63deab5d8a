use Rattle.checkpoints.specs.Marked.{IsAllDirty}
use Rattle.machine_tests.proofs.tests.checks.pages_that_differ.Given as goal

abbrev pub invariant-loop-address : goal.invariant-loop-address
invariant-loop-address g l = IsAllDirty l.state.1

abbrev pub invariant-loop-i : goal.invariant-loop-i
invariant-loop-i g l = IsAllDirty l.state.1
