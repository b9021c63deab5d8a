use Rattle.checkpoints.specs.Marked.{IsAllDirty}
use Rattle.machine_tests.proofs.tests.checks.parts_that_differ.Given as goal

abbrev pub invariant-loop-part : goal.invariant-loop-part
invariant-loop-part g l = IsAllDirty l.state.1
