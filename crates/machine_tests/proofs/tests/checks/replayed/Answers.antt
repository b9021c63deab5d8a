use Rattle.std.proofs.Common.{true}
use Rattle.sl_model.proofs.MarksLaws.{MarksGoOn-same, MarksGoOn-then}
use Rattle.checkpoints.proofs.SmallMemory.{all_dirty-goes_on}
use Rattle.machine_tests.proofs.tests.checks.replayed.Goals as goal

pub loop-i-init : goal.loop-i-init
loop-i-init c = MarksGoOn-same true _ _

pub loop-i-preserved : goal.loop-i-preserved
loop-i-preserved c = MarksGoOn-then true _ _ _ _ _ _ c.loop-i.invariant c.store.ensures.marks
