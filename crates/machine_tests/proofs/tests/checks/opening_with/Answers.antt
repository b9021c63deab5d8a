use Rattle.checkpoints.proofs.SmallMemory.{opening_is}
use Rattle.machine_tests.proofs.tests.checks.opening_with.Goals as goal

pub returns-clause-opens : goal.returns-clause-opens
returns-clause-opens c =
    let kept = c.dirty_len-kept.ensures.kept in
    opening_is _ kept.whole kept.below c.requires.pages c.requires.few
