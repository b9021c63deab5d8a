use Rattle.checkpoints.proofs.SmallMemory.{all_dirty-goes_on}
use Rattle.machine_tests.proofs.tests.checks.write_byte.Goals as goal

pub returns : goal.returns
returns c =
    all_dirty-goes_on c.args.frames.now c.store.new.self c.store.ensures.marks c.dirty_len-kept.ensures.kept.below c.requires
