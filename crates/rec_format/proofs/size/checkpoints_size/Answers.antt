use Rattle.rec_format.specs.Spelling.{checkpoint}
use Rattle.rec_format.proofs.Lengths.{whole_length}
use Rattle.rec_format.proofs.size.checkpoints_size.Goals as goal

pub returns-clause-exact : goal.returns-clause-exact
returns-clause-exact c = whole_length checkpoint c.args.checkpoints.now c.loop-saved.saved-index c.loop-saved.size c.loop-saved.invariant.0 c.loop-saved-test.false
