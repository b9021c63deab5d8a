use Rattle.rec_format.specs.Spelling.{call}
use Rattle.rec_format.proofs.Lengths.{whole_length}
use Rattle.rec_format.proofs.size.calls_size.Goals as goal

pub returns-clause-exact : goal.returns-clause-exact
returns-clause-exact c = whole_length call c.args.calls.now c.loop-entry.entry-index c.loop-entry.size c.loop-entry.invariant.0 c.loop-entry-test.false
