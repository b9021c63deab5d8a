use Rattle.rec_format.specs.Spelling.{sized}
use Rattle.rec_format.proofs.Lengths.{whole_length}
use Rattle.rec_format.proofs.size.args_size.Goals as goal

pub returns-clause-exact : goal.returns-clause-exact
returns-clause-exact c = whole_length sized c.args.args.now c.loop-arg.arg-index c.loop-arg.size c.loop-arg.invariant.0 c.loop-arg-test.false
