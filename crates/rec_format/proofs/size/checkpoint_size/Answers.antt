use Rattle.std.proofs.Common.{arith}
use Rattle.rec_format.proofs.Lengths.{length-checkpoint}
use Rattle.rec_format.proofs.size.checkpoint_size.Goals as goal

pub returns-clause-exact : goal.returns-clause-exact
returns-clause-exact c = omega (arith, c.len.ensures, length-checkpoint c.args.saved.now c.requires)
