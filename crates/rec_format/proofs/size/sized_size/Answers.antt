use Rattle.std.proofs.Common.{arith}
use Rattle.rec_format.proofs.Lengths.{length-sized}
use Rattle.rec_format.proofs.size.sized_size.Goals as goal

pub returns-clause-exact : goal.returns-clause-exact
returns-clause-exact c = omega (arith, length-sized c.args.bytes.now)
