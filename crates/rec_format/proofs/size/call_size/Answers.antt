use Rattle.std.proofs.Common.{arith}
use Rattle.rec_format.proofs.Lengths.{length-call}
use Rattle.rec_format.proofs.size.call_size.Goals as goal

pub returns-clause-exact : goal.returns-clause-exact
returns-clause-exact c = omega (arith, c.len.ensures, length-call c.args.entry.now c.requires)
