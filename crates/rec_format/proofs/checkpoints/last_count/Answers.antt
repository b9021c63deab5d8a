use Rattle.std.proofs.Common.{◌-◌, length, None, arith}
use Rattle.rec_format.specs.Rules.{count_of}
use Rattle.rec_format.proofs.Sums.{last_or-at}
use Rattle.rec_format.proofs.checkpoints.last_count.Goals as goal

pub returns-in-len1-up : goal.returns-in-len1-up
returns-in-len1-up c = last_or-at None count_of c.args.checkpoints.now (length c.args.checkpoints.now - 1) c.last-item.result (omega (arith, c.in-len1-up.len_at_least)) c.last-item.is
