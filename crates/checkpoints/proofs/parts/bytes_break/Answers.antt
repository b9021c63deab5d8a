use Rattle.std.proofs.Common.{◌≡◌, rules, ap, sym}
use Rattle.rec_format.specs.Compared.{as_checkpoint_break}
use Rattle.rec_format.proofs.SameState.{bytes_diff-same}
use Rattle.checkpoints.proofs.parts.bytes_break.Goals as goal

pub returns-then-eq : goal.returns-then-eq
returns-then-eq c =
    let same : c.args.recorded.now ≡ c.args.replayed.now = search rules in
    rw same (sym (ap (as_checkpoint_break c.args.index) (bytes_diff-same c.args.address c.args.replayed.now)))
