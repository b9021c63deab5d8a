use Rattle.std.proofs.Common.{◌<◌, ◌≤◌, length, sym, ◌∙◌, arith}
use Rattle.call_log.proofs.FieldLaws.{bytes_diff-end}
use Rattle.call_log.proofs.difference.byte_difference.Goals as goal

pub returns : goal.returns
returns c =
    let past : c.loop-i.i < length c.args.recorded.now → length c.args.due.now ≤ c.loop-i.i = λ lt. omega (arith, lt, c.min-len.ensures, c.loop-i-test.false) in
    sym (c.loop-i.invariant ∙ bytes_diff-end c.args.recorded.now c.args.due.now c.loop-i.i past)
