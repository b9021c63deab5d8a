use Rattle.std.proofs.Common.{◌≡◌, drop}
use Rattle.call_log.specs.Differences.{bytes_diff}
use Rattle.call_log.proofs.difference.byte_difference.Given as goal

abbrev pub invariant-loop-i : goal.invariant-loop-i
invariant-loop-i l = bytes_diff l.fn.recorded l.fn.due ≡ bytes_diff (drop l.i l.fn.recorded) (drop l.i l.fn.due)
