use Rattle.std.proofs.Common.{◌≡◌, ◌+◌, drop}
use Rattle.call_log.specs.Differences.{fields_diff}
use Rattle.call_log.proofs.difference.argument_difference.Given as goal

abbrev pub invariant-loop-i : goal.invariant-loop-i
invariant-loop-i l = fields_diff 1 l.fn.recorded l.fn.due ≡ fields_diff (l.i + 1) (drop l.i l.fn.recorded) (drop l.i l.fn.due)
