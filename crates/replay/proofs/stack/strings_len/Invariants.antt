use Rattle.std.specs.Prelude.{◌≡◌, ◌+◌, length, drop}
use Rattle.replay.specs.Opening.{strings}
use Rattle.replay.proofs.stack.strings_len.Given as goal

abbrev pub invariant-loop-arg : goal.invariant-loop-arg
invariant-loop-arg l = l.len + length (strings (drop l.arg-index l.args)) ≡ length (strings l.args)
