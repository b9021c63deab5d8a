use Rattle.std.specs.Prelude.{◌≡◌, ◌++◌, drop}
use Rattle.replay.specs.Opening.{strings}
use Rattle.replay.proofs.stack.strings.Given as goal

abbrev pub invariant-loop-arg : goal.invariant-loop-arg
invariant-loop-arg l = l.bytes.items ++ strings (drop l.arg-index l.args) ≡ strings l.args
