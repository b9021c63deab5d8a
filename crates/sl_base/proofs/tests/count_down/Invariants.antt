use Rattle.std.proofs.Common.{◌≡◌, ◌+◌}
use Rattle.sl_base.proofs.tests.count_down.Given as goal

abbrev pub invariant-loop : goal.invariant-loop
invariant-loop g l = l.steps ≡ l.initial.steps + l.counter
