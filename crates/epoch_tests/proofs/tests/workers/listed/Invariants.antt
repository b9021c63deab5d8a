use Rattle.std.proofs.Common.{◌≡◌, length}
use Rattle.epoch_tests.proofs.tests.workers.listed.Given as goal

abbrev pub invariant-loop-epoch : goal.invariant-loop-epoch
invariant-loop-epoch l = length l.listed.items ≡ l.epoch-counter
