use Rattle.std.proofs.Common.{◌≡◌, replicate}
use Rattle.epoch_core.specs.Schedule.{new_seat}
use Rattle.epoch_core.proofs.machine.CoreMachine.new.Given as goal

abbrev pub invariant-loop : goal.invariant-loop
invariant-loop l = l.seats.items ≡ replicate l.counter new_seat
