use Rattle.std.proofs.Common.{◌≡◌, ◌-◌}
use Rattle.rec_format.specs.Reading.{call_at, calls_at, items_at}
use Rattle.rec_format.proofs.calls.calls.Given as goal

abbrev pub invariant-loop : goal.invariant-loop
invariant-loop l = items_at (λ _. call_at) (l.number - l.counter) l.calls l.cursor ≡ calls_at l.fn.cursor
