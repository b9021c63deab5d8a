use Rattle.std.proofs.Common.{◌≡◌, ◌-◌, ◌+◌, false, [], All, vec_len}
use Rattle.epoch_board.specs.Seats.{IsSeatOf}
use Rattle.epoch_tests.proofs.tests.boards.split_all.Given as goal

abbrev pub invariant-loop : goal.invariant-loop
invariant-loop l = record {
  first : IsSeatOf l.board (l.seats + 1 - l.counter) false [] l.seat;
  count : vec_len l.all + 1 ≡ l.counter;
  each : All (IsSeatOf l.board 1 false []) l.all.items;
}
