use Rattle.std.proofs.Common.{◌≡◌, ◌-◌, ◌+◌, false, All, vec_len}
use Rattle.epoch_board.specs.Seats.{new_seat}
use Rattle.epoch_worker.proofs.jobs.jobs_of.Given as goal

abbrev pub invariant-loop-number : goal.invariant-loop-number
invariant-loop-number l = record {
  first : l.seat ≡ new_seat l.board (l.seats + 1 - l.number) false;
  count : vec_len l.jobs + 1 ≡ l.number;
  each : All (λ job. job.seat ≡ new_seat l.board 1 false) l.jobs.items;
}
