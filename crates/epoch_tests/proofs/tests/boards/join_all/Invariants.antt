use Rattle.std.proofs.Common.{◌-◌, ◌≤◌, true, All, IfOk, vec_len}
use Rattle.epoch_board.specs.Seats.{IsSeatOf}
use Rattle.epoch_tests.proofs.tests.boards.join_all.Given as goal

abbrev pub invariant-loop-next : goal.invariant-loop-next
invariant-loop-next l = record {
  joined : IsSeatOf l.board (vec_len l.fn.all - vec_len l.all) true l.epochs.items l.seat;
  fewer : vec_len l.all ≤ vec_len l.fn.all;
  each : All (λ r. IfOk r (λ done. IsSeatOf l.board 1 true done.epochs.items done.seat)) l.all.items;
}

abbrev pub decreases-loop-next : goal.decreases-loop-next
decreases-loop-next l = vec_len l.all
