use Rattle.std.proofs.Common.{false}
use Rattle.epoch_board.specs.Seats.{IsSeatOf, epochs_left}
use Rattle.epoch_tests.proofs.tests.boards.claim_all.Given as goal

abbrev pub invariant-loop-epoch : goal.invariant-loop-epoch
invariant-loop-epoch l = IsSeatOf l.board 1 false l.epochs.items l.seat

abbrev pub decreases-loop-epoch : goal.decreases-loop-epoch
decreases-loop-epoch l = epochs_left l.seat
