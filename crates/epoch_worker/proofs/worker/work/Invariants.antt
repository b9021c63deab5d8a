use Rattle.std.proofs.Common.{◌≡◌, false}
use Rattle.epoch_board.specs.Seats.{epochs_left}
use Rattle.epoch_worker.specs.Work.{HasAdded}
use Rattle.epoch_worker.proofs.worker.work.Given as goal

abbrev pub invariant-loop-epoch : goal.invariant-loop-epoch
invariant-loop-epoch g l = record {
  added : HasAdded (g.P.Epochs.values l.epochs) l.tray.items l.fn.seat l.seat;
  own : l.seat.board ≡ l.board;
  not_told : l.seat.told ≡ false;
  stands : g.P.Epochs.stands l.epochs l.worker;
}

abbrev pub decreases-loop-epoch : goal.decreases-loop-epoch
decreases-loop-epoch g l = epochs_left l.seat
