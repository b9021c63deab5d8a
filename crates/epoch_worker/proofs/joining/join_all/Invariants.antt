use Rattle.std.proofs.Common.{◌-◌, ◌≤◌, true, All, IfOk, vec_len}
use Rattle.epoch_worker.specs.Work.{HasWorked, HasFinished}
use Rattle.epoch_worker.proofs.joining.join_all.Given as goal

abbrev pub invariant-loop-next : goal.invariant-loop-next
invariant-loop-next g l = record {
  joined : HasWorked (g.P.Epochs.values l._epochs) l.board (vec_len l.fn.all - vec_len l.all) true l.tray.items l.seat;
  fewer : vec_len l.all ≤ vec_len l.fn.all;
  each : All (λ r. IfOk r (HasFinished (g.P.Epochs.values l._epochs) l.board 1)) l.all.items;
}

abbrev pub decreases-loop-next : goal.decreases-loop-next
decreases-loop-next g l = vec_len l.all
