use Rattle.std.proofs.Common.{sym, ◌∙◌}
use Rattle.epoch_worker.proofs.Whole.{posted_of}
use Rattle.epoch_worker.proofs.all.run_all.Goals as goal

pub returns : goal.returns
returns g c =
    let worked = c.in_ok-seat.ensures in
    let closed = c.close.ensures in
    posted_of _ _ _ _ _ c.in_ok-board.board.epochs (c.requires ∙ sym c.in_ok-board.ensures.board.0) worked closed.within (closed.whole worked.seated.2) closed.read
