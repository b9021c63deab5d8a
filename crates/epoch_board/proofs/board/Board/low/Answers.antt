use Rattle.std.proofs.Common.{sym, ap, ◌∙◌, arith}
use Rattle.epoch_board.specs.Seats.{BoardId, SeatState}
use Rattle.epoch_board.proofs.Steps.{looks_at}
use Rattle.epoch_board.proofs.board.Board.low.Goals as goal

pub load-word-requires : goal.load-word-requires
load-word-requires c =
    let own = ap (λ (seat : SeatState). seat.board) c.seat.view_is ∙ c.requires ∙ sym c.self.view_is in
    (ap (λ (board : BoardId). board.table) own, omega (arith, c.self.invariant.0), looks_at _ _ _ _ _ c.seat.invariant.0)
